-- The count is how many of the masters below acknowledged the digest: so at the end a quorum did just where the
-- count is at least q.
use Rattle.std.proofs.Common.{◌≡◌, ℕ, cond, length, nat_le, sym, ◌∙◌, ap, arith}
use Rattle.std.specs.List.{list_any}
use Rattle.quorum_sets.specs.Masters.{voters}
use Rattle.quorum_sets.specs.Quorum.{has_quorum}
use Rattle.protocol_rules.specs.Preorder.{is_ack}
use Rattle.intruder_words.proofs.Voting.{voters-none, voters-next}
use Rattle.quorum_sets.proofs.MastersLemmas.{at_most_one, bool_byte-cond}
use Rattle.intruder_words.proofs.requests.is_acked.Goals as goal

pub loop-master-init : goal.loop-master-init
loop-master-init c = (
  sym (voters-none (λ m. list_any (is_ack c.args.j c.args.k c.args.digest m) c.args.known.now)),
  omega arith,
)

pub loop-master-preserved : goal.loop-master-preserved
loop-master-preserved c =
    let more = voters-next (λ m. list_any (is_ack c.args.j c.args.k c.args.digest m) c.args.known.now)
    c.loop-master.master in
    let one = c.from-count.ensures ∙ bool_byte-cond c.has_acked.result in
    let here = ap {B = ℕ} (λ b. cond b 1 0) c.has_acked.ensures in
    let few = at_most_one c.has_acked.result in
    (omega (arith, more, one, here), omega (arith, one, few))

pub returns : goal.returns
unfolding has_quorum
returns c =
    let ended : c.loop-master.master ≡ c.args.sizes.now.n = omega arith in
    ap (nat_le c.args.sizes.now.q)
    (c.loop-master.invariant.0
    ∙ ap (λ n. length (voters (λ m. list_any (is_ack c.args.j c.args.k c.args.digest m) c.args.known.now) n)) ended)
