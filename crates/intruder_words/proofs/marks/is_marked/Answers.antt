-- The count is how many of the masters below marked the number: so at the end a quorum did just where the count
-- is at least q.
use Rattle.std.proofs.Common.{◌≡◌, ℕ, cond, length, nat_le, sym, ◌∙◌, ap, arith}
use Rattle.std.specs.List.{list_any}
use Rattle.quorum_sets.specs.Masters.{voters}
use Rattle.quorum_sets.specs.Quorum.{has_quorum}
use Rattle.intruder_words.specs.Marking.{is_marked_by}
use Rattle.intruder_words.proofs.Voting.{voters-none, voters-next}
use Rattle.quorum_sets.proofs.MastersLemmas.{at_most_one, bool_byte-cond}
use Rattle.intruder_words.proofs.marks.is_marked.Goals as goal

pub loop-master-init : goal.loop-master-init
loop-master-init c = (sym (voters-none (λ m. list_any (is_marked_by c.args.s m) c.args.marks.now)), omega arith)

pub loop-master-preserved : goal.loop-master-preserved
loop-master-preserved c =
    let more = voters-next (λ m. list_any (is_marked_by c.args.s m) c.args.marks.now) c.loop-master.master in
    let one = c.from-count.ensures ∙ bool_byte-cond c.has_marked.result in
    let here = ap {B = ℕ} (λ b. cond b 1 0) c.has_marked.ensures in
    let few = at_most_one c.has_marked.result in
    (omega (arith, more, one, here), omega (arith, one, few))

pub returns : goal.returns
unfolding has_quorum
returns c =
    let ended : c.loop-master.master ≡ c.args.sizes.now.n = omega arith in
    ap (nat_le c.args.sizes.now.q)
    (c.loop-master.invariant.0
    ∙ ap (λ n. length (voters (λ m. list_any (is_marked_by c.args.s m) c.args.marks.now) n)) ended)
