-- One master after another, the frames so far are those of the masters so far. All of them are cut off at the size of
-- a quorum.
use Rattle.std.proofs.Common.{◌≡◌, sym, ◌∙◌, ap, arith, take}
use Rattle.std.specs.Option.{option_copied, option_map}
use Rattle.global_order.specs.Index.{given, vote_at, signed_by}
use Rattle.global_order.proofs.Given.{given-none, given-push}
use Rattle.global_order.proofs.votes.votes_of.Goals as goal

pub loop-master-init : goal.loop-master-init
loop-master-init b c = c.new-frames.ensures.items
    ∙ sym (given-none (λ m. option_map (signed_by c.args.body m)
    (vote_at c.args.votes.now c.args.v c.args.s c.args.digest m)))

pub loop-master-preserved : goal.loop-master-preserved
loop-master-preserved b c =
    given-push (λ m. option_map (signed_by c.args.body m) (vote_at c.args.votes.now c.args.v c.args.s c.args.digest m))
    c.loop-master.master _ _ (option_map (signed_by c.args.body c.loop-master.master) (option_copied c.get.result))
    c.in_ok-push_signed.ensures (ap (option_map (signed_by c.args.body c.loop-master.master)) c.get.ensures.value)
    c.loop-master.invariant

pub returns : goal.returns
returns b c =
    let ended : c.loop-master.master ≡ c.args.sizes.now.n = omega arith in
    c.from_vec.ensures ∙ c.truncate.ensures.items ∙ ap (take c.args.sizes.now.q) (c.loop-master.invariant
    ∙ ap (given (λ m. option_map (signed_by c.args.body m)
    (vote_at c.args.votes.now c.args.v c.args.s c.args.digest m))) ended)
