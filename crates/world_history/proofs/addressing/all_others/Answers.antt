use Rattle.std.proofs.Common.{ℕ, not, nat_eq, sym, ◌∙◌, refl}
use Rattle.quorum_sets.proofs.MastersLemmas.{voters-zero}
use Rattle.world_history.proofs.Lists.{voters_next}
use Rattle.world_history.proofs.addressing.all_others.Goals as goal

pub loop-master-init : goal.loop-master-init
loop-master-init c = c.new-to.ensures ∙ sym (voters-zero (λ (m : ℕ). not (nat_eq m c.args.actor)))

pub loop-master-preserved : goal.loop-master-preserved
loop-master-preserved c =
    voters_next (λ (m : ℕ). not (nat_eq m c.args.actor)) c.loop-master.master _ c.loop-master.to c.push_if.new.to refl
    c.in_ok-push_if.ensures c.loop-master.invariant
