-- Going over all actors in order and keeping those that are named gives each of them once and rising, however
-- often it was named.
use Rattle.std.proofs.Common.{◌∙◌, ℕ, sym, nat_eq}
use Rattle.std.specs.List.{list_any}
use Rattle.quorum_sets.proofs.MastersLemmas.{voters-zero}
use Rattle.script_lines.proofs.GivenLaws.{among_more}
use Rattle.script_lines.proofs.saying.among.Goals as goal

pub loop-actor-init : goal.loop-actor-init
loop-actor-init c = c.new-actors.ensures ∙ sym (voters-zero (λ (a : ℕ). list_any (λ m. nat_eq m a) c.args.named.now))

pub loop-actor-preserved : goal.loop-actor-preserved
loop-actor-preserved c =
    among_more (λ (a : ℕ). list_any (λ m. nat_eq m a) c.args.named.now) c.loop-actor.actor c.loop-actor.actors
    c.push_if.new.actors c.is_named.result
    c.loop-actor.invariant c.is_named.ensures c.in_ok-push_if.ensures
