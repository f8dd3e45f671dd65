-- The calls that fail are the numbers listed for the actor, so one of the first calls failed just where one of
-- those numbers is among them. An actor with no list has none that fails.
use Rattle.std.proofs.Common.{◌&&◌, nat_le, sym, ◌∙◌, ap}
use Rattle.std.specs.List.{list_any}
use Rattle.scenario_file.specs.Reading.{contents}
use Rattle.world_history.proofs.CallsThatFail.{failing_found, none_fails}
use Rattle.world_history.proofs.halting.fails.Goals as goal

pub returns-in-Some : goal.returns-in-Some
returns-in-Some c =
    c.is_among.ensures
    ∙ ap (list_any (λ x. nat_le 1 x && nat_le x c.args.calls))
    (c.as_slice.ensures ∙ sym (failing_found (contents c.args.scenario.now) c.args.actor c.in-Some.numbers.now
    (sym c.in-Some.ensures)))

pub returns-in-None : goal.returns-in-None
returns-in-None c =
    sym (ap (list_any (λ x. nat_le 1 x && nat_le x c.args.calls))
    (none_fails (contents c.args.scenario.now) c.args.actor (sym c.in-None.ensures)))
