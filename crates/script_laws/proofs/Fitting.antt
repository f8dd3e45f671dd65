-- What lines and words may ask of the actors that are there. (This project's own.)
use Rattle.std.specs.Prelude.{ℕ, nat_lt, Bool, true, ◌&&◌}
use Rattle.std.specs.List.{list_all}
use Rattle.play_words.specs.Accepted.{is_accepted}
use Rattle.scenario_file.specs.Actors.{actors_of}
use Rattle.script_grammar.specs.Names.{Who, device_of, is_intruded, is_correct, is_proxy, is_screen}
use Rattle.script_lines.specs.declared.saying.Saying.{Saying}
use Rattle.script_lines.specs.declared.script.Line.{Line}
use Rattle.script_lines.specs.declared.step.Step.{Step}
use Rattle.script_lines.specs.declared.step.Step.TheVariants as step
use Rattle.script_lines.specs.declared.step.Ticking.{Ticking}
use Rattle.script_lines.specs.declared.step.Ticking.TheVariants as ticking
use Rattle.script_lines.specs.Steps.{has_place}

abbrev pub is_there : Who → ℕ → Bool
is_there who a = nat_lt a (actors_of who.cast)

abbrev pub can_tick : Who → Ticking → Bool
can_tick who (ticking.Actor a) = is_there who a
can_tick who ticking.Masters = true
can_tick who ticking.All = true

-- The actors that a step names are there and have the role that it needs, and a proxy's device has the place that
-- changes.
abbrev pub step_fits : Who → Step → Bool
step_fits who (step.Tick ticker times) = can_tick who ticker
step_fits who (step.Flow rounds) = true
step_fits who (step.Lose actor) = is_there who actor
step_fits who (step.Heal actor) = is_there who actor
step_fits who step.Drop = true
step_fits who (step.Take actor frame) = is_there who actor && is_there who frame.actor && nat_lt frame.kind 22
step_fits who (step.Command screen op) = is_there who screen && is_screen who screen
step_fits who (step.Field proxy area place value) = is_there who proxy && is_proxy who proxy
    && has_place (device_of who proxy) area place
step_fits who (step.Poll proxy) = is_there who proxy && is_proxy who proxy
step_fits who (step.Cry master times) = is_there who master && is_intruded who master
step_fits who (step.Restart actor) = is_there who actor && is_correct who actor

abbrev pub line_fits : Who → Line → Bool
line_fits who line = step_fits who line.step

-- An intruded master says a word that can be said to actors that are there.
abbrev pub saying_fits : Who → Saying → Bool
saying_fits who s = is_there who s.speaker && is_intruded who s.speaker && list_all (is_there who) s.to
    && is_accepted s.word
