-- Which lines and words a play of a scenario can have: all whom they name are there, and each event is one of its
-- actor's role. What is read for a scenario has no others. (This project's own.)
use Rattle.std.specs.Prelude.{ℕ, Bool, true, ◌&&◌, List, nat_lt}
use Rattle.std.specs.List.{list_all}
use Rattle.play_words.specs.declared.words.Ref.{Ref}
use Rattle.play_words.specs.Accepted.{is_accepted}
use Rattle.quorum_sets.specs.Masters.{has_master}
use Rattle.scenario_file.specs.Reading.{Contents}
use Rattle.history_rules.specs.Events.{Event, Command, Field, Poll, Restart}
use Rattle.world_rules.specs.Scenarios.{actors_in, masters_in, fits_in}
use Rattle.script_lines.specs.declared.saying.Saying.{Saying}
use Rattle.script_lines.specs.declared.script.Line.{Line}
use Rattle.script_lines.specs.declared.step.Step.{Step}
use Rattle.script_lines.specs.declared.step.Step.TheVariants as step
use Rattle.script_lines.specs.declared.step.Ticking.{Ticking}
use Rattle.script_lines.specs.declared.step.Ticking.TheVariants as ticking

abbrev pub is_there : Contents → ℕ → Bool
is_there c actor = nat_lt actor (actors_in c)

-- the actor is there, and the event is one of its role
abbrev pub may_do : Contents → ℕ → Event → Bool
may_do c actor event = is_there c actor && fits_in c actor event

abbrev pub is_intruded : Contents → ℕ → Bool
is_intruded c master = nat_lt master (masters_in c) && has_master c.settings.intruded master

abbrev pub are_ticking : Contents → Ticking → Bool
are_ticking c (ticking.Actor a) = is_there c a
are_ticking c _ = true

-- kinds are numbered from 1 to 21
abbrev pub is_named : Contents → Ref → Bool
is_named c r = is_there c r.actor && nat_lt r.kind 22

unfoldable pub is_step_of : Contents → Step → Bool
is_step_of c (step.Tick who times) = are_ticking c who
is_step_of c (step.Take a r) = is_there c a && is_named c r
is_step_of c (step.Command screen op) = may_do c screen (Command op)
is_step_of c (step.Field proxy area place value) = may_do c proxy (Field area place value)
is_step_of c (step.Poll proxy) = may_do c proxy Poll
is_step_of c (step.Cry master times) = is_intruded c master
is_step_of c (step.Restart actor) = may_do c actor Restart
is_step_of c _ = true

abbrev pub are_lines_of : Contents → List Line → Bool
are_lines_of c lines = list_all (λ line. is_step_of c line.step) lines

-- the word is one that a file of words can hold, and all to whom it goes are there
unfoldable pub is_saying_of : Contents → Saying → Bool
is_saying_of c s = is_accepted s.word && list_all (is_there c) s.to

abbrev pub are_sayings_of : Contents → List Saying → Bool
are_sayings_of c sayings = list_all (is_saying_of c) sayings
