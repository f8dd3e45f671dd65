-- Each turn rules out one more master, whatever history the benches tell, so that the one found to have an
-- update certified is the least.
use Rattle.std.proofs.Common.{◌≡◌, ℕ, ◌<◌, List, None}
use Rattle.scenario_file.specs.Reading.{Contents}
use Rattle.history_rules.specs.Events.{Entry}
use Rattle.world_rules.specs.Scenarios.{masters_in, setup_of}
use Rattle.world_history.specs.Benches.{AreBenches}
use Rattle.run_questions.specs.PartsText.{certified_by}
use Rattle.run_questions.proofs.parts.certified.first_certified.Given as goal

-- no master so far has it certified
abbrev pub invariant-loop-master : goal.invariant-loop-master
invariant-loop-master l =
    (c : Contents) (history : List Entry) → AreBenches c history l.benches → l.n ≡ masters_in c
    → (m : ℕ) → m < l.master → certified_by (setup_of c) history l.request.originator l.request.number m ≡ None
