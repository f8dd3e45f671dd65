-- The history of a run in threads, as it is printed: the benches of the run are those of all actors, with lists that the
-- actors could make alone, so their history can be printed and is one of that run.
use Rattle.std.proofs.Common.{◌≡◌, ℕ, ◌≤◌, List, Result, refl, sym, subst}
use Rattle.std.proofs.lemmas.Result.{IfOk-weaker}
use Rattle.std.specs.Result.{IfOk}
use Rattle.std.specs.declared.vec.Vec.{Vec}
use Rattle.std.specs.declared.alloc.Global.{Global}
use Rattle.plain_lists.specs.declared.want.Want.{Want}
use Rattle.play_words.specs.declared.input.Input.{Input}
use Rattle.scenario_file.specs.Reading.{Contents}
use Rattle.scenario_file.specs.Valid.{IsScenario}
use Rattle.history_rules.specs.Events.{Entry}
use Rattle.history_rules.specs.Counts.{merged}
use Rattle.world_history.specs.State.{BenchState}
use Rattle.world_history.specs.Benches.{lists_of}
use Rattle.replica_threads.specs.Ended.{IsRun, IsHistoryOf, RunsStampOnce}
use Rattle.replica_threads.proofs.Lengths.{run_is_short}
use Rattle.run_program.specs.Whole.{CanBePrinted, IsTextOf}

module _ (c : Contents) (inputs : List (List Input)) (turns : ℕ) (benches now : List BenchState)
    (same : now ≡ benches) (run : IsRun c inputs turns benches) where
  -- the run's history can be printed
  pub run_prints : RunsStampOnce → IsScenario c → turns ≤ 4000 → CanBePrinted c now
  run_prints stamped valid most =
      let once = stamped c inputs turns benches run in
      subst (CanBePrinted c) (sym same)
      (CanBePrinted.alone run.of_all once (run_is_short c inputs turns benches valid most run once))

  -- and what is printed is its text
  pub run_printed : (result : Result (Vec ℕ Global) Want) →
      IfOk result (λ text. IsTextOf c (merged (lists_of now)) text.items)
      → IfOk result (λ text. (history : List Entry) × IsHistoryOf c inputs turns history
      × IsTextOf c history text.items)
  run_printed result told =
      IfOk-weaker result (λ text. IsTextOf c (merged (lists_of now)) text.items)
      (λ text. (history : List Entry) × IsHistoryOf c inputs turns history × IsTextOf c history text.items)
      (λ text is. (
        merged (lists_of now),
        record {
          benches = now;
          run = subst (IsRun c inputs turns) (sym same) run;
          merged = refl;
        },
        is,
      )) told
