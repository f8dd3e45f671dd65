-- What a run comes to, with its inputs in other words.
use Rattle.std.proofs.Common.{◌≡◌, ℕ, List, Result, map, subst}
use Rattle.std.specs.Result.{IfOk}
use Rattle.std.specs.declared.vec.Vec.{Vec}
use Rattle.std.specs.declared.alloc.Global.{Global}
use Rattle.plain_lists.specs.declared.want.Want.{Want}
use Rattle.play_words.specs.declared.input.Input.{Input}
use Rattle.scenario_file.specs.Reading.{Contents}
use Rattle.world_history.specs.KeptState.{KeptState}
use Rattle.replica_threads.specs.Ended.{IsRun}

-- the same inputs in other words
pub run_given : (c : Contents) (turns : ℕ) (inputs given : List (List Input))
    (result : Result (Vec KeptState Global) Want) → inputs ≡ given
    → IfOk result (λ kept. IsRun c inputs turns (map (λ k. k.bench) kept.items)) →
    IfOk result (λ kept. IsRun c given turns (map (λ k. k.bench) kept.items))
run_given c turns inputs given result are told =
    subst (λ (xs : List (List Input)). IfOk result (λ kept. IsRun c xs turns (map (λ k. k.bench) kept.items))) are told
