-- The text that was written of a legal history is read again as the history.
use Rattle.std.proofs.Common.{◌≡◌, ℕ, ◌<◌, ◌^◌, List, Result, Ok, Err, length, ap}
use Rattle.std.specs.Result.{IfOk, OnOk}
use Rattle.std.specs.declared.vec.Vec.{Vec}
use Rattle.std.specs.declared.alloc.Global.{Global}
use Rattle.plain_lists.specs.declared.want.Want.{Want}
use Rattle.scenario_file.specs.Reading.{Contents}
use Rattle.scenario_file.specs.Valid.{IsScenario}
use Rattle.history_rules.specs.Events.{Entry}
use Rattle.history_rules.specs.Legal.{IsLegal}
use Rattle.world_rules.specs.Scenarios.{setup_of}
use Rattle.printed_run.specs.Printed.{text_of}
use Rattle.printed_run.specs.Tellable.{AllCanBeTold}
use Rattle.printed_laws.specs.RunLaws.{TextsTellHistories}
use Rattle.run_program.specs.Faults.{history_or_fault}
use Rattle.run_program.specs.Whole.{IsTextOf}

pub is_told : TextsTellHistories → (c : Contents) (history : List Entry) (text : Vec ℕ Global) → IsScenario c →
    IsLegal (setup_of c) history
    → length history < 2 ^ 32 → text.items ≡ text_of c history → AllCanBeTold (setup_of c) history →
    IsTextOf c history text.items
is_told tell c history text valid legal short is can = (is, ap history_or_fault (tell c history valid legal short can))

pub told_text : TextsTellHistories → (c : Contents) (history : List Entry) (result : Result (Vec ℕ Global) Want) →
    IsScenario c → IsLegal (setup_of c) history → length history < 2 ^ 32
    → IfOk result (λ text. text.items ≡ text_of c history) → OnOk result (AllCanBeTold (setup_of c) history)
    → IfOk result (λ text. IsTextOf c history text.items)
told_text tell c history (Ok text) valid legal short is can = is_told tell c history text valid legal short is can
told_text tell c history (Err want) valid legal short is can = tt
