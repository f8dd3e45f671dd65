use Rattle.std.specs.Prelude.{◌≡◌, ℕ, ◌++◌, List, Bool, true, false, Result, Ok, Err, nat_eq}
use Rattle.std.specs.List.{list_any}
use Rattle.outside.specs.Shelf.{next_call}
use Rattle.outside.specs.declared.sinks.PutAnswer.{PutAnswer}
use Rattle.outside.specs.declared.sinks.PutAnswer.TheVariants as answer

-- A sink in memory: the bytes put, which calls of `put` are to fail (counted from 1), how many calls
-- there were, and how many failed.
pub record Tray : Type 0 where
  pub put : List ℕ
  pub failing : List ℕ
  pub calls : ℕ
  pub faults : ℕ

-- Whether the next put is to fail.
abbrev pub put_fails : Tray → Bool
put_fails tray = list_any (nat_eq (next_call tray.calls)) tray.failing

-- A put fails exactly where its call is listed, and then takes nothing of its piece.
abbrev pub TrayPuts : Tray → List ℕ → Result (Unit {0}) PutAnswer → Tray → Type 0
TrayPuts before piece (Err answer.Want) after = after ≡ before
TrayPuts before piece (Err answer.Failed) after =
    (put_fails before ≡ true)
    × (after ≡ record before { calls = next_call before.calls; faults = next_call before.faults })
TrayPuts before piece (Ok _) after =
    (put_fails before ≡ false) × (after ≡ record before { put = before.put ++ piece; calls = next_call before.calls })
