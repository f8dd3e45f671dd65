-- After lines that couldn't be kept the file has a beginning of them.
use Rattle.std.proofs.Common.{◌≡◌, ℕ, List, Option, Result, Ok, Err, OnErr, length, take, sym, ◌∙◌, ap, arith}
use Rattle.std.proofs.lemmas.List.{take_all}
use Rattle.outside.specs.declared.keepers.KeepAnswer.{KeepAnswer}
use Rattle.outside.specs.declared.keepers.KeepAnswer.TheVariants as answer
use Rattle.station_files.specs.Held.{Held, with_piece, SettleGives}
use Rattle.station_files.specs.Batch.{HasBegun}

-- where they were added and aren't settled, all of them
pub unsettled : (held mid after : Option Held) (lines : List ℕ) (r : Result (Unit {0}) KeepAnswer) →
    mid ≡ with_piece held lines → SettleGives mid r after → OnErr r (HasBegun held lines after)
unsettled held mid after lines (Ok done) added gives = tt
unsettled held mid after lines (Err answer.Failed) added gives =
    (length lines, gives ∙ added ∙ ap (with_piece held) (sym (take_all (length lines) lines (omega arith))))
unsettled held mid after lines (Err answer.Want) added gives =
    (length lines, gives ∙ added ∙ ap (with_piece held) (sym (take_all (length lines) lines (omega arith))))
