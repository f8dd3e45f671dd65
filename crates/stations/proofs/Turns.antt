-- A turn of a station's life.
use Rattle.std.proofs.Common.{◌≡◌, ℕ, Bool, List, ◌++◌, Option, Result, Ok, Err, OnErr, refl, sym, ◌∙◌, ap}
use Rattle.std.specs.Option.{option_to_list}
use Rattle.station_files.specs.Batch.{Waiting}
use Rattle.station_files.specs.Held.{Held}
use Rattle.station_rules.specs.Answers.{Asked}
use Rattle.stations.specs.declared.living.Halt.{Halt}
use Rattle.stations.specs.declared.living.Halt.TheVariants as halt
use Rattle.stations.specs.declared.station.Station.{Station}
use Rattle.stations.specs.declared.station.TakeRefusal.{TakeRefusal}
use Rattle.stations.specs.declared.station.TakeRefusal.TheVariants as refusal
use Rattle.stations.specs.Going.{Origin, Goes, IsGoing, halt_of_take}
use Rattle.stations.proofs.Going.{next_going}

-- what came next was answered
pub took : (o : Origin) (asked : List Asked) (room : ℕ) (s new : Station) (waits after : Waiting) (held : Option Held)
    (put waiting left : Option (List ℕ)) (is_ended : Bool) → IsGoing o asked s waits held put →
    (went : Goes room waiting s waits is_ended left new after) →
    IsGoing o (asked ++ option_to_list went.asked) new after held put
took o asked room s new waits after held put waiting left is_ended going went =
    next_going o asked went.asked s new waits after held put going went.answered

-- what holds anyway holds after a refusal
pub on_err_so : {T E P : Type 0} (r : Result T E) → P → OnErr r P
on_err_so (Ok x) p = tt
on_err_so (Err e) p = p

-- a halt that is handed on
pub halted_full : {T X : Type 0} (s : Result X Halt) (e h : Halt) → s ≡ Err h → h ≡ e → s ≡ Err halt.Full →
    (let r : Result T Halt = Err e in r ≡ Err halt.Full)
halted_full s e h is gives full =
    let same : h ≡ halt.Full = cc in
    ap Err (sym gives ∙ same)

-- an event that had no room
pub taken_full : {T X : Type 0} (s : Result X Halt) (e : TakeRefusal) (h : Halt) → s ≡ Err h → h ≡ halt_of_take e →
    s ≡ Err halt.Full → (let r : Result T TakeRefusal = Err e in r ≡ Err refusal.Full)
taken_full s refusal.Full h is gives full = refl
taken_full s refusal.Want h is gives full =
    let same : h ≡ halt.Full = cc in
    absurd (other (sym gives ∙ same))
  where
    other : halt.Want ≡ halt.Full → ⊥
    other e = cc
