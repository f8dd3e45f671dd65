-- What is drawn, or why nothing is, by the range that is asked for.
use Rattle.std.proofs.Common.{◌≡◌, ℕ, List, Option, Result, Ok, Err, length, sym, ◌∙◌, ap}
use Rattle.std.specs.declared.vec.Vec.{Vec}
use Rattle.std.specs.declared.alloc.Global.{Global}
use Rattle.scenario_file.specs.Reading.{Contents}
use Rattle.history_rules.specs.Events.{Entry}
use Rattle.history_picture.specs.declared.fault.PictureRefusal.{PictureRefusal}
use Rattle.history_picture.specs.declared.fault.PictureRefusal.TheVariants as fault
use Rattle.lane_pictures.specs.declared.picture.Range.{Range}
use Rattle.history_picture.specs.Pictures.{Draws, drawn_in, drawn_or_fault, picture_in, range_of}

-- a refusal for its cause
pub draws_fault : (told : Result (List ℕ) PictureRefusal) (why : PictureRefusal) → told ≡ Err why →
    (let result : Result (Vec ℕ Global) PictureRefusal = Err why in Draws told result)
draws_fault told fault.BadRange is = is
draws_fault told (fault.NotReached last) is = is
draws_fault told fault.NoPoint is = is
draws_fault told fault.Want is = tt

pub range_refused : (c : Contents) (history : List Entry) (first last : Option ℕ) (width : ℕ)
    (asked : Result Range PictureRefusal) (why : PictureRefusal)
    → asked ≡ range_of (length history) first last → asked ≡ Err why → picture_in c history first last width ≡ Err why
unfolding picture_in
range_refused c history first last width asked why are is =
    ap (drawn_or_fault c history width) (sym are ∙ is)

pub range_drawn : (c : Contents) (history : List Entry) (first last : Option ℕ) (width : ℕ)
    (asked : Result Range PictureRefusal) (range : Range) (text : List ℕ)
    → asked ≡ range_of (length history) first last → asked ≡ Ok range → text ≡ drawn_in c history width range
    → picture_in c history first last width ≡ Ok text
unfolding picture_in
range_drawn c history first last width asked range text are is drawn =
    ap (drawn_or_fault c history width) (sym are ∙ is) ∙ ap Ok (sym drawn)
