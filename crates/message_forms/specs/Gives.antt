-- What a reader of the code answers, against the grammar.
use Rattle.std.specs.Prelude.{◌≡◌, ℕ, List, Option, Some, Result, Ok, Err}
use Rattle.std.specs.Borrow.{Bor}
use Rattle.wire_parts.specs.View.{View}
use Rattle.message_forms.specs.declared.refusal.FormRefusal.{FormRefusal}
use Rattle.message_forms.specs.declared.refusal.FormRefusal.TheVariants as fault
use Rattle.message_forms.specs.Grammar.{Reading}

-- memory may run out; any other refusal is the first fault
abbrev pub Fails : {X : Type 0} → FormRefusal → Result X FormRefusal → Type 0
Fails fault.Want read = Unit {0}
Fails (fault.Short place) read = read ≡ Err (fault.Short place)
Fails (fault.Trailing place) read = read ≡ Err (fault.Trailing place)
Fails (fault.UnknownKind place) read = read ≡ Err (fault.UnknownKind place)
Fails (fault.TooMany place) read = read ≡ Err (fault.TooMany place)
Fails (fault.BadOrder place) read = read ≡ Err (fault.BadOrder place)
Fails (fault.TooLong place) read = read ≡ Err (fault.TooLong place)

-- the value that stands there, and the reader stands behind it
abbrev pub Gives : {X : Type 0} → Result X FormRefusal → View → Reading X → Type 0
Gives (Ok x) behind read = read ≡ Ok (x, behind)
Gives (Err e) behind read = Fails e read

-- the bytes that stand there, as a slice
abbrev pub GivesBytes : Result (Bor (List ℕ)) FormRefusal → View → Reading (List ℕ) → Type 0
GivesBytes (Ok piece) behind read = read ≡ Ok (piece.now, behind)
GivesBytes (Err e) behind read = Fails e read

-- a reader of the bytes that stand there
abbrev pub GivesPart : Result View FormRefusal → ℕ → View → Reading (List ℕ) → Type 0
GivesPart (Ok part) place behind read = (part.place ≡ place) × (read ≡ Ok (part.rest, behind))
GivesPart (Err e) place behind read = Fails e read

-- the value that all the bytes spell
abbrev pub Answers : {X : Type 0} → Result X FormRefusal → Result X FormRefusal → Type 0
Answers (Ok x) read = read ≡ Ok x
Answers (Err e) read = Fails e read

-- a refusal is the first fault, unless it is want of memory
abbrev pub IsFault : FormRefusal → Option FormRefusal → Type 0
IsFault fault.Want first = Unit {0}
IsFault (fault.Short place) first = first ≡ Some (fault.Short place)
IsFault (fault.Trailing place) first = first ≡ Some (fault.Trailing place)
IsFault (fault.UnknownKind place) first = first ≡ Some (fault.UnknownKind place)
IsFault (fault.TooMany place) first = first ≡ Some (fault.TooMany place)
IsFault (fault.BadOrder place) first = first ≡ Some (fault.BadOrder place)
IsFault (fault.TooLong place) first = first ≡ Some (fault.TooLong place)
