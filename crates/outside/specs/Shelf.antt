-- What a load of a file gives, and files in memory. (This project's own.)
use Rattle.std.specs.Prelude.{◌≡◌, ℕ, ◌+◌, ◌≤◌, ◌<◌, List, [], ◌∷◌, ◌++◌, Option, None, Some, Result, Ok, Err, length}
use Rattle.std.specs.Prelude.{count_by, IsSome, if◌then◌else◌, nat_eq, min, ◌^◌, ◌-◌, string_bytes}
use Rattle.std.specs.List.{list_any}
use Rattle.std.specs.Str.{bytes_eq}
use Rattle.std.specs.declared.vec.Vec.{Vec}
use Rattle.std.specs.declared.string.String.{String}
use Rattle.std.specs.declared.alloc.Global.{Global}
use Rattle.outside.specs.declared.files.LoadAnswer.{LoadAnswer}
use Rattle.outside.specs.declared.files.LoadAnswer.TheVariants as answer

-- What a load gives of a file that holds `content`: the whole of it where it has room, and the refusal
-- that it is too long exactly where it hasn't. A fault or want of memory may come in either case.
abbrev pub LoadGives : List ℕ → ℕ → Result (Vec ℕ Global) LoadAnswer → Type 0
LoadGives content room (Ok loaded) = (loaded.items ≡ content) × (length content ≤ room)
LoadGives content room (Err answer.TooLong) = room < length content
LoadGives content room (Err answer.Failed) = Unit {0}
LoadGives content room (Err answer.Want) = Unit {0}

-- No file's count of faults rises but where a fault is answered.
abbrev pub LoadCounts : Result (Vec ℕ Global) LoadAnswer → (List ℕ → ℕ) → (List ℕ → ℕ) → Type 0
LoadCounts (Ok loaded) before after = (name : List ℕ) → after name ≡ before name
LoadCounts (Err answer.TooLong) before after = (name : List ℕ) → after name ≡ before name
LoadCounts (Err answer.Want) before after = (name : List ℕ) → after name ≡ before name
LoadCounts (Err answer.Failed) before after = Unit {0}

-- What is added to the bytes loaded so far: a whole piece where all of it has room, nothing of it for want of memory.
abbrev pub AddsPiece : List ℕ → List ℕ → ℕ → Result (Unit {0}) LoadAnswer → List ℕ → Type 0
AddsPiece before piece room (Ok _) after = (after ≡ before ++ piece) × (length after ≤ room)
AddsPiece before piece room (Err answer.TooLong) after = room < length before + length piece
AddsPiece before piece room (Err answer.Want) after = Unit {0}
AddsPiece before piece room (Err answer.Failed) after = ⊥

-- A listed file as its name and its content.
abbrev pub listed : String Global × Vec ℕ Global → List ℕ × List ℕ
listed file = (string_bytes file.0, file.1.items)

-- The content of the first listed file of that name.
abbrev pub content_of : List (List ℕ × List ℕ) → List ℕ → Option (List ℕ)
content_of [] name = None
content_of (file ∷ files) name = if bytes_eq file.0 name then Some file.1 else content_of files name

-- Files in memory: the listed files, which calls of `load` are to fail (counted from 1), how many calls
-- there were, and the names whose load failed.
pub record Shelf : Type 0 where
  pub files : List (List ℕ × List ℕ)
  pub failing : List ℕ
  pub calls : ℕ
  pub failed : List (List ℕ)

-- How often a load of that name failed.
abbrev pub failures_of : Shelf → List ℕ → ℕ
failures_of shelf name = count_by (λ other. bytes_eq other name) shelf.failed

-- The number of the next call. It stays at the greatest number of 64 bits.
abbrev pub next_call : ℕ → ℕ
next_call calls = min (calls + 1) (2 ^ 64 - 1)

-- What the next load of that name finds: nothing where its call is listed, or where there is no such
-- file.
abbrev pub found : Shelf → List ℕ → Option (List ℕ)
found shelf name =
    if list_any (nat_eq (next_call shelf.calls)) shelf.failing then None else content_of shelf.files name

-- A load that was refused for want of memory changes nothing. Each other counts as a call, and one
-- that failed is listed.
abbrev pub ShelfLoads : Shelf → List ℕ → Result (Vec ℕ Global) LoadAnswer → Shelf → Type 0
ShelfLoads before name (Err answer.Want) after = after ≡ before
ShelfLoads before name (Err answer.Failed) after =
    (found before name ≡ None)
    × (after ≡ record before { calls = next_call before.calls; failed = before.failed ++ name ∷ [] })
ShelfLoads before name (Err answer.TooLong) after =
    IsSome (found before name) × (after ≡ record before { calls = next_call before.calls })
ShelfLoads before name (Ok _) after =
    IsSome (found before name) × (after ≡ record before { calls = next_call before.calls })
