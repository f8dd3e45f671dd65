-- What the text of a run says of its history. (This project's own.)
use Rattle.std.specs.Prelude.{◌≡◌, ℕ, zero, suc, ◌+◌, ◌==◌, codes, Bool, true, false, ◌||◌, if◌then◌else◌, List, []}
use Rattle.std.specs.Prelude.{◌∷◌, Option, Some, None, Result, Ok, Err, drop}
use Rattle.std.specs.List.{slice_split, starts_with}
use Rattle.std.specs.Str.{bytes_eq, is_utf8}
use Rattle.plain_lists.specs.Answers.{IsRight, IsRightRefusal}
use Rattle.scenario_file.specs.declared.actors.Cast.{Cast}
use Rattle.script_grammar.specs.declared.fault.LineRefusal.{LineRefusal}
use Rattle.script_grammar.specs.declared.fault.LineRefusal.TheVariants as fault
use Rattle.script_grammar.specs.Faults.{Answer, bad}
use Rattle.script_grammar.specs.Numbers.{narrow_in}
use Rattle.run_lines.specs.declared.entry_line.EntryLine.{EntryLine}
use Rattle.run_lines.specs.declared.refusal.HistoryRefusal.{HistoryRefusal}
use Rattle.run_lines.specs.declared.refusal.HistoryRefusal.TheVariants as refusal
use Rattle.run_lines.specs.Reading.{entry_line_in}

abbrev pub Reading : Type 0 → Type 0
Reading A = Result A HistoryRefusal

abbrev pub bad_line : {A : Type 0} → ℕ → Reading A
bad_line number = Err (refusal.BadLine number)

-- the text cut at its line feeds: each piece but the last is a line, and behind the last line nothing is to stand
abbrev pub pieces : List ℕ → List (List ℕ)
pieces bytes = slice_split (λ b. b == 10) bytes

abbrev pub is_empty : List ℕ → Bool
is_empty [] = true
is_empty (b ∷ bs) = false

abbrev pub before_entries : Reading EntryLine → Reading (List EntryLine) → Reading (List EntryLine)
before_entries (Err e) more = Err e
before_entries (Ok entry) (Err e) = Err e
before_entries (Ok entry) (Ok entries) = Ok (entry ∷ entries)

abbrev pub numbered : ℕ → Answer EntryLine → Reading EntryLine
numbered number (Ok entry) = Ok entry
numbered number (Err e) = bad_line number

-- so many lines of entries, the first of this number, and then the end
abbrev pub entries_in : Cast → ℕ → ℕ → List (List ℕ) → Reading (List EntryLine)
entries_in cast number count [] = bad_line number
entries_in cast number zero (last ∷ []) = if is_empty last then Ok [] else bad_line number
entries_in cast number zero (line ∷ next ∷ more) = bad_line number
entries_in cast number (suc count) (last ∷ []) = bad_line number
entries_in cast number (suc count) (line ∷ next ∷ more) =
    before_entries (numbered number (entry_line_in cast line)) (entries_in cast (number + 1) count (next ∷ more))

abbrev pub counts : List ℕ → Bool
counts line = starts_with (λ a b. a == b) line (codes "history ")

-- how many entries follow, below 2^32
abbrev pub count_in : List ℕ → Answer ℕ
count_in digits = if is_utf8 digits then narrow_in digits else bad

abbrev pub counted : Cast → ℕ → Answer ℕ → List (List ℕ) → Reading (List EntryLine)
counted cast number (Ok count) rest = entries_in cast (number + 1) count rest
counted cast number (Err e) rest = bad_line number

-- The lines up to that which tells how many entries follow are passed over.
abbrev pub after_heads : Cast → ℕ → List (List ℕ) → Reading (List EntryLine)
after_heads cast number [] = bad_line number
after_heads cast number (last ∷ []) = if is_empty last || counts last then bad_line number else bad_line (number + 1)
after_heads cast number (line ∷ next ∷ more) =
    if counts line then counted cast number (count_in (drop 8 line)) (next ∷ more) else after_heads cast
    (number + 1) (next ∷ more)

abbrev pub after_title : Cast → List (List ℕ) → Reading (List EntryLine)
after_title cast [] = bad_line 1
after_title cast (last ∷ []) = bad_line 1
after_title cast (line ∷ next ∷ more) = if bytes_eq line (codes "spire 1") then after_heads cast 2
    (next ∷ more) else bad_line 1

-- the lines of the entries of a whole text, or its first line that isn't of its form
unfoldable pub run_in : Cast → List ℕ → Reading (List EntryLine)
run_in cast bytes = after_title cast (pieces bytes)

-- the refusal of a text whose line of that number has a fault
abbrev pub fault_at : ℕ → LineRefusal → HistoryRefusal
fault_at number fault.Want = refusal.Want
fault_at number other = refusal.BadLine number

-- whether it is want of memory that is told
abbrev pub is_want : HistoryRefusal → Bool
is_want refusal.Want = true
is_want other = false

-- a refusal is the right answer, unless memory ran out
abbrev pub RefusesRun : {A : Type 0} → HistoryRefusal → Reading A → Type 0
RefusesRun why right = IsRightRefusal is_want why right

-- an answer is the right one, unless memory ran out
abbrev pub ReadsRun : {A : Type 0} → Reading A → Reading A → Type 0
ReadsRun answer right = IsRight is_want answer right
