-- The lines of a file, and what a file says. (This project's own.)
use Rattle.std.specs.Prelude.{◌≡◌, ℕ, suc, nat_lt, ◌==◌, Bool, true, false, if◌then◌else◌, List, [], ◌∷◌, map, Option}
use Rattle.std.specs.Prelude.{Some, None, Result, Ok, Err}
use Rattle.std.specs.Borrow.{Bor}
use Rattle.std.specs.List.{slice_split, filter_map}
use Rattle.std.specs.Str.{is_utf8}
use Rattle.std.specs.Str.Lines.{lines}
use Rattle.plain_lists.specs.Answers.{IsRight, IsRightRefusal}
use Rattle.script_grammar.specs.declared.fault.LineRefusal.{LineRefusal}
use Rattle.script_grammar.specs.declared.fault.LineRefusal.TheVariants as fault
use Rattle.script_grammar.specs.declared.fault.ScriptRefusal.{ScriptRefusal}
use Rattle.script_grammar.specs.declared.fault.ScriptRefusal.TheVariants as refusal
use Rattle.script_grammar.specs.Faults.{Answer, bad, said}

-- what texts are
abbrev pub texts : List (Bor (List ℕ)) → List (List ℕ)
texts = map (λ text. text.now)

-- the words of a line, one space between each two
abbrev pub words_of : List ℕ → List (List ℕ)
words_of line = slice_split (λ b. b == 32) line

-- a line with its number
pub record Numbered : Type 0 where
  pub number : ℕ
  pub line : List ℕ

abbrev pub numbered_from : ℕ → List (List ℕ) → List Numbered
numbered_from n [] = []
numbered_from n (line ∷ more) = record { number = n; line = line } ∷ numbered_from (suc n) more

-- the lines of a file, from 1: each ends with a line feed, which the last may lack, and a carriage return before it is
-- dropped
abbrev pub numbered : List ℕ → List Numbered
numbered bytes = numbered_from 1 (lines bytes)

-- an empty line or a comment, which says nothing
abbrev pub is_silent : List ℕ → Bool
is_silent [] = true
is_silent (b ∷ bs) = b == 35

-- what the words of a line say, if they say anything; a line is text
unfoldable pub line_in : {A : Type 0} → (ℕ → List (List ℕ) → Result A LineRefusal) → Numbered →
    Result (Option A) LineRefusal
line_in says l =
    if is_silent l.line then Ok None
    else (if is_utf8 l.line then said Some (says l.number (words_of l.line)) else bad)

-- no line comes after the last that a file may have
unfoldable pub limited : {A : Type 0} → ℕ → (ℕ → List (List ℕ) → Result A LineRefusal) → Numbered →
    Result (Option A) LineRefusal
limited most says l = if nat_lt most l.number then bad else line_in says l

abbrev pub refusal_at : ℕ → LineRefusal → ScriptRefusal
refusal_at number fault.BadLine = refusal.BadLine number
refusal_at number fault.NoActor = refusal.NoActor number
refusal_at number fault.Want = refusal.Want

abbrev pub or_refusal : {A : Type 0} → Result A LineRefusal → ℕ → Option ScriptRefusal → Option ScriptRefusal
or_refusal (Ok x) number later = later
or_refusal (Err e) number later = Some (refusal_at number e)

-- the first line that has a fault, and which
abbrev pub first_refusal : {A : Type 0} → (Numbered → Result A LineRefusal) → List Numbered → Option ScriptRefusal
first_refusal read [] = None
first_refusal read (l ∷ more) = or_refusal (read l) l.number (first_refusal read more)

abbrev pub said_in : {A : Type 0} → Result (Option A) LineRefusal → Option A
said_in (Ok x) = x
said_in (Err e) = None

abbrev pub unless_refused : {A : Type 0} → Option ScriptRefusal → List A → Result (List A) ScriptRefusal
unless_refused None xs = Ok xs
unless_refused (Some refused) xs = Err refused

-- The first line that has a fault decides; where none has one, a file says what its lines say, in order.
abbrev pub all_in : {A : Type 0} → (Numbered → Result (Option A) LineRefusal) → List Numbered →
    Result (List A) ScriptRefusal
all_in read ls = unless_refused (first_refusal read ls) (filter_map (λ l. said_in (read l)) ls)

unfoldable pub file_in : {A : Type 0} → ℕ → (ℕ → List (List ℕ) → Result A LineRefusal) → List ℕ →
    Result (List A) ScriptRefusal
file_in most says bytes = all_in (limited most says) (numbered bytes)

-- whether it is want of memory that is told
abbrev pub is_want : ScriptRefusal → Bool
is_want refusal.Want = true
is_want other = false

-- a refusal is the right answer, unless memory ran out
abbrev pub RefusesFile : {A : Type 0} → ScriptRefusal → Result A ScriptRefusal → Type 0
RefusesFile why right = IsRightRefusal is_want why right

-- an answer is the right one, unless memory ran out
abbrev pub Reads : {A : Type 0} → Result A ScriptRefusal → Result A ScriptRefusal → Type 0
Reads answer right = IsRight is_want answer right
