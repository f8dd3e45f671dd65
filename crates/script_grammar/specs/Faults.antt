-- What a line says, or what is wrong with it. (This project's own.)
use Rattle.std.specs.Prelude.{◌≡◌, ℕ, Bool, true, false, List, [], ◌∷◌, Option, Some, None, Result, Ok, Err}
use Rattle.plain_lists.specs.Answers.{IsRight, IsRightRefusal}
use Rattle.script_grammar.specs.declared.fault.LineRefusal.{LineRefusal}
use Rattle.script_grammar.specs.declared.fault.LineRefusal.TheVariants as fault

abbrev pub Answer : Type 0 → Type 0
Answer A = Result A LineRefusal

-- what isn't in the grammar
abbrev pub bad : {A : Type 0} → Result A LineRefusal
bad = Err fault.BadLine

-- a word that isn't known isn't in the grammar
abbrev pub or_bad : {A : Type 0} → Option A → Answer A
or_bad (Some x) = Ok x
or_bad None = bad

abbrev pub said : {A B : Type 0} → (A → B) → Result A LineRefusal → Result B LineRefusal
said f (Ok x) = Ok (f x)
said f (Err e) = Err e

-- An actor who isn't there counts only where the form of the whole line is right.
abbrev pub graver : LineRefusal → LineRefusal → LineRefusal
graver fault.NoActor later = later
graver fault.BadLine later = fault.BadLine
graver fault.Want later = fault.Want

-- two parts of a line
abbrev pub both : {A B : Type 0} → Result A LineRefusal → Result B LineRefusal → Result (A × B) LineRefusal
both (Ok a) (Ok b) = Ok (a, b)
both (Ok a) (Err e) = Err e
both (Err e) (Ok b) = Err e
both (Err e) (Err d) = Err (graver e d)

-- what each of several parts says
abbrev pub each : {A : Type 0} → (List ℕ → Result A LineRefusal) → List (List ℕ) → Result (List A) LineRefusal
each {A} read [] = Ok []
each {A} read (part ∷ parts) = said (λ (p : A × List A). p.0 ∷ p.1) (both (read part) (each read parts))

-- whether it is want of memory that is told
abbrev pub is_want : LineRefusal → Bool
is_want fault.Want = true
is_want other = false

-- a fault is the right answer, unless memory ran out
abbrev pub Refuses : {A : Type 0} → LineRefusal → Result A LineRefusal → Type 0
Refuses why right = IsRightRefusal is_want why right

-- an answer is the right one, unless memory ran out
abbrev pub Answers : {A : Type 0} → Result A LineRefusal → Result A LineRefusal → Type 0
Answers answer right = IsRight is_want answer right
