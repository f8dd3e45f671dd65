-- When an answer is the one that a definition gives, unless memory ran out: want of memory is the one refusal that no
-- definition gives. (This project's own; a reader names the test of its refusals that tells want of memory.)
use Rattle.std.specs.Prelude.{◌≡◌, Bool, true, false, Result, Ok, Err}

-- what is claimed where it isn't want of memory that is told
abbrev pub UnlessWant : Bool → Type 0 → Type 0
UnlessWant true claim = Unit {0}
UnlessWant false claim = claim

-- a refusal is the right answer, unless memory ran out
abbrev pub IsRightRefusal : {A E : Type 0} → (E → Bool) → E → Result A E → Type 0
IsRightRefusal is_want why right = UnlessWant (is_want why) (right ≡ Err why)

-- an answer, seen as a value of another type, is the right one, unless memory ran out
abbrev pub IsRightSeen : {A B E : Type 0} → (E → Bool) → (A → B) → Result A E → Result B E → Type 0
IsRightSeen is_want seen (Ok x) right = right ≡ Ok (seen x)
IsRightSeen is_want seen (Err why) right = IsRightRefusal is_want why right

-- an answer is the right one, unless memory ran out
abbrev pub IsRight : {A E : Type 0} → (E → Bool) → Result A E → Result A E → Type 0
IsRight {A} is_want answer right = IsRightSeen {A = A} {B = A} is_want (λ x. x) answer right
