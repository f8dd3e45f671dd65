use Rattle.std.specs.Prelude.{◌≡◌, Bool, true, false, Option, Some, None, Result, Ok, Err}
use Rattle.plain_lists.specs.Answers.{IsRight, IsRightRefusal, IsRightSeen}
use Rattle.interlocks.specs.declared.refusal.RuleRefusal.{RuleRefusal}
use Rattle.interlocks.specs.declared.refusal.RuleRefusal.TheVariants as refusal
use Rattle.interlocks.specs.declared.tree.Tree.{Tree}
use Rattle.interlocks.specs.Formula.{Formula, formula}
use Rattle.interlocks.specs.declared.refusal.TokenRefusal.{TokenRefusal}
use Rattle.interlocks.specs.declared.refusal.TokenRefusal.TheVariants as stop

-- an answer is the next value, or says that there is none, unless memory ran out
abbrev pub Gives : {A : Type 0} → Result A TokenRefusal → Option A → Type 0
Gives (Ok x) next = next ≡ Some x
Gives (Err stop.Misplaced) next = next ≡ None
Gives (Err stop.Want) next = Unit {0}

-- whether it is want of memory that is told
abbrev pub is_want : RuleRefusal → Bool
is_want refusal.Want = true
is_want other = false

-- an answer is the right one, unless memory ran out
abbrev pub Answers : {A : Type 0} → Result A RuleRefusal → Result A RuleRefusal → Type 0
Answers answer right = IsRight is_want answer right

-- a refusal is the right answer, unless memory ran out
abbrev pub Refuses : {A : Type 0} → RuleRefusal → Result A RuleRefusal → Type 0
Refuses why right = IsRightRefusal is_want why right

-- a tree is that of the right rule, unless memory ran out
abbrev pub AnswersTree : Result Tree RuleRefusal → Result Formula RuleRefusal → Type 0
AnswersTree answer right = IsRightSeen is_want formula answer right
