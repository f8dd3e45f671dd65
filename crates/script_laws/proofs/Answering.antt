-- What an answer that was given says of its parts.
use Rattle.std.proofs.Common.{◌≡◌, Bool, true, false, if◌then◌else◌, refl, ap, Ok, Err, Option, Some, None}
use Rattle.script_grammar.specs.Faults.{Answer, said}

abbrev pub ok : {A : Type 0} → A → Answer A
ok x = Ok x

abbrev ok_or : {A : Type 0} → A → Answer A → A
ok_or d (Ok x) = x
ok_or d (Err e) = d

pub ok_same : {A : Type 0} (x y : A) → ok x ≡ Ok y → x ≡ y
ok_same x y h = ap (ok_or x) h

abbrev some_or : {A : Type 0} → A → Option A → A
some_or d (Some x) = x
some_or d None = d

pub some_same : {A : Type 0} (x y : A) → Some x ≡ Some y → x ≡ y
some_same x y h = ap (some_or x) h

pub said_from : {A B : Type 0} (f : A → B) (r : Answer A) (y : B) → said f r ≡ Ok y → (x : A) × (r ≡ Ok x) × (f x ≡ y)
said_from f (Ok x) y h = (x, refl, ok_same (f x) y h)
said_from f (Err e) y h = absurd (cc)

-- a choice comes to one of its two cases
pub chosen : {A P : Type 0} (b : Bool) (x y z : A) → (if b then x else y) ≡ z → (b ≡ true → x ≡ z → P) →
    (b ≡ false → y ≡ z → P) → P
chosen true x y z h here there = here refl h
chosen false x y z h here there = there refl h
