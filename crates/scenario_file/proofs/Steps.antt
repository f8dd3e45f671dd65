-- What an answer that was given says of its steps.
use Rattle.std.proofs.Common.{◌≡◌, ℕ, ◌≤◌, Bool, true, false, ◌&&◌, List, ◌++◌, refl, ap, subst, arith, Result, Ok}
use Rattle.std.proofs.Common.{Err, Option, Some, None, ℤ, pos, negsuc}
use Rattle.std.specs.Prelude.{int_le, ◌≤ℤ◌}
use Rattle.std.proofs.lemmas.Bool.{and_parts}
use Rattle.std.proofs.lemmas.Int.{ints, to_z-of_z}
use Rattle.toml.specs.Data.{Data, integer, as_integer, Members}
use Rattle.scenario_file.specs.declared.refusal.ScenarioRefusal.{ScenarioRefusal}
use Rattle.scenario_file.specs.Answers.{◌>>=◌, kept, or_bad}
use Rattle.scenario_file.specs.Values.{needed, integer_in, integer_at, integer_or, count_in, count_at, count_or}
use Rattle.scenario_file.specs.Values.{or_default, magnitude}

-- each step of an answer gave one too
pub then-ok : {A B : Type 0} (r : Result A ScenarioRefusal) (next : A → Result B ScenarioRefusal) (y : B) →
    (r >>= next) ≡ Ok y → (x : A) × (r ≡ Ok x) × (next x ≡ Ok y)
then-ok (Ok x) next y h = (x, refl, h)
then-ok (Err e) next y h = absurd (cc)

-- the same, for a goal that follows from what each step gave
pub step : {A B P : Type 0} (r : Result A ScenarioRefusal) (next : A → Result B ScenarioRefusal) (y : B) →
    (r >>= next) ≡ Ok y → ((x : A) → r ≡ Ok x → next x ≡ Ok y → P) → P
step (Ok x) next y h go = go x refl h
step (Err e) next y h go = absurd (cc)

abbrev given : {A : Type 0} → A → Result A ScenarioRefusal
given x = Ok x

abbrev ok_or : {A : Type 0} → A → Result A ScenarioRefusal → A
ok_or d (Ok x) = x
ok_or d (Err e) = d

pub ok-same : {A : Type 0} (x y : A) → given x ≡ Ok y → x ≡ y
ok-same x y h = ap (ok_or x) h

pub kept-ok : {A : Type 0} (name : List ℕ) (b : Bool) (x y : A) → kept name b x ≡ Ok y → (b ≡ true) × (x ≡ y)
kept-ok name true x y h = (refl, ok-same x y h)
kept-ok name false x y h = absurd (cc)

pub or_bad-ok : {A : Type 0} (name : List ℕ) (o : Option A) (y : A) → or_bad name o ≡ Ok y → o ≡ Some y
or_bad-ok name None y h = absurd (cc)
or_bad-ok name (Some x) y h = ap Some (ok-same x y h)

-- a number is within its bounds
pub integer_in-ok : (name : List ℕ) (low high : ℤ) (d : Data) (z : ℤ) → integer_in name low high d ≡ Ok z →
    (int_le low z ≡ true) × (int_le z high ≡ true)
unfolding integer_in
integer_in-ok name low high d z h =
    let (y, read, tested) = then-ok (or_bad name (as_integer d)) _ z h in
    let (passed, same) = kept-ok name (int_le low y && int_le y high) y z tested in
    and_parts (int_le low z) (int_le z high) (subst (λ (x : ℤ). (int_le low x && int_le x high) ≡ true) same passed)

pub integer_at-ok : (at key : List ℕ) (low high : ℤ) (t : Members) (z : ℤ) → integer_at at key low high t ≡ Ok z →
    (int_le low z ≡ true) × (int_le z high ≡ true)
unfolding integer_at
integer_at-ok at key low high t z h =
    let (d, there, read) = then-ok (needed at key t) _ z h in integer_in-ok (at ++ key) low high d z read

pub integer_or-ok : (at key : List ℕ) (default low high : ℤ) (t : Members) (z : ℤ) →
    integer_or at key default low high t ≡ Ok z → (int_le low z ≡ true) × (int_le z high ≡ true)
unfolding integer_or
integer_or-ok at key default low high t z h =
    integer_in-ok (at ++ key) low high (or_default key (integer default) t) z h

-- a count is within its bounds
count-within : (low high : ℕ) (z : ℤ) → int_le (pos low) z ≡ true → int_le z (pos high) ≡ true →
    (low ≤ magnitude z) × (magnitude z ≤ high)
count-within low high (pos n) a b = (grind (arith, ints, to_z-of_z), grind (arith, ints, to_z-of_z))
count-within low high (negsuc n) a b = absurd (cc)

pub count_in-ok : (name : List ℕ) (low high : ℕ) (d : Data) (n : ℕ) → count_in name low high d ≡ Ok n →
    (low ≤ n) × (n ≤ high)
unfolding count_in
count_in-ok name low high d n h =
    let (z, read, same) = then-ok (integer_in name (pos low) (pos high) d) _ n h in
    let (least, greatest) = integer_in-ok name (pos low) (pos high) d z read in
    subst (λ (m : ℕ). (low ≤ m) × (m ≤ high)) (ok-same (magnitude z) n same) (count-within low high z least greatest)

pub count_at-ok : (at key : List ℕ) (low high : ℕ) (t : Members) (n : ℕ) → count_at at key low high t ≡ Ok n →
    (low ≤ n) × (n ≤ high)
unfolding count_at
count_at-ok at key low high t n h =
    let (d, there, read) = then-ok (needed at key t) _ n h in count_in-ok (at ++ key) low high d n read

pub count_or-ok : (at key : List ℕ) (default low high : ℕ) (t : Members) (n : ℕ) →
    count_or at key default low high t ≡ Ok n → (low ≤ n) × (n ≤ high)
unfolding count_or
count_or-ok at key default low high t n h =
    count_in-ok (at ++ key) low high (or_default key (integer (pos default)) t) n h

pub int_le-at-most : (a b : ℤ) → int_le a b ≡ true → a ≤ℤ b
int_le-at-most a b h = grind (arith, ints, to_z-of_z)
