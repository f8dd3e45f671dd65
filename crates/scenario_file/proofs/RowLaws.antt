-- How many rows there are, and what holds of each.
use Rattle.std.proofs.Common.{◌≡◌, ℕ, zero, suc, ◌+◌, ◌≤◌, nat_lt, Bool, true, false, List, [], ◌∷◌, ◌++◌, length}
use Rattle.std.proofs.Common.{length-append, refl, ap, subst, arith, Result, Ok, Err, Option, Some}
use Rattle.std.specs.List.{AllByRecursion}
use Rattle.std.specs.Prelude.{All, if◌then◌else◌}
use Rattle.std.proofs.lemmas.Bool.{ltb-false}
use Rattle.toml.specs.Data.{Data, Members, array, no_items, as_array}
use Rattle.scenario_file.specs.declared.refusal.ScenarioRefusal.{ScenarioRefusal}
use Rattle.scenario_file.specs.declared.refusal.ScenarioRefusal.TheVariants as refusal
use Rattle.scenario_file.specs.Answers.{bad, or_bad}
use Rattle.scenario_file.specs.Values.{or_default}
use Rattle.scenario_file.specs.Lists.{list_of, is_above, sized, list_in, gathered, table_in, rows_at, row_name}
use Rattle.scenario_file.specs.Lists.{rows_of}
use Rattle.scenario_file.proofs.Steps.{then-ok, ok-same}

pub all-push : {A : Type 0} (P : A → Type 0) (xs : List A) (x : A) → AllByRecursion P xs → P x →
    AllByRecursion P (xs ++ x ∷ [])
all-push P [] x all one = (one, tt)
all-push P (y ∷ ys) x all one = (all.0, all-push P ys x all.1 one)

-- each of a list, by its place
pub all-at : {A : Type 0} (P : A → Type 0) (xs : List A) → AllByRecursion P xs → All P xs
all-at P [] all k d h = absurd (omega arith)
all-at P (x ∷ xs) all zero d h = all.0
all-at P (x ∷ xs) all (suc k) d h = all-at P xs all.1 k d (omega arith)

-- as many elements are gathered as there are
pub gathered-length : {D A : Type 0} (next : List A → D → Result A ScenarioRefusal) (before : List A) (ds : List D)
    (xs : List A) → gathered next before ds ≡ Ok xs → length xs ≡ length before + length ds
gathered-length next before [] xs h = let same = ap length (ok-same before xs h) in omega arith
gathered-length next before (d ∷ ds) xs h =
    let (x, here, more) = then-ok (next before d) _ xs h in
    let rest = gathered-length next (before ++ x ∷ []) ds xs more in
    let grown = length-append before (x ∷ []) in omega arith

-- what holds of each element that is read holds of all
pub gathered-all : {D A : Type 0} (P : A → Type 0) (next : List A → D → Result A ScenarioRefusal) →
    ((before : List A) (d : D) (x : A) → next before d ≡ Ok x → P x) → (before : List A) (ds : List D) (xs : List A) →
    AllByRecursion P before → gathered next before ds ≡ Ok xs → AllByRecursion P xs
gathered-all P next good before [] xs all h = subst (AllByRecursion P) (ok-same before xs h) all
gathered-all P next good before (d ∷ ds) xs all h =
    let (x, here, more) = then-ok (next before d) _ xs h in
    gathered-all P next good (before ++ x ∷ []) ds xs (all-push P before x all (good before d x here)) more

-- what each element that is read keeps of those before it holds of the whole list
pub gathered-keeps : {D A : Type 0} (P : List A → Type 0) (next : List A → D → Result A ScenarioRefusal) →
    ((before : List A) (d : D) (x : A) → P before → next before d ≡ Ok x → P (before ++ x ∷ []))
    → (before : List A) (ds : List D) (xs : List A) → P before → gathered next before ds ≡ Ok xs → P xs
gathered-keeps P next keeps before [] xs so_far h = subst P (ok-same before xs h) so_far
gathered-keeps P next keeps before (d ∷ ds) xs so_far h =
    let (x, here, more) = then-ok (next before d) _ xs h in
    gathered-keeps P next keeps (before ++ x ∷ []) ds xs (keeps before d x so_far here) more

-- a list that is neither too short nor too long
two-tests : {A : Type 0} (name : List ℕ) (short long : Bool) (x y : A) →
    (if short then bad name else if long then Err (refusal.TooMany name) else Ok x) ≡ Ok y →
    (short ≡ false) × (long ≡ false) × (x ≡ y)
two-tests name true long x y h = absurd (cc)
two-tests name false true x y h = absurd (cc)
two-tests name false false x y h = (refl, refl, ok-same x y h)

pub sized-ok : (name : List ℕ) (fewest : ℕ) (most : Option ℕ) (ds es : List Data) →
    sized name fewest most ds ≡ Ok es → (fewest ≤ length es) × (is_above most (length es) ≡ false)
sized-ok name fewest most ds es h =
    let (short, long, same) = two-tests name (nat_lt (length ds) fewest) (is_above most (length ds)) ds es h in
    subst (λ (xs : List Data). (fewest ≤ length xs) × (is_above most (length xs) ≡ false)) same
    (ltb-false (length ds) fewest short, long)

pub list_in-ok : (name : List ℕ) (fewest : ℕ) (most : Option ℕ) (d : Data) (ds : List Data) →
    list_in name fewest most d ≡ Ok ds → (fewest ≤ length ds) × (is_above most (length ds) ≡ false)
unfolding list_in
list_in-ok name fewest most d ds h =
    let (items, there, tested) = then-ok (or_bad name (as_array d)) _ ds h in
    sized-ok name fewest most (list_of items) ds tested

pub at-most : (m n : ℕ) → is_above (Some m) n ≡ false → n ≤ m
at-most m n h = ltb-false m n h

pub rows_at-few : (key : List ℕ) (m : ℕ) (doc : Members) (ts : List Members) →
    rows_at key (Some m) doc ≡ Ok ts → length ts ≤ m
unfolding rows_at
rows_at-few key m doc ts h =
    let (ds, listed, read) = then-ok (list_in key 0 (Some m) (or_default key (array no_items) doc)) _ ts h in
    let few = at-most m (length ds) (list_in-ok key 0 (Some m) (or_default key (array no_items) doc) ds listed).1 in
    let as_many = gathered-length (table_in key) [] ds ts read in omega arith

pub rows_of-few : {A : Type 0} (row : List A → List ℕ → Members → Result A ScenarioRefusal) (key : List ℕ) (m : ℕ)
    (doc : Members) (xs : List A) → rows_of row key (Some m) doc ≡ Ok xs → length xs ≤ m
unfolding rows_of
rows_of-few row key m doc xs h =
    let (ts, listed, read) = then-ok (rows_at key (Some m) doc) _ xs h in
    let few = rows_at-few key m doc ts listed in
    let as_many = gathered-length (λ before t. row before (row_name key (length before)) t) [] ts xs read in omega arith

pub rows_of-all : {A : Type 0} (P : A → Type 0) (row : List A → List ℕ → Members → Result A ScenarioRefusal)
    (key : List ℕ) (most : Option ℕ) (doc : Members) (xs : List A) →
    ((before : List A) (at : List ℕ) (t : Members) (x : A) → row before at t ≡ Ok x → P x) →
    rows_of row key most doc ≡ Ok xs → AllByRecursion P xs
unfolding rows_of
rows_of-all P row key most doc xs good h =
    let (ts, listed, read) = then-ok (rows_at key most doc) _ xs h in
    gathered-all P (λ before t. row before (row_name key (length before)) t)
    (λ before t x here. good before (row_name key (length before)) t x here) [] ts xs tt read

pub rows_of-keeps : {A : Type 0} (P : List A → Type 0) (row : List A → List ℕ → Members → Result A ScenarioRefusal)
    (key : List ℕ) (most : Option ℕ) (doc : Members) (xs : List A) → P []
    → ((before : List A) (at : List ℕ) (t : Members) (x : A) → P before → row before at t ≡ Ok x →
    P (before ++ x ∷ [])) → rows_of row key most doc ≡ Ok xs → P xs
unfolding rows_of
rows_of-keeps P row key most doc xs none keeps h =
    let (ts, listed, read) = then-ok (rows_at key most doc) _ xs h in
    gathered-keeps P (λ before t. row before (row_name key (length before)) t)
    (λ before t x so_far here. keeps before (row_name key (length before)) t x so_far here) [] ts xs none read
