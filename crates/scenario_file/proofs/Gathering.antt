-- Lists read element by element, and refusals that are passed on.
use Rattle.std.proofs.Common.{◌≡◌, ℕ, ◌+◌, ◌≤◌, ◌<◌, List, [], ◌∷◌, ◌++◌, length, map, get_or, drop, refl, sym, ap}
use Rattle.std.proofs.Common.{subst, Result, Ok, Err, Option, Some, None}
use Rattle.std.proofs.lemmas.List.{drop_all, map-append, length-map}
use Rattle.toml.specs.Data.{Data, as_array}
use Rattle.toml.specs.View.{view, items_of, items_view}
use Rattle.toml.specs.declared.value.Value.{Value}
use Rattle.scenario_file.specs.declared.refusal.ScenarioRefusal.{ScenarioRefusal}
use Rattle.scenario_file.specs.declared.refusal.ScenarioRefusal.TheVariants as refusal
use Rattle.scenario_file.specs.Answers.{◌>>=◌, Refuses, Answers, Shows, bad}
use Rattle.scenario_file.specs.Lists.{gathered, list_of, list_in, sized}
use Rattle.plain_lists.proofs.Lists.{left_more}

-- what a step refuses, all that begins with it refuses
pub refused-then : {A B : Type 0} (e : ScenarioRefusal) (r : Result A ScenarioRefusal)
    (next : A → Result B ScenarioRefusal) → Refuses e r → Refuses e (r >>= next)
refused-then refusal.BadToml r next h = rw h refl
refused-then (refusal.MissingKey name) r next h = rw h refl
refused-then (refusal.BadValue name) r next h = rw h refl
refused-then (refusal.TooMany name) r next h = rw h refl
refused-then (refusal.UnknownKey name) r next h = rw h refl
refused-then refusal.Want r next h = tt

-- a fault, as an answer of another type
abbrev turned : {A B : Type 0} → Result A ScenarioRefusal → Result B ScenarioRefusal
turned (Ok x) = Err refusal.Want
turned (Err e) = Err e

pub refused-as : (A B : Type 0) (e fault : ScenarioRefusal) → Refuses {A = A} e (Err fault) →
    Refuses {A = B} e (Err fault)
refused-as A B refusal.BadToml fault h = ap (turned {A = A} {B = B}) h
refused-as A B (refusal.MissingKey name) fault h = ap (turned {A = A} {B = B}) h
refused-as A B (refusal.BadValue name) fault h = ap (turned {A = A} {B = B}) h
refused-as A B (refusal.TooMany name) fault h = ap (turned {A = A} {B = B}) h
refused-as A B (refusal.UnknownKey name) fault h = ap (turned {A = A} {B = B}) h
refused-as A B refusal.Want fault h = tt

-- a fault that an answer names, it names as a value of another type too
pub shown-fault : {A B : Type 0} (show : A → B) (r : Result A ScenarioRefusal) (fault : ScenarioRefusal) →
    Answers r (Err fault) → Shows show r (Err fault)
shown-fault show (Ok x) fault h = absurd (cc)
shown-fault {A = A} {B = B} show (Err e) fault h = refused-as A B e fault h

pub list_of-items_of : (ds : List Data) → list_of (items_of ds) ≡ ds
list_of-items_of [] = refl
list_of-items_of (d ∷ ds) = ap (λ (rest : List Data). d ∷ rest) (list_of-items_of ds)

-- one element more is read
pub gathered-more : {X D A : Type 0} (next : List A → D → Result A ScenarioRefusal) (show : X → D) (xs : List X)
    (i : ℕ) (x : X) (before : List A) (a : A) (all : Result (List A) ScenarioRefusal)
    → i < length xs → x ≡ get_or xs i x → gathered next before (map show (drop i xs)) ≡ all →
    next before (show x) ≡ Ok a → gathered next (before ++ a ∷ []) (map show (drop (i + 1) xs)) ≡ all
gathered-more next show xs i x before a all inside is so_far here =
    let whole = rw (left_more xs i x inside is) at so_far in rw here at whole

-- an element is refused
pub gathered-refused : {X D A : Type 0} (next : List A → D → Result A ScenarioRefusal) (show : X → D) (xs : List X)
    (i : ℕ) (x : X) (before : List A) (all : Result (List A) ScenarioRefusal) (e : ScenarioRefusal)
    → i < length xs → x ≡ get_or xs i x → gathered next before (map show (drop i xs)) ≡ all →
    Refuses e (next before (show x)) → Refuses e all
gathered-refused next show xs i x before all e inside is so_far here =
    let whole = rw (left_more xs i x inside is) at so_far in
    subst (Refuses e) whole (refused-then e (next before (show x)) _ here)

-- no element is left
pub gathered-end : {X D A : Type 0} (next : List A → D → Result A ScenarioRefusal) (show : X → D) (xs : List X)
    (i : ℕ) (before : List A) (all : Result (List A) ScenarioRefusal)
    → length xs ≤ i → gathered next before (map show (drop i xs)) ≡ all → all ≡ Ok before
gathered-end next show xs i before all end so_far = sym (rw (drop_all i xs end) at so_far)

-- the same where what is read is seen as values of another type
pub gathered-shown : {X D A B : Type 0} (next : List B → D → Result B ScenarioRefusal) (show : X → D) (see : A → B)
    (xs : List X) (i : ℕ) (x : X) (before : List A) (a : A) (all : Result (List B) ScenarioRefusal)
    → i < length xs → x ≡ get_or xs i x → gathered next (map see before) (map show (drop i xs)) ≡ all →
    next (map see before) (show x) ≡ Ok (see a) →
    gathered next (map see (before ++ a ∷ [])) (map show (drop (i + 1) xs)) ≡ all
gathered-shown next show see xs i x before a all inside is so_far here =
    rw (map-append see before (a ∷ []))
    (gathered-more next show xs i x (map see before) (see a) all inside is so_far here)

pub length_of_view : (vs : List Value) → length (map view vs) ≡ length vs
length_of_view vs = length-map vs view

-- the list that an array is
pub list_in-array : (name : List ℕ) (fewest : ℕ) (most : Option ℕ) (d : Data) (vs : List Value) →
    Some (items_view vs) ≡ as_array d → list_in name fewest most d ≡ sized name fewest most (map view vs)
unfolding list_in
list_in-array name fewest most d vs is = rw (← is, list_of-items_of (map view vs)) refl

-- what is no array
pub list_in-other : (name : List ℕ) (fewest : ℕ) (most : Option ℕ) (d : Data) → None ≡ as_array d →
    list_in name fewest most d ≡ bad name
unfolding list_in
list_in-other name fewest most d is = rw (← is) refl
