-- The least name of many tables, table by table.
use Rattle.std.proofs.Common.{◌≡◌, ℕ, suc, ◌+◌, ◌<◌, ◌≤◌, List, [], ◌∷◌, ◌++◌, length, map, drop, get_or, refl, sym}
use Rattle.std.proofs.Common.{◌∙◌, ap, arith, Bool, true, false, cond, Result, Ok, Err, Option, Some, None}
use Rattle.std.specs.Prelude.{codes}
use Rattle.std.specs.List.{list_any}
use Rattle.std.specs.Str.{bytes_eq}
use Rattle.toml.specs.Data.{Data, Members, member}
use Rattle.scenario_file.specs.declared.refusal.ScenarioRefusal.{ScenarioRefusal}
use Rattle.scenario_file.specs.declared.unknown.Kind.{Kind}
use Rattle.scenario_file.specs.declared.unknown.Kind.TheVariants as kind
use Rattle.scenario_file.specs.Answers.{◌>>=◌}
use Rattle.std.proofs.lemmas.List.{drop_all}
use Rattle.scenario_file.specs.Lists.{row_name, rows_at}
use Rattle.scenario_file.specs.Unknown.{keys_of, unknown_in, unknown_rows, unknown_at, lesser, least_of}
use Rattle.scenario_file.specs.Unknown.{first_unknown}
use Rattle.scenario_file.specs.Folding.{least_with, least_among, least_at, least_unknown}
use Rattle.plain_lists.proofs.Lists.{left_more}

pub least_of-append : (best : Option (List ℕ)) (xs ys : List (List ℕ)) →
    least_of best (xs ++ ys) ≡ least_of (least_of best xs) ys
least_of-append best [] ys = refl
least_of-append best (x ∷ xs) ys = least_of-append (Some (lesser best x)) xs ys

by-test : (known : Bool) (best : Option (List ℕ)) (name : List ℕ) (rest : List (List ℕ)) →
    least_of best (cond known rest (name ∷ rest)) ≡ least_of (cond known best (Some (lesser best name))) rest
by-test true best name rest = refl
by-test false best name rest = refl

-- one key more
pub least-member : (what : Kind) (at : List ℕ) (best : Option (List ℕ)) (k : List ℕ) (d : Data) (ms : Members) →
    least_of best (unknown_in what at (member k d ms)) ≡ least_of (least_with what at best k) (unknown_in what at ms)
least-member what at best k d ms = by-test (list_any (bytes_eq k) (keys_of what)) best (at ++ k) (unknown_in what at ms)

-- one row more
pub least-row : {X : Type 0} (what : Kind) (key : List ℕ) (show : X → Members) (xs : List X) (i : ℕ) (x : X)
    (best after : Option (List ℕ)) (all : Option (List ℕ))
    → i < length xs → x ≡ get_or xs i x → least_of best (unknown_rows what key i (map show (drop i xs))) ≡ all →
    after ≡ least_of best (unknown_in what (row_name key i) (show x))
    → least_of after (unknown_rows what key (i + 1) (map show (drop (i + 1) xs))) ≡ all
least-row what key show xs i x best after all inside is so_far here =
    let whole = rw (left_more xs i x inside is) at so_far in
    let later : i + 1 ≡ suc i = omega arith in
    ap (λ b. least_of b (unknown_rows what key (i + 1) (map show (drop (i + 1) xs)))) here
    ∙ ap (λ j. least_of (least_of best (unknown_in what (row_name key i) (show x)))
    (unknown_rows what key j (map show (drop (i + 1) xs)))) later
    ∙ sym (least_of-append best (unknown_in what (row_name key i) (show x))
    (unknown_rows what key (suc i) (map show (drop (i + 1) xs)))) ∙ whole

abbrev answer : Option (List ℕ) → Result (Option (List ℕ)) ScenarioRefusal
answer found = Ok found

-- the least of all names is found list by list
all-lists : (ns : List (List ℕ)) (r1 r2 r3 r4 r5 : Result (List (List ℕ)) ScenarioRefusal)
    → (r1 >>= (λ a. r2 >>= (λ b. r3
    >>= (λ c. r4 >>= (λ d. r5 >>= (λ e. Ok (least_of None (ns ++ a ++ b ++ c ++ d ++ e))))))))
    ≡ (least_among (least_of None ns) r1
    >>= (λ a. least_among a r2 >>= (λ b. least_among b r3 >>= (λ c. least_among c r4 >>= (λ d. least_among d r5)))))
all-lists ns (Err x) r2 r3 r4 r5 = refl
all-lists ns (Ok a) (Err x) r3 r4 r5 = refl
all-lists ns (Ok a) (Ok b) (Err x) r4 r5 = refl
all-lists ns (Ok a) (Ok b) (Ok c) (Err x) r5 = refl
all-lists ns (Ok a) (Ok b) (Ok c) (Ok d) (Err x) = refl
all-lists ns (Ok a) (Ok b) (Ok c) (Ok d) (Ok e) =
    ap (λ (found : Option (List ℕ)). answer found)
    (least_of-append None (ns ++ a ++ b ++ c ++ d) e
    ∙ ap (λ (found : Option (List ℕ)). least_of found e) (least_of-append None (ns ++ a ++ b ++ c) d)
    ∙ ap (λ (found : Option (List ℕ)). least_of (least_of found d) e) (least_of-append None (ns ++ a ++ b) c)
    ∙ ap (λ (found : Option (List ℕ)). least_of (least_of (least_of found c) d) e) (least_of-append None (ns ++ a) b)
    ∙ ap (λ (found : Option (List ℕ)). least_of (least_of (least_of (least_of found b) c) d) e)
    (least_of-append None ns a))

pub first-unknown : (doc : Members) → first_unknown doc ≡ least_unknown doc
unfolding first_unknown least_unknown least_at
first-unknown doc = all-lists (unknown_in kind.Document [] doc) (unknown_at kind.Proxy (codes "proxy") doc)
    (unknown_at kind.Point (codes "point") doc) (unknown_at kind.Alarm (codes "alarm") doc)
    (unknown_at kind.Interlock (codes "interlock") doc) (unknown_at kind.Keeper (codes "keeper") doc)

-- no row is left
pub least-rows-end : {X : Type 0} (what : Kind) (key : List ℕ) (show : X → Members) (xs : List X) (i : ℕ)
    (best all : Option (List ℕ)) → length xs ≤ i →
    least_of best (unknown_rows what key i (map show (drop i xs))) ≡ all → best ≡ all
least-rows-end what key show xs i best all end so_far = rw (drop_all i xs end) at so_far

pub least_at-read : (what : Kind) (key : List ℕ) (best : Option (List ℕ)) (doc : Members) (ts : List Members)
    (after : Option (List ℕ)) → rows_at key None doc ≡ Ok ts → after ≡ least_of best (unknown_rows what key 0 ts) →
    least_at what key best doc ≡ Ok after
unfolding least_at unknown_at
least_at-read what key best doc ts after read least = rw (read, least) refl
