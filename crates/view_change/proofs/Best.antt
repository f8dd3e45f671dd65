-- The best certificate and the greatest number, as a list grows.
use Rattle.std.proofs.Common.{◌≡◌, ℕ, zero, suc, ◌+◌, ◌-◌, ◌<◌, Bool, true, false, List, [], ◌∷◌, ◌++◌, Option, Some}
use Rattle.std.proofs.Common.{None, filter, map, take, length, get_or, max, refl, sym, ◌∙◌, ap, arith, if◌then◌else◌}
use Rattle.std.proofs.Common.{append-nil, IsTrue, append_assoc, add-one, ◌≤◌}
use Rattle.std.specs.List.{list_all}
use Rattle.std.specs.Option.{IfSome}
use Rattle.std.proofs.lemmas.Bool.{and_parts, cond-true, cond-false}
use Rattle.std.proofs.lemmas.List.{map-append, take_more, take_all, length-map}
use Rattle.std.proofs.lemmas.List.Elements.{filter-append}
use Rattle.std.proofs.lemmas.List.Folds.{list_all-append}
use Rattle.std.proofs.lemmas.Grind.{flat_map-append}
use Rattle.message_types.specs.declared.ordering.Certificate.{Certificate}
use Rattle.message_types.specs.declared.views.Report.{Report}
use Rattle.message_types.specs.declared.views.Plan.{Plan}
use Rattle.quorum_sets.specs.Masters.{numbers_below}
use Rattle.protocol_rules.specs.Words.{best_from, best_by, greatest_of, numbers_from}
use Rattle.protocol_rules.specs.Group.{Group}
use Rattle.protocol_rules.specs.Plans.{goes_before, certificates_of, chosen, planned, base_of, last_of, plan_of}
use Rattle.view_change.specs.Planning.{is_for, is_spelled, are_spelled, best_with}
use Rattle.protocol_rules.proofs.Numbers.{numbers_from-none, numbers_from-more}
use Rattle.protocol_rules.proofs.Greatest.{best_from-push, greatest_of-append}

abbrev pub no_row : ℕ → List ℕ
no_row j = []

some_if : {X : Type 0} (b : Bool) (x y : X) → Some (if b then x else y) ≡ (if b then Some x else Some y)
some_if true x y = refl
some_if false x y = refl

best_by-push : (xs : List Certificate) (s : ℕ) (c : Certificate) → is_for s c ≡ true →
    best_by goes_before (xs ++ c ∷ []) ≡ best_with s (best_by goes_before xs) c
unfolding best_by
best_by-push [] s c e = sym (cond-true (is_for s c) (Some c) None e)
best_by-push (x ∷ xs) s c e =
    ap Some (best_from-push goes_before x xs c) ∙ some_if (goes_before c (best_from goes_before x xs))
    c (best_from goes_before x xs)
    ∙ sym (cond-true (is_for s c) (if goes_before c (best_from goes_before x xs) then Some c else Some
    (best_from goes_before x xs)) (Some (best_from goes_before x xs)) e)

other_passed : (s : ℕ) (o : Option Certificate) (c : Certificate) → is_for s c ≡ false → best_with s o c ≡ o
other_passed s None c e = cond-false (is_for s c) (Some c) None e
other_passed s (Some b) c e = cond-false (is_for s c) (if goes_before c b then Some c else Some b) (Some b) e

pub best-more : (s : ℕ) (before : List Certificate) (o : Option Certificate) (c : Certificate) →
    o ≡ best_by goes_before (filter (is_for s) before)
    → best_with s o c ≡ best_by goes_before (filter (is_for s) (before ++ c ∷ []))
best-more s before o c e = ap (λ p. best_with s p c) e ∙ at (is_for s c) refl
  where
    at : (b : Bool) → is_for s c ≡ b → best_with s (best_by goes_before (filter (is_for s) before))
        c ≡ best_by goes_before (filter (is_for s) (before ++ c ∷ []))
    at true is =
        sym (best_by-push (filter (is_for s) before) s c is)
        ∙ ap (best_by goes_before)
        (sym (filter-append (is_for s) before (c ∷ []) ∙ ap (λ xs. filter (is_for s) before ++ xs)
        (cond-true (is_for s c) (c ∷ []) [] is)))
    at false is =
        other_passed s (best_by goes_before (filter (is_for s) before)) c is
        ∙ ap (best_by goes_before)
        (sym (filter-append (is_for s) before (c ∷ []) ∙ ap (λ xs. filter (is_for s) before ++ xs)
        (cond-false (is_for s c) (c ∷ []) [] is) ∙ append-nil (filter (is_for s) before)))

-- the step of a loop over certificates
pub best-step : (s : ℕ) (before certificates : List Certificate) (i : ℕ) (c : Certificate)
    (o r : Option Certificate) → i < length certificates → c ≡ get_or certificates i c
    → o ≡ best_by goes_before (filter (is_for s) (before ++ take i certificates)) → r ≡ best_with s o c
    → r ≡ best_by goes_before (filter (is_for s) (before ++ take (i + 1) certificates))
best-step s before certificates i c o r within is best now =
    now ∙ best-more s (before ++ take i certificates) o c best
    ∙ ap (λ xs. best_by goes_before (filter (is_for s) xs)) (append_assoc before (take i certificates) (c ∷ [])
    ∙ ap (λ xs. before ++ xs)
    (sym (take_more certificates i c within ∙ ap (λ x. take i certificates ++ x ∷ []) (sym is))))

pub better-spelled : (s : ℕ) (o : Option Certificate) (c : Certificate) → IfSome o (λ c. IsTrue (is_spelled c)) →
    IsTrue (is_spelled c) → IfSome (best_with s o c) (λ c. IsTrue (is_spelled c))
better-spelled s None c old new = at (is_for s c)
  where
    at : (b : Bool) → IfSome (if b then Some c else None) (λ c. IsTrue (is_spelled c))
    at true = new
    at false = tt
better-spelled s (Some best) c old new = at (is_for s c) (goes_before c best)
  where
    at : (b d : Bool) → IfSome (if b then (if d then Some c else Some best) else Some best) (λ c. IsTrue (is_spelled c))
    at true true = new
    at true false = old
    at false d = old

-- a report of a list whose certificates are all spelled
pub report-spelled : (reports : List Report) (i : ℕ) (r : Report) → are_spelled reports ≡ true → i < length reports →
    r ≡ get_or reports i r → list_all is_spelled r.certificates ≡ true
report-spelled [] i r all lt is = absurd (omega arith)
report-spelled (x ∷ rest) zero r all lt is = ap (λ (y : Report). list_all is_spelled y.certificates) is
    ∙ (and_parts (list_all is_spelled x.certificates) (are_spelled rest)
    (sym (list_all-append is_spelled x.certificates (certificates_of rest)) ∙ all)).0
report-spelled (x ∷ rest) (suc i) r all lt is =
    report-spelled rest i r (and_parts (list_all is_spelled x.certificates) (are_spelled rest)
    (sym (list_all-append is_spelled x.certificates (certificates_of rest)) ∙ all)).1 (omega arith) is

-- the certificates of one report more
pub certificates_of-more : (reports : List Report) (i : ℕ) (r : Report) → i < length reports →
    r ≡ get_or reports i r → certificates_of (take i reports) ++ r.certificates ≡ certificates_of (take (i + 1) reports)
certificates_of-more reports i r lt is =
    ap (λ xs. certificates_of (take i reports) ++ xs) (sym (append-nil r.certificates))
    ∙ sym (flat_map-append (λ (x : Report). x.certificates) (take i reports) (r ∷ []))
    ∙ ap certificates_of (sym (take_more reports i r lt ∙ ap (λ x. take i reports ++ x ∷ []) (sym is)))

pub greatest-more : {X : Type 0} (f : X → ℕ) (xs : List X) (i : ℕ) (x : X) (m least now : ℕ) → i < length xs →
    x ≡ get_or xs i x → m ≡ max least (greatest_of (map f (take i xs))) → now ≡ max (f x) m →
    now ≡ max least (greatest_of (map f (take (i + 1) xs)))
greatest-more f xs i x m least now lt is so_far more =
    let all : map f (take (i + 1) xs) ≡ map f (take i xs) ++ f x ∷ [] =
    ap (map f) (take_more xs i x lt ∙ ap (λ y. take i xs ++ y ∷ []) (sym is)) ∙ map-append f (take i xs) (x ∷ []) in
    let joined : greatest_of (map f (take (i + 1) xs)) ≡ max (greatest_of (map f (take i xs)))
    (greatest_of (f x ∷ [])) = ap greatest_of all ∙ greatest_of-append (map f (take i xs)) (f x ∷ []) in
    let last : greatest_of (f x ∷ []) ≡ f x = omega arith in
    omega arith

pub last-more : (reports : List Report) (i : ℕ) (r : Report) (m now : ℕ) → i < length reports →
    r ≡ get_or reports i r → m ≡ greatest_of (map (λ c. c.s) (certificates_of (take i reports)))
    → now ≡ max m (greatest_of (map (λ c. c.s) r.certificates)) →
    now ≡ greatest_of (map (λ c. c.s) (certificates_of (take (i + 1) reports)))
last-more reports i r m now lt is so_far more =
    more ∙ ap (λ k. max k (greatest_of (map (λ c. c.s) r.certificates))) so_far
    ∙ sym (greatest_of-append (map (λ c. c.s) (certificates_of (take i reports))) (map (λ c. c.s) r.certificates))
    ∙ ap greatest_of (sym (map-append (λ (c : Certificate). c.s) (certificates_of (take i reports)) r.certificates))
    ∙ ap (λ xs. greatest_of (map (λ c. c.s) xs)) (certificates_of-more reports i r lt is)

pub best-start : (s : ℕ) → None ≡ best_by goes_before (filter (is_for s) [])
unfolding best_by
best-start s = refl

-- what the rules choose
pub chosen-is : (reports : List Report) (s : ℕ) →
    best_by goes_before (filter (is_for s) (certificates_of reports)) ≡ chosen reports s
unfolding chosen
chosen-is reports s = refl

pub plan-start : (g : Group) (reports : List Report) (base : ℕ) → [] ≡ map (planned g reports) (numbers_from base 0)
plan-start g reports base = ap (map (planned g reports)) (sym (numbers_from-none base))

pub plan-more : (g : Group) (reports : List Report) (base step : ℕ) (rows : List (List (List ℕ)))
    (next : List (List ℕ)) → rows ≡ map (planned g reports) (numbers_from (base + 1) step) →
    next ≡ planned g reports (base + 1 + step)
    → rows ++ next ∷ [] ≡ map (planned g reports) (numbers_from (base + 1) (step + 1))
plan-more g reports base step rows next so_far more =
    ap (λ xs. xs ++ next ∷ []) so_far ∙ ap (λ x. map (planned g reports) (numbers_from (base + 1) step) ++ x ∷ []) more
    ∙ sym (map-append (planned g reports) (numbers_from (base + 1) step) ((base + 1 + step) ∷ []))
    ∙ ap (map (planned g reports)) (sym (numbers_from-more (base + 1) step))

abbrev pub plan_with : ℕ → List (List (List ℕ)) → Plan
plan_with base rows = record { base = base; rows = rows }

pub plan-is : (g : Group) (reports : List Report) (base last count : ℕ) (rows : List (List (List ℕ))) →
    base ≡ base_of reports → last ≡ last_of reports → count ≡ last - base →
    rows ≡ map (planned g reports) (numbers_from (base + 1) count)
    → plan_with base rows ≡ plan_of g reports
unfolding plan_of
plan-is g reports base last count rows b l many made =
    let all : rows ≡ map (planned g reports) (numbers_from (base_of reports + 1) (last_of reports - base_of reports)) =
    made ∙ ap (λ n. map (planned g reports) (numbers_from (base + 1) n)) (many ∙ ap (λ n. n - base) l)
    ∙ ap (λ n. map (planned g reports) (numbers_from (n + 1) (last_of reports - n))) b in
    ap (λ n. plan_with n rows) b ∙ ap (plan_with (base_of reports)) all

pub empty_rows-start : [] ≡ map no_row (numbers_below 0)
unfolding numbers_below
empty_rows-start = refl

pub empty_rows-more : (rows : List (List ℕ)) (n : ℕ) → rows ≡ map no_row (numbers_below n) →
    rows ++ [] ∷ [] ≡ map no_row (numbers_below (n + 1))
unfolding numbers_below
empty_rows-more rows n so_far = ap (λ xs. xs ++ [] ∷ []) so_far ∙ sym (map-append no_row (numbers_below n) (n ∷ []))
    ∙ ap (λ k. map no_row (numbers_below k)) (sym (add-one n))

-- elements of a list that is made of another's
pub below_mapped : {X Y : Type 0} (f : X → Y) (xs : List X) (i : ℕ) → i < length xs → i < length (map f xs)
below_mapped f xs i lt = let same : length (map f xs) ≡ length xs = length-map xs f in omega arith

pub take_all_mapped : {X Y : Type 0} (f : X → Y) (xs : List X) (n : ℕ) → length xs ≤ n → take n (map f xs) ≡ map f xs
take_all_mapped f xs n le = let same : length (map f xs) ≡ length xs = length-map xs f in
    take_all n (map f xs) (omega arith)

pub all_bases : {X : Type 0} (f : X → Report) (xs : List X) (n : ℕ) → length xs ≤ n →
    max 0 (greatest_of (map (λ r. r.base) (take n (map f xs)))) ≡ base_of (map f xs)
all_bases f xs n le =
    let all : greatest_of (map (λ (r : Report). r.base) (take n (map f xs))) ≡ base_of (map f xs) =
    ap (λ (rs : List Report). greatest_of (map (λ r. r.base) rs)) (take_all_mapped f xs n le) in
    omega arith

pub map_itself : {X : Type 0} (xs : List X) → map (λ x. x) xs ≡ xs
map_itself [] = refl
map_itself (x ∷ xs) = ap (λ ys. x ∷ ys) (map_itself xs)
