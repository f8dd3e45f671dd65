-- Bounds of what the rules count: numbers in lists, greatest numbers, runs, members of sorted lists.
use Rattle.std.proofs.Common.{◌≡◌, ℕ, ◌+◌, ◌*◌, ◌<◌, ◌≤◌, zero, suc, max, Bool, true, false, cond, List, [], ◌∷◌}
use Rattle.std.proofs.Common.{◌++◌, Option, Some, None, length, length-append, filter, reverse, nat_le, refl, sym}
use Rattle.std.proofs.Common.{◌∙◌, ap, subst, inl, inr, ◌⊎◌, arith}
use Rattle.std.specs.Prelude.{nat_lt, slice_get, slice_index}
use Rattle.std.specs.List.{list_all}
use Rattle.std.specs.Str.{bytes_eq}
use Rattle.std.proofs.lemmas.Bool.{and_from, and_parts, leb-true, ltb-true, le-leb, cases_lt}
use Rattle.std.proofs.lemmas.List.{reverse-append}
use Rattle.std.proofs.lemmas.List.Elements.{filter-append}
use Rattle.std.proofs.lemmas.Slice.Eq.{bytes_eq-Decides}
use Rattle.plain_lists.specs.Lists.{IsIn, here, there, Each}
use Rattle.plain_lists.proofs.Members.{none_in, in_cons_cases, each_none, each_one, each_append, each_if, all_at, none_some, some_same}
use Rattle.protocol_rules.specs.Words.{greatest_of, run_from, numbers_from, in_order, put_in_order}
use Rattle.protocol_rules.specs.Group.{Group, most_number, most_view}
use Rattle.protocol_rules.specs.Places.{is_number, is_view, in_place, word_in_place}
use Rattle.protocol_rules.specs.Views.{view, view_shown, is_suspected}
use Rattle.protocol_rules.proofs.Greatest.{or_zero}
use Rattle.message_types.specs.declared.signed.Signed.{Signed}
use Rattle.message_types.specs.declared.body.Body.{Body}
use Rattle.message_types.specs.declared.body.Body.TheVariants as body
use Rattle.agreement.specs.Laws.{HasSizes}
use Rattle.agreement.proofs.QuorumsStay.{each_below}

-- a test that holds of each member, as a test and as a fact
pub all_from : {X : Type 0} (f : X → Bool) (xs : List X) → Each (λ x. f x ≡ true) xs → list_all f xs ≡ true
all_from f [] h = refl
all_from f (x ∷ xs) h = and_from (f x) (list_all f xs) (h x (here xs)) (all_from f xs (λ y k. h y (there x xs k)))

pub all_each : {X : Type 0} (f : X → Bool) (xs : List X) → list_all f xs ≡ true → Each (λ x. f x ≡ true) xs
all_each f xs e x h = all_at f h e

pub each_as : {X : Type 0} (P Q : X → Type 0) (xs : List X) → ((x : X) → P x → Q x) → Each P xs → Each Q xs
each_as P Q xs turn h x k = turn x (h x k)

pub same_bytes : (a b : List ℕ) → a ≡ b → bytes_eq a b ≡ true
same_bytes a b e = (bytes_eq-Decides a b).1 e

pub number_from : (x : ℕ) → 1 ≤ x → x ≤ most_number → is_number x ≡ true
number_from x low high = and_from (nat_le 1 x) (nat_le x most_number) (le-leb 1 x low) (le-leb x most_number high)

pub number_bounds : (x : ℕ) → is_number x ≡ true → (1 ≤ x) × (x ≤ most_number)
number_bounds x h = let both = and_parts (nat_le 1 x) (nat_le x most_number) h in
    (leb-true 1 x both.0, leb-true x most_number both.1)

pub from_bounds : (start count s : ℕ) → IsIn s (numbers_from start count) → (start ≤ s) × (s < start + count)
unfolding numbers_from
from_bounds start zero s h = absurd (none_in h)
from_bounds start (suc count) s h = elim (in_cons_cases h) [
  | inl e ↦ (omega arith, omega arith)
  | inr later ↦
      let deeper = from_bounds (suc start) count s later in
      let low : suc start ≤ s = deeper.0 in
      let high : s < suc start + count = deeper.1 in
      (omega arith, omega arith)
]

pub number_in : (most s : ℕ) → most ≤ most_number → IsIn s (numbers_from 1 most) → is_number s ≡ true
number_in most s few h =
    let bounds = from_bounds 1 most s h in
    let low : 1 ≤ s = bounds.0 in
    let high : s < 1 + most = bounds.1 in
    number_from s low (omega arith)

-- what is shown where a test holds is low where the number is
pub shown_low : (b : Bool) (s most : ℕ) → s ≤ most → or_zero (cond b (Some s) None) ≤ most
shown_low true s most low = low
shown_low false s most low = omega arith

-- a frame in its place shows a view that there is
shown_within : (g : Group) (known : List (Signed Body)) (signer : ℕ) (word : Body) (sig : List ℕ) →
    in_place g record { signer = signer; body = word; sig = sig } ≡ true
    → or_zero (view_shown g known record { signer = signer; body = word; sig = sig }) ≤ most_view
shown_within g known signer (body.Suspect b) sig placed =
    let low : b.v < most_view =
    ltb-true b.v most_view (and_parts (nat_lt signer g.n) (nat_lt b.v most_view) placed).1 in
    shown_low (is_suspected g known b.v) (b.v + 1) most_view (omega arith)
shown_within g known signer (body.NewView b) sig placed =
    let word = (and_parts (nat_lt signer g.n) (word_in_place g signer (body.NewView b)) placed).1 in
    leb-true b.v most_view (and_parts _ _ (and_parts _ _ (and_parts _ _ (and_parts _ _ word).0).0).0).1
shown_within g known signer _ sig placed = omega arith

pub view_within : (g : Group) (known : List (Signed Body)) → Each (λ p. in_place g p ≡ true) known →
    is_view (view g known) ≡ true
unfolding view
view_within g known placed =
    le-leb _ most_view (each_below (view_shown g known) most_view known
    (λ f h. shown_within g known f.signer f.body f.sig (placed f h)))

-- each member of a run is what the function gives of a number
pub each_run : {X : Type 0} (P : X → Type 0) (f : ℕ → Option X) → ((s : ℕ) (x : X) → f s ≡ Some x → P x) →
    (start most : ℕ) → Each P (run_from f start most)
unfolding run_from
each_run P f given start zero = each_none P
each_run {X} P f given start (suc most) = by_found (f start) refl (each_run P f given (suc start) most)
  where
    by_found : (o : Option X) → f start ≡ o → Each P (run_from f (suc start) most) →
        Each P (elim o [ None ↦ [] | Some x ↦ x ∷ run_from f (suc start) most ])
    by_found None e later = each_none P
    by_found (Some y) e later = each_append P (y ∷ []) (run_from f (suc start) most)
        (each_one P y (given start y e)) later

pub greatest_in : {x : ℕ} (xs : List ℕ) → IsIn x xs → IsIn (greatest_of xs) xs
greatest_in [] h = absurd (none_in h)
greatest_in (y ∷ []) h = subst (λ (z : ℕ). IsIn z (y ∷ [])) (omega arith) (here [])
greatest_in (y ∷ z ∷ rest) h = by_order (cases_lt y (greatest_of (z ∷ rest))) (greatest_in (z ∷ rest) (here rest))
  where
    by_order : (y < greatest_of (z ∷ rest)) ⊎ (greatest_of (z ∷ rest) ≤ y) →
        IsIn (greatest_of (z ∷ rest)) (z ∷ rest) → IsIn (max y (greatest_of (z ∷ rest))) (y ∷ z ∷ rest)
    by_order (inl less) deeper =
        let same : greatest_of (z ∷ rest) ≡ max y (greatest_of (z ∷ rest)) = omega arith in
        subst (λ (x : ℕ). IsIn x (y ∷ z ∷ rest)) same (there y (z ∷ rest) deeper)
    by_order (inr more) deeper =
        let same : y ≡ max y (greatest_of (z ∷ rest)) = omega arith in
        subst (λ (x : ℕ). IsIn x (y ∷ z ∷ rest)) same (here (z ∷ rest))

pub greatest_of-within : (most : ℕ) (xs : List ℕ) → Each (λ x. x ≤ most) xs → greatest_of xs ≤ most
greatest_of-within most [] h = omega arith
greatest_of-within most (x ∷ xs) h =
    let first : x ≤ most = h x (here xs) in
    let rest : greatest_of xs ≤ most = greatest_of-within most xs (λ y k. h y (there x xs k)) in
    omega arith

put_each : (P : ℕ → Type 0) (x : ℕ) (xs : List ℕ) → P x → Each P xs → Each P (put_in_order x xs)
put_each P x [] p h = each_one P x p
put_each P x (y ∷ rest) p h = each_if P (nat_le x y) (x ∷ y ∷ rest) (y ∷ put_in_order x rest)
    (λ _. each_append P (x ∷ []) (y ∷ rest) (each_one P x p) h)
    (λ _. each_append P (y ∷ []) (put_in_order x rest) (each_one P y (h y (here rest)))
    (put_each P x rest p (λ z k. h z (there y rest k))))

pub each_in_order : (P : ℕ → Type 0) (xs : List ℕ) → Each P xs → Each P (in_order xs)
unfolding in_order
each_in_order P [] h = h
each_in_order P (x ∷ xs) h = put_each P x (in_order xs) (h x (here xs)) (each_in_order P xs (λ y k. h y (there x xs k)))

pub each_reverse : {X : Type 0} (P : X → Type 0) (xs : List X) → Each P xs → Each P (reverse xs)
each_reverse P [] h = h
each_reverse {X} P (x ∷ xs) h = subst (λ (ys : List X). Each P ys) (sym (reverse-append (x ∷ []) xs))
    (each_append P (reverse xs) (x ∷ []) (each_reverse P xs (λ y k. h y (there x xs k))) (each_one P x (h x (here xs))))

pub index_within : (most : ℕ) (xs : List ℕ) (i : ℕ) → Each (λ x. x ≤ most) xs → slice_index xs i ≤ most
index_within most [] i h = omega arith
index_within most (x ∷ xs) zero h = h x (here xs)
index_within most (x ∷ xs) (suc i) h = index_within most xs i (λ y k. h y (there x xs k))

filter_last : {X : Type 0} (f : X → Bool) (x : X) → length (filter f (x ∷ [])) ≡ cond (f x) 1 0
filter_last {X} f x = by_test (f x)
  where
    by_test : (b : Bool) → length {A = X} (cond b (x ∷ []) []) ≡ cond b 1 0
    by_test true = refl
    by_test false = refl

-- how many pass, of a list with one more at its end
pub filter_more : {X : Type 0} (f : X → Bool) (xs : List X) (x : X) →
    length (filter f (xs ++ x ∷ [])) ≡ length (filter f xs) + cond (f x) 1 0
filter_more f xs x = ap length (filter-append f xs (x ∷ [])) ∙ length-append (filter f xs) (filter f (x ∷ []))
    ∙ ap (λ k. length (filter f xs) + k) (filter_last f x)

pub slice_in : {X : Type 0} {x : X} (xs : List X) (k : ℕ) → slice_get xs k ≡ Some x → IsIn x xs
slice_in [] k e = absurd (none_some e)
slice_in {X} (y ∷ xs) zero e = subst (λ (z : X). IsIn z (y ∷ xs)) (some_same e) (here xs)
slice_in (y ∷ xs) (suc k) e = there y xs (slice_in xs k e)

pub one_of : {X : Type 0} (xs : List X) → 1 ≤ length xs → (x : X) × IsIn x xs
one_of [] h = absurd (omega arith)
one_of (x ∷ xs) h = (x, here xs)

-- a quorum is of one master at least
pub some_in_quorum : (g : Group) → HasSizes g → 1 ≤ g.q
some_in_quorum g sizes = let quorum : g.q ≡ 2 * g.f + g.k + 1 = sizes.quorum in omega arith
