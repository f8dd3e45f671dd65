-- The least digest of those that pass, and the rows that have it.
use Rattle.std.proofs.Common.{◌≡◌, ℕ, Bool, true, false, cond, ◌&&◌, ◌||◌, List, [], ◌∷◌, Option, Some, None}
use Rattle.std.proofs.Common.{Ordering, is_some, filter, refl, sym, ◌∙◌, ap, subst, true≢false}
use Rattle.std.specs.declared.cmp.Ordering.TheVariants as order
use Rattle.std.specs.List.{find}
use Rattle.std.specs.Option.{option_and_then}
use Rattle.std.specs.Ordering.{is_some_and, is_lt, is_gt, is_eq, nat_cmp, ordering_reverse}
use Rattle.std.specs.Cmp.Lexicographic.{slice_cmp, slice_partial_cmp, lists_agrees}
use Rattle.std.specs.Str.{bytes_eq}
use Rattle.std.proofs.lemmas.Cmp.{nat_list_cmp_total, tied_itself, upto}
use Rattle.std.proofs.lemmas.Map.Text.{is_eq-slice_cmp}
use Rattle.message_types.specs.Digests.{digest_of_rows}
use Rattle.protocol_rules.specs.Plans.{digest_below}
use Rattle.protocol_rules.specs.Words.{best_from, best_by}
use Rattle.global_order.specs.Choosing.{has_digest, is_known, IsLeast, lesser}
use Rattle.global_order.proofs.Booleans.{and-parts, bytes-same, bytes-alike}

less-is : (o : Ordering) → is_lt o ≡ true → o ≡ order.Less
less-is order.Less e = refl
less-is order.Equal e = absurd (true≢false (sym e))
less-is order.Greater e = absurd (true≢false (sym e))

turned : (o : Ordering) → is_lt (ordering_reverse o) ≡ is_gt o
turned order.Less = refl
turned order.Equal = refl
turned order.Greater = refl

below-turned : (a b : List ℕ) → digest_below a b ≡ is_gt (slice_cmp nat_cmp b a)
below-turned a b = ap is_lt (nat_list_cmp_total.antisymm a b) ∙ turned (slice_cmp nat_cmp b a)

pub below-trans : (a b c : List ℕ) → digest_below a b ≡ true → digest_below b c ≡ true → digest_below a c ≡ true
below-trans a b c one two =
    ap is_lt (nat_list_cmp_total.trans a b c (less-is (slice_cmp nat_cmp a b) one)
    (less-is (slice_cmp nat_cmp b c) two))

pub below-irreflexive : (a : List ℕ) → digest_below a a ≡ false
below-irreflexive a = ap is_lt (tied_itself nat_list_cmp_total a)

pub not-below-trans : (a b c : List ℕ) → digest_below a b ≡ false → digest_below b c ≡ false → digest_below a c ≡ false
not-below-trans a b c one two = below-turned a c ∙ upto nat_list_cmp_total c b a (sym (below-turned b c) ∙ two)
    (sym (below-turned a b) ∙ one)

pub below-same : (a b : List ℕ) → digest_below a b ≡ false → digest_below b a ≡ false → a ≡ b
below-same a b one two = by (slice_cmp nat_cmp a b) refl one (sym (below-turned b a) ∙ two)
  where
    by : (o : Ordering) → slice_cmp nat_cmp a b ≡ o → is_lt o ≡ false → is_gt o ≡ false → a ≡ b
    by order.Less e less greater = absurd (true≢false less)
    by order.Greater e less greater = absurd (true≢false greater)
    by order.Equal e less greater = bytes-same a b (sym (is_eq-slice_cmp a b) ∙ ap is_eq e)

abbrev less : List (List ℕ) → List (List ℕ) → Bool
less a b = digest_below (digest_of_rows a) (digest_of_rows b)

has-own : (r : List (List ℕ)) → has_digest (digest_of_rows r) r ≡ true
has-own r = bytes-alike (digest_of_rows r) (digest_of_rows r) refl

-- none of the rows is below the best, which is the first of its digest
record IsBest (all : List (List (List ℕ))) (r : List (List ℕ)) : Type 0 where
  none_below : (d : List ℕ) → is_known all d ≡ true → digest_below d (digest_of_rows r) ≡ false
  is_first : find (has_digest (digest_of_rows r)) all ≡ Some r

best-is : (best : List (List ℕ)) (rest : List (List (List ℕ))) → IsBest (best ∷ rest) (best_from less best rest)
best-is best [] = record {
  none_below = λ d known. ap (λ e. digest_below e (digest_of_rows best))
      (sym (bytes-same (digest_of_rows best) d (alone (has_digest d best) known)))
      ∙ below-irreflexive (digest_of_rows best);
  is_first = ap (λ b. cond b (Some best) None) (has-own best);
}
  where
    alone : (b : Bool) → (b || false) ≡ true → b ≡ true
    alone true e = refl
    alone false e = absurd (true≢false (sym e))
best-is best (x ∷ rest) = by (less x best) refl (best-is x rest) (best-is best rest)
  where
    over : (r : List (List ℕ)) → less x best ≡ true → IsBest (x ∷ rest) r → IsBest (best ∷ x ∷ rest) r
    over r beats is = record {
      none_below = λ d known. at d (has_digest d best) refl known;
      is_first =
          first (has_digest (digest_of_rows r) best) refl;
    }
      where
        here : digest_below (digest_of_rows x) (digest_of_rows r) ≡ false
        here = is.none_below (digest_of_rows x) (ap (λ b. b || is_known rest (digest_of_rows x)) (has-own x))

        no : digest_below (digest_of_rows best) (digest_of_rows r) ≡ false
        no = on (digest_below (digest_of_rows best) (digest_of_rows r)) refl
          where
            on : (b : Bool) → digest_below (digest_of_rows best) (digest_of_rows r) ≡ b → b ≡ false
            on false e = refl
            on true e = absurd (true≢false
                (sym (below-trans (digest_of_rows x) (digest_of_rows best) (digest_of_rows r) beats e) ∙ here))

        at : (d : List ℕ) (b : Bool) → has_digest d best ≡ b → (b || is_known (x ∷ rest) d) ≡ true →
            digest_below d (digest_of_rows r) ≡ false
        at d true e known = ap (λ y. digest_below y (digest_of_rows r)) (sym (bytes-same (digest_of_rows best) d e))
            ∙ no
        at d false e known = is.none_below d known

        first : (b : Bool) → has_digest (digest_of_rows r) best ≡ b →
            cond b (Some best) (find (has_digest (digest_of_rows r)) (x ∷ rest)) ≡ Some r
        first false e = is.is_first
        first true e = absurd (true≢false
            (sym beats ∙ ap (digest_below (digest_of_rows x)) (bytes-same (digest_of_rows best) (digest_of_rows r) e)
            ∙ here))

    under : (r : List (List ℕ)) → less x best ≡ false → IsBest (best ∷ rest) r → IsBest (best ∷ x ∷ rest) r
    under r loses is = record {
      none_below = λ d known. at d (has_digest d best) (has_digest d x) refl refl known;
      is_first = first (has_digest (digest_of_rows r) best) refl (has_digest (digest_of_rows r) x) refl is.is_first;
    }
      where
        here : digest_below (digest_of_rows best) (digest_of_rows r) ≡ false
        here = is.none_below (digest_of_rows best) (ap (λ b. b || is_known rest (digest_of_rows best)) (has-own best))

        at : (d : List ℕ) (b like : Bool) → has_digest d best ≡ b → has_digest d x ≡ like →
            (b || (like || is_known rest d)) ≡ true → digest_below d (digest_of_rows r) ≡ false
        at d true like e h known =
            ap (λ y. digest_below y (digest_of_rows r)) (sym (bytes-same (digest_of_rows best) d e)) ∙ here
        at d false true e h known =
            ap (λ y. digest_below y (digest_of_rows r)) (sym (bytes-same (digest_of_rows x) d h))
            ∙ not-below-trans (digest_of_rows x) (digest_of_rows best) (digest_of_rows r) loses here
        at d false false e h known = is.none_below d (ap (λ b. b || is_known rest d) e ∙ known)

        first : (b : Bool) → has_digest (digest_of_rows r) best ≡ b → (like : Bool) →
            has_digest (digest_of_rows r) x ≡ like →
            cond b (Some best) (find (has_digest (digest_of_rows r)) rest) ≡ Some r →
            cond b (Some best) (cond like (Some x) (find (has_digest (digest_of_rows r)) rest)) ≡ Some r
        first true e like h found = found
        first false e false h found = found
        first false e true h found =
            let same : digest_of_rows x ≡ digest_of_rows r = bytes-same (digest_of_rows x) (digest_of_rows r) h in
            let equal : digest_of_rows best ≡ digest_of_rows r = below-same (digest_of_rows best) (digest_of_rows r)
            here (ap (λ y. digest_below y (digest_of_rows best)) (sym same) ∙ loses) in
            absurd (true≢false (sym (bytes-alike (digest_of_rows best) (digest_of_rows r) equal) ∙ e))

    by : (b : Bool) → less x best ≡ b → IsBest (x ∷ rest) (best_from less x rest) →
        IsBest (best ∷ rest) (best_from less best rest) → IsBest (best ∷ x ∷ rest) (best_from less (cond b x best) rest)
    by true e new old = over (best_from less x rest) e new
    by false e new old = under (best_from less best rest) e old

-- of those whose digest passes
known-passing : (passes : List ℕ → Bool) (rows : List (List (List ℕ))) (d : List ℕ) →
    is_known (filter (λ r. passes (digest_of_rows r)) rows) d ≡ (passes d && is_known rows d)
known-passing passes [] d = sym (nothing (passes d))
  where
    nothing : (b : Bool) → (b && false) ≡ false
    nothing true = refl
    nothing false = refl
known-passing passes (r ∷ rest) d = by (passes (digest_of_rows r)) (has_digest d r) refl refl
    (known-passing passes rest d)
  where
    by : (p like : Bool) → passes (digest_of_rows r) ≡ p → has_digest d r ≡ like →
        is_known (filter (λ r. passes (digest_of_rows r)) rest) d ≡ (passes d && is_known rest d) →
        is_known (cond p (r ∷ filter (λ r. passes (digest_of_rows r)) rest)
        (filter (λ r. passes (digest_of_rows r)) rest)) d ≡ (passes d && (like || is_known rest d))
    by true true p e more = ap (λ b. b || is_known (filter (λ r. passes (digest_of_rows r)) rest) d) e
        ∙ sym (ap (λ b. b && true) (ap passes (sym (bytes-same (digest_of_rows r) d e)) ∙ p))
    by true false p e more = ap (λ b. b || is_known (filter (λ r. passes (digest_of_rows r)) rest) d) e ∙ more
    by false true p e more = more ∙ none (passes d) (ap passes (sym (bytes-same (digest_of_rows r) d e)) ∙ p)
      where
        none : (b : Bool) → b ≡ false → (b && is_known rest d) ≡ (b && true)
        none false e = refl
        none true e = absurd (true≢false e)
    by false false p e more = more

find-passing : (passes : List ℕ → Bool) (rows : List (List (List ℕ))) (d : List ℕ) → passes d ≡ true →
    find (has_digest d) (filter (λ r. passes (digest_of_rows r)) rows) ≡ find (has_digest d) rows
find-passing passes [] d pass = refl
find-passing passes (r ∷ rest) d pass = by (passes (digest_of_rows r)) (has_digest d r) refl refl
    (find-passing passes rest d pass)
  where
    by : (p like : Bool) → passes (digest_of_rows r) ≡ p → has_digest d r ≡ like →
        find (has_digest d) (filter (λ r. passes (digest_of_rows r)) rest) ≡ find (has_digest d) rest →
        find (has_digest d) (cond p (r ∷ filter (λ r. passes (digest_of_rows r)) rest)
        (filter (λ r. passes (digest_of_rows r)) rest)) ≡ cond like (Some r) (find (has_digest d) rest)
    by true true p e more = ap
        (λ b. cond b (Some r) (find (has_digest d) (filter (λ r. passes (digest_of_rows r)) rest))) e
    by true false p e more = ap
        (λ b. cond b (Some r) (find (has_digest d) (filter (λ r. passes (digest_of_rows r)) rest))) e ∙ more
    by false true p e more = absurd (true≢false (sym pass ∙ ap passes (sym (bytes-same (digest_of_rows r) d e)) ∙ p))
    by false false p e more = more

-- there is one least digest
least-one : (passes : List ℕ → Bool) (a b : Option (List ℕ)) → IsLeast passes a → IsLeast passes b → a ≡ b
least-one passes None None a b = refl
least-one passes None (Some y) a b = absurd (true≢false (sym b.0 ∙ a y))
least-one passes (Some x) None a b = absurd (true≢false (sym a.0 ∙ b x))
least-one passes (Some x) (Some y) a b = ap Some (below-same x y (b.1 x a.0) (a.1 y b.0))

-- the best of the rows whose digest passes are the first known of the least digest
pub least-rows : (passes : List ℕ → Bool) (rows : List (List (List ℕ))) (least : Option (List ℕ)) →
    IsLeast (λ d. passes d && is_known rows d) least →
    best_by less (filter (λ r. passes (digest_of_rows r)) rows) ≡ option_and_then (λ d. find (has_digest d) rows) least
unfolding best_by
least-rows passes rows least is = by (filter (λ r. passes (digest_of_rows r)) rows) refl
  where
    one : (r : List (List ℕ)) → IsBest (filter (λ r. passes (digest_of_rows r)) rows) r →
        Some r ≡ option_and_then (λ d. find (has_digest d) rows) least
    one r best =
        let there : (passes (digest_of_rows r) && is_known rows (digest_of_rows r)) ≡ true =
        sym (known-passing passes rows (digest_of_rows r))
        ∙ known (filter (λ r. passes (digest_of_rows r)) rows) best.is_first in
        let own : IsLeast (λ d. passes d && is_known rows d) (Some (digest_of_rows r)) =
        (there, λ d known. best.none_below d (known-passing passes rows d ∙ known)) in
        sym (ap (option_and_then (λ d. find (has_digest d) rows))
        (least-one (λ d. passes d && is_known rows d) least (Some (digest_of_rows r)) is own)
        ∙ sym (find-passing passes rows (digest_of_rows r)
        (and-parts (passes (digest_of_rows r)) (is_known rows (digest_of_rows r)) there).0) ∙ best.is_first)
      where
        known : (xs : List (List (List ℕ))) → find (has_digest (digest_of_rows r)) xs ≡ Some r →
            is_known xs (digest_of_rows r) ≡ true
        known [] e = absurd (true≢false (sym (ap is_some e)))
        known (x ∷ xs) e = step (has_digest (digest_of_rows r) x) e (known xs)
          where
            step : (b : Bool) → cond b (Some x) (find (has_digest (digest_of_rows r)) xs) ≡ Some r →
                (find (has_digest (digest_of_rows r)) xs ≡ Some r → is_known xs (digest_of_rows r) ≡ true) →
                (b || is_known xs (digest_of_rows r)) ≡ true
            step true e more = refl
            step false e more = more e

    by : (xs : List (List (List ℕ))) → filter (λ r. passes (digest_of_rows r)) rows ≡ xs →
        best_by less xs ≡ option_and_then (λ d. find (has_digest d) rows) least
    by [] e = sym (ap (option_and_then (λ d. find (has_digest d) rows))
        (least-one (λ d. passes d && is_known rows d) least None is (λ d. sym (known-passing passes rows d)
        ∙ ap (λ xs. is_known xs d) e)))
    by (x ∷ xs) e = one (best_from less x xs) (subst (λ ys. IsBest ys (best_from less x xs)) (sym e) (best-is x xs))

-- one digest more
pub least-more : (passes now : List ℕ → Bool) (d : List ℕ) (least : Option (List ℕ)) →
    ((e : List ℕ) → now e ≡ (passes e || bytes_eq d e)) → IsLeast passes least → IsLeast now (lesser least d)
least-more passes now d least more is = by least is
  where
    own : now d ≡ true
    own = more d ∙ either (passes d) (bytes_eq d d) (bytes-alike d d refl)
      where
        either : (a b : Bool) → b ≡ true → (a || b) ≡ true
        either true b e = refl
        either false b e = e

    split : (e : List ℕ) (P : Type 0) → now e ≡ true → (passes e ≡ true → P) → (d ≡ e → P) → P
    split e P there old new = on (passes e) refl (sym (more e) ∙ there)
      where
        on : (a : Bool) → passes e ≡ a → (a || bytes_eq d e) ≡ true → P
        on true is t = old is
        on false is t = new (bytes-same d e t)

    by : (least : Option (List ℕ)) → IsLeast passes least → IsLeast now (lesser least d)
    by None is = (
      own,
      λ e there. split e (digest_below e d ≡ false) there (λ p. absurd (true≢false (sym p ∙ is e)))
          (λ same. ap (λ x. digest_below x d) (sym same) ∙ below-irreflexive d),
    )
    by (Some least) is = at (digest_below d least) refl
      where
        kept : now least ≡ true
        kept = more least ∙ ap (λ b. b || bytes_eq d least) is.0

        at : (b : Bool) → digest_below d least ≡ b → IsLeast now (Some (cond b d least))
        at true e = (
          own,
          λ x there. split x (digest_below x d ≡ false) there (λ p. no x (is.1 x p))
              (λ same. ap (λ y. digest_below y d) (sym same) ∙ below-irreflexive d),
        )
          where
            no : (x : List ℕ) → digest_below x least ≡ false → digest_below x d ≡ false
            no x not = on (digest_below x d) refl
              where
                on : (b : Bool) → digest_below x d ≡ b → b ≡ false
                on false h = refl
                on true h = absurd (true≢false (sym (below-trans x d least h e) ∙ not))
        at false e = (
          kept,
          λ x there. split x (digest_below x least ≡ false) there (λ p. is.1 x p)
              (λ same. ap (λ y. digest_below y least) (sym same) ∙ e),
        )

pub least-alike : (passes now : List ℕ → Bool) (least : Option (List ℕ)) → ((e : List ℕ) → now e ≡ passes e) →
    IsLeast passes least → IsLeast now least
least-alike passes now None same is = λ d. same d ∙ is d
least-alike passes now (Some least) same is = (same least ∙ is.0, λ d there. is.1 d (sym (same d) ∙ there))

-- `<` on digests
pub below-is : (a b : List ℕ) → is_some_and is_lt (slice_partial_cmp (λ x y. Some (nat_cmp x y)) a b) ≡ digest_below a b
below-is a b = ap (is_some_and is_lt) (lists_agrees (λ x y. refl) a b)

pub lesser-is : (slot : Option (List ℕ)) (d least : List ℕ) (b : Bool) → slot ≡ Some least →
    b ≡ digest_below d least → Some (cond b d least) ≡ lesser slot d
lesser-is slot d least b is test = sym (ap (λ o. lesser o d) is ∙ ap (λ x. Some (cond x d least)) (sym test))
