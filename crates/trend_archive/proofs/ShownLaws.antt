-- An answer is shown exactly where more than f masters gave one.
use Rattle.std.proofs.Common.{◌≡◌, ◌<◌, ◌≤◌, ◌+◌, ℕ, zero, suc, Bool, true, false, cond, ◌||◌, if◌then◌else◌, List}
use Rattle.std.proofs.Common.{[], ◌∷◌, ◌++◌, Option, Some, None, length, nat_eq, nat_lt, refl, sym, ◌∙◌, ap, subst}
use Rattle.std.proofs.Common.{inl, inr, ◌⊎◌, arith, append_assoc, append-nil}
use Rattle.std.proofs.lemmas.List.Folds.{list_any-append}
use Rattle.std.proofs.lemmas.Bool.{cases_Bool, and_right, or_left, ltb-true, lt-ltb, le-ltb, false≢true}
use Rattle.std.proofs.lemmas.Option.{same_Some}
use Rattle.std.proofs.Math.Bool.{or-false}
use Rattle.quorum_sets.specs.Masters.{voters}
use Rattle.quorum_sets.proofs.MastersLemmas.{voters_same, voters_none, voters-zero, length-voters-suc}
use Rattle.trend_archive.specs.declared.change.Changes.{Changes}
use Rattle.trend_archive.specs.declared.board.Vote.{Vote}
use Rattle.trend_archive.specs.Boards.{ShownIsSupported, ShownWhereSupported, has_vote, is_vote, or_else}
use Rattle.trend_archive.specs.Boards.{same_changes, settled_by, shown, shown_after, supporters}
use Rattle.trend_archive.proofs.BoardLaws.{same_changes-true}

-- where what passes one test passes the other, the one has no more voters
voters_fewer : (s t : ℕ → Bool) (n : ℕ) → ((x : ℕ) → s x ≡ true → t x ≡ true) →
    length (voters s n) ≤ length (voters t n)
voters_fewer s t zero h = rw (voters-zero s, voters-zero t) (omega arith)
voters_fewer s t (suc n) h =
    let less : length (voters s n) ≤ length (voters t n) = voters_fewer s t n h in
    rw (length-voters-suc s n, length-voters-suc t n) (bits (s n) (t n) (h n) less)
  where
    bits : (a b : Bool) → (a ≡ true → b ≡ true) → length (voters s n) ≤ length (voters t n) →
        length (voters s n) + cond a 1 0 ≤ length (voters t n) + cond b 1 0
    bits true true g less = omega arith
    bits true false g less = absurd (false≢true (g refl))
    bits false true g less = omega arith
    bits false false g less = omega arith

supporters-grow : (n : ℕ) (xs ys : List Vote) (a : Changes) →
    length (supporters n xs a) ≤ length (supporters n (xs ++ ys) a)
unfolding supporters
supporters-grow n xs ys a =
    voters_fewer (has_vote xs a) (has_vote (xs ++ ys) a) n (λ m h. list_any-append (is_vote a m) xs ys
    ∙ or_left (has_vote xs a m) (has_vote ys a m) h)

still_many : (n f : ℕ) (xs ys : List Vote) (a : Changes) → nat_lt f (length (supporters n xs a)) ≡ true →
    nat_lt f (length (supporters n (xs ++ ys) a)) ≡ true
still_many n f xs ys a h =
    let low : f < length (supporters n xs a) = ltb-true f (length (supporters n xs a)) h in
    let grown : length (supporters n xs a) ≤ length (supporters n (xs ++ ys) a) = supporters-grow n xs ys a in
    lt-ltb f (length (supporters n (xs ++ ys) a)) (omega arith)

first_or_rest : (b : Bool) (c a : Changes) (o : Option Changes) → or_else (if b then Some c else None) o ≡ Some a →
    ((b ≡ true) × (c ≡ a)) ⊎ (o ≡ Some a)
first_or_rest true c a o h = inl (refl, same_Some c a h)
first_or_rest false c a o h = inr h

settled_or_later : (n f : ℕ) (seen rest : List Vote) (w : Vote) (a : Changes)
    → ((nat_lt f (length (supporters n (seen ++ w ∷ []) w.changes)) ≡ true) × (w.changes ≡ a))
    ⊎ (shown_after n f (seen ++ w ∷ []) rest ≡ Some a)
    → (shown_after n f (seen ++ w ∷ []) rest ≡ Some a →
    nat_lt f (length (supporters n ((seen ++ w ∷ []) ++ rest) a)) ≡ true)
    → nat_lt f (length (supporters n ((seen ++ w ∷ []) ++ rest) a)) ≡ true
settled_or_later n f seen rest w a (inl x) later =
    still_many n f (seen ++ w ∷ []) rest a
    (subst (λ (c : Changes). nat_lt f (length (supporters n (seen ++ w ∷ []) c)) ≡ true) x.1 x.0)
settled_or_later n f seen rest w a (inr e) later = later e

shown_after-some : (n f : ℕ) (seen votes : List Vote) (a : Changes) → shown_after n f seen votes ≡ Some a →
    nat_lt f (length (supporters n (seen ++ votes) a)) ≡ true
shown_after-some n f seen [] a h = absurd (cc)
shown_after-some n f seen (w ∷ rest) a h =
    subst (λ (vs : List Vote). nat_lt f (length (supporters n vs a)) ≡ true) (append_assoc seen (w ∷ []) rest)
    (settled_or_later n f seen rest w a (first_or_rest (nat_lt f (length (supporters n (seen ++ w ∷ []) w.changes)))
    w.changes a (shown_after n f (seen ++ w ∷ []) rest) h)
    (shown_after-some n f (seen ++ w ∷ []) rest a))

pub shown-is_supported : ShownIsSupported
unfolding shown
shown-is_supported n f votes a h = ltb-true f (length (supporters n votes a)) (shown_after-some n f [] votes a h)

supporters-none : (n f : ℕ) (a : Changes) → nat_lt f (length (supporters n [] a)) ≡ false
unfolding supporters
supporters-none n f a = ap (λ (ms : List ℕ). nat_lt f (length ms)) (voters_none n) ∙ le-ltb f 0 (omega arith)

-- a vote for another answer supports this one no more
supporters-other : (n : ℕ) (seen : List Vote) (w : Vote) (a : Changes) → same_changes w.changes a ≡ false →
    supporters n (seen ++ w ∷ []) a ≡ supporters n seen a
unfolding supporters
supporters-other n seen w a other =
    voters_same (has_vote (seen ++ w ∷ []) a) (has_vote seen a) n
    (λ m low.
    list_any-append (is_vote a m) seen (w ∷ [])
    ∙ (ap (λ (b : Bool). has_vote seen a m || (b || false))
    (and_right (nat_eq w.signer m) (same_changes w.changes a) other) ∙ or-false (has_vote seen a m)))

one_more : (n f : ℕ) (seen : List Vote) (w : Vote) →
    ((a : Changes) → nat_lt f (length (supporters n seen a)) ≡ false) →
    nat_lt f (length (supporters n (seen ++ w ∷ []) w.changes)) ≡ false
    → (a : Changes) → nat_lt f (length (supporters n (seen ++ w ∷ []) a)) ≡ false
one_more n f seen w few own a = by (cases_Bool (same_changes w.changes a))
  where
    by : (same_changes w.changes a ≡ true) ⊎ (same_changes w.changes a ≡ false) →
        nat_lt f (length (supporters n (seen ++ w ∷ []) a)) ≡ false
    by (inl same) = subst (λ (c : Changes). nat_lt f (length (supporters n (seen ++ w ∷ []) c)) ≡ false)
        (same_changes-true w.changes a same) own
    by (inr other) = ap (λ (ms : List ℕ). nat_lt f (length ms)) (supporters-other n seen w a other) ∙ few a

or_else-parts : (a b : Option Changes) → or_else a b ≡ None → (a ≡ None) × (b ≡ None)
or_else-parts None b h = (refl, h)
or_else-parts (Some x) b h = absurd (cc)

if_none : (b : Bool) (a : Changes) → (if b then Some a else None) ≡ None → b ≡ false
if_none true a h = absurd (cc)
if_none false a h = refl

shown_after-none : (n f : ℕ) (seen votes : List Vote) →
    ((a : Changes) → nat_lt f (length (supporters n seen a)) ≡ false) → shown_after n f seen votes ≡ None
    → (a : Changes) → nat_lt f (length (supporters n (seen ++ votes) a)) ≡ false
shown_after-none n f seen [] few h a = subst (λ (vs : List Vote). nat_lt f (length (supporters n vs a)) ≡ false)
    (sym (append-nil seen)) (few a)
shown_after-none n f seen (w ∷ rest) few h a =
    let parts = or_else-parts (settled_by n f (seen ++ w ∷ []) w) (shown_after n f (seen ++ w ∷ []) rest) h in
    subst (λ (vs : List Vote). nat_lt f (length (supporters n vs a)) ≡ false) (append_assoc seen (w ∷ []) rest)
    (shown_after-none n f (seen ++ w ∷ []) rest
    (one_more n f seen w few (if_none (nat_lt f (length (supporters n (seen ++ w ∷ []) w.changes)))
    w.changes parts.0)) parts.1 a)

pub shown-where_supported : ShownWhereSupported
unfolding shown
shown-where_supported n f votes a many none =
    false≢true (sym (shown_after-none n f [] votes (supporters-none n f) none a)
    ∙ lt-ltb f (length (supporters n votes a)) many)
