-- The x-th different frame, found by going over the frames known.
use Rattle.std.proofs.Common.{◌≡◌, ℕ, ◌+◌, ◌-◌, ◌<◌, ◌≤◌, zero, suc, Bool, true, false, cond, ◌&&◌, ◌||◌, not, List}
use Rattle.std.proofs.Common.{[], ◌∷◌, ◌++◌, Option, Some, None, length, take, drop, filter, get_or, nat_eq, refl}
use Rattle.std.proofs.Common.{sym, ◌∙◌, ap, arith, append-nil}
use Rattle.std.specs.Prelude.{slice_get}
use Rattle.std.specs.List.{list_any}
use Rattle.std.proofs.lemmas.List.Elements.{filter-append}
use Rattle.message_types.specs.declared.signed.Signed.{Signed}
use Rattle.message_types.specs.declared.body.Body.{Body}
use Rattle.history_rules.specs.Sameness.{is_same_body}
use Rattle.play_words.specs.declared.words.Ref.{Ref}
use Rattle.intruder_words.specs.Naming.{bears, distinct_after, named}
use Rattle.intruder_words.proofs.Walks.{take-next}
use Rattle.plain_lists.proofs.Lists.{left_more}

-- an earlier frame of the signer and kind has the body
abbrev pub is_old : Ref → Body → List (Signed Body) → Bool
is_old r b earlier = list_any (λ e. bears r e && is_same_body e.body b) earlier

any_filter : {X : Type 0} (p q : X → Bool) (xs : List X) → list_any p (filter q xs) ≡ list_any (λ x. q x && p x) xs
any_filter p q [] = refl
any_filter {X} p q (x ∷ xs) = by (q x) (any_filter p q xs)
  where
    by : (b : Bool) → list_any p (filter q xs) ≡ list_any (λ x. q x && p x) xs →
        list_any p (cond b (x ∷ filter q xs) (filter q xs)) ≡ ((b && p x) || list_any (λ x. q x && p x) xs)
    by true e = ap (λ c. p x || c) e
    by false e = e

-- what is left to find of those from place i on, where so many are still to come
abbrev pub from_place : List (Signed Body) → Ref → ℕ → ℕ → Option (Signed Body)
from_place known r i left =
    slice_get (distinct_after (filter (bears r) (take i known)) (filter (bears r) (drop i known))) (left - 1)

step : (r : Ref) (seen rest : List (Signed Body)) (f : Signed Body) (b old : Bool) → bears r f ≡ b →
    is_old r f.body seen ≡ old → (left : ℕ) →
    slice_get (distinct_after (filter (bears r) seen) (filter (bears r) (f ∷ rest))) left
    ≡ slice_get (cond (b && not old) (f ∷ distinct_after (filter (bears r) (seen ++ f ∷ [])) (filter (bears r) rest))
    (distinct_after (filter (bears r) (seen ++ f ∷ [])) (filter (bears r) rest))) left
step r seen rest f false old is was left =
    let gone : filter (bears r) (f ∷ rest) ≡ filter (bears r) rest =
    ap (λ b. cond b (f ∷ filter (bears r) rest) (filter (bears r) rest)) is in
    let same : filter (bears r) (seen ++ f ∷ []) ≡ filter (bears r) seen = filter-append (bears r) seen (f ∷ [])
    ∙ ap (λ b. filter (bears r) seen ++ cond b (f ∷ []) []) is ∙ append-nil (filter (bears r) seen) in
    ap (λ zs. slice_get (distinct_after (filter (bears r) seen) zs) left) gone
    ∙ ap (λ zs. slice_get (distinct_after zs (filter (bears r) rest)) left) (sym same)
step r seen rest f true old is was left =
    let kept : filter (bears r) (f ∷ rest) ≡ f ∷ filter (bears r) rest =
    ap (λ b. cond b (f ∷ filter (bears r) rest) (filter (bears r) rest)) is in
    let more : filter (bears r) (seen ++ f ∷ []) ≡ filter (bears r) seen ++ f ∷ [] =
    filter-append (bears r) seen (f ∷ []) ∙ ap (λ b. filter (bears r) seen ++ cond b (f ∷ []) []) is in
    let known : list_any (λ e. is_same_body e.body f.body) (filter (bears r) seen) ≡ old =
    any_filter (λ e. is_same_body e.body f.body) (bears r) seen ∙ was in
    ap (λ zs. slice_get (distinct_after (filter (bears r) seen) zs) left) kept
    ∙ ap (λ b. slice_get (cond b (distinct_after (filter (bears r) seen ++ f ∷ []) (filter (bears r) rest))
    (f ∷ distinct_after (filter (bears r) seen ++ f ∷ []) (filter (bears r) rest))) left) known
    ∙ ap (λ zs. slice_get (cond old (distinct_after zs (filter (bears r) rest))
    (f ∷ distinct_after zs (filter (bears r) rest))) left) (sym more)
    ∙ turned old _ _
  where
    turned : (old : Bool) (ds es : List (Signed Body)) →
        slice_get (cond old ds es) left ≡ slice_get (cond (not old) es ds) left
    turned true ds es = refl
    turned false ds es = refl

at_next : (known : List (Signed Body)) (r : Ref) (i left : ℕ) (f : Signed Body) (counts : Bool) → i < length known →
    f ≡ get_or known i f → (bears r f && not (is_old r f.body (take i known))) ≡ counts →
    from_place known r i left ≡ slice_get
    (cond counts (f ∷ distinct_after (filter (bears r) (take (i + 1) known))
    (filter (bears r) (drop (i + 1) known)))
    (distinct_after (filter (bears r) (take (i + 1) known)) (filter (bears r) (drop (i + 1) known)))) (left - 1)
at_next known r i left f counts below is e =
    ap (λ zs. slice_get (distinct_after (filter (bears r) (take i known)) (filter (bears r) zs)) (left - 1))
    (left_more known i f below is)
    ∙ step r (take i known) (drop (i + 1) known) f (bears r f) (is_old r f.body (take i known)) refl refl (left - 1)
    ∙ ap (λ zs. slice_get (cond (bears r f && not (is_old r f.body (take i known)))
    (f ∷ distinct_after (filter (bears r) zs) (filter (bears r) (drop (i + 1) known)))
    (distinct_after (filter (bears r) zs) (filter (bears r) (drop (i + 1) known)))) (left - 1))
    (sym (take-next known i f below is))
    ∙ ap (λ b. slice_get (cond b
    (f ∷ distinct_after (filter (bears r) (take (i + 1) known)) (filter (bears r) (drop (i + 1) known)))
    (distinct_after (filter (bears r) (take (i + 1) known)) (filter (bears r) (drop (i + 1) known)))) (left - 1)) e

-- a frame that doesn't count leaves as many to find
pub passes : (known : List (Signed Body)) (r : Ref) (i left : ℕ) (f : Signed Body) → i < length known →
    f ≡ get_or known i f → (bears r f && not (is_old r f.body (take i known))) ≡ false →
    from_place known r i left ≡ from_place known r (i + 1) left
passes known r i left f below is e = at_next known r i left f false below is e

-- one that counts is the one meant, or leaves one fewer
pub is_the_one : (known : List (Signed Body)) (r : Ref) (i left : ℕ) (f : Signed Body) → i < length known →
    f ≡ get_or known i f → (bears r f && not (is_old r f.body (take i known))) ≡ true →
    left ≡ 1 → from_place known r i left ≡ Some f
is_the_one known r i left f below is e one =
    at_next known r i left f true below is e
    ∙ ap (λ k. slice_get (f ∷ distinct_after (filter (bears r) (take (i + 1) known))
    (filter (bears r) (drop (i + 1) known))) (k - 1)) one

pub one_fewer : (known : List (Signed Body)) (r : Ref) (i left : ℕ) (f : Signed Body) → i < length known →
    f ≡ get_or known i f → (bears r f && not (is_old r f.body (take i known))) ≡ true →
    2 ≤ left → from_place known r i left ≡ from_place known r (i + 1) (left - 1)
one_fewer known r i left f below is e more =
    let two : left - 1 ≡ suc ((left - 1) - 1) = omega arith in
    at_next known r i left f true below is e
    ∙ ap (slice_get (f ∷ distinct_after (filter (bears r) (take (i + 1) known))
    (filter (bears r) (drop (i + 1) known)))) two

-- nothing is left at the end
pub at_end : (known : List (Signed Body)) (r : Ref) (i left : ℕ) → length known ≤ i → from_place known r i left ≡ None
at_end known r i left over =
    ap (λ zs. slice_get (distinct_after (filter (bears r) (take i known)) (filter (bears r) zs)) (left - 1))
    (none_left known i over)
  where
    none_left : (xs : List (Signed Body)) (n : ℕ) → length xs ≤ n → drop n xs ≡ []
    none_left [] zero over = refl
    none_left [] (suc n) over = refl
    none_left (x ∷ xs) zero over = absurd (omega arith)
    none_left (x ∷ xs) (suc n) over = none_left xs n (omega arith)

pub named-is : (known : List (Signed Body)) (r : Ref) → nat_eq r.number 0 ≡ false →
    named known r ≡ from_place known r 0 r.number
unfolding named
named-is known r some = ap
    (λ (b : Bool). cond b None (slice_get (distinct_after [] (filter (bears r) known)) (r.number - 1))) some

pub named-none : (known : List (Signed Body)) (r : Ref) → r.number ≡ 0 → named known r ≡ None
unfolding named
named-none known r zero_is =
    ap (λ (k : ℕ). cond (nat_eq k 0) None (slice_get (distinct_after [] (filter (bears r) known)) (k - 1))) zero_is
