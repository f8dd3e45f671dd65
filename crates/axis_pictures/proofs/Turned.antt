-- What is told of a list's elements in turn: that of one element more, and where none is left.
use Rattle.std.proofs.Common.{◌≡◌, ℕ, zero, suc, ◌+◌, ◌<◌, ◌≤◌, arith, List, [], ◌∷◌, ◌++◌, drop, length, get_or}
use Rattle.std.proofs.Common.{refl, sym, ◌∙◌, ap}
use Rattle.std.proofs.lemmas.List.{append-nil, append_assoc, drop_all}
use Rattle.delay_times.specs.declared.outcomes.Outcome.{Outcome}
use Rattle.axis_pictures.specs.Charts.{longer, longest, longest_from}
use Rattle.axis_pictures.specs.Turns.{turns}

-- what is left from a place on begins with what stands there
drop_suc : {X : Type 0} (xs : List X) (i : ℕ) (d : X) → i < length xs → drop i xs ≡ get_or xs i d ∷ drop (suc i) xs
drop_suc [] i d low = absurd (omega arith)
drop_suc (x ∷ xs) zero d low = refl
drop_suc (x ∷ xs) (suc i) d low = drop_suc xs i d (omega arith)

drop_at : {X : Type 0} (xs : List X) (i : ℕ) (d : X) → i < length xs → drop i xs ≡ get_or xs i d ∷ drop (i + 1) xs
drop_at {X} xs i d low =
    let next : suc i ≡ i + 1 = omega arith in
    drop_suc xs i d low ∙ ap (λ (k : ℕ). get_or xs i d ∷ drop k xs) next

-- the text of one element more
pub one_turn : {S X : Type 0} (text : ℕ → S → X → List ℕ) (next : ℕ → S → X → S) (xs : List X) (i : ℕ) (d : X)
    (s left : S) (old new whole : List ℕ) → i < length xs → new ≡ old ++ text i s (get_or xs i d)
    → left ≡ next i s (get_or xs i d) → old ++ turns text next i s (drop i xs) ≡ whole
    → new ++ turns text next (i + 1) left (drop (i + 1) xs) ≡ whole
one_turn {S} {X} text next xs i d s left old new whole low put is all =
    ap (λ (t : List ℕ). t ++ turns text next (i + 1) left (drop (i + 1) xs)) put
    ∙ ap (λ (z : S). old ++ text i s (get_or xs i d) ++ turns text next (i + 1) z (drop (i + 1) xs)) is
    ∙ append_assoc old (text i s (get_or xs i d))
    (turns text next (i + 1) (next i s (get_or xs i d)) (drop (i + 1) xs))
    ∙ ap (λ (ys : List X). old ++ turns text next i s ys) (sym (drop_at xs i d low)) ∙ all

-- behind the last element there is nothing more
pub no_turn : {S X : Type 0} (text : ℕ → S → X → List ℕ) (next : ℕ → S → X → S) (xs : List X) (i : ℕ) (s : S)
    (told whole : List ℕ) → length xs ≤ i → told ++ turns text next i s (drop i xs) ≡ whole → told ≡ whole
no_turn {S} {X} text next xs i s told whole past all =
    sym (append-nil told) ∙ ap (λ (ys : List X). told ++ turns text next i s ys) (sym (drop_all i xs past)) ∙ all

-- ---- The longest delay.

pub longest_more : (xs : List Outcome) (i : ℕ) (d : Outcome) (best new whole : ℕ) → i < length xs
    → new ≡ longer best (get_or xs i d).delay → longest_from best (drop i xs) ≡ whole
    → longest_from new (drop (i + 1) xs) ≡ whole
longest_more xs i d best new whole low put all =
    ap (λ (n : ℕ). longest_from n (drop (i + 1) xs)) put ∙ ap (longest_from best) (sym (drop_at xs i d low)) ∙ all

pub longest_is : (xs : List Outcome) (i best : ℕ) → length xs ≤ i → longest_from best (drop i xs) ≡ longest xs →
    best ≡ longest xs
longest_is xs i best past all = ap (longest_from best) (sym (drop_all i xs past)) ∙ all
