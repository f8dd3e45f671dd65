-- Texts made line by line, each line with its number.
use Rattle.std.proofs.Common.{◌≡◌, ℕ, suc, ◌+◌, ◌-◌, ◌≤◌, ◌<◌, List, [], ◌∷◌, ◌++◌, drop, length, get_or}
use Rattle.std.proofs.Common.{refl, sym, ◌∙◌, ap, arith, append_assoc, append-nil, drop-cons, true, false}
use Rattle.std.proofs.Common.{codes}
use Rattle.std.specs.Prelude.{◌==◌}
use Rattle.std.specs.List.{flat_map}
use Rattle.std.proofs.lemmas.Bool.Decides.{nat_tests}
use Rattle.std.proofs.lemmas.List.{drop_all}
use Rattle.std.proofs.lemmas.Option.{get_or_from_slice_get, slice_get-get_or}
use Rattle.hex.specs.Hex.{encode_lower}
use Rattle.message_types.specs.declared.body.Body.{Body}
use Rattle.run_lines.specs.Texts.{hex_text, kind_text, said_text, numbered_lines}

next-drop : {X : Type 0} (xs : List X) (i : ℕ) (x : X) → i < length xs → x ≡ get_or xs i x →
    x ∷ drop (i + 1) xs ≡ drop i xs
next-drop xs i x inside is =
    let later : i + 1 ≡ suc i = omega arith in
    ap (λ k. x ∷ drop k xs) later ∙ ap (λ y. y ∷ drop (suc i) xs) is ∙ sym (drop-cons xs i x inside)

-- one line more, where all is what was made with what the rest makes
pub lines-more : {X : Type 0} (text : ℕ → X → List ℕ) (i : ℕ) (xs : List X) (x : X) (old new all : List ℕ) →
    i < length xs → x ≡ get_or xs i x
    → old ++ numbered_lines text (i + 1) (drop i xs) ≡ all → new ≡ old ++ text (i + 1) x
    → new ++ numbered_lines text (i + 1 + 1) (drop (i + 1) xs) ≡ all
lines-more text i xs x old new all inside is made next =
    ap (λ t. t ++ numbered_lines text (i + 1 + 1) (drop (i + 1) xs)) next
    ∙ append_assoc old (text (i + 1) x) (numbered_lines text (i + 1 + 1) (drop (i + 1) xs))
    ∙ ap (λ ys. old ++ numbered_lines text (i + 1) ys) (next-drop xs i x inside is)
    ∙ made

-- the same where the thing is told as the element at its place
pub lines-more-at : {X : Type 0} (text : ℕ → X → List ℕ) (i : ℕ) (xs : List X) (d : X) (old new all : List ℕ) →
    i < length xs
    → old ++ numbered_lines text (i + 1) (drop i xs) ≡ all → new ≡ old ++ text (i + 1) (get_or xs i d)
    → new ++ numbered_lines text (i + 1 + 1) (drop (i + 1) xs) ≡ all
lines-more-at text i xs d old new all inside made next =
    lines-more text i xs (get_or xs i d) old new all inside
    (sym (get_or_from_slice_get xs i (get_or xs i d) (get_or xs i d) (slice_get-get_or xs i d inside))) made next

-- no line is left
pub lines-end : {X : Type 0} (text : ℕ → X → List ℕ) (n i : ℕ) (xs : List X) (old all : List ℕ) → length xs ≤ i →
    old ++ numbered_lines text n (drop i xs) ≡ all → old ≡ all
lines-end text n i xs old all end made = sym (append-nil old) ∙ ap (λ ys. old ++ numbered_lines text n ys)
    (sym (drop_all i xs end)) ∙ made

pub said_text-none : (said : List Body) → true ≡ (length said == 0) → said_text said ≡ []
said_text-none [] none = refl
said_text-none (b ∷ bodies) none = absurd (grind (arith, nat_tests))

pub said_text-more : (said : List Body) → false ≡ (length said == 0) → said_text said ≡ codes " says"
    ++ flat_map kind_text said
said_text-more [] some = absurd (grind (arith, nat_tests))
said_text-more (b ∷ bodies) some = refl

pub hex_text-none : (bytes : List ℕ) → true ≡ (length bytes == 0) → hex_text bytes ≡ codes "-"
hex_text-none [] none = refl
hex_text-none (b ∷ bytes) none = absurd (grind (arith, nat_tests))

pub hex_text-more : (bytes : List ℕ) → false ≡ (length bytes == 0) → hex_text bytes ≡ encode_lower bytes
hex_text-more [] some = absurd (grind (arith, nat_tests))
hex_text-more (b ∷ bytes) some = refl

pub four-parts : (a b c d : List ℕ) → a ++ (b ++ (c ++ d)) ≡ a ++ b ++ c ++ d
four-parts a b c d = sym (append_assoc (a ++ b) c d ∙ append_assoc a b (c ++ d))
