-- One round more of the script, and one line more of the summary.
use Rattle.std.proofs.Common.{◌≡◌, ◌+◌, ◌*◌, ◌%◌, ◌<◌, ◌≤◌, ℕ, suc, List, [], ◌∷◌, ◌++◌, map, drop, length, get_or}
use Rattle.std.proofs.Common.{refl, sym, ◌∙◌, ap, arith, append_assoc, append-nil, drop-cons}
use Rattle.std.specs.Borrow.{Bor}
use Rattle.std.specs.List.{flat_map}
use Rattle.std.proofs.lemmas.List.{drop_all}
use Rattle.run_commands.specs.MadeScript.{draw, next_draw, round_text, rounds_text}

pub draw-none : (number : ℕ) → draw number 0 ≡ number
unfolding draw
draw-none number = refl

draw-next : (number place : ℕ) → draw number (place + 1) ≡ next_draw (draw number place)
unfolding draw
draw-next number place = let later : place + 1 ≡ suc place = omega arith in ap (draw number) later

pub rounds-none : (number : ℕ) → rounds_text number 0 ≡ []
unfolding rounds_text
rounds-none number = refl

rounds-next : (number rounds : ℕ) → rounds_text number (rounds + 1)
    ≡ rounds_text number rounds ++ round_text (draw number (2 * rounds + 1) % 2001) (draw number (2 * rounds + 2) % 2)
unfolding rounds_text
rounds-next number rounds = let later : rounds + 1 ≡ suc rounds = omega arith in ap (rounds_text number) later

first-draw : (number i last current : ℕ) → last ≡ draw number (2 * i) → current ≡ next_draw last →
    current ≡ draw number (2 * i + 1)
first-draw number i last current before next = next ∙ ap next_draw before ∙ sym (draw-next number (2 * i))

second-draw : (number i current next : ℕ) → current ≡ draw number (2 * i + 1) → next ≡ next_draw current →
    next ≡ draw number (2 * i + 2)
second-draw number i current next before is =
    let two : 2 * i + 1 + 1 ≡ 2 * i + 2 = omega arith in
    is ∙ ap next_draw before ∙ sym (draw-next number (2 * i + 1)) ∙ ap (draw number) two

-- the last draw after one round more
pub last-more : (number i last current next : ℕ) → last ≡ draw number (2 * i) → current ≡ next_draw last →
    next ≡ next_draw current
    → next ≡ draw number (2 * (i + 1))
last-more number i last current next before first second =
    let two : 2 * i + 2 ≡ 2 * (i + 1) = omega arith in
    second-draw number i current next (first-draw number i last current before first) second ∙ ap (draw number) two

-- the script with one round more
pub round-more : (number i last current next : ℕ) (old new : List ℕ) → last ≡ draw number (2 * i) →
    current ≡ next_draw last → next ≡ next_draw current
    → old ≡ rounds_text number i → new ≡ old ++ round_text (current % 2001) (next % 2) →
    new ≡ rounds_text number (i + 1)
round-more number i last current next old new before first second made put =
    let one = first-draw number i last current before first in
    let two = second-draw number i current next one second in
    put ∙ ap (λ t. t ++ round_text (current % 2001) (next % 2)) made
    ∙ ap (λ x. rounds_text number i ++ round_text (x % 2001) (next % 2)) one
    ∙ ap (λ x. rounds_text number i ++ round_text (draw number (2 * i + 1) % 2001) (x % 2)) two
    ∙ sym (rounds-next number i)

-- what lines are, and what is made of them
abbrev pub shown : List (Bor (List ℕ)) → List (List ℕ)
shown = map (λ line. line.now)

next-drop : {X : Type 0} (xs : List X) (i : ℕ) (other : X) → i < length xs →
    drop i xs ≡ get_or xs i other ∷ drop (i + 1) xs
next-drop xs i other inside =
    let later : suc i ≡ i + 1 = omega arith in
    drop-cons xs i other inside ∙ ap (λ k. get_or xs i other ∷ drop k xs) later

-- the text of one line more
pub line-more : (f : List ℕ → List ℕ) (i : ℕ) (lines : List (Bor (List ℕ))) (other : Bor (List ℕ))
    (old new all : List ℕ)
    → i < length lines → old ++ flat_map f (shown (drop i lines)) ≡ all → new ≡ old ++ f (get_or lines i other).now
    → new ++ flat_map f (shown (drop (i + 1) lines)) ≡ all
line-more f i lines other old new all inside made next =
    ap (λ t. t ++ flat_map f (shown (drop (i + 1) lines))) next
    ∙ append_assoc old (f (get_or lines i other).now) (flat_map f (shown (drop (i + 1) lines)))
    ∙ ap (λ ls. old ++ flat_map f (shown ls)) (sym (next-drop lines i other inside)) ∙ made

-- no line is left
pub lines-end : (f : List ℕ → List ℕ) (i : ℕ) (lines : List (Bor (List ℕ))) (old all : List ℕ) → length lines ≤ i
    → old ++ flat_map f (shown (drop i lines)) ≡ all → old ≡ all
lines-end f i lines old all end made =
    sym (append-nil old) ∙ ap (λ ls. old ++ flat_map f (shown ls)) (sym (drop_all i lines end)) ∙ made
