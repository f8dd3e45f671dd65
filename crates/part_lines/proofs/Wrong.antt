-- The lines of wrong masters, master by master.
use Rattle.std.proofs.Common.{◌≡◌, ◌+◌, ℕ, ◌≤◌, Bool, true, false, cond, if◌then◌else◌, List, [], ◌∷◌, ◌++◌, filter}
use Rattle.std.proofs.Common.{append_assoc, append-nil, add-one, refl, sym, ◌∙◌, ap, arith}
use Rattle.std.specs.List.{flat_map}
use Rattle.std.proofs.lemmas.List.Concat.{flat_map-append}
use Rattle.quorum_sets.specs.Masters.{has_master, numbers_below, voters}
use Rattle.quorum_sets.proofs.MastersLemmas.{numbers_below-suc, voters-again}
use Rattle.part_lines.specs.Texts.{line_of, wrong_words}

-- the line of a master, if it is wrong
abbrev pub line_if : List ℕ → ℕ → List ℕ
line_if wrong master = if has_master wrong master then line_of (wrong_words master) else []

pub none_wrong : (wrong old : List ℕ) → old ≡ old ++ flat_map (line_if wrong) (numbers_below 0)
unfolding numbers_below
none_wrong wrong old = sym (append-nil old)

pub next_wrong : (wrong first old new : List ℕ) (master : ℕ) →
    old ≡ first ++ flat_map (line_if wrong) (numbers_below master)
    → new ≡ old ++ line_if wrong master → new ≡ first ++ flat_map (line_if wrong) (numbers_below (master + 1))
next_wrong wrong first old new master so_far one =
    one ∙ ap (λ (bs : List ℕ). bs ++ line_if wrong master) so_far
    ∙ append_assoc first (flat_map (line_if wrong) (numbers_below master)) (line_if wrong master)
    ∙ ap (λ (bs : List ℕ). first ++ (flat_map (line_if wrong) (numbers_below master) ++ bs))
    (sym (append-nil (line_if wrong master)))
    ∙ ap (λ (bs : List ℕ). first ++ bs) (sym (flat_map-append (line_if wrong) (numbers_below master) (master ∷ [])))
    ∙ ap (λ (ms : List ℕ). first ++ flat_map (line_if wrong) ms) (sym (numbers_below-suc master))
    ∙ ap (λ (n : ℕ). first ++ flat_map (line_if wrong) (numbers_below n)) (sym (add-one master))

passing_step : {X : Type 0} (test : Bool) (line : ℕ → List X) (m : ℕ) (ms : List ℕ) (rest : List X) →
    rest ≡ flat_map line ms
    → (if test then line m else []) ++ rest ≡ flat_map line (cond test (m ∷ ms) ms)
passing_step {X} true line m ms rest is = ap (λ (xs : List X). line m ++ xs) is
passing_step false line m ms rest is = is

passing : {X : Type 0} (test : ℕ → Bool) (line : ℕ → List X) (ms : List ℕ) →
    flat_map (λ m. if test m then line m else []) ms ≡ flat_map line (filter test ms)
passing test line [] = refl
passing {X} test line (m ∷ ms) =
    passing_step (test m) line m (filter test ms) (flat_map (λ k. if test k then line k else []) ms)
    (passing test line ms)

pub all_wrong : (wrong first new : List ℕ) (most : ℕ) → 14 ≤ most → most ≤ 14 →
    new ≡ first ++ flat_map (line_if wrong) (numbers_below most)
    → wrong ≡ voters (has_master wrong) 14 → new ≡ first ++ flat_map (λ master. line_of (wrong_words master)) wrong
all_wrong wrong first new most low high so_far is =
    let end : most ≡ 14 = omega arith in
    so_far
    ∙ ap (λ (n : ℕ). first ++ flat_map (line_if wrong) (numbers_below n)) end
    ∙ ap (λ (bs : List ℕ). first ++ bs)
    (passing (has_master wrong) (λ master. line_of (wrong_words master)) (numbers_below 14))
    ∙ ap (λ (ms : List ℕ). first ++ flat_map (λ master. line_of (wrong_words master)) ms) (sym is)

-- the masters that pass a test are those that the set has
pub of_voters : (test : ℕ → Bool) (wrong : List ℕ) → wrong ≡ voters test 14 → wrong ≡ voters (has_master wrong) 14
of_voters test wrong is =
    is ∙ sym (voters-again test 14 14 (omega arith)) ∙ ap (λ (ms : List ℕ). voters (has_master ms) 14) (sym is)
