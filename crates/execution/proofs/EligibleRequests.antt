-- The requests that one number's rows make eligible.
use Rattle.std.proofs.Common.{◌≡◌, ℕ, zero, suc, ◌+◌, ◌-◌, ◌<◌, ◌≤◌, Bool, true, List, [], ◌∷◌, ◌++◌, map, max}
use Rattle.std.proofs.Common.{length, get_or, refl, sym, ◌∙◌, ap, arith, add-one, append_assoc, append-nil}
use Rattle.std.specs.List.{flat_map, list_all}
use Rattle.std.proofs.lemmas.Bool.{and_parts, eqb-true}
use Rattle.std.proofs.lemmas.Grind.{flat_map-append}
use Rattle.std.proofs.lemmas.List.{map-append}
use Rattle.std.specs.Prelude.{nat_eq}
use Rattle.quorum_sets.specs.Masters.{numbers_below}
use Rattle.protocol_rules.specs.Words.{numbers_from}
use Rattle.protocol_rules.specs.Group.{Group, most_number}
use Rattle.protocol_rules.specs.Places.{are_rows, is_row}
use Rattle.protocol_rules.specs.Matrix.{eligible, reach}
use Rattle.protocol_rules.specs.Execution.{Request, requests_between, newly_eligible, eligible_requests}
use Rattle.summary_matrix.specs.Held.{TellsEach}
use Rattle.summary_matrix.proofs.Latest.{reach-push}
use Rattle.execution.specs.Ran.{request_of}
use Rattle.execution.specs.Progress.{requests_from}
use Rattle.quorum_sets.proofs.Numbered.{below_one_more, below_none_at}
use Rattle.protocol_rules.proofs.Numbers.{numbers_from-none, numbers_from-suc}

pub between-none : (j from to : ℕ) → to ≤ from → requests_between j from to ≡ []
between-none j from to le =
    let none : to - from ≡ 0 = omega arith in
    ap (λ n. map (λ k. request_of (j, k)) (numbers_from (from + 1) n)) none ∙ ap (map (λ k. request_of (j, k)))
    (numbers_from-none (from + 1))

-- one number more
pub between-more : (j from at : ℕ) → from ≤ at → requests_between j from (at + 1) ≡ requests_between j from at
    ++ request_of (j, at + 1) ∷ []
between-more j from at le =
    let one : at + 1 - from ≡ suc (at - from) = omega arith in
    let last : from + 1 + (at - from) ≡ at + 1 = omega arith in
    ap (λ n. map (λ k. request_of (j, k)) (numbers_from (from + 1) n)) one ∙ ap (map (λ k. request_of (j, k)))
    (numbers_from-suc (from + 1) (at - from))
    ∙ map-append (λ k. request_of (j, k)) (numbers_from (from + 1) (at - from)) ((from + 1 + (at - from)) ∷ [])
    ∙ ap (λ x. map (λ k. request_of (j, k)) (numbers_from (from + 1) (at - from)) ++ request_of (j, x) ∷ []) last

-- one master more
pub flat_map_more : (f : ℕ → List Request) (n : ℕ) →
    flat_map f (numbers_below (n + 1)) ≡ flat_map f (numbers_below n) ++ f n
flat_map_more f n = ap (flat_map f) (below_one_more n) ∙ flat_map-append f (numbers_below n) (n ∷ [])
    ∙ ap (λ xs. flat_map f (numbers_below n) ++ xs) (append-nil (f n))

pub flat_map_start : (f : ℕ → List Request) → flat_map f (numbers_below 0) ≡ []
flat_map_start f = ap (flat_map f) below_none_at

flat_map_below : (f h : ℕ → List Request) (n : ℕ) → ((j : ℕ) → j < n → f j ≡ h j) →
    flat_map f (numbers_below n) ≡ flat_map h (numbers_below n)
flat_map_below f h zero same = flat_map_start f ∙ sym (flat_map_start h)
flat_map_below f h (suc n) same =
    let before : flat_map f (numbers_below n) ≡ flat_map h (numbers_below n) =
    flat_map_below f h n (λ j lt. same j (omega arith)) in
    let here : f n ≡ h n = same n (omega arith) in
    ap (λ k. flat_map f (numbers_below k)) (sym (add-one n)) ∙ flat_map_more f n ∙ ap (λ xs. xs ++ f n) before
    ∙ ap (λ xs. flat_map h (numbers_below n) ++ xs) here
    ∙ sym (flat_map_more h n) ∙ ap (λ k. flat_map h (numbers_below k)) (add-one n)

-- rows in their place are few
pub rows_few : (g : Group) (rows : List (List ℕ)) → are_rows g rows ≡ true → g.n ≤ 14 → length rows ≤ 14
rows_few g rows placed few = let many : length rows ≡ g.n =
    eqb-true (length rows) g.n (and_parts (nat_eq (length rows) g.n) (list_all (is_row g) rows) placed).0 in omega arith

-- requests between two reaches are those that the rows make eligible
pub newly-is : (g : Group) (runs : List (List (List ℕ))) (rows : List (List ℕ)) (from to : List ℕ) → g.n ≤ 14 →
    TellsEach from (reach g runs) → TellsEach to (eligible g rows)
    → requests_from g.n from to ≡ newly_eligible g runs rows
newly-is g runs rows from to few reached now =
    flat_map_below (λ j. requests_between j (get_or from j 0) (get_or to j 0))
    (λ j. requests_between j (reach g runs j) (eligible g rows j)) g.n
    (λ j lt. ap (λ x. requests_between j x (get_or to j 0)) (reached j (omega arith))
    ∙ ap (requests_between j (reach g runs j)) (now j (omega arith)))

requests-more : (g : Group) (before runs : List (List (List ℕ))) (rows : List (List ℕ)) →
    eligible_requests g before (runs ++ rows ∷ []) ≡ eligible_requests g before runs
    ++ newly_eligible g (before ++ runs) rows
unfolding eligible_requests
requests-more g before [] rows = append-nil (newly_eligible g before rows)
    ∙ ap (λ b. newly_eligible g b rows) (sym (append-nil before))
requests-more g before (first ∷ runs) rows =
    ap (λ xs. newly_eligible g before first ++ xs) (requests-more g (before ++ first ∷ []) runs rows)
    ∙ sym (append_assoc (newly_eligible g before first) (eligible_requests g (before ++ first ∷ []) runs)
    (newly_eligible g ((before ++ first ∷ []) ++ runs) rows))
    ∙ ap (λ b. (newly_eligible g before first ++ eligible_requests g (before ++ first ∷ []) runs)
    ++ newly_eligible g b rows) (append_assoc before (first ∷ []) runs)

-- the rows of one number more
pub requests-push : (g : Group) (runs : List (List (List ℕ))) (rows : List (List ℕ)) →
    eligible_requests g [] (runs ++ rows ∷ []) ≡ eligible_requests g [] runs ++ newly_eligible g runs rows
requests-push g runs rows = requests-more g [] runs rows

pub requests-none : (g : Group) → [] ≡ eligible_requests g [] []
unfolding eligible_requests
requests-none g = refl

pub reached-push : (g : Group) (runs : List (List (List ℕ))) (rows : List (List ℕ)) (old now new : List ℕ) →
    TellsEach old (reach g runs) → TellsEach now (eligible g rows) →
    TellsEach new (λ j. max (get_or old j 0) (get_or now j 0))
    → TellsEach new (reach g (runs ++ rows ∷ []))
reached-push g runs rows old now new before here raised j lt =
    raised j lt ∙ ap (λ x. max x (get_or now j 0)) (before j lt) ∙ ap (max (reach g runs j)) (here j lt)
    ∙ sym (reach-push g runs rows j)
