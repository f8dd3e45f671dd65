-- What is due, and what saying it changes.
use Rattle.std.proofs.Common.{◌≡◌, ℕ, zero, suc, ◌+◌, ◌-◌, ◌≤◌, ◌<◌, ◌⊎◌, ◌%◌, inl, inr, Bool, true, false, cond}
use Rattle.std.proofs.Common.{◌&&◌, ◌||◌, not, List, [], ◌∷◌, ◌++◌, Option, Some, None, nat_eq, nat_le, refl, sym}
use Rattle.std.proofs.Common.{◌∙◌, ap, arith, min}
use Rattle.std.specs.List.{list_any, flat_map}
use Rattle.std.proofs.lemmas.Bool.{le-leb, lt-leb, cases_lt, cases_eq, eq-eqb, ne_eqb}
use Rattle.std.proofs.lemmas.List.Folds.{list_any-append}
use Rattle.message_types.specs.declared.body.Body.{Body}
use Rattle.message_types.specs.declared.body.Body.TheVariants as body
use Rattle.message_types.specs.Digests.{digest_of_rows}
use Rattle.protocol_rules.specs.declared.facts.OrderFact.{OrderFact}
use Rattle.protocol_rules.specs.Words.{numbers_from}
use Rattle.protocol_rules.specs.Group.{Group, window, mark_step}
use Rattle.protocol_rules.specs.Order.{offered, prepared, stable, gapless, prepare_due, prepares_due, commit_due}
use Rattle.protocol_rules.specs.Order.{commits_due, mark_due, marks_due, marks_said}
use Rattle.std.specs.HashSet.{contains}
use Rattle.global_order.specs.Index.{same_pair}
use Rattle.global_order.specs.Saying.{HasMarked, Places}
use Rattle.global_order.specs.OrderState.{prepares_up_to}
use Rattle.global_order.proofs.Ranges.{narrow, flat_map-none}
use Rattle.protocol_rules.proofs.Numbers.{any-from}

pub prepares-are : (g : Group) (facts : List OrderFact) (said : List Body) (v last count : ℕ) →
    count ≡ min last (stable g facts + 16) →
    flat_map (prepare_due facts said v) (numbers_from 1 count) ≡ prepares_up_to g facts said v last
unfolding window
prepares-are g facts said v last count e = ap (λ n. flat_map (prepare_due facts said v) (numbers_from 1 n)) e

-- a view that is open is so as far as its window goes
pub opened-are : (g : Group) (facts : List OrderFact) (said : List Body) (v last : ℕ) (is_open : Bool) →
    last ≡ cond is_open (stable g facts + window) 0 →
    prepares_up_to g facts said v last ≡ prepares_due g facts said v is_open
opened-are g facts said v last true e =
    let all : min last (stable g facts + window) ≡ stable g facts + window = omega arith in
    ap (λ n. flat_map (prepare_due facts said v) (numbers_from 1 n)) all
opened-are g facts said v last false e =
    let none : min last (stable g facts + window) ≡ 0 = omega arith in
    ap (λ n. flat_map (prepare_due facts said v) (numbers_from 1 n)) none ∙ flat_map-none (prepare_due facts said v) 1

pub commits-are : (g : Group) (facts : List OrderFact) (said : List Body) (v count : ℕ) →
    count ≡ stable g facts + 16 →
    flat_map (commit_due g facts said v) (numbers_from 1 count) ≡ commits_due g facts said v
unfolding window
commits-are g facts said v count e = ap (λ n. flat_map (commit_due g facts said v) (numbers_from 1 n)) e

mark-said : (said : List Body) (marked s : ℕ) → HasMarked said marked → 1 ≤ s → s ≤ marked → mark_due said s ≡ []
unfolding mark_step
mark-said said marked s has low le = by (cases_eq (s % 8) 0)
  where
    by : (s % 8 ≡ 0) ⊎ (s % 8 ≡ 0 → ⊥) → cond (nat_eq (s % 8) 0 && not (list_any (marks_said s) said))
        (body.Mark record { s = s } ∷ []) [] ≡ []
    by (inr ne) = ap (λ b. cond (b && not (list_any (marks_said s) said)) (body.Mark record { s = s } ∷ []) [])
        (ne_eqb (s % 8) 0 ne)
    by (inl e) =
        ap (λ b. cond (b && not (list_any (marks_said s) said)) (body.Mark record { s = s } ∷ []) [])
        (eq-eqb (s % 8) 0 e)
        ∙ ap (λ b. cond (not b) (body.Mark record { s = s } ∷ []) []) (has s low e ∙ le-leb s marked le)

pub marks-are : (g : Group) (facts : List OrderFact) (said : List Body) (marked reach : ℕ) → HasMarked said marked →
    reach ≡ gapless g facts →
    flat_map (mark_due said) (numbers_from (marked + 1) (reach - marked)) ≡ marks_due g facts said
marks-are g facts said marked reach has e =
    let count : reach - marked ≡ (reach + 1) - (marked + 1) = omega arith in
    ap (λ n. flat_map (mark_due said) (numbers_from (marked + 1) n)) count
    ∙ sym (narrow (mark_due said) reach (marked + 1) (reach + 1) (omega arith) (omega arith)
    (λ k low high below. mark-said said marked k has low (omega arith)) (λ k low high beyond. absurd (omega arith)))
    ∙ ap (λ n. flat_map (mark_due said) (numbers_from 1 n)) e

-- which marks are said then

none-from : {X : Type 0} (p : X → Bool) (f : ℕ → List X) (start count : ℕ) →
    ((k : ℕ) → start ≤ k → k < start + count → list_any p (f k) ≡ false) →
    list_any p (flat_map f (numbers_from start count)) ≡ false
unfolding numbers_from
none-from p f start zero none = refl
none-from p f start (suc count) none =
    list_any-append p (f start) (flat_map f (numbers_from (suc start) count))
    ∙ ap (λ b. b || list_any p (flat_map f (numbers_from (suc start) count)))
    (none start (omega arith) (omega arith))
    ∙ none-from p f (suc start) count (λ k low high. none k (omega arith) (omega arith))

no-mark-prepare : (facts : List OrderFact) (said : List Body) (v s k : ℕ) →
    list_any (marks_said s) (prepare_due facts said v k) ≡ false
no-mark-prepare facts said v s k = by (list_any _ said) (offered facts v k)
  where
    by : (b : Bool) (o : Option (List (List ℕ))) →
        list_any (marks_said s) (cond b []
        (elim o [ Some rows ↦ body.Prepare record { v = v; s = k; digest = digest_of_rows rows } ∷ [] | None ↦ [] ]))
        ≡ false
    by true o = refl
    by false None = refl
    by false (Some rows) = refl

no-mark-commit : (g : Group) (facts : List OrderFact) (said : List Body) (v s k : ℕ) →
    list_any (marks_said s) (commit_due g facts said v k) ≡ false
no-mark-commit g facts said v s k = by (list_any _ said) (prepared g facts v k)
  where
    by : (b : Bool) (o : Option (List (List ℕ))) →
        list_any (marks_said s) (cond b []
        (elim o [ Some rows ↦ body.Commit record { v = v; s = k; digest = digest_of_rows rows } ∷ [] | None ↦ [] ]))
        ≡ false
    by true o = refl
    by false None = refl
    by false (Some rows) = refl

mark-there : (said : List Body) (marked s : ℕ) → HasMarked said marked → 1 ≤ s → s % mark_step ≡ 0 → marked < s →
    list_any (marks_said s) (mark_due said s) ≡ true
mark-there said marked s has low multiple above =
    ap (λ b. list_any (marks_said s) (cond (b && not (list_any (marks_said s) said)) (body.Mark record { s = s } ∷ [])
    [])) (eq-eqb (s % mark_step) 0 multiple)
    ∙ ap (λ b. list_any (marks_said s) (cond (not b) (body.Mark record { s = s } ∷ []) []))
    (has s low multiple ∙ lt-leb s marked above)
    ∙ ap (λ b. b || false) (eq-eqb s s refl)

mark-apart : (said : List Body) (s k : ℕ) → (k ≡ s → ⊥) → list_any (marks_said s) (mark_due said k) ≡ false
mark-apart said s k ne = by (nat_eq (k % mark_step) 0 && not (list_any (marks_said k) said))
  where
    by : (b : Bool) → list_any (marks_said s) (cond b (body.Mark record { s = k } ∷ []) []) ≡ false
    by false = refl
    by true = ap (λ b. b || false) (ne_eqb k s ne)

reached : (s marked reach : ℕ) → s ≤ marked → marked ≤ reach → s ≤ reach
reached s marked reach one two = omega arith

-- the three kinds in turn
pub joined : (none one two three P C M : List Body) → none ≡ [] → one ≡ none ++ P → two ≡ one ++ C →
    three ≡ two ++ M → three ≡ P ++ C ++ M
joined none one two three P C M start first second third =
    third ∙ ap (λ xs. xs ++ M) (second ∙ ap (λ xs. xs ++ C) (first ∙ ap (λ xs. xs ++ P) start))

pub marked-after : (g : Group) (facts : List OrderFact) (said bodies : List Body) (v last marked reach : ℕ) →
    HasMarked said marked → marked ≤ reach → reach ≡ gapless g facts →
    bodies ≡ prepares_up_to g facts said v last ++ commits_due g facts said v ++ marks_due g facts said →
    HasMarked (said ++ bodies) reach
marked-after g facts said bodies v last marked reach has le e all s low multiple =
    list_any-append (marks_said s) said bodies ∙ ap (λ b. b || list_any (marks_said s) bodies) (has s low multiple)
    ∙ ap (λ b. nat_le s marked || b) (ap (list_any (marks_said s)) all ∙ list_any-append (marks_said s)
    (prepares_up_to g facts said v last ++ commits_due g facts said v) (marks_due g facts said)
    ∙ ap (λ b. b || list_any (marks_said s) (marks_due g facts said))
    (list_any-append (marks_said s) (prepares_up_to g facts said v last) (commits_due g facts said v)
    ∙ (λ i. no-prepares i || no-commits i)))
    ∙ by (cases_lt marked s) (cases_lt reach s)
  where
    no-prepares : list_any (marks_said s) (prepares_up_to g facts said v last) ≡ false
    no-prepares = none-from (marks_said s) (prepare_due facts said v) 1 (min last (stable g facts + window))
        (λ k lo hi. no-mark-prepare facts said v s k)

    no-commits : list_any (marks_said s) (commits_due g facts said v) ≡ false
    no-commits = none-from (marks_said s) (commit_due g facts said v) 1 (stable g facts + window)
        (λ k lo hi. no-mark-commit g facts said v s k)

    by : (marked < s) ⊎ (s ≤ marked) → (reach < s) ⊎ (s ≤ reach) →
        (nat_le s marked || list_any (marks_said s) (marks_due g facts said)) ≡ nat_le s reach
    by (inr le_marked) beyond = let one : nat_le s marked ≡ true = le-leb s marked le_marked in
        let two : nat_le s reach ≡ true = le-leb s reach (reached s marked reach le_marked le) in rw (one, two) refl
    by (inl above) (inl beyond) =
        (λ i. lt-leb s marked above i || none-from (marks_said s) (mark_due said) 1 (gapless g facts)
        (λ k lo hi. mark-apart said s k (λ same. let limit : reach ≡ gapless g facts = e in omega arith)) i)
        ∙ sym (lt-leb s reach beyond)
    by (inl above) (inr within) =
        (λ i. lt-leb s marked above i || any-from (marks_said s) (mark_due said) 1 (gapless g facts) s low
        (let limit : reach ≡ gapless g facts = e in omega arith) (mark-there said marked s has low multiple above)
        i) ∙ sym (le-leb s reach within)

-- what is noted of the words said is that of all, once that of the new ones is noted
pub said-more : (said bodies noted : List Body) (old mid new : Places) →
    ((k : ℕ × ℕ) → contains same_pair mid k ≡ contains same_pair old k) → noted ≡ bodies →
    (test : ℕ → ℕ → Body → Bool) → ((v s : ℕ) → contains same_pair old (v, s) ≡ list_any (test v s) said) →
    ((v s : ℕ) → contains same_pair new (v, s) ≡ (contains same_pair mid (v, s) || list_any (test v s) noted)) →
    (v s : ℕ) → contains same_pair new (v, s) ≡ list_any (test v s) (said ++ bodies)
said-more said bodies noted old mid new same are test has more v s =
    more v s ∙ ap (λ b. b || list_any (test v s) noted) (same (v, s))
    ∙ ap (λ b. b || list_any (test v s) noted) (has v s)
    ∙ ap (λ xs. list_any (test v s) said || list_any (test v s) xs) are ∙ sym (list_any-append (test v s) said bodies)
