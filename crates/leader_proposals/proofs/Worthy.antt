-- Which numbers are worth a prepare: the rows before a number grow with each that adds something, so that what was gone
-- over decides of the next; and once one adds nothing none above it is worth a prepare, so that all that are lie below
-- one number.
use Rattle.std.proofs.Common.{◌≡◌, ℕ, zero, suc, ◌+◌, ◌-◌, ◌<◌, ◌≤◌, ◌⊎◌, inl, inr, min, max, Bool, true, false, cond}
use Rattle.std.proofs.Common.{◌&&◌, ◌||◌, List, [], ◌∷◌, ◌++◌, Some, None, nat_le, nat_lt, get_or, is_some}
use Rattle.std.proofs.Common.{length, refl, sym, ◌∙◌, ap, subst, arith, append_assoc, append-nil}
use Rattle.std.specs.List.{filter_map, flat_map, list_all, list_any}
use Rattle.std.specs.Option.{option_to_list}
use Rattle.std.proofs.lemmas.Bool.{and_from, and_left, and_right, cases_lt, le-leb, le-ltb, lt-leb, lt-ltb, or_left}
use Rattle.std.proofs.lemmas.Bool.{or_right}
use Rattle.std.proofs.lemmas.List.Elements.{filter_map-append}
use Rattle.message_types.specs.declared.views.Plan.{Plan}
use Rattle.message_types.specs.declared.body.Body.{Body}
use Rattle.quorum_sets.specs.declared.sizes.Sizes.{Sizes}
use Rattle.quorum_sets.specs.Masters.{numbers_below}
use Rattle.protocol_rules.specs.declared.facts.OrderFact.{OrderFact}
use Rattle.protocol_rules.specs.Words.{numbers_from}
use Rattle.protocol_rules.specs.Group.{Group, group_of, window}
use Rattle.protocol_rules.specs.Matrix.{eligible, exceeds, reach}
use Rattle.protocol_rules.specs.Order.{gapless, offered, ordered_run, plan_known, prepare_due, stable}
use Rattle.protocol_rules.specs.Worth.{adds, is_worth, plan_end, rows_before, stands_at, worthy_prepares_due}
use Rattle.protocol_rules.proofs.Numbers.{flat_map-none, numbers_from-none, numbers_from-suc}
use Rattle.summary_matrix.specs.Held.{TellsEach}
use Rattle.summary_matrix.proofs.Latest.{exceeds-known, reach-push}
use Rattle.summary_matrix.proofs.Loops.{any_below}
use Rattle.global_order.specs.OrderState.{HasSizes, prepares_up_to}
use Rattle.global_order.proofs.Ranges.{narrow}
use Rattle.global_order.proofs.Touching.{prepare-none}
use Rattle.leader_proposals.specs.Worthy.{IsWorthTo, ReachesBefore}
use Rattle.leader_proposals.proofs.Reaching.{eligible-same, filter_map-one}

-- before the first number above those ordered without a gap there are these alone
pub before-first : (g : Group) (facts : List OrderFact) (v s : ℕ) (numbers : List ℕ) → s ≡ gapless g facts + 1 →
    TellsEach numbers (reach g (ordered_run g facts)) → ReachesBefore g facts v s numbers
before-first g facts v s numbers first told j lt =
    let none : s - gapless g facts - 1 ≡ 0 = omega arith in
    told j lt
    ∙ ap (λ rows. reach g rows j) (sym (append-nil (ordered_run g facts))
    ∙ ap (λ ns. ordered_run g facts ++ filter_map (stands_at g facts v) ns)
    (sym (numbers_from-none (gapless g facts + 1)))
    ∙ ap (λ n. ordered_run g facts ++ filter_map (stands_at g facts v) (numbers_from (gapless g facts + 1) n)) (sym none))

-- the rows of one number more
rows-more : (g : Group) (facts : List OrderFact) (v s : ℕ) (rows : List (List ℕ)) → gapless g facts < s →
    stands_at g facts v s ≡ Some rows → rows_before g facts v (s + 1) ≡ rows_before g facts v s ++ rows ∷ []
rows-more g facts v s rows above stands =
    let count : s + 1 - gapless g facts - 1 ≡ suc (s - gapless g facts - 1) = omega arith in
    let here : gapless g facts + 1 + (s - gapless g facts - 1) ≡ s = omega arith in
    ap (λ n. run ++ filter_map (stands_at g facts v) (numbers_from (gapless g facts + 1) n)) count
    ∙ ap (λ ns. run ++ filter_map (stands_at g facts v) ns) (numbers_from-suc (gapless g facts + 1) (s - gapless g facts - 1)
    ∙ ap (λ n. numbers_from (gapless g facts + 1) (s - gapless g facts - 1) ++ n ∷ []) here)
    ∙ ap (λ xs. run ++ xs) (filter_map-append (stands_at g facts v)
    (numbers_from (gapless g facts + 1) (s - gapless g facts - 1)) (s ∷ [])
    ∙ ap (λ xs. filter_map (stands_at g facts v) (numbers_from (gapless g facts + 1) (s - gapless g facts - 1)) ++ xs)
    (filter_map-one (stands_at g facts v) s ∙ ap option_to_list stands))
    ∙ sym (append_assoc run (filter_map (stands_at g facts v)
    (numbers_from (gapless g facts + 1) (s - gapless g facts - 1))) (rows ∷ []))
  where
    run : List (List (List ℕ))
    run = ordered_run g facts

-- whether a number that stands adds something
pub adds-some : (g : Group) (facts : List OrderFact) (v s : ℕ) (rows : List (List ℕ)) (is_planned more : Bool) →
    stands_at g facts v s ≡ Some rows → is_planned ≡ nat_le s (plan_end facts v) →
    more ≡ exceeds g rows (reach g (rows_before g facts v s)) → adds g facts v s ≡ (is_planned || more)
adds-some g facts v s rows is_planned more stands planned exceeding =
    ap (λ o. elim o [
      | None ↦ false
      | Some rows ↦ nat_le s (plan_end facts v) || exceeds g rows (reach g (rows_before g facts v s))
    ]) stands ∙ (λ i. sym planned i || sym exceeding i)

pub adds-none : (g : Group) (facts : List OrderFact) (v s : ℕ) → stands_at g facts v s ≡ None →
    adds g facts v s ≡ false
adds-none g facts v s stands = ap (λ o. elim o [
  | None ↦ false
  | Some rows ↦ nat_le s (plan_end facts v) || exceeds g rows (reach g (rows_before g facts v s))
]) stands

-- rows exceed what the numbers tell just where they exceed the rows before
pub exceeds-before : (g : Group) (facts : List OrderFact) (v s : ℕ) (sizes : Sizes) (rows : List (List ℕ))
    (before now : List ℕ) → g.n ≤ 14 → HasSizes g sizes.n sizes.q → ReachesBefore g facts v s before →
    TellsEach now (eligible (group_of sizes 0) rows) →
    list_any (λ j. nat_lt (get_or before j 0) (get_or now j 0)) (numbers_below sizes.n)
    ≡ exceeds g rows (reach g (rows_before g facts v s))
exceeds-before g facts v s sizes rows before now few has reaches tells =
    ap (λ n. list_any (λ j. nat_lt (get_or before j 0) (get_or now j 0)) (numbers_below n)) (sym has.masters)
    ∙ any_below (λ j. nat_lt (get_or before j 0) (get_or now j 0))
    (λ j. nat_lt (reach g (rows_before g facts v s) j) (get_or now j 0)) g.n
    (λ j lt. ap (λ x. nat_lt x (get_or now j 0)) (reaches j (omega arith)))
    ∙ exceeds-known g rows now (reach g (rows_before g facts v s)) few
    (λ j lt. tells j lt ∙ eligible-same (group_of sizes 0) g rows j (sym has.quorum))

-- so far the rows up to a number reach
pub reaches-more : (g : Group) (facts : List OrderFact) (v s : ℕ) (sizes : Sizes) (rows : List (List ℕ))
    (before now more : List ℕ) → HasSizes g sizes.n sizes.q → gapless g facts < s → stands_at g facts v s ≡ Some rows →
    ReachesBefore g facts v s before → TellsEach now (eligible (group_of sizes 0) rows) →
    TellsEach more (λ j. max (get_or before j 0) (get_or now j 0)) → ReachesBefore g facts v (s + 1) more
reaches-more g facts v s sizes rows before now more has above stands reaches tells raised j lt =
    raised j lt
    ∙ (λ i. max (reaches j lt i) ((tells j lt ∙ eligible-same (group_of sizes 0) g rows j (sym has.quorum)) i))
    ∙ sym (reach-push g (rows_before g facts v s) rows j)
    ∙ ap (λ all. reach g all j) (sym (rows-more g facts v s rows above stands))

-- so it is found whether a number that stands adds something
pub adds-found : (g : Group) (facts : List OrderFact) (v s : ℕ) (sizes : Sizes) (rows : List (List ℕ))
    (before now : List ℕ) (is_planned more : Bool) → g.n ≤ 14 → HasSizes g sizes.n sizes.q → gapless g facts < s →
    stands_at g facts v s ≡ Some rows → is_planned ≡ nat_le s (plan_end facts v) → ReachesBefore g facts v s before →
    TellsEach now (eligible (group_of sizes 0) rows) →
    more ≡ (is_planned
    || list_any (λ j. nat_lt (get_or before j 0) (get_or now j 0)) (numbers_below sizes.n)) →
    adds g facts v s ≡ more
adds-found g facts v s sizes rows before now is_planned more few has above stands planned reaches tells is =
    adds-some g facts v s rows is_planned
    (list_any (λ j. nat_lt (get_or before j 0) (get_or now j 0)) (numbers_below sizes.n)) stands planned
    (exceeds-before g facts v s sizes rows before now few has reaches tells) ∙ sym is

-- tests of numbers in a row

all-pass : (p : ℕ → Bool) (start count : ℕ) → ((k : ℕ) → start ≤ k → k < start + count → p k ≡ true) →
    list_all p (numbers_from start count) ≡ true
unfolding numbers_from
all-pass p start zero each = refl
all-pass p start (suc count) each =
    and_from (p start) (list_all p (numbers_from (suc start) count)) (each start (omega arith) (omega arith))
    (all-pass p (suc start) count (λ k low high. each k (omega arith) (omega arith)))

one-fails : (p : ℕ → Bool) (start count k : ℕ) → start ≤ k → k < start + count → p k ≡ false →
    list_all p (numbers_from start count) ≡ false
unfolding numbers_from
one-fails p start zero k low high fails = absurd (omega arith)
one-fails p start (suc count) k low high fails =
    by (cases_lt start k) (λ less. one-fails p (suc start) count k less (omega arith) fails)
  where
    by : (start < k) ⊎ (k ≤ start) → (suc start ≤ k → list_all p (numbers_from (suc start) count) ≡ false) →
        (p start && list_all p (numbers_from (suc start) count)) ≡ false
    by (inl less) later = and_right (p start) (list_all p (numbers_from (suc start) count)) (later less)
    by (inr le) later = let same : k ≡ start = omega arith in
        and_left (p start) (list_all p (numbers_from (suc start) count)) (ap p (sym same) ∙ fails)

-- Where all numbers above those ordered up to `last` add something, and the next one of the window doesn't, those up to
-- `last` or the plan's end are worth a prepare.
pub worth-to : (g : Group) (facts : List OrderFact) (v limit planned last result : ℕ) →
    limit ≡ stable g facts + window → planned ≡ min (plan_end facts v) limit → gapless g facts ≤ last →
    ((t : ℕ) → gapless g facts < t → t ≤ last → adds g facts v t ≡ true) →
    (last < limit → adds g facts v (last + 1) ≡ false) → result ≡ max last planned → IsWorthTo g facts v result
worth-to g facts v limit planned last result limit_is planned_is from passed stops result_is s one within =
    by (cases_lt (plan_end facts v) s) (cases_lt last s)
  where
    chain : Bool
    chain = list_all (adds g facts v) (numbers_from (gapless g facts + 1) (s - gapless g facts))

    by : (plan_end facts v < s) ⊎ (s ≤ plan_end facts v) → (last < s) ⊎ (s ≤ last) →
        (nat_le s (plan_end facts v) || chain) ≡ nat_le s result
    by (inr in_plan) b =
        let le : s ≤ result = omega arith in
        or_left (nat_le s (plan_end facts v)) chain (le-leb s (plan_end facts v) in_plan) ∙ sym (le-leb s result le)
    by (inl beyond) (inr near) =
        let le : s ≤ result = omega arith in
        or_right (nat_le s (plan_end facts v)) chain
        (all-pass (adds g facts v) (gapless g facts + 1) (s - gapless g facts)
        (λ k low high. passed k (omega arith) (omega arith))) ∙ sym (le-leb s result le)
    by (inl beyond) (inl far) =
        let above : result < s = omega arith in
        (λ i. lt-leb s (plan_end facts v) beyond i || one-fails (adds g facts v) (gapless g facts + 1)
        (s - gapless g facts) (last + 1) (omega arith) (omega arith) (stops (omega arith)) i)
        ∙ sym (lt-leb s result above)

-- of numbers in a row those that pass, where these are those up to a last one

same-each : {X : Type 0} (f h : ℕ → List X) (start count : ℕ) →
    ((k : ℕ) → start ≤ k → k < start + count → f k ≡ h k) →
    flat_map f (numbers_from start count) ≡ flat_map h (numbers_from start count)
unfolding numbers_from
same-each f h start zero same = refl
same-each f h start (suc count) same =
    (λ i. same start (omega arith) (omega arith) i
    ++ same-each f h (suc start) count (λ k low high. same k (omega arith) (omega arith)) i)

cut : {X : Type 0} (f : ℕ → List X) (passes : ℕ → Bool) (count last : ℕ) →
    ((s : ℕ) → 1 ≤ s → s ≤ count → passes s ≡ nat_le s last) →
    flat_map f (numbers_from 1 (min last count)) ≡ flat_map (λ s. cond (passes s) (f s) []) (numbers_from 1 count)
cut {X} f passes count last same =
    let all : min last count + 1 - 1 ≡ min last count = omega arith in
    same-each f (λ s. cond (passes s) (f s) []) 1 (min last count)
    (λ k low high. sym (ap (λ b. cond b (f k) []) (same k low (omega arith) ∙ le-leb k last (omega arith))))
    ∙ ap (λ n. flat_map (λ s. cond (passes s) (f s) []) (numbers_from 1 n)) (sym all)
    ∙ sym (narrow (λ s. cond (passes s) (f s) []) count 1 (min last count + 1) (omega arith) (omega arith)
    (λ k low high below. absurd (omega arith))
    (λ k low high beyond. ap (λ b. cond {A = List X} b (f k) [])
    (same k low high ∙ lt-leb k last (omega arith))))

-- what is worth a prepare is prepared
pub worthy-are : (g : Group) (facts : List OrderFact) (said : List Body) (v last : ℕ) (is_open : Bool) →
    is_open ≡ true → IsWorthTo g facts v last →
    prepares_up_to g facts said v last ≡ worthy_prepares_due g facts said v is_open
worthy-are g facts said v last is_open open_is worth =
    cut (prepare_due facts said v) (is_worth g facts v) (stable g facts + window) last worth
    ∙ sym (ap (λ b. worthy_prepares_due g facts said v b) open_is)

-- nothing is prepared where no prepare is due

none-of : (f : ℕ → List Body) (start count : ℕ) → ((k : ℕ) → start ≤ k → k < start + count → f k ≡ []) →
    flat_map f (numbers_from start count) ≡ []
unfolding numbers_from
none-of f start zero none = refl
none-of f start (suc count) none =
    (λ i. none start (omega arith) (omega arith) i
    ++ none-of f (suc start) count (λ k low high. none k (omega arith) (omega arith)) i)

pub nothing-are : (g : Group) (facts : List OrderFact) (said : List Body) (v last : ℕ) (is_open : Bool) →
    ((s : ℕ) → 1 ≤ s → s ≤ stable g facts + window → prepare_due facts said v s ≡ []) →
    prepares_up_to g facts said v last ≡ worthy_prepares_due g facts said v is_open
nothing-are g facts said v last is_open none =
    none-of (prepare_due facts said v) 1 (min last (stable g facts + window))
    (λ k low high. none k low (omega arith)) ∙ sym (by is_open)
  where
    kept : (b : Bool) (xs : List Body) → xs ≡ [] → cond b xs [] ≡ []
    kept true xs e = e
    kept false xs e = refl

    by : (b : Bool) → worthy_prepares_due g facts said v b ≡ []
    by false = refl
    by true = none-of (λ s. cond (is_worth g facts v s) (prepare_due facts said v s) []) 1 (stable g facts + window)
        (λ k low high. kept (is_worth g facts v k) (prepare_due facts said v k) (none k low (omega arith)))

-- none is due up to a number, and nothing is offered from there on
pub unoffered-none : (g : Group) (facts : List OrderFact) (said : List Body) (v from limit s : ℕ) →
    limit ≡ stable g facts + window → ((t : ℕ) → 1 ≤ t → t ≤ from → prepare_due facts said v t ≡ []) →
    ((t : ℕ) → from < t → t ≤ limit → offered facts v t ≡ None) → 1 ≤ s → s ≤ stable g facts + window →
    prepare_due facts said v s ≡ []
unoffered-none g facts said v from limit s limit_is done none one within = by (cases_lt from s)
  where
    by : (from < s) ⊎ (s ≤ from) → prepare_due facts said v s ≡ []
    by (inl beyond) = prepare-none facts said v s (ap is_some (none s beyond (omega arith)))
    by (inr below) = done s one below

-- in a view that isn't open nothing is
pub closed-are : (g : Group) (facts : List OrderFact) (said : List Body) (v : ℕ) (is_open : Bool) → is_open ≡ false →
    prepares_up_to g facts said v 0 ≡ worthy_prepares_due g facts said v is_open
closed-are g facts said v is_open closed_is =
    let none : min 0 (stable g facts + window) ≡ 0 = omega arith in
    ap (λ n. flat_map (prepare_due facts said v) (numbers_from 1 n)) none ∙ flat_map-none (prepare_due facts said v) 1
    ∙ sym (ap (λ b. worthy_prepares_due g facts said v b) closed_is)

-- what holds of a number more
pub passed-more : (P : ℕ → Type 0) (from last : ℕ) → P (last + 1) → ((t : ℕ) → from < t → t ≤ last → P t) →
    (t : ℕ) → from < t → t ≤ last + 1 → P t
passed-more P from last here before t above le = by (cases_lt last t)
  where
    by : (last < t) ⊎ (t ≤ last) → P t
    by (inl beyond) = let same : last + 1 ≡ t = omega arith in subst P same here
    by (inr within) = before t above within

-- a number within the limit is planned where the plan goes beyond the one before it
pub planned-here : (last planned end limit : ℕ) → planned ≡ min end limit → last < limit →
    nat_lt last planned ≡ nat_le (last + 1) end
planned-here last planned end limit is within = by (cases_lt last end)
  where
    by : (last < end) ⊎ (end ≤ last) → nat_lt last planned ≡ nat_le (last + 1) end
    by (inl less) = lt-ltb last planned (omega arith) ∙ sym (le-leb (last + 1) end (omega arith))
    by (inr more) = le-ltb last planned (omega arith) ∙ sym (lt-leb (last + 1) end (omega arith))

-- as far as a plan goes, within the limit
pub planned-none : (facts : List OrderFact) (v limit : ℕ) → plan_known facts v ≡ None → 0 ≡ min (plan_end facts v) limit
planned-none facts v limit none =
    let least : 0 ≡ min 0 limit = omega arith in
    least ∙ ap (λ o. min (elim o [ None ↦ 0 | Some plan ↦ plan.base + length plan.rows ]) limit) (sym none)

pub planned-some : (facts : List OrderFact) (v limit most rows sum result : ℕ) (plan : Plan) →
    plan_known facts v ≡ Some plan → rows ≡ length plan.rows → sum ≡ min (plan.base + rows) most → limit ≤ most →
    result ≡ min sum limit → result ≡ min (plan_end facts v) limit
planned-some facts v limit most rows sum result plan known rows_is sum_is fits result_is =
    let least : result ≡ min (plan.base + length plan.rows) limit = omega arith in
    least ∙ ap (λ o. min (elim o [ None ↦ 0 | Some plan ↦ plan.base + length plan.rows ]) limit) (sym known)
