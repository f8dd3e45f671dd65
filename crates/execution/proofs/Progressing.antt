-- Executing certified requests one after another.
use Rattle.std.proofs.Common.{◌≡◌, ℕ, zero, suc, ◌+◌, ◌-◌, ◌<◌, ◌≤◌, Bool, true, false, cond, ◌&&◌, List, [], ◌∷◌}
use Rattle.std.proofs.Common.{◌++◌, Option, Some, None, is_some, length, filter, map, take, drop, nat_eq, get_or, set}
use Rattle.std.proofs.Common.{refl, sym, ◌∙◌, ap, subst, inl, inr, ◌⊎◌, arith, length-append, append-nil}
use Rattle.std.specs.List.{list_all}
use Rattle.std.proofs.Common.{get_or-set_same, get_or-set_other}
use Rattle.std.proofs.lemmas.Bool.{cases_eq, eq-eqb, ne_eqb, and_parts, and_from, cond-true, cond-false}
use Rattle.std.proofs.lemmas.List.{map-append, take_more, drop_more, drop_all}
use Rattle.std.proofs.lemmas.List.Elements.{filter-append}
use Rattle.std.proofs.lemmas.List.Folds.{list_all-append}
use Rattle.message_types.specs.declared.updates.Update.{Update}
use Rattle.protocol_rules.specs.Group.{Group}
use Rattle.protocol_rules.specs.Execution.{Request, certified_run, first_missing, kept_after, updates_of, executed_of}
use Rattle.protocol_rules.specs.Execution.{waiting_of, eligible_requests}
use Rattle.protocol_rules.specs.Words.{first_of_list}
use Rattle.execution.specs.Ran.{request_of}
use Rattle.execution.specs.Progress.{HasDone, HasCounts, IsStopped}
use Rattle.protocol_rules.proofs.Kept.{kept_after-append}

abbrev pub is_certified : (Request → Option Update) → Request → Bool
is_certified certified r = is_some (certified r)

run-some : (certified : Request → Option Update) (r : Request) (rest : List Request) (u : Update) →
    certified r ≡ Some u → certified_run certified (r ∷ rest) ≡ u ∷ certified_run certified rest
unfolding certified_run
run-some certified r rest u e = rw (e, certified_run) refl

run-none : (certified : Request → Option Update) (r : Request) (rest : List Request) → certified r ≡ None →
    certified_run certified (r ∷ rest) ≡ []
unfolding certified_run
run-none certified r rest e = rw (e, certified_run) refl

run-empty : (certified : Request → Option Update) → certified_run certified [] ≡ []
unfolding certified_run
run-empty certified = refl

missing-some : (certified : Request → Option Update) (r : Request) (rest : List Request) (u : Update) →
    certified r ≡ Some u → first_missing certified (r ∷ rest) ≡ first_missing certified rest
unfolding first_missing
missing-some certified r rest u e = rw (e, first_missing) refl

missing-none : (certified : Request → Option Update) (r : Request) (rest : List Request) → certified r ≡ None →
    first_missing certified (r ∷ rest) ≡ Some r
unfolding first_missing
missing-none certified r rest e = rw (e, first_missing) refl

missing-empty : (certified : Request → Option Update) → first_missing certified [] ≡ None
unfolding first_missing
missing-empty certified = refl

-- after requests that are all certified
run-append : (certified : Request → Option Update) (xs ys : List Request) →
    list_all (is_certified certified) xs ≡ true → certified_run certified (xs ++ ys) ≡ certified_run certified xs
    ++ certified_run certified ys
run-append certified [] ys all = ap (λ us. us ++ certified_run certified ys) (sym (run-empty certified))
run-append certified (r ∷ rest) ys all =
    by_answer (certified r) refl (and_parts (is_certified certified r) (list_all (is_certified certified) rest) all)
    (run-append certified rest ys)
  where
    by_answer : (o : Option Update) → certified r ≡ o → (is_certified certified r ≡ true)
        × (list_all (is_certified certified) rest ≡ true) →
        (list_all (is_certified certified) rest ≡ true →
        certified_run certified (rest ++ ys) ≡ certified_run certified rest ++ certified_run certified ys)
        → certified_run certified (r ∷ rest ++ ys) ≡ certified_run certified (r ∷ rest) ++ certified_run certified ys
    by_answer None e both less = absurd (let no : false ≡ true = ap is_some (sym e) ∙ both.0 in cc)
    by_answer (Some u) e both less = run-some certified r (rest ++ ys) u e ∙ ap (λ us. u ∷ us) (less both.1)
        ∙ ap (λ us. us ++ certified_run certified ys) (sym (run-some certified r rest u e))

missing-append : (certified : Request → Option Update) (xs ys : List Request) →
    list_all (is_certified certified) xs ≡ true → first_missing certified (xs ++ ys) ≡ first_missing certified ys
missing-append certified [] ys all = refl
missing-append certified (r ∷ rest) ys all =
    by_answer (certified r) refl (and_parts (is_certified certified r) (list_all (is_certified certified) rest) all)
    (missing-append certified rest ys)
  where
    by_answer : (o : Option Update) → certified r ≡ o → (is_certified certified r ≡ true)
        × (list_all (is_certified certified) rest ≡ true) →
        (list_all (is_certified certified) rest ≡ true →
        first_missing certified (rest ++ ys) ≡ first_missing certified ys)
        → first_missing certified (r ∷ rest ++ ys) ≡ first_missing certified ys
    by_answer None e both less = absurd (let no : false ≡ true = ap is_some (sym e) ∙ both.0 in cc)
    by_answer (Some u) e both less = missing-some certified r (rest ++ ys) u e ∙ less both.1

stopped-run : (certified : Request → Option Update) (rest : List Request) → IsStopped certified rest →
    certified_run certified rest ≡ []
stopped-run certified [] stopped = run-empty certified
stopped-run certified (r ∷ rest) stopped = run-none certified r rest stopped

stopped-missing : (certified : Request → Option Update) (rest : List Request) → IsStopped certified rest →
    first_missing certified rest ≡ first_of_list rest
stopped-missing certified [] stopped = missing-empty certified
stopped-missing certified (r ∷ rest) stopped = missing-none certified r rest stopped

-- one update in turn, or out of turn
pub kept-taken : (kept : List Update) (u : Update) → u.t ≡ updates_of u.client kept + 1 →
    kept ++ u ∷ [] ≡ kept_after kept (u ∷ [])
unfolding kept_after
kept-taken kept u e = sym (cond-true (nat_eq u.t (updates_of u.client kept + 1)) (kept ++ u ∷ []) kept
    (eq-eqb u.t (updates_of u.client kept + 1) e))

pub kept-passed : (kept : List Update) (u : Update) → (u.t ≡ updates_of u.client kept + 1 → ⊥) →
    kept ≡ kept_after kept (u ∷ [])
unfolding kept_after
kept-passed kept u ne = sym (cond-false (nat_eq u.t (updates_of u.client kept + 1)) (kept ++ u ∷ []) kept
    (ne_eqb u.t (updates_of u.client kept + 1) ne))

pub counts-taken : (kept : List Update) (u : Update) (counts : List ℕ) → length counts ≡ 12 → u.client < 12 →
    u.t ≡ updates_of u.client kept + 1 → HasCounts kept counts → HasCounts (kept ++ u ∷ []) (set counts u.client u.t)
counts-taken kept u counts twelve below turn has c lt = by_client (cases_eq c u.client)
  where
    more : (b : Bool) → length (filter (λ v. nat_eq v.client c) kept ++ cond b (u ∷ []) []) ≡ length
        (filter (λ v. nat_eq v.client c) kept) + cond b 1 0
    more true = length-append (filter (λ v. nat_eq v.client c) kept) (u ∷ [])
    more false = length-append (filter (λ v. nat_eq v.client c) kept) []

    count : updates_of c (kept ++ u ∷ []) ≡ updates_of c kept + cond (nat_eq u.client c) 1 0
    count = ap length (filter-append (λ v. nat_eq v.client c) kept (u ∷ [])) ∙ more (nat_eq u.client c)

    by_client : (c ≡ u.client) ⊎ (c ≡ u.client → ⊥) →
        get_or (set counts u.client u.t) c 0 ≡ updates_of c (kept ++ u ∷ [])
    by_client (inl e) =
        let one : cond (nat_eq u.client c) 1 0 ≡ 1 = cond-true (nat_eq u.client c) 1 0 (eq-eqb u.client c (sym e)) in
        let there : get_or (set counts u.client u.t) c 0 ≡ u.t = ap (λ x. get_or (set counts u.client u.t) x 0) e
        ∙ get_or-set_same counts u.client u.t 0 (omega arith) in
        let same : updates_of u.client kept ≡ updates_of c kept = ap (λ x. updates_of x kept) (sym e) in
        there ∙ turn ∙ ap (λ n. n + 1) same ∙ ap (λ n. updates_of c kept + n) (sym one) ∙ sym count
    by_client (inr ne) =
        let none : cond (nat_eq u.client c) 1 0 ≡ 0 =
        cond-false (nat_eq u.client c) 1 0 (ne_eqb u.client c (λ (e : u.client ≡ c). ne (sym e))) in
        let nothing : updates_of c kept ≡ updates_of c kept + 0 = omega arith in
        get_or-set_other counts u.client c u.t 0 ne ∙ has c lt ∙ nothing
        ∙ ap (λ n. updates_of c kept + n) (sym none) ∙ sym count

-- one request more is executed
pub done-more : (certified : Request → Option Update) (done : List Request) (r : Request) (u : Update)
    (old new : List Update) (counts after : List ℕ) → HasDone certified done old counts → certified r ≡ Some u
    → new ≡ kept_after old (u ∷ []) → HasCounts new after → HasDone certified (done ++ r ∷ []) new after
done-more certified done r u old new counts after has e kept counted =
    record {
      all = list_all-append (is_certified certified) done (r ∷ []) ∙ and_from (list_all (is_certified certified) done)
          (is_certified certified r && true) has.all (ap (λ b. b && true) (ap is_some e));
      kept = kept ∙ ap (λ us. kept_after us (u ∷ [])) has.kept
          ∙ sym (kept_after-append [] (certified_run certified done) (u ∷ []))
          ∙ ap (kept_after []) (sym (run-append certified done (r ∷ []) has.all
          ∙ ap (λ us. certified_run certified done ++ us)
          (run-some certified r [] u e ∙ ap (λ us. u ∷ us) (run-empty certified))));
      counted = counted;
    }

pub done-none : (certified : Request → Option Update) (counts : List ℕ) → ((c : ℕ) → get_or counts c 0 ≡ 0) →
    HasDone certified [] [] counts
unfolding certified_run kept_after
done-none certified counts none = record { all = refl; kept = refl; counted = λ c lt. none c }

run-same : (certified other : Request → Option Update) (xs : List Request) → ((r : Request) → certified r ≡ other r) →
    certified_run certified xs ≡ certified_run other xs
run-same certified other [] same = run-empty certified ∙ sym (run-empty other)
run-same certified other (r ∷ rest) same = by_answer (certified r) refl (run-same certified other rest same)
  where
    by_answer : (o : Option Update) → certified r ≡ o → certified_run certified rest ≡ certified_run other rest →
        certified_run certified (r ∷ rest) ≡ certified_run other (r ∷ rest)
    by_answer None e less = run-none certified r rest e ∙ sym (run-none other r rest (sym (same r) ∙ e))
    by_answer (Some u) e less = run-some certified r rest u e ∙ ap (λ us. u ∷ us) less
        ∙ sym (run-some other r rest u (sym (same r) ∙ e))

missing-same : (certified other : Request → Option Update) (xs : List Request) →
    ((r : Request) → certified r ≡ other r) → first_missing certified xs ≡ first_missing other xs
missing-same certified other [] same = missing-empty certified ∙ sym (missing-empty other)
missing-same certified other (r ∷ rest) same = by_answer (certified r) refl (missing-same certified other rest same)
  where
    by_answer : (o : Option Update) → certified r ≡ o → first_missing certified rest ≡ first_missing other rest →
        first_missing certified (r ∷ rest) ≡ first_missing other (r ∷ rest)
    by_answer None e less = missing-none certified r rest e ∙ sym (missing-none other r rest (sym (same r) ∙ e))
    by_answer (Some u) e less = missing-some certified r rest u e ∙ less
        ∙ sym (missing-some other r rest u (sym (same r) ∙ e))

-- what was certified stays certified
pub done-kept : (certified other : Request → Option Update) (done : List Request) (executed : List Update)
    (counts : List ℕ) → ((r : Request) (u : Update) → certified r ≡ Some u → other r ≡ Some u) →
    HasDone certified done executed counts → HasDone other done executed counts
done-kept certified other done executed counts stays has =
    record {
      all = (same done has.all).0;
      kept = has.kept ∙ ap (kept_after []) (sym (same done has.all).1);
      counted = has.counted;
    }
  where
    same : (xs : List Request) → list_all (is_certified certified) xs ≡ true →
        (list_all (is_certified other) xs ≡ true) × (certified_run other xs ≡ certified_run certified xs)
    same [] all = (refl, run-empty other ∙ sym (run-empty certified))
    same (r ∷ rest) all = by_answer (certified r) refl
        (and_parts (is_certified certified r) (list_all (is_certified certified) rest) all) (same rest)
      where
        by_answer : (o : Option Update) → certified r ≡ o → (is_certified certified r ≡ true)
            × (list_all (is_certified certified) rest ≡ true)
            → (list_all (is_certified certified) rest ≡ true → (list_all (is_certified other) rest ≡ true)
            × (certified_run other rest ≡ certified_run certified rest))
            → (list_all (is_certified other) (r ∷ rest) ≡ true)
            × (certified_run other (r ∷ rest) ≡ certified_run certified (r ∷ rest))
        by_answer None e both less = absurd (let no : false ≡ true = ap is_some (sym e) ∙ both.0 in cc)
        by_answer (Some u) e both less = (
          and_from (is_certified other r) (list_all (is_certified other) rest)
              (ap is_some (stays r u e)) (less both.1).0,
          run-some other r rest u (stays r u e) ∙ ap (λ us. u ∷ us) (less both.1).1
              ∙ sym (run-some certified r rest u e),
        )

-- what is executed, and what is waited for
pub executed-is : (g : Group) (runs : List (List (List ℕ))) (certificates certified : Request → Option Update)
    (done rest : List Request) (executed : List Update) (counts : List ℕ)
    → HasDone certificates done executed counts → IsStopped certificates rest →
    done ++ rest ≡ eligible_requests g [] runs → ((r : Request) → certificates r ≡ certified r) →
    executed ≡ executed_of g certified runs
unfolding executed_of
executed-is g runs certificates certified done rest executed counts has stopped all same =
    has.kept ∙ ap (kept_after [])
    (sym (append-nil (certified_run certificates done)) ∙ ap (λ us. certified_run certificates done ++ us)
    (sym (stopped-run certificates rest stopped))
    ∙ sym (run-append certificates done rest has.all) ∙ run-same certificates certified (done ++ rest) same
    ∙ ap (certified_run certified) all)

pub waiting-is : (g : Group) (runs : List (List (List ℕ))) (certificates certified : Request → Option Update)
    (done rest : List Request) (executed : List Update) (counts : List ℕ)
    → HasDone certificates done executed counts → IsStopped certificates rest →
    done ++ rest ≡ eligible_requests g [] runs → ((r : Request) → certificates r ≡ certified r) →
    first_of_list rest ≡ waiting_of g certified runs
unfolding waiting_of
waiting-is g runs certificates certified done rest executed counts has stopped all same =
    sym (stopped-missing certificates rest stopped) ∙ sym (missing-append certificates done rest has.all)
    ∙ missing-same certificates certified (done ++ rest) same ∙ ap (first_missing certified) all

-- the place of the first request left
pub first-here : (xs : List (ℕ × ℕ)) (at : ℕ) (p : ℕ × ℕ) → at < length xs → p ≡ get_or xs at p →
    Some (request_of p) ≡ first_of_list (map request_of (drop at xs))
first-here xs at p within here = ap (λ q. Some (request_of q)) here
    ∙ sym (ap (λ ys. first_of_list (map request_of ys)) (drop_more xs at p within))

pub first-none : (xs : List (ℕ × ℕ)) (at : ℕ) → length xs ≤ at → None ≡ first_of_list (map request_of (drop at xs))
first-none xs at past = sym (ap (λ ys. first_of_list (map request_of ys)) (drop_all at xs past))

pub stopped-here : (certified : Request → Option Update) (xs : List (ℕ × ℕ)) (at : ℕ) (d : ℕ × ℕ) → at < length xs →
    certified (request_of (get_or xs at d)) ≡ None → IsStopped certified (map request_of (drop at xs))
stopped-here certified xs at d within none = subst (λ (ys : List (ℕ × ℕ)). IsStopped certified (map request_of ys))
    (sym (drop_more xs at d within)) none

pub stopped-end : (certified : Request → Option Update) (xs : List (ℕ × ℕ)) (at : ℕ) → length xs ≤ at →
    IsStopped certified (map request_of (drop at xs))
stopped-end certified xs at past = subst (λ (ys : List (ℕ × ℕ)). IsStopped certified (map request_of ys))
    (sym (drop_all at xs past)) tt

pub done-step : (certified : Request → Option Update) (xs : List (ℕ × ℕ)) (at : ℕ) (d : ℕ × ℕ) (u : Update)
    (old new : List Update) (counts after : List ℕ) → at < length xs → certified (request_of (get_or xs at d)) ≡ Some u
    → (HasCounts old counts → new ≡ kept_after old (u ∷ [])) → (HasCounts old counts → HasCounts new after)
    → HasDone certified (map request_of (take at xs)) old counts →
    HasDone certified (map request_of (take (at + 1) xs)) new after
done-step certified xs at d u old new counts after within e kept counted has =
    subst (λ (rs : List Request). HasDone certified rs new after)
    (sym (ap (map request_of) (take_more xs at d within)
    ∙ map-append request_of (take at xs) (get_or xs at d ∷ [])))
    (done-more certified (map request_of (take at xs)) (request_of (get_or xs at d)) u old new counts after has e
    (kept has.counted) (counted has.counted))
