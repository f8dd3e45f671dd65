-- Where words may be due: what one fact more, or what was said, changes of that.
use Rattle.std.proofs.Common.{◌≡◌, ℕ, zero, suc, ◌+◌, ◌-◌, ◌≤◌, ◌<◌, ◌⊎◌, inl, inr, min, Bool, true, false, cond}
use Rattle.std.proofs.Common.{◌&&◌, ◌||◌, List, [], ◌∷◌, ◌++◌, Option, Some, None, is_some, length, nat_eq, nat_le}
use Rattle.std.proofs.Common.{refl, sym, ◌∙◌, ap, subst, arith, true≢false}
use Rattle.std.specs.Prelude.{slice_get}
use Rattle.std.specs.Bool.{OnTrue, OnFalse}
use Rattle.std.specs.List.{filter_map, flat_map, list_any}
use Rattle.std.specs.Option.{option_map}
use Rattle.std.proofs.lemmas.Bool.{cases_lt, eq-eqb, or_left, or_parts, or_right}
use Rattle.std.proofs.lemmas.Grind.{flat_map-append}
use Rattle.std.proofs.lemmas.List.Folds.{list_any-append}
use Rattle.indexmap.specs.IndexMap.{get}
use Rattle.std.specs.HashSet.{contains}
use Rattle.message_types.specs.declared.body.Body.{Body}
use Rattle.message_types.specs.declared.body.Body.TheVariants as body
use Rattle.message_types.specs.declared.views.Plan.{Plan}
use Rattle.message_types.specs.Digests.{digest_of_rows}
use Rattle.protocol_rules.specs.declared.facts.OrderFact.{OrderFact}
use Rattle.protocol_rules.specs.declared.facts.OrderFact.TheVariants as fact
use Rattle.protocol_rules.specs.Words.{first_of_list, numbers_from, or_else}
use Rattle.protocol_rules.specs.Plans.{first_plan}
use Rattle.protocol_rules.specs.Group.{Group, window}
use Rattle.protocol_rules.specs.Order.{commit_due, commits_due, commits_said, offered, plan_in, plan_known}
use Rattle.protocol_rules.specs.Order.{prepare_due, prepared, prepares_said, proposal_in, stable}
use Rattle.global_order.specs.declared.pending.PendingNumbers.{PendingNumbers}
use Rattle.global_order.specs.declared.slots.Slot.{Slot}
use Rattle.global_order.specs.Index.{KeepsSlots, Map, TakesDigest, first_in, prepared_in, same_pair}
use Rattle.global_order.specs.OrderState.{prepares_up_to}
use Rattle.global_order.specs.Saying.{HasSaidCommits, HasSaidPrepares, Places}
use Rattle.global_order.specs.Unsaid.{HasPending, IsAmong, IsNoted, LooksFrom, holds_prepared, offers_rows, said_in}
use Rattle.global_order.specs.Unsaid.{whole_view, with_view}
use Rattle.global_order.proofs.Booleans.{and-parts, first_of_list-push, nat_eq-same, same_pair-same, stays}
use Rattle.global_order.proofs.Ranges.{flat_map-none, narrow}
use Rattle.global_order.proofs.Voting.{first-other}
use Rattle.protocol_rules.proofs.Numbers.{numbers-split, any-from}

-- nothing more is there
pub pending-less : (said there now : ℕ → ℕ → Bool) (p : PendingNumbers) →
    ((w t : ℕ) → now w t ≡ true → there w t ≡ true) → HasPending said there p → HasPending said now p
pending-less said there now p less has = record {
  from_one = has.from_one;
  apart = has.apart;
  within = λ s one unsaid some. has.within s one unsaid (less p.view s some);
}

-- more is there at one number alone, which is noted
pub pending-noted : (said there now : ℕ → ℕ → Bool) (v s : ℕ) (p q : PendingNumbers) → IsNoted v s p q →
    ((w t : ℕ) → same_pair (v, s) (w, t) ≡ false → now w t ≡ true → there w t ≡ true) →
    HasPending said there p → HasPending said now q
pending-noted said there now v s p q noted less has = record {
  from_one = (noted.from_one has.from_one.0, omega (arith, noted.beyond, has.from_one.1));
  apart = noted.apart has.apart;
  within = λ t one unsaid some. at t (same_pair (v, s) (q.view, t)) refl one unsaid some;
}
  where
    wider : (t : ℕ) → IsAmong p t → IsAmong q t
    wider t (inl within) = inl (omega (arith, noted.low, within.0), omega (arith, noted.high, within.1))
    wider t (inr beyond) = inr (omega (arith, noted.beyond, beyond))

    at : (t : ℕ) (b : Bool) → same_pair (v, s) (q.view, t) ≡ b → 1 ≤ t → said q.view t ≡ false →
        now q.view t ≡ true → IsAmong q t
    at t true e one unsaid some =
        let both : (nat_eq v q.view ≡ true) × (nat_eq s t ≡ true) = and-parts (nat_eq v q.view) (nat_eq s t) e in
        let here : s ≡ t = nat_eq-same s t both.1 in
        subst (IsAmong q) here (noted.within (nat_eq-same v q.view both.0 ∙ noted.view)
        (subst (λ (u : ℕ). 1 ≤ u) (sym here) one))
    at t false e one unsaid some =
        wider t (has.within t one (ap (λ w. said w t) (sym noted.view) ∙ unsaid)
        (ap (λ w. there w t) (sym noted.view) ∙ less q.view t e some))

pub pending-whole : (said there : ℕ → ℕ → Bool) (v : ℕ) → HasPending said there (whole_view v)
pending-whole said there v = record {
  from_one = (omega arith, omega arith);
  apart = omega arith;
  within =
      λ s one unsaid some. inr one;
}

-- more is there in one view alone, all of which is noted
pub pending-view : (said there now : ℕ → ℕ → Bool) (v : ℕ) (p : PendingNumbers) →
    ((w t : ℕ) → nat_eq v w ≡ false → now w t ≡ true → there w t ≡ true) → HasPending said there p →
    HasPending said now (with_view v p)
pending-view said there now v p less has = by (nat_eq v p.view) refl
  where
    by : (b : Bool) → nat_eq v p.view ≡ b → HasPending said now (cond b (whole_view v) p)
    by true e = pending-whole said now v
    by false e = record {
      from_one = has.from_one;
      apart = has.apart;
      within =
          λ s one unsaid some. has.within s one unsaid (less p.view s e some);
    }

pub noted-not : (v s : ℕ) (p : PendingNumbers) → (v ≡ p.view → 1 ≤ s → s < p.beyond → ⊥) → IsNoted v s p p
noted-not v s p never = record {
  view = refl;
  from_one = λ le. le;
  beyond = refl;
  apart = λ le. le;
  low = omega arith;
  high = omega arith;
  within = λ here one. by here one (cases_lt s p.beyond);
}
  where
    by : v ≡ p.view → 1 ≤ s → (s < p.beyond) ⊎ (p.beyond ≤ s) → IsAmong p s
    by here one (inl less) = absurd (never here one less)
    by here one (inr more) = inr more

-- a slot takes a digest
pub pending-takes : (said : ℕ → ℕ → Bool) (v s : ℕ) (d : List ℕ) (old new : Map (ℕ × ℕ) Slot) (p q : PendingNumbers) →
    TakesDigest (same_pair (v, s)) d old new → IsNoted v s p q →
    HasPending said (holds_prepared old) p → HasPending said (holds_prepared new) q
pending-takes said v s d old new p q takes noted has =
    pending-noted said (holds_prepared old) (holds_prepared new) v s p q noted
    (λ w t apart some. sym (ap is_some
    (takes.first (w, t) ∙ ap (λ b. cond b (or_else (first_in (get same_pair old (w, t))) (Some d))
    (first_in (get same_pair old (w, t)))) apart)) ∙ some) has

pub pending-kept : (said : ℕ → ℕ → Bool) (old new : Map (ℕ × ℕ) Slot) (p : PendingNumbers) → KeepsSlots old new →
    HasPending said (holds_prepared old) p → HasPending said (holds_prepared new) p
pending-kept said old new p keeps has = pending-less said (holds_prepared old) (holds_prepared new) p
    (λ w t some. sym (ap is_some (keeps.first (w, t))) ∙ some) has

-- what a view offers, by its plan and by what was proposed
offer_of : Option Plan → Option (List (List ℕ)) → ℕ → Option (List (List ℕ))
offer_of None proposed s = None
offer_of (Some plan) proposed s =
    cond (nat_le s plan.base) None
    (cond (nat_le s (plan.base + length plan.rows)) (slice_get plan.rows (s - plan.base - 1)) proposed)

offered-is : (facts : List OrderFact) (v s : ℕ) → offered facts v s ≡ offer_of (plan_known facts v)
    (first_of_list (filter_map (proposal_in v s) facts)) s
unfolding offered offer_of
offered-is facts v s = by (plan_known facts v)
  where
    by : (o : Option Plan) → (elim o [
      | None ↦ None
      | Some plan ↦
          cond (nat_le s plan.base) None
          (cond (nat_le s (plan.base + length plan.rows)) (slice_get plan.rows (s - plan.base - 1))
          (first_of_list (filter_map (proposal_in v s) facts)))
    ]) ≡ offer_of o (first_of_list (filter_map (proposal_in v s) facts)) s
    by None = refl
    by (Some plan) = refl

offered-same : (facts more : List OrderFact) (v s : ℕ) → first_of_list (filter_map (plan_in v) more) ≡ first_of_list
    (filter_map (plan_in v) facts) → first_of_list (filter_map (proposal_in v s) more) ≡ first_of_list
    (filter_map (proposal_in v s) facts) →
    offers_rows more v s ≡ offers_rows facts v s
offered-same facts more v s plans proposals =
    ap is_some (offered-is more v s ∙ (λ i. offer_of (cond (nat_eq v 0) (Some first_plan) (plans i)) (proposals i) s)
    ∙ sym (offered-is facts v s))

-- a fact that offers nothing
pub pending-other : (said : ℕ → ℕ → Bool) (facts : List OrderFact) (x : OrderFact) (p : PendingNumbers) →
    ((v : ℕ) → plan_in v x ≡ None) → ((v s : ℕ) → proposal_in v s x ≡ None) →
    HasPending said (offers_rows facts) p → HasPending said (offers_rows (facts ++ x ∷ [])) p
pending-other said facts x p plan proposal has =
    pending-less said (offers_rows facts) (offers_rows (facts ++ x ∷ [])) p
    (λ w t some. sym (offered-same facts (facts ++ x ∷ []) w t (first-other (plan_in w) facts x (plan w))
    (first-other (proposal_in w t) facts x (proposal w t))) ∙ some) has

pub pending-proposal : (said : ℕ → ℕ → Bool) (facts : List OrderFact) (v s : ℕ) (rows : List (List ℕ))
    (proposals : Map (ℕ × ℕ) (List (List ℕ))) (p q : PendingNumbers) →
    ((w t : ℕ) → get same_pair proposals (w, t) ≡ first_of_list (filter_map (proposal_in w t) facts)) →
    OnTrue (is_some (get same_pair proposals (v, s))) (q ≡ p) →
    OnFalse (is_some (get same_pair proposals (v, s))) (IsNoted v s p q) →
    HasPending said (offers_rows facts) p → HasPending said (offers_rows (facts ++ fact.Proposal v s rows ∷ [])) q
pending-proposal said facts v s rows proposals p q held on_true on_false has =
    by (is_some (get same_pair proposals (v, s))) refl on_true on_false
  where
    same : (w t : ℕ) (here : Bool) → same_pair (v, s) (w, t) ≡ here →
        (here ≡ true → is_some (first_of_list (filter_map (proposal_in w t) facts)) ≡ true) →
        offers_rows (facts ++ fact.Proposal v s rows ∷ []) w t ≡ offers_rows facts w t
    same w t here e there =
        offered-same facts (facts ++ fact.Proposal v s rows ∷ []) w t
        (first-other (plan_in w) facts (fact.Proposal v s rows) refl)
        (first_of_list-push (proposal_in w t) facts (fact.Proposal v s rows)
        ∙ ap (λ b. or_else (first_of_list (filter_map (proposal_in w t) facts)) (cond b (Some rows) None)) e
        ∙ sym (stays here (first_of_list (filter_map (proposal_in w t) facts)) rows there))

    by : (b : Bool) → is_some (get same_pair proposals (v, s)) ≡ b → OnTrue b (q ≡ p) → OnFalse b (IsNoted v s p q) →
        HasPending said (offers_rows (facts ++ fact.Proposal v s rows ∷ [])) q
    by true known is_same noted =
        subst (HasPending said (offers_rows (facts ++ fact.Proposal v s rows ∷ []))) (sym is_same)
        (pending-less said (offers_rows facts) (offers_rows (facts ++ fact.Proposal v s rows ∷ [])) p
        (λ w t some. sym (same w t (same_pair (v, s) (w, t)) refl
        (λ e. ap is_some (sym (held w t)) ∙ ap (λ (k : ℕ × ℕ). is_some (get same_pair proposals k))
        (sym (same_pair-same (v, s) (w, t) e)) ∙ known)) ∙ some) has)
    by false fresh is_same noted =
        pending-noted said (offers_rows facts) (offers_rows (facts ++ fact.Proposal v s rows ∷ [])) v s p q noted
        (λ w t apart some. sym (same w t false apart (λ e. absurd (true≢false (sym e)))) ∙ some) has

pub pending-plan : (said : ℕ → ℕ → Bool) (facts : List OrderFact) (v : ℕ) (plan : Plan) (plans : Map ℕ Plan)
    (p q : PendingNumbers) →
    ((w : ℕ) → get nat_eq plans w ≡ first_of_list (filter_map (plan_in w) facts)) →
    q ≡ cond (is_some (get nat_eq plans v)) p (with_view v p) →
    HasPending said (offers_rows facts) p → HasPending said (offers_rows (facts ++ fact.Plan v plan ∷ [])) q
pending-plan said facts v plan plans p q held is has =
    subst (HasPending said (offers_rows (facts ++ fact.Plan v plan ∷ []))) (sym is)
    (by (is_some (get nat_eq plans v)) refl)
  where
    same : (w t : ℕ) (here : Bool) → nat_eq v w ≡ here →
        (here ≡ true → is_some (first_of_list (filter_map (plan_in w) facts)) ≡ true) →
        offers_rows (facts ++ fact.Plan v plan ∷ []) w t ≡ offers_rows facts w t
    same w t here e there =
        offered-same facts (facts ++ fact.Plan v plan ∷ []) w t
        (first_of_list-push (plan_in w) facts (fact.Plan v plan)
        ∙ ap (λ b. or_else (first_of_list (filter_map (plan_in w) facts)) (cond b (Some plan) None)) e
        ∙ sym (stays here (first_of_list (filter_map (plan_in w) facts)) plan there))
        (first-other (proposal_in w t) facts (fact.Plan v plan) refl)

    by : (b : Bool) → is_some (get nat_eq plans v) ≡ b →
        HasPending said (offers_rows (facts ++ fact.Plan v plan ∷ [])) (cond b p (with_view v p))
    by true known =
        pending-less said (offers_rows facts) (offers_rows (facts ++ fact.Plan v plan ∷ [])) p
        (λ w t some. sym (same w t (nat_eq v w) refl
        (λ e. ap is_some (sym (held w)) ∙ ap (λ (k : ℕ). is_some (get nat_eq plans k)) (sym (nat_eq-same v w e))
        ∙ known)) ∙ some) has
    by false fresh =
        pending-view said (offers_rows facts) (offers_rows (facts ++ fact.Plan v plan ∷ [])) v p
        (λ w t apart some. sym (same w t false apart (λ e. absurd (true≢false (sym e)))) ∙ some) has

-- what is due in a range is all that is due

outside-pending : (f : ℕ → List Body) (said there : ℕ → ℕ → Bool) (p : PendingNumbers) (k : ℕ) →
    ((j : ℕ) → said p.view j ≡ true → f j ≡ []) → ((j : ℕ) → there p.view j ≡ false → f j ≡ []) →
    HasPending said there p → 1 ≤ k → (IsAmong p k → ⊥) → f k ≡ []
outside-pending f said there p k when_said when_none has one never = on (said p.view k) refl (there p.view k) refl
  where
    on : (a : Bool) → said p.view k ≡ a → (b : Bool) → there p.view k ≡ b → f k ≡ []
    on true is b at = when_said k is
    on false is false at = when_none k at
    on false is true at = absurd (never (has.within k one is at))

pub narrow-pending : (f : ℕ → List Body) (said there : ℕ → ℕ → Bool) (p : PendingNumbers) (end high middle : ℕ) →
    ((k : ℕ) → said p.view k ≡ true → f k ≡ []) → ((k : ℕ) → there p.view k ≡ false → f k ≡ []) →
    HasPending said there p → high ≡ min p.high end → middle ≡ min p.beyond end →
    flat_map f (numbers_from p.low (high - p.low)) ++ flat_map f (numbers_from middle (end - middle)) ≡ flat_map f
    (numbers_from 1 (end - 1))
narrow-pending f said there p zero high middle when_said when_none has high_is middle_is =
    let none : high - p.low ≡ 0 = omega arith in
    let empty : 0 - middle ≡ 0 = omega arith in
    let last : 0 - 1 ≡ 0 = omega arith in
    (λ i. flat_map f (numbers_from p.low (none i)) ++ flat_map f (numbers_from middle (empty i)))
    ∙ (λ i. flat_map-none f p.low i ++ flat_map-none f middle i)
    ∙ sym (ap (λ n. flat_map f (numbers_from 1 n)) last ∙ flat_map-none f 1)
narrow-pending f said there p (suc end) high middle when_said when_none has high_is middle_is =
    let one : 1 ≤ middle = omega (arith, middle_is, has.from_one.1) in
    let fits : high ≤ middle - 1 + 1 = omega (arith, high_is, middle_is, has.apart, one) in
    let all : suc end - 1 ≡ (middle - 1) + (suc end - middle) = omega (arith, middle_is, one) in
    let start : 1 + (middle - 1) ≡ middle = omega (arith, one) in
    sym (ap (λ n. flat_map f (numbers_from 1 n)) all
    ∙ ap (flat_map f) (numbers-split 1 (middle - 1) (suc end - middle)
    ∙ ap (λ s. numbers_from 1 (middle - 1) ++ numbers_from s (suc end - middle)) start)
    ∙ flat_map-append f (numbers_from 1 (middle - 1)) (numbers_from middle (suc end - middle))
    ∙ ap (λ xs. xs ++ flat_map f (numbers_from middle (suc end - middle)))
    (narrow f (middle - 1) p.low high has.from_one.0 fits
    (λ k low le less. outside k low (λ among. by k among (λ within. let above : p.low ≤ k = within.0 in omega arith)
    (omega (arith, middle_is, one))))
    (λ k low le more. outside k low
    (λ among. by k among (λ within. let below : k < p.high = within.1 in omega (arith, high_is, middle_is, one))
    (omega (arith, middle_is, one))))))
  where
    outside : (k : ℕ) → 1 ≤ k → (IsAmong p k → ⊥) → f k ≡ []
    outside k one never = outside-pending f said there p k when_said when_none has one never

    by : (k : ℕ) → IsAmong p k → ((p.low ≤ k) × (k < p.high) → ⊥) → k < p.beyond → ⊥
    by k (inl within) never below = never within
    by k (inr beyond) never below = omega arith

-- no prepare is due where one was said, or where no rows are offered
prepare-said : (facts : List OrderFact) (words : List Body) (places : Places) (v k : ℕ) → HasSaidPrepares words places →
    said_in places v k ≡ true → prepare_due facts words v k ≡ []
prepare-said facts words places v k held said =
    ap (λ b. cond {A = List Body} b []
    (elim (offered facts v k)
    [ Some rows ↦ body.Prepare record { v = v; s = k; digest = digest_of_rows rows } ∷ [] | None ↦ [] ]))
    (sym (held v k) ∙ said)

pub prepare-none : (facts : List OrderFact) (words : List Body) (v k : ℕ) → offers_rows facts v k ≡ false →
    prepare_due facts words v k ≡ []
prepare-none facts words v k none = by (list_any (prepares_said v k) words) (offered facts v k) none
  where
    by : (b : Bool) (o : Option (List (List ℕ))) → is_some o ≡ false →
        cond {A = List Body} b []
        (elim o [
          | Some rows ↦ body.Prepare record { v = v; s = k; digest = digest_of_rows rows } ∷ []
          | None ↦ []
        ]) ≡ []
    by true o none = refl
    by false None none = refl
    by false (Some rows) none = absurd (true≢false none)

pub narrow-prepares : (facts : List OrderFact) (words : List Body) (places : Places) (p : PendingNumbers)
    (end high middle : ℕ) → HasSaidPrepares words places → HasPending (said_in places) (offers_rows facts) p →
    high ≡ min p.high end → middle ≡ min p.beyond end →
    flat_map (prepare_due facts words p.view) (numbers_from p.low (high - p.low))
    ++ flat_map (prepare_due facts words p.view) (numbers_from middle (end - middle)) ≡ flat_map
    (prepare_due facts words p.view) (numbers_from 1 (end - 1))
narrow-prepares facts words places p end high middle held has high_is middle_is =
    narrow-pending (prepare_due facts words p.view) (said_in places) (offers_rows facts) p end high middle
    (λ k said. prepare-said facts words places p.view k held said)
    (λ k none. prepare-none facts words p.view k none) has high_is middle_is

-- none is due below the first number pending
pub none-before : (facts : List OrderFact) (words : List Body) (places : Places) (p : PendingNumbers)
    (v first last s : ℕ) → p.view ≡ v → HasSaidPrepares words places →
    HasPending (said_in places) (offers_rows facts) p → ((t : ℕ) → IsAmong p t → first ≤ t) → last ≡ first - 1 →
    1 ≤ s → s ≤ last → prepare_due facts words v s ≡ []
none-before facts words places p v first last s view held has least last_is one within =
    subst (λ (u : ℕ). prepare_due facts words u s ≡ []) view
    (outside-pending (prepare_due facts words p.view) (said_in places) (offers_rows facts) p s
    (λ k said. prepare-said facts words places p.view k held said)
    (λ k none. prepare-none facts words p.view k none) has one
    (λ among. let le : first ≤ s = least s among in omega arith))

pub narrow-commits : (g : Group) (facts : List OrderFact) (words : List Body) (places : Places)
    (slots : Map (ℕ × ℕ) Slot) (p : PendingNumbers) (end high middle : ℕ) → HasSaidCommits words places →
    ((k : ℕ × ℕ) → first_in (get same_pair slots k) ≡ prepared_in g facts k) →
    HasPending (said_in places) (holds_prepared slots) p → high ≡ min p.high end → middle ≡ min p.beyond end →
    flat_map (commit_due g facts words p.view) (numbers_from p.low (high - p.low))
    ++ flat_map (commit_due g facts words p.view) (numbers_from middle (end - middle)) ≡ flat_map
    (commit_due g facts words p.view) (numbers_from 1 (end - 1))
narrow-commits g facts words places slots p end high middle held choice has high_is middle_is =
    narrow-pending (commit_due g facts words p.view) (said_in places) (holds_prepared slots) p end high middle
    (λ k said. ap (λ b. cond {A = List Body} b []
    (elim (prepared g facts p.view k)
    [ Some rows ↦ body.Commit record { v = p.view; s = k; digest = digest_of_rows rows } ∷ [] | None ↦ [] ]))
    (sym (held p.view k) ∙ said))
    (λ k none. by k (list_any (commits_said p.view k) words) (prepared g facts p.view k)
    (sym (ap is_some (choice (p.view, k))) ∙ none)) has high_is middle_is
  where
    by : (k : ℕ) (b : Bool) (o : Option (List (List ℕ))) → is_some (option_map digest_of_rows o) ≡ false →
        cond {A = List Body} b []
        (elim o [
          | Some rows ↦ body.Commit record { v = p.view; s = k; digest = digest_of_rows rows } ∷ []
          | None ↦ []
        ]) ≡ []
    by k true o none = refl
    by k false None none = refl
    by k false (Some rows) none = absurd (true≢false none)

-- what is pending once all below `end` that is due is said

pub pending-said : (kind : ℕ → ℕ → Body → Bool) (there : ℕ → ℕ → Bool) (bodies noted : List Body)
    (old mid new : Places) (p q : PendingNumbers) (end : ℕ) →
    ((k : ℕ × ℕ) → contains same_pair mid k ≡ contains same_pair old k) → noted ≡ bodies →
    ((v s : ℕ) → contains same_pair new (v, s) ≡ (contains same_pair mid (v, s) || list_any (kind v s) noted)) →
    LooksFrom end p q →
    ((s : ℕ) → 1 ≤ s → s < end → said_in old p.view s ≡ false → there p.view s ≡ true →
    list_any (kind p.view s) bodies ≡ true) → HasPending (said_in old) there p → HasPending (said_in new) there q
pending-said kind there bodies noted old mid new p q end same are more from among has = record {
  from_one = from.from_one has.from_one;
  apart = from.apart has.apart;
  within = λ s one unsaid some. at s one (ap (λ w. said_in new w s) (sym from.view) ∙ unsaid)
      (ap (λ w. there w s) (sym from.view) ∙ some);
}
  where
    said_now : (s : ℕ) → said_in new p.view s ≡ (said_in old p.view s || list_any (kind p.view s) bodies)
    said_now s = more p.view s ∙ ap (λ b. b || list_any (kind p.view s) noted) (same (p.view, s))
        ∙ ap (λ xs. said_in old p.view s || list_any (kind p.view s) xs) are

    by : (s : ℕ) → 1 ≤ s → there p.view s ≡ true → (said_in old p.view s ≡ false)
        × (list_any (kind p.view s) bodies ≡ false) → (s < end) ⊎ (end ≤ s) → IsAmong q s
    by s one some parts (inl less) = absurd (true≢false (sym (among s one less parts.0 some) ∙ parts.1))
    by s one some parts (inr beyond) = from.within s beyond (has.within s one parts.0 some)

    at : (s : ℕ) → 1 ≤ s → said_in new p.view s ≡ false → there p.view s ≡ true → IsAmong q s
    at s one unsaid some = by s one some (or_parts (said_in old p.view s) (list_any (kind p.view s) bodies)
        (sym (said_now s) ∙ unsaid)) (cases_lt s end)

pub prepare-among : (g : Group) (facts : List OrderFact) (words : List Body) (places : Places) (rest more : List Body)
    (v w last end s : ℕ) → w ≡ v → HasSaidPrepares words places → end - 1 ≡ min last (stable g facts + 16) →
    1 ≤ s → s < end → said_in places w s ≡ false → offers_rows facts w s ≡ true →
    list_any (prepares_said w s) ((prepares_up_to g facts words v last ++ rest) ++ more) ≡ true
unfolding window
prepare-among g facts words places rest more v w last end s view held count one below unsaid some =
    list_any-append (prepares_said w s) (prepares_up_to g facts words v last ++ rest) more
    ∙ or_left (list_any (prepares_said w s) (prepares_up_to g facts words v last ++ rest))
    (list_any (prepares_said w s) more)
    (list_any-append (prepares_said w s) (prepares_up_to g facts words v last) rest
    ∙ or_left (list_any (prepares_said w s) (prepares_up_to g facts words v last))
    (list_any (prepares_said w s) rest)
    (any-from (prepares_said w s) (prepare_due facts words v) 1 (min last (stable g facts + 16)) s one
    (let is : end - 1 ≡ min last (stable g facts + 16) = count in omega arith)
    (subst (λ (u : ℕ). list_any (prepares_said u s) (prepare_due facts words v s) ≡ true) (sym view)
    (by (list_any (prepares_said v s) words) (offered facts v s)
    (sym (held v s) ∙ ap (λ u. said_in places u s) (sym view) ∙ unsaid)
    (ap (λ u. offers_rows facts u s) (sym view) ∙ some)))))
  where
    by : (b : Bool) (o : Option (List (List ℕ))) → b ≡ false → is_some o ≡ true →
        list_any (prepares_said v s)
        (cond {A = List Body} b []
        (elim o [ Some rows ↦ body.Prepare record { v = v; s = s; digest = digest_of_rows rows } ∷ [] | None ↦ [] ]))
        ≡ true
    by true o not_said there = absurd (true≢false not_said)
    by false None not_said there = absurd (true≢false (sym there))
    by false (Some rows) not_said there = (λ i. (eq-eqb v v refl i && eq-eqb s s refl i) || false)

pub commit-among : (g : Group) (facts : List OrderFact) (words : List Body) (places : Places)
    (slots : Map (ℕ × ℕ) Slot) (rest more : List Body) (v w end s : ℕ) → w ≡ v → HasSaidCommits words places →
    ((k : ℕ × ℕ) → first_in (get same_pair slots k) ≡ prepared_in g facts k) →
    end - 1 ≡ stable g facts + 16 → 1 ≤ s → s < end → said_in places w s ≡ false → holds_prepared slots w s ≡ true →
    list_any (commits_said w s) ((rest ++ commits_due g facts words v) ++ more) ≡ true
unfolding window
commit-among g facts words places slots rest more v w end s view held choice count one below unsaid some =
    list_any-append (commits_said w s) (rest ++ commits_due g facts words v) more
    ∙ or_left (list_any (commits_said w s) (rest ++ commits_due g facts words v)) (list_any (commits_said w s) more)
    (list_any-append (commits_said w s) rest (commits_due g facts words v)
    ∙ or_right (list_any (commits_said w s) rest) (list_any (commits_said w s) (commits_due g facts words v))
    (any-from (commits_said w s) (commit_due g facts words v) 1 (stable g facts + 16) s one (omega arith)
    (subst (λ (u : ℕ). list_any (commits_said u s) (commit_due g facts words v s) ≡ true) (sym view)
    (by (list_any (commits_said v s) words) (prepared g facts v s)
    (sym (held v s) ∙ ap (λ u. said_in places u s) (sym view) ∙ unsaid)
    (sym (ap is_some (choice (v, s))) ∙ ap (λ u. holds_prepared slots u s) (sym view) ∙ some)))))
  where
    by : (b : Bool) (o : Option (List (List ℕ))) → b ≡ false → is_some (option_map digest_of_rows o) ≡ true →
        list_any (commits_said v s)
        (cond {A = List Body} b []
        (elim o [ Some rows ↦ body.Commit record { v = v; s = s; digest = digest_of_rows rows } ∷ [] | None ↦ [] ]))
        ≡ true
    by true o not_said there = absurd (true≢false not_said)
    by false None not_said there = absurd (true≢false (sym there))
    by false (Some rows) not_said there = (λ i. (eq-eqb v v refl i && eq-eqb s s refl i) || false)
