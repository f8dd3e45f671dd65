-- What the held choices and offers answer.
use Rattle.std.proofs.Common.{◌≡◌, ℕ, zero, suc, ◌+◌, ◌-◌, ◌≤◌, ◌<◌, true, cond, List, [], ◌∷◌, Option, Some, None}
use Rattle.std.proofs.Common.{is_some, length, nat_le, refl, sym, ◌∙◌, ap, arith, true≢false}
use Rattle.std.specs.Prelude.{IfSome, IsTrue, slice_get}
use Rattle.std.specs.List.{find, filter_map, list_all}
use Rattle.std.specs.Option.{option_map}
use Rattle.std.specs.Str.{bytes_eq}
use Rattle.std.proofs.lemmas.Bool.{le-leb, lt-leb}
use Rattle.indexmap.specs.IndexMap.{get}
use Rattle.message_types.specs.declared.views.Plan.{Plan}
use Rattle.message_types.specs.Digests.{digest_of_rows}
use Rattle.message_types.specs.Spelling.{rows_fit}
use Rattle.protocol_rules.specs.declared.facts.OrderFact.{OrderFact}
use Rattle.protocol_rules.specs.Words.{first_of_list}
use Rattle.protocol_rules.specs.Group.{Group}
use Rattle.protocol_rules.specs.Facts.{rows_known}
use Rattle.protocol_rules.specs.Order.{ordered, offered, plan_known, proposal_in, is_committed}
use denote.Bor.{Bor}
use Rattle.std.specs.Option.{option_copied}
use Rattle.global_order.specs.Choosing.{has_digest}
use Rattle.global_order.specs.Offered.{fits}
use Rattle.global_order.specs.Index.{Map, HasRows, ordered_in}
use Rattle.global_order.proofs.Booleans.{and-parts, option_map-none}
use Rattle.global_order.proofs.Meeting.{chosen-known}

pub ordered-none : (g : Group) (facts : List OrderFact) (s : ℕ) → None ≡ ordered_in g facts s → None ≡ ordered g facts s
ordered-none g facts s e = sym (option_map-none digest_of_rows (ordered g facts s) (sym e))

ordered-known : (g : Group) (facts : List OrderFact) (s : ℕ) (rows : List (List ℕ)) → ordered g facts s ≡ Some rows →
    find (has_digest (digest_of_rows rows)) (rows_known facts) ≡ Some rows
unfolding ordered
ordered-known g facts s rows e = chosen-known (λ beginning d. is_committed g beginning s d) facts rows e

pub ordered-some : (g : Group) (facts : List OrderFact) (s : ℕ) (map : Map (List ℕ) (List (List ℕ))) (d : List ℕ) →
    HasRows (rows_known facts) map → Some d ≡ ordered_in g facts s → get bytes_eq map d ≡ ordered g facts s
ordered-some g facts s map d has e = by (ordered g facts s) refl e
  where
    by : (o : Option (List (List ℕ))) → ordered g facts s ≡ o → Some d ≡ option_map digest_of_rows o →
        get bytes_eq map d ≡ o
    by None is none = absurd (true≢false (ap is_some none))
    by (Some rows) is some =
        let same : d ≡ digest_of_rows rows = cc in
        has d ∙ ap (λ x. find (has_digest x) (rows_known facts)) same ∙ ordered-known g facts s rows is

-- what a view offers

offered_after : List OrderFact → ℕ → ℕ → Plan → Option (List (List ℕ))
offered_after facts v s plan =
    cond (nat_le s (plan.base + length plan.rows)) (slice_get plan.rows (s - plan.base - 1))
    (first_of_list (filter_map (proposal_in v s) facts))

offered_by : List OrderFact → ℕ → ℕ → Option Plan → Option (List (List ℕ))
offered_by facts v s None = None
offered_by facts v s (Some plan) = cond (nat_le s plan.base) None (offered_after facts v s plan)

offered-by : (facts : List OrderFact) (v s : ℕ) (o : Option Plan) → o ≡ plan_known facts v →
    offered_by facts v s o ≡ offered facts v s
unfolding offered offered_by offered_after
offered-by facts v s o e = ap (offered_by facts v s) e ∙ by (plan_known facts v)
  where
    by : (o : Option Plan) → offered_by facts v s o ≡ (elim o [
      | None ↦ None
      | Some plan ↦
          cond (nat_le s plan.base) None
          (cond (nat_le s (plan.base + length plan.rows)) (slice_get plan.rows (s - plan.base - 1))
          (first_of_list (filter_map (proposal_in v s) facts)))
    ])
    by None = refl
    by (Some plan) = refl

pub offered-none : (facts : List OrderFact) (v s : ℕ) → None ≡ plan_known facts v → None ≡ offered facts v s
unfolding offered_by
offered-none facts v s e = offered-by facts v s None e

pub offered-below : (facts : List OrderFact) (v s : ℕ) (plan : Plan) → Some plan ≡ plan_known facts v →
    s ≤ plan.base → None ≡ offered facts v s
unfolding offered_by
offered-below facts v s plan e low = ap (λ b. cond b None (offered_after facts v s plan))
    (sym (le-leb s plan.base low)) ∙ offered-by facts v s (Some plan) e

above : (facts : List OrderFact) (v s : ℕ) (plan : Plan) → Some plan ≡ plan_known facts v → plan.base < s →
    offered_after facts v s plan ≡ offered facts v s
unfolding offered_by
above facts v s plan e high = ap (λ b. cond b None (offered_after facts v s plan)) (sym (lt-leb s plan.base high))
    ∙ offered-by facts v s (Some plan) e

pub offered-planned : (facts : List OrderFact) (v s : ℕ) (plan : Plan) → Some plan ≡ plan_known facts v →
    plan.base < s → s - plan.base - 1 < length plan.rows → slice_get plan.rows (s - plan.base - 1) ≡ offered facts v s
unfolding offered_after
offered-planned facts v s plan e high within =
    ap (λ b. cond b (slice_get plan.rows (s - plan.base - 1)) (first_of_list (filter_map (proposal_in v s) facts)))
    (sym (le-leb s (plan.base + length plan.rows) (omega arith))) ∙ above facts v s plan e high

pub offered-proposed : (facts : List OrderFact) (v s : ℕ) (plan : Plan) → Some plan ≡ plan_known facts v →
    plan.base < s → length plan.rows ≤ s - plan.base - 1 →
    first_of_list (filter_map (proposal_in v s) facts) ≡ offered facts v s
unfolding offered_after
offered-proposed facts v s plan e high beyond =
    ap (λ b. cond b (slice_get plan.rows (s - plan.base - 1)) (first_of_list (filter_map (proposal_in v s) facts)))
    (sym (lt-leb s (plan.base + length plan.rows) (omega arith))) ∙ above facts v s plan e high

-- each of rows that all fit fits
pub get-fits : (all : List (List (List ℕ))) (i : ℕ) (rows : List (List ℕ)) → list_all rows_fit all ≡ true →
    Some rows ≡ slice_get all i → rows_fit rows ≡ true
get-fits [] i rows fit e = absurd (true≢false (ap is_some e))
get-fits (r ∷ rest) zero rows fit e = let same : r ≡ rows = cc in ap rows_fit (sym same)
    ∙ (and-parts (rows_fit r) (list_all rows_fit rest) fit).0
get-fits (r ∷ rest) (suc i) rows fit e = get-fits rest i rows (and-parts (rows_fit r) (list_all rows_fit rest) fit).1 e

pub if-get-fits : (all : List (List (List ℕ))) (i : ℕ) (o : Option (List (List ℕ))) → list_all rows_fit all ≡ true →
    o ≡ slice_get all i → fits o ≡ true
if-get-fits all i None fit e = refl
if-get-fits all i (Some rows) fit e = get-fits all i rows fit e

pub copied-fits : (o : Option (Bor (List (List ℕ)))) → fits (option_copied o) ≡ true →
    IfSome o (λ rows. IsTrue (rows_fit rows.now))
copied-fits None fit = tt
copied-fits (Some rows) fit = fit
