-- At a tick a leader offers the next number, if that is within its limits and makes more eligible than what it counts as
-- offered.
use Rattle.std.proofs.Common.{◌≡◌, ℕ, ◌+◌, ◌-◌, Bool, true, cond, ◌&&◌, List, [], ◌∷◌, Option, Some, None}
use Rattle.std.proofs.Common.{nat_eq, nat_le, sym, ap, subst, inl, inr, if◌then◌else◌}
use Rattle.std.proofs.lemmas.Bool.{and_from, cases_Bool, eq-eqb, le-leb}
use Rattle.std.specs.List.{filter_map}
use Rattle.plain_lists.specs.Lists.{IsIn, here}
use Rattle.plain_lists.proofs.Members.{in_filter_from}
use Rattle.message_types.specs.declared.signed.Signed.{Signed}
use Rattle.message_types.specs.declared.views.Plan.{Plan}
use Rattle.message_types.specs.declared.body.Body.{Body}
use Rattle.message_types.specs.declared.body.Body.TheVariants as body
use Rattle.protocol_rules.specs.declared.facts.OrderFact.{OrderFact}
use Rattle.protocol_rules.specs.Words.{numbers_from}
use Rattle.protocol_rules.specs.Group.{Group, leader_of, most_number, window}
use Rattle.protocol_rules.specs.Facts.{facts_of}
use Rattle.protocol_rules.specs.Matrix.{latest_frames, reach, exceeds}
use Rattle.protocol_rules.specs.Order.{gapless, stable, plan_known}
use Rattle.protocol_rules.specs.Views.{view, is_open}
use Rattle.protocol_rules.specs.Master.{said_before, latest_rows, next_number, counted_rows, preprepares_due}
use Rattle.protocol_rules.specs.Master.{whole_preprepares_due}
use Rattle.history_rules.specs.Events.{is_tick}
use Rattle.history_rules.specs.Legal.{heard}
use Rattle.agreement.proofs.KnownAsItGrows.{known_then}
use Rattle.words_by_part.specs.Kinds.{is_of, offering}
use Rattle.progress.specs.Laws.{LeaderOffers}
use Rattle.progress.proofs.Arriving.{tick_loud}
use Rattle.progress.proofs.Saying.{SaidByPart, all_is_said, said_by_part}

-- what a leader counts as offered before a number
abbrev counted : Group → List OrderFact → ℕ → Plan → ℕ → ℕ → ℕ
counted g facts v plan s = reach g (filter_map (counted_rows g facts v plan) (numbers_from 1 (s - 1)))

module _ (g : Group) (me : ℕ) (known : List (Signed Body)) (said : List Body) (at_tick : Bool) (plan : Plan) where
  abbrev facts : List OrderFact
  facts = facts_of g known

  abbrev v : ℕ
  v = view g known

  abbrev offer : List Body
  offer = body.PrePrepare record { v = v; s = next_number said v plan; frames = latest_frames g known } ∷ []

  offered_next : plan_known facts v ≡ Some plan → (at_tick && nat_eq me (leader_of g v) && is_open g known
      && nat_le (next_number said v plan) most_number && nat_le (next_number said v plan) (stable g facts + window)
      && exceeds g (latest_rows g known) (counted g facts v plan (next_number said v plan))) ≡ true
      → (b : Body) → IsIn b offer → IsIn b (preprepares_due g me known facts said at_tick)
  offered_next knows may b h = subst (λ (o : Option Plan). IsIn b (elim o [
    | None ↦ []
    | Some plan ↦
        let s = next_number said v plan in
        if at_tick && nat_eq me (leader_of g v) && is_open g known && nat_le s most_number
        && nat_le s (stable g facts + window)
        && exceeds g (latest_rows g known) (reach g (filter_map (counted_rows g facts v plan) (numbers_from 1 (s - 1))))
        then body.PrePrepare record { v = v; s = s; frames = latest_frames g known } ∷ []
        else []
  ])) (sym knows) (subst (λ (c : Bool). IsIn b (cond c offer [])) (sym may) h)

  offered_whole : plan_known facts v ≡ Some plan → nat_le plan.base (gapless g facts) ≡ true
      → (b : Body) → IsIn b (preprepares_due g me known facts said at_tick)
      → IsIn b (whole_preprepares_due g me known facts said at_tick)
  offered_whole knows base b h = subst (λ (o : Option Plan). IsIn b (elim o [
    | None ↦ []
    | Some plan ↦ if nat_le plan.base (gapless g facts) then preprepares_due g me known facts said at_tick else []
  ])) (sym knows) (subst (λ (c : Bool). IsIn b (cond c (preprepares_due g me known facts said at_tick) [])) (sym base) h)

pub leader_offers : LeaderOffers
leader_offers w history before e m plan live legal correct left s by tick leads opened knows base numbers windows =
    let known : List (Signed Body) = known_then w before m e in
    let said : List Body = said_before (heard w before m) in
    let facts : List OrderFact = facts_of w.group known in
    let v : ℕ = view w.group known in
    let next : ℕ = next_number said v plan in
    let parts : SaidByPart w before m e = said_by_part w before m e live
    (all_is_said w history before e m legal correct left s by (tick_loud e.event tick)) in
    let word : Body = body.PrePrepare record { v = v; s = next; frames = latest_frames w.group known } in
    elim (cases_Bool (exceeds w.group (latest_rows w.group known) (counted w.group facts v plan next))) [
      | inr counted_already ↦ inl counted_already
      | inl more ↦ inr record {
        before = before;
        entry = e;
        place = s;
        by = by;
        among = (in_filter_from (is_of offering) e.said (subst (λ (bs : List Body). IsIn word bs) (sym parts.offers)
            (offered_whole w.group m known said (is_tick e.event) plan knows
            (le-leb plan.base (gapless w.group facts) base) word
            (offered_next w.group m known said (is_tick e.event) plan knows
            (and_from _ _ (and_from _ _ (and_from _ _ (and_from _ _ (and_from _ _ (ap is_tick tick)
            (eq-eqb m (leader_of w.group v) leads)) opened) (le-leb next most_number numbers))
            (le-leb next (stable w.group facts + window) windows)) more) word (here []))))).0;
      }
    ]
