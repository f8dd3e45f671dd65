-- Who has waited for more than 16 ticks wants the number after those that it has ordered without a gap, so the ask for it is
-- due at a tick at which it may ask.
use Rattle.std.proofs.Common.{◌≡◌, ℕ, ◌+◌, ◌-◌, ◌<◌, ◌≤◌, Bool, true, false, cond, ◌||◌, not, List, [], ◌∷◌, ◌++◌, Option, None}
use Rattle.std.proofs.Common.{filter, map, max, min, nat_lt, sym, ◌∙◌, ap, subst, arith}
use Rattle.std.proofs.lemmas.Bool.{false≢true, lt-ltb}
use Rattle.std.specs.Option.{is_some}
use Rattle.plain_lists.specs.Lists.{IsIn}
use Rattle.plain_lists.proofs.Members.{in_right, in_map, in_filter, in_filter_from}
use Rattle.message_types.specs.declared.signed.Signed.{Signed}
use Rattle.message_types.specs.declared.body.Body.{Body}
use Rattle.message_types.specs.declared.body.Body.TheVariants as body
use Rattle.protocol_rules.specs.declared.facts.OrderFact.{OrderFact}
use Rattle.protocol_rules.specs.declared.limits.TheConstants.{LONG_WAIT, MOST_NUMBERS_ASKED}
use Rattle.protocol_rules.specs.Group.{Group, most_number}
use Rattle.protocol_rules.specs.Facts.{facts_of}
use Rattle.protocol_rules.specs.Measures.{ticks_of}
use Rattle.protocol_rules.specs.Order.{ordered, gapless}
use Rattle.protocol_rules.specs.Patience.{Moment}
use Rattle.protocol_rules.specs.Reconcile.{orders_asked}
use Rattle.protocol_rules.specs.Lacking.{is_blind_due, wanted_to, numbers_lacking, may_ask, order_asks_due}
use Rattle.protocol_rules.specs.Views.{view, is_open}
use Rattle.protocol_rules.specs.Master.{said_before}
use Rattle.protocol_rules.proofs.Numbers.{from_in}
use Rattle.history_rules.specs.Events.{frame_taken, is_tick, is_silent}
use Rattle.history_rules.specs.Legal.{heard}
use Rattle.agreement.specs.Laws.{known_by}
use Rattle.agreement.proofs.KnownAsItGrows.{known_then}
use Rattle.words_by_part.specs.Kinds.{is_of, asking}
use Rattle.words_by_part.specs.Laws.{told_at, moments_at, waiting_at}
use Rattle.progress.specs.Serving.{ticks_among, moments_by, waited_by}
use Rattle.progress.specs.Asking.{WaitingAsks}
use Rattle.progress.proofs.Arriving.{known_upto, tick_loud}
use Rattle.progress.proofs.Saying.{SaidByPart, all_is_said, said_by_part}
use Rattle.progress.proofs.Impatient.{same_ticks, same_moments}

at_least : (x y : ℕ) (c b : Bool) → c ≡ true → y ≤ max x (cond (c || b) y 0)
at_least x y true b is = omega arith
at_least x y false b is = absurd (false≢true is)

wanted_far : (g : Group) (facts : List OrderFact) (said : List Body) (v : ℕ) (opened : Bool) (waiting now : ℕ) →
    LONG_WAIT < waiting → gapless g facts + 1 ≤ wanted_to g facts said v opened waiting now
wanted_far g facts said v opened waiting now long = at_least _ (gapless g facts + 1) (nat_lt LONG_WAIT waiting)
    (is_blind_due g facts said now) (lt-ltb LONG_WAIT waiting long)

-- the number after those ordered without a gap is the first that is lacking
next_lacking : (g : Group) (facts : List OrderFact) (said : List Body) (v : ℕ) (opened : Bool) (waiting now s : ℕ) →
    LONG_WAIT < waiting → s ≡ gapless g facts + 1 → s ≤ most_number → ordered g facts s ≡ None
    → IsIn s (numbers_lacking g facts said v opened waiting now)
next_lacking g facts said v opened waiting now s long next most none =
    let far : gapless g facts + 1 ≤ wanted_to g facts said v opened waiting now =
    wanted_far g facts said v opened waiting now long in
    let some : 1 ≤ MOST_NUMBERS_ASKED = omega arith in
    in_filter (λ s. not (is_some (ordered g facts s)))
    (from_in (gapless g facts + 1) (min MOST_NUMBERS_ASKED (min (wanted_to g facts said v opened waiting now) most_number
    - gapless g facts)) s (omega (arith, next)) (omega (arith, next, most, far, some)))
    (ap (λ (o : Option (List (List ℕ))). not (is_some o)) none)

ask_is_due : (g : Group) (facts : List OrderFact) (said : List Body) (v : ℕ) (opened : Bool) (waiting now s : ℕ) (at_tick : Bool) →
    at_tick ≡ true → LONG_WAIT < waiting → s ≡ gapless g facts + 1 → s ≤ most_number → ordered g facts s ≡ None
    → may_ask said now (orders_asked s) ≡ true
    → IsIn (body.AskOrder record { s = s }) (order_asks_due g facts said v opened waiting now at_tick)
ask_is_due g facts said v opened waiting now s at_tick tick long next most none may =
    subst (λ (c : Bool). IsIn (body.AskOrder record { s = s }) (cond c (map (λ (x : ℕ). body.AskOrder record { s = x })
    (filter (λ x. may_ask said now (orders_asked x)) (numbers_lacking g facts said v opened waiting now))) [])) (sym tick)
    (in_map (λ (x : ℕ). body.AskOrder record { s = x }) (in_filter (λ x. may_ask said now (orders_asked x))
    (next_lacking g facts said v opened waiting now s long next most none) may))

pub waiting_asks : WaitingAsks
waiting_asks w history before e m live legal correct left s by tick long x next most none may =
    let loud : is_silent e.event ≡ false = tick_loud e.event tick in
    let known : List (Signed Body) = known_then w before m e in
    let same : known_by w (before ++ e ∷ []) m ≡ known_then w before m e = known_upto w before e m by loud in
    let moments : List Moment = moments_at w.group (heard w before m) (frame_taken e.event) (is_tick e.event) in
    let waits : waited_by w (before ++ e ∷ []) m ≡ waiting_at w.group (known_then w before m e)
    (moments_at w.group (heard w before m) (frame_taken e.event) (is_tick e.event)) =
    ap (λ (ps : List (Signed Body)). waiting_at w.group ps (moments_by w (before ++ e ∷ []) m)) same
    ∙ ap (waiting_at w.group known) (sym (same_moments w before e m by loud)) in
    let ticks : ticks_of (told_at w.group (heard w before m) (frame_taken e.event) (is_tick e.event))
    ≡ ticks_among (before ++ e ∷ []) m = same_ticks w before e m by loud in
    let parts : SaidByPart w before m e = said_by_part w before m e live (all_is_said w history before e m legal correct left s by loud)
    in
    let due : IsIn (body.AskOrder record { s = x }) (order_asks_due w.group (facts_of w.group known)
    (said_before (heard w before m)) (view w.group known) (is_open w.group known) (waiting_at w.group known moments)
    (ticks_of (told_at w.group (heard w before m) (frame_taken e.event) (is_tick e.event))) (is_tick e.event)) =
    ask_is_due w.group (facts_of w.group known) (said_before (heard w before m)) (view w.group known) (is_open w.group known)
    (waiting_at w.group known moments) _ x (is_tick e.event) (ap is_tick tick)
    (subst (λ (n : ℕ). LONG_WAIT < n) waits long)
    (next ∙ ap (λ (ps : List (Signed Body)). gapless w.group (facts_of w.group ps) + 1) same) most
    (ap (λ (ps : List (Signed Body)). ordered w.group (facts_of w.group ps) x) (sym same) ∙ none)
    (ap (λ (n : ℕ). may_ask (said_before (heard w before m)) n (orders_asked x)) ticks ∙ may) in
    (in_filter_from (is_of asking) e.said (subst (λ (bs : List Body). IsIn (body.AskOrder record { s = x }) bs) (sym parts.asks)
    (in_right _ due))).0
