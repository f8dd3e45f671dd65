-- Whose ask is answered at an event: that of the frame taken, just where something is given. A gift gives what it was asked
-- for, so that the words said answer the ask where the gift isn't empty.
use Rattle.std.proofs.Common.{◌≡◌, ℕ, Bool, true, false, cond, ◌&&◌, List, [], ◌∷◌, ◌++◌, Option, Some, None}
use Rattle.std.proofs.Common.{filter, nat_eq, refl, sym, ◌∙◌, ap, subst}
use Rattle.std.specs.List.{list_any, filter_map}
use Rattle.std.proofs.lemmas.Bool.{and_parts, eq-eqb}
use Rattle.std.proofs.Math.Bool.{or-false}
use Rattle.message_types.specs.declared.signed.Signed.{Signed}
use Rattle.message_types.specs.declared.preordering.PoRequest.{PoRequest}
use Rattle.message_types.specs.declared.updates.Update.{Update}
use Rattle.message_types.specs.declared.body.Body.{Body}
use Rattle.message_types.specs.declared.body.Body.TheVariants as body
use Rattle.message_types.specs.Texts.{update_text}
use Rattle.std.specs.Str.{bytes_eq}
use Rattle.plain_lists.proofs.Members.{in_filter_map_from, none_some}
use Rattle.protocol_rules.proofs.FirstMet.{first_in}
use Rattle.protocol_rules.specs.declared.facts.OrderFact.{OrderFact}
use Rattle.protocol_rules.specs.Words.{first_of_list}
use Rattle.protocol_rules.specs.Group.{Group}
use Rattle.protocol_rules.specs.Preorder.{certified}
use Rattle.protocol_rules.specs.Order.{ordered}
use Rattle.protocol_rules.specs.Reconcile.{updates_given, orders_given, request_of}
use Rattle.protocol_rules.specs.Reconcile.{request_gift, order_gift}
use Rattle.protocol_rules.specs.Lacking.{answers_ask, gift_for, gift_due}
use Rattle.protocol_rules.specs.Master.{is_give, is_order_given}
use Rattle.reconcile.specs.Asking.{wanted_in}
use Rattle.agreement.proofs.SpokenByKind.{if_some}
use Rattle.words_by_part.specs.Kinds.{is_of, giving}
use Rattle.words_by_part.proofs.Telling.{own_words_tell}
use Rattle.master_answers.specs.declared.ask.Ask.{Ask}
use Rattle.master_answers.specs.Asked.{ask_of, answered_by, answered_by_gift, has_gift}

-- the words of a gift answer by this test just where there are any
abbrev AnswersBy : (Body → Bool) → List Body → Type 0
AnswersBy t gift = list_any t (filter is_give gift ++ filter is_order_given gift)
    ≡ has_gift (filter is_give gift) (filter is_order_given gift)

-- the request given is the one that the gift is of
request_named : (j k : ℕ) (u : Update) (signer : ℕ) (word : Body) (sig : List ℕ) (r : Signed PoRequest) →
    request_of j k u record { signer = signer; body = word; sig = sig } ≡ Some r →
    (nat_eq r.signer j && nat_eq r.body.k k) ≡ true
request_named j k u signer (body.PoRequest b) sig r e =
    let held = if_some (nat_eq signer j && nat_eq b.k k && bytes_eq (update_text b.update.body) (update_text u)) e in
    subst (λ (z : Signed PoRequest). (nat_eq z.signer j && nat_eq z.body.k k) ≡ true) held.1
    (and_parts (nat_eq signer j && nat_eq b.k k) (bytes_eq (update_text b.update.body) (update_text u)) held.0).0
request_named j k u signer _ sig r e = absurd (none_some e)

first_named : (known : List (Signed Body)) (j k : ℕ) (u : Update) (r : Signed PoRequest) →
    first_of_list (filter_map (request_of j k u) known) ≡ Some r → (nat_eq r.signer j && nat_eq r.body.k k) ≡ true
first_named known j k u r e =
    let found = in_filter_map_from (request_of j k u) known (first_in (filter_map (request_of j k u) known) e) in
    request_named j k u found.0.signer found.0.body found.0.sig r found.2

-- what holds of no words, and of those that a value gives, holds of those that an option gives
option_holds : {X : Type 0} (P : List Body → Type 0) (o : Option X) (f : X → List Body) → P [] →
    ((x : X) → o ≡ Some x → P (f x)) → P (elim o as (λ (o : Option X). List Body) [ None ↦ [] | Some x ↦ f x ])
option_holds P None f none some = none
option_holds P (Some x) f none some = some x refl

request_answers : (g : Group) (known : List (Signed Body)) (j k : ℕ) →
    AnswersBy (updates_given j k) (request_gift g known j k)
request_answers g known j k = option_holds (AnswersBy (updates_given j k)) (certified g known j k) _ refl (λ u _.
    option_holds (AnswersBy (updates_given j k)) (first_of_list (filter_map (request_of j k u) known)) _ refl
    (λ request e. or-false (nat_eq request.signer j && nat_eq request.body.k k) ∙ first_named known j k u request e))

order_answers : (g : Group) (facts : List OrderFact) (s : ℕ) → AnswersBy (orders_given s) (order_gift g facts s)
order_answers g facts s = option_holds (AnswersBy (orders_given s)) (ordered g facts s) _ refl
    (λ rows _. or-false (nat_eq s s) ∙ eq-eqb s s refl)

if_answers : (t : Body → Bool) (b : Bool) (gift : List Body) → AnswersBy t gift → AnswersBy t (cond b gift [])
if_answers t true gift is = is
if_answers t false gift is = refl

none_answer : (bodies : List Body) → list_any (λ (word : Body). false) bodies ≡ false
none_answer [] = refl
none_answer (word ∷ rest) = none_answer rest

-- the asker is counted where the words of its kinds answer
asker_counted : (t : Body → Bool) (signer : ℕ) (bodies gift : List Body) →
    list_any t (filter (is_of giving) bodies) ≡ list_any t bodies →
    filter (is_of giving) bodies ≡ filter is_give gift ++ filter is_order_given gift → AnswersBy t gift →
    cond (list_any t bodies) (signer ∷ []) [] ≡ cond (has_gift (filter is_give gift) (filter is_order_given gift))
    (signer ∷ []) []
asker_counted t signer bodies gift tells is answers =
    ap (λ b. cond b (signer ∷ []) []) (sym tells ∙ ap (list_any t) is ∙ answers)

by_body : (g : Group) (known : List (Signed Body)) (facts : List OrderFact) (signer : ℕ) (ok : Bool) (word : Body)
    (bodies : List Body) →
    filter (is_of giving) bodies ≡ filter is_give (cond ok (gift_for g known facts word) [])
    ++ filter is_order_given (cond ok (gift_for g known facts word) []) →
    cond (list_any (answers_ask word) bodies) (signer ∷ []) [] ≡ answered_by_gift
    (elim (wanted_in word) [ None ↦ None | Some w ↦ Some record { signer = signer; wanted = w } ])
    (filter is_give (cond ok (gift_for g known facts word) []))
    (filter is_order_given (cond ok (gift_for g known facts word) []))
by_body g known facts signer ok (body.AskUpdate b) bodies is =
    asker_counted (updates_given b.j b.k) signer bodies (cond ok (request_gift g known b.j b.k) [])
    ((own_words_tell bodies).given_updates b.j b.k) is
    (if_answers (updates_given b.j b.k) ok (request_gift g known b.j b.k) (request_answers g known b.j b.k))
by_body g known facts signer ok (body.AskOrder b) bodies is =
    asker_counted (orders_given b.s) signer bodies (cond ok (order_gift g facts b.s) [])
    ((own_words_tell bodies).given_orders b.s) is
    (if_answers (orders_given b.s) ok (order_gift g facts b.s) (order_answers g facts b.s))
by_body g known facts signer ok _ bodies is = ap (λ b. cond b (signer ∷ []) []) (none_answer bodies)

-- so the asks answered are those that the gifts count
by_took : (g : Group) (me : ℕ) (known : List (Signed Body)) (facts : List OrderFact) (answered : List ℕ)
    (took : Option (Signed Body)) (now : ℕ) (bodies : List Body) →
    filter (is_of giving) bodies ≡ filter is_give (gift_due g me known facts answered took now)
    ++ filter is_order_given (gift_due g me known facts answered took now) →
    answered_by took bodies ≡ answered_by_gift (ask_of took) (filter is_give (gift_due g me known facts answered took now))
    (filter is_order_given (gift_due g me known facts answered took now))
by_took g me known facts answered None now bodies is = refl
by_took g me known facts answered (Some f) now bodies is =
    by_body g known facts f.signer _ f.body bodies is

pub answered_are : (g : Group) (me : ℕ) (known : List (Signed Body)) (facts : List OrderFact) (answered : List ℕ)
    (took : Option (Signed Body)) (now : ℕ) (asked : Option Ask) (bodies gives orders : List Body) → asked ≡ ask_of took →
    filter (is_of giving) bodies ≡ filter is_give (gift_due g me known facts answered took now)
    ++ filter is_order_given (gift_due g me known facts answered took now) →
    gives ≡ filter is_give (gift_due g me known facts answered took now) →
    orders ≡ filter is_order_given (gift_due g me known facts answered took now) →
    answered_by_gift asked gives orders ≡ answered_by took bodies
answered_are g me known facts answered took now asked bodies gives orders ask is given whole =
    ap (λ (a : Option Ask). answered_by_gift a gives orders) ask
    ∙ ap (λ (ws : List Body). answered_by_gift (ask_of took) ws orders) given
    ∙ ap (answered_by_gift (ask_of took) (filter is_give (gift_due g me known facts answered took now))) whole
    ∙ sym (by_took g me known facts answered took now bodies is)
