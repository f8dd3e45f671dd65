-- What changes nothing: words of other kinds, and bodies that are no gifts.
use Rattle.std.proofs.Common.{◌≡◌, ℕ, Bool, true, false, ◌&&◌, ◌||◌, not, List, [], ◌∷◌, ◌++◌, None, filter, length}
use Rattle.std.proofs.Common.{take, get_or, ◌+◌, ◌<◌, refl, sym, ◌∙◌, ap, subst, append_assoc}
use Rattle.std.specs.List.{list_any, flat_map}
use Rattle.std.proofs.lemmas.Bool.{true≢false}
use Rattle.std.proofs.lemmas.List.{take_more}
use Rattle.std.proofs.lemmas.List.Folds.{list_any-append, list_any_at}
use Rattle.message_types.specs.declared.signed.Signed.{Signed}
use Rattle.message_types.specs.declared.body.Body.{Body}
use Rattle.message_types.specs.declared.body.Body.TheVariants as body
use Rattle.quorum_sets.specs.Masters.{numbers_below}
use Rattle.protocol_rules.specs.declared.facts.OrderFact.{OrderFact}
use Rattle.protocol_rules.specs.Words.{numbers_from, first_of_list}
use Rattle.protocol_rules.specs.Group.{Group, most_number}
use Rattle.protocol_rules.specs.Reconcile.{ack_of, gives_due, gives_ordered_due, give_due, give_ordered_due}
use Rattle.preorder.specs.Composed.{is_preordering, is_preordering_word}
use Rattle.reconcile.specs.declared.wanted.Wanted.{Wanted}
use Rattle.reconcile.specs.declared.wanted.Wanted.TheVariants.{Request, Number}
use Rattle.reconcile.specs.Asking.{asks, gives, other_asks, is_place, same_wanted}
use Rattle.reconcile.specs.AskState.{AskState, AreAsksOf, IsListOfWanted}
use Rattle.reconcile.proofs.Order.{same_itself}
use Rattle.reconcile.proofs.Taken.{only_said}
use Rattle.reconcile.specs.GiftState.{GiftState, request_with, AreGiftsOf, Learns}
use Rattle.reconcile.proofs.Keeping.{first-other}
use Rattle.plain_lists.proofs.Lists.{filter_map-filter}

request_word : (j k : ℕ) (d : List ℕ) (signer : ℕ) (word : Body) (sig : List ℕ) → is_preordering_word word ≡ false →
    request_with j k d record { signer = signer; body = word; sig = sig } ≡ None
request_word j k d signer (body.PoRequest b) sig e = absurd (cc)
request_word j k d signer _ sig e = refl

ack_word : (j k : ℕ) (d : List ℕ) (m signer : ℕ) (word : Body) (sig : List ℕ) → is_preordering_word word ≡ false →
    ack_of j k d m record { signer = signer; body = word; sig = sig } ≡ None
ack_word j k d m signer (body.PoAck b) sig e = absurd (cc)
ack_word j k d m signer _ sig e = refl

pub gifts_alone : (g : Group) (kept : GiftState) (known : List (Signed Body)) →
    AreGiftsOf g kept (filter is_preordering known) → AreGiftsOf g kept known
gifts_alone g kept known is = record {
  masters = is.masters;
  quorum = is.quorum;
  requests = λ j k d. is.requests j k d
      ∙ ap first_of_list (filter_map-filter (request_with j k d) is_preordering
      (λ f e. request_word j k d f.signer f.body f.sig e) known);
  acks = λ j k d m. is.acks j k d m
      ∙ ap first_of_list (filter_map-filter (ack_of j k d m) is_preordering
      (λ f e. ack_word j k d m f.signer f.body f.sig e) known);
}

pub other_passed : (kept : GiftState) (f : Signed Body) → is_preordering f ≡ false → Learns kept kept f
other_passed kept f e g known is = record {
  masters = is.masters;
  quorum = is.quorum;
  requests = λ j k d. is.requests j k d
      ∙ sym (first-other (request_with j k d) known f (request_word j k d f.signer f.body f.sig e));
  acks = λ j k d m. is.acks j k d m
      ∙ sym (first-other (ack_of j k d m) known f (ack_word j k d m f.signer f.body f.sig e));
}

-- of what was said only gifts count
update_said : (g : Group) (me : ℕ) (known : List (Signed Body)) (said other : List Body) →
    ((w : Wanted) → list_any (gives w) other ≡ list_any (gives w) said) → (j k : ℕ) →
    give_due g me known other j k ≡ give_due g me known said j k
update_said g me known said other same j k = rw (same (Request j k)) refl

number_said : (g : Group) (me : ℕ) (known : List (Signed Body)) (facts : List OrderFact) (said other : List Body) →
    ((w : Wanted) → list_any (gives w) other ≡ list_any (gives w) said) → (s : ℕ) →
    give_ordered_due g me known facts other s ≡ give_ordered_due g me known facts said s
number_said g me known facts said other same s = rw (same (Number s)) refl

pub requests_said : (g : Group) (me : ℕ) (known : List (Signed Body)) (said other : List Body) →
    ((w : Wanted) → list_any (gives w) other ≡ list_any (gives w) said) →
    gives_due g me known other ≡ gives_due g me known said
requests_said g me known said other same =
    λ i. flat_map (λ j. flat_map (λ k. update_said g me known said other same j k i) (numbers_from 1 most_number))
    (numbers_below g.n)

pub numbers_said : (g : Group) (me : ℕ) (known : List (Signed Body)) (facts : List OrderFact)
    (said other : List Body) → ((w : Wanted) → list_any (gives w) other ≡ list_any (gives w) said) →
    gives_ordered_due g me known facts other ≡ gives_ordered_due g me known facts said
numbers_said g me known facts said other same = λ i. flat_map (λ s. number_said g me known facts said other same s i)
    (numbers_from 1 most_number)

pub wanted_said : (g : Group) (me : ℕ) (known : List (Signed Body)) (said other : List Body) (list : List Wanted) →
    ((w : Wanted) → list_any (gives w) other ≡ list_any (gives w) said) → IsListOfWanted g me known said list →
    IsListOfWanted g me known other list
wanted_said g me known said other list same is = record {
  in_order = is.in_order;
  all = λ w. is.all w ∙ ap (λ b. is_place g w && (list_any (other_asks me w) known && not b)) (sym (same w));
}

or_nothing : (a b : Bool) → b ≡ false → (a || (b || false)) ≡ a
or_nothing true b e = refl
or_nothing false true e = absurd (true≢false e)
or_nothing false false e = refl

-- a body that neither asks nor gives
pub body_passed : (g : Group) (me : ℕ) (kept : AskState) (known : List (Signed Body)) (said : List Body)
    (word : Body) → ((w : Wanted) → gives w word ≡ false) → ((w : Wanted) → asks w word ≡ false) →
    AreAsksOf g me kept known said → AreAsksOf g me kept known (said ++ word ∷ [])
body_passed g me kept known said word no_gift no_ask =
    only_said g me kept known said (said ++ word ∷ [])
    (λ w. list_any-append (asks w) said (word ∷ []) ∙ or_nothing (list_any (asks w) said) (asks w word) (no_ask w))
    (λ w. list_any-append (gives w) said (word ∷ []) ∙ or_nothing (list_any (gives w) said) (gives w word) (no_gift w))

-- a body that gives one thing
pub one_given : (x w : Wanted) (word : Body) → gives w word ≡ same_wanted x w → w ≡ x → gives x word ≡ true
one_given x w word e same = ap (λ v. gives v word) (sym same) ∙ e ∙ ap (same_wanted x) same ∙ same_itself x

-- asks with the next of the bodies said
pub next_said : (g : Group) (me : ℕ) (kept : AskState) (known : List (Signed Body)) (said bodies : List Body) (i : ℕ)
    (d : Body) → i < length bodies →
    AreAsksOf g me kept known ((said ++ take i bodies) ++ get_or bodies i d ∷ []) →
    AreAsksOf g me kept known (said ++ take (i + 1) bodies)
next_said g me kept known said bodies i d within is =
    subst (AreAsksOf g me kept known) (append_assoc said (take i bodies) (get_or bodies i d ∷ [])
    ∙ ap (λ xs. said ++ xs) (sym (take_more bodies i d within))) is

pub no_ask_at : (w : Wanted) (bodies : List Body) (i : ℕ) (d : Body) → i < length bodies →
    list_any (asks w) bodies ≡ false → asks w (get_or bodies i d) ≡ false
no_ask_at w bodies i d within none = by (asks w (get_or bodies i d)) refl
  where
    by : (b : Bool) → asks w (get_or bodies i d) ≡ b → b ≡ false
    by false e = refl
    by true e = absurd (true≢false (sym (list_any_at (asks w) bodies i d within e) ∙ none))
