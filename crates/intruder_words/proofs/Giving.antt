-- The gift of a certified request: the first known request with the update's digest is the first with the update.
use Rattle.std.proofs.Common.{◌≡◌, ℕ, List, Option, Some, None, sym, ◌∙◌, ap}
use Rattle.std.specs.List.{filter_map}
use Rattle.std.specs.Option.{option_map, option_and_then}
use Rattle.message_types.specs.declared.signed.Signed.{Signed}
use Rattle.message_types.specs.declared.updates.Update.{Update}
use Rattle.message_types.specs.declared.preordering.PoRequest.{PoRequest}
use Rattle.message_types.specs.declared.preordering.PoAck.{PoAck}
use Rattle.message_types.specs.declared.reconciling.Give.{Give}
use Rattle.message_types.specs.declared.body.Body.{Body}
use Rattle.message_types.specs.Digests.{digest_of_update}
use Rattle.protocol_rules.specs.Group.{Group}
use Rattle.protocol_rules.specs.Words.{first_of_list}
use Rattle.protocol_rules.specs.Preorder.{certified}
use Rattle.protocol_rules.specs.Reconcile.{request_of, quorum_of_acks}
use Rattle.reconcile.specs.GiftState.{request_with}
use Rattle.reconcile.proofs.First.{first_is}
use Rattle.intruder_words.specs.Speaking.{give_with, give_of}

first-known : (g : Group) (known : List (Signed Body)) (j k : ℕ) (u : Update) (digest : List ℕ) →
    certified g known j k ≡ Some u → digest ≡ digest_of_update u
    → (o : Option (Signed PoRequest)) → o ≡ first_of_list (filter_map (request_with j k digest) known) →
    first_of_list (filter_map (request_of j k u) known) ≡ o
first-known g known j k u digest is same o found =
    sym (found ∙ ap (λ d. first_of_list (filter_map (request_with j k d) known)) same ∙ first_is g known j k u is)

-- a request with its acknowledgements
abbrev with_acks : List (Signed PoAck) → Signed PoRequest → Give
with_acks acks request = record { request = request; acks = acks }

pub gift-is : (g : Group) (known : List (Signed Body)) (j k : ℕ) (u : Update) (digest : List ℕ) →
    certified g known j k ≡ Some u → digest ≡ digest_of_update u
    → (o : Option (Signed PoRequest)) → o ≡ first_of_list (filter_map (request_with j k digest) known) →
    (acks : List (Signed PoAck)) → acks ≡ quorum_of_acks g known j k digest
    → option_map (with_acks acks) o ≡ give_with g known j k u
gift-is g known j k u digest is same o found acks of_quorum =
    ap (λ xs. option_map (with_acks xs) o) (of_quorum ∙ ap (quorum_of_acks g known j k) same)
    ∙ ap (option_map (with_acks (quorum_of_acks g known j k (digest_of_update u))))
    (sym (first-known g known j k u digest is same o found))

pub gift-missing : (g : Group) (known : List (Signed Body)) (j k : ℕ) (u : Update) (digest : List ℕ) →
    certified g known j k ≡ Some u → digest ≡ digest_of_update u
    → (o : Option (Signed PoRequest)) → o ≡ first_of_list (filter_map (request_with j k digest) known) → o ≡ None →
    None ≡ give_with g known j k u
gift-missing g known j k u digest is same o found none =
    ap (option_map (with_acks (quorum_of_acks g known j k (digest_of_update u))))
    (sym (first-known g known j k u digest is same o found ∙ none))

pub gift-made : (g : Group) (known : List (Signed Body)) (j k : ℕ) (u : Update) (digest : List ℕ) →
    certified g known j k ≡ Some u → digest ≡ digest_of_update u
    → (o : Option (Signed PoRequest)) → o ≡ first_of_list (filter_map (request_with j k digest) known) →
    (request : Signed PoRequest) → o ≡ Some request
    → (acks : List (Signed PoAck)) → acks ≡ quorum_of_acks g known j k digest →
    Some record { request = request; acks = acks } ≡ give_with g known j k u
gift-made g known j k u digest is same o found request some acks of_quorum =
    ap (option_map (with_acks acks)) (sym some) ∙ gift-is g known j k u digest is same o found acks of_quorum

-- what is given goes by what is certified
pub certified-gift : (g : Group) (known : List (Signed Body)) (j k : ℕ) (o : Option Update) →
    o ≡ certified g known j k → option_and_then (give_with g known j k) o ≡ give_of g known j k
certified-gift g known j k o is = ap (option_and_then (give_with g known j k)) is
