-- What saying one word changes of the first requests.
use Rattle.std.proofs.Common.{◌≡◌, ◌≢◌, ℕ, ◌+◌, ◌<◌, Bool, true, false, cond, ◌||◌, List, [], ◌∷◌, ◌++◌, Option, Some}
use Rattle.std.proofs.Common.{None, is_some, Result, Ok, Err, OnErr, IsOk, length, take, get_or, refl, sym, ◌∙◌, ap}
use Rattle.std.proofs.Common.{subst, append_assoc, true≢false}
use Rattle.std.specs.List.{list_any}
use Rattle.std.specs.Option.{option_map}
use Rattle.std.proofs.Math.Bool.{or-false}
use Rattle.std.proofs.lemmas.List.{take_more}
use Rattle.std.proofs.lemmas.List.Folds.{list_any_at}
use Rattle.message_types.specs.declared.signed.Signed.{Signed}
use Rattle.message_types.specs.declared.preordering.PoAck.{PoAck}
use Rattle.message_types.specs.declared.body.Body.{Body}
use Rattle.message_types.specs.declared.body.Body.TheVariants as body
use Rattle.protocol_rules.specs.Group.{Group}
use Rattle.protocol_rules.specs.Words.{first_of_list}
use Rattle.protocol_rules.specs.Preorder.{updates_requested, acks}
use Rattle.preorder.specs.declared.firsts.First.{First}
use Rattle.preorder.specs.Index.{PairMap, same_pair, at_pair, HasFirsts, IsKnownFirst, first_update, is_settled}
use Rattle.preorder.specs.Index.{with_ack}
use Rattle.preorder.proofs.Choice.{list_any-push}
use Rattle.protocol_rules.proofs.Keys.{same_pair-same}

-- a write to a key that is there needs no memory
pub never-full : {A E X : Type 0} (r : Result A E) (there : Option X) (x : X) → Some x ≡ there →
    OnErr r (there ≡ None) → IsOk r
never-full (Ok a) there x is absent = refl
never-full (Err e) there x is absent = absurd (true≢false (ap is_some (is ∙ absent)))

-- of the two at (j, k), only what is there changes

pub acked-nothing : (map : PairMap First) (j k : ℕ) → None ≡ at_pair map (j, k) → (key : ℕ × ℕ) →
    at_pair map key ≡ cond (same_pair (j, k) key) (option_map with_ack (at_pair map key)) (at_pair map key)
acked-nothing map j k none key = by (same_pair (j, k) key) refl
  where
    by : (here : Bool) → same_pair (j, k) key ≡ here →
        at_pair map key ≡ cond here (option_map with_ack (at_pair map key)) (at_pair map key)
    by true e = let is : at_pair map key ≡ None = ap (at_pair map) (sym (same_pair-same (j, k) key e)) ∙ sym none in
        is ∙ sym (ap (option_map with_ack) is)
    by false e = refl

pub acked-there : (map after : PairMap First) (j k : ℕ) (first : First) → Some first ≡ at_pair map (j, k) →
    ((key : ℕ × ℕ) → at_pair after key ≡ cond (same_pair (j, k) key) (Some (with_ack first)) (at_pair map key)) →
    (key : ℕ × ℕ) →
    at_pair after key ≡ cond (same_pair (j, k) key) (option_map with_ack (at_pair map key)) (at_pair map key)
acked-there map after j k first there put key = put key ∙ by (same_pair (j, k) key) refl
  where
    by : (here : Bool) → same_pair (j, k) key ≡ here → cond here (Some (with_ack first)) (at_pair map key) ≡ cond here
        (option_map with_ack (at_pair map key)) (at_pair map key)
    by true e = ap (option_map with_ack) (there ∙ ap (at_pair map) (same_pair-same (j, k) key e))
    by false e = refl

update-stays : (here : Bool) (old : Option First) →
    first_update (cond here (option_map with_ack old) old) ≡ first_update old
update-stays true (Some first) = refl
update-stays true None = refl
update-stays false old = refl

or-true : (b : Bool) → (b || true) ≡ true
or-true true = refl
or-true false = refl

settled-here : (here : Bool) (old : Option First) → (here ≡ true → is_some old ≡ true) →
    (is_settled old || here) ≡ is_settled (cond here (option_map with_ack old) old)
settled-here true (Some first) there = or-true first.acked
settled-here true None there = absurd (true≢false (sym (there refl)))
settled-here false (Some first) there = or-false first.acked
settled-here false None there = refl

known-stays : (g : Group) (j k : ℕ) (here : Bool) (old : Option First) → IsKnownFirst g j k old →
    IsKnownFirst g j k (cond here (option_map with_ack old) old)
known-stays g j k true (Some first) known = known
known-stays g j k true None known = known
known-stays g j k false old known = known

-- an acknowledgement of what was requested settles it
pub firsts-acked : (g : Group) (known : List (Signed Body)) (said : List Body) (b : PoAck) (map after : PairMap First) →
    ((j k : ℕ) → first_of_list (updates_requested known j k) ≡ None → acks j k (body.PoAck b) ≡ false) →
    ((key : ℕ × ℕ) → at_pair after key ≡ cond (same_pair (b.j, b.k) key) (option_map with_ack (at_pair map key))
    (at_pair map key)) →
    HasFirsts g known said map → HasFirsts g known (said ++ body.PoAck b ∷ []) after
firsts-acked g known said b map after only put has j k = record {
  update = ap first_update (put (j, k)) ∙ update-stays (same_pair (b.j, b.k) (j, k)) (at_pair map (j, k))
      ∙ (has j k).update;
  acked = list_any-push (acks j k) said (body.PoAck b) ∙ ap (λ a. a || same_pair (b.j, b.k) (j, k)) (has j k).acked
      ∙ settled-here (same_pair (b.j, b.k) (j, k)) (at_pair map (j, k)) (there (at_pair map (j, k)) refl)
      ∙ sym (ap is_settled (put (j, k)));
  placed = subst (IsKnownFirst g j k) (sym (put (j, k)))
      (known-stays g j k (same_pair (b.j, b.k) (j, k)) (at_pair map (j, k)) (has j k).placed);
}
  where
    there : (old : Option First) → at_pair map (j, k) ≡ old → same_pair (b.j, b.k) (j, k) ≡ true → is_some old ≡ true
    there (Some first) e here = refl
    there None e here = absurd (true≢false (sym here ∙ only j k (sym (has j k).update ∙ ap first_update e)))

-- and a word of another kind settles nothing
pub firsts-passed : (g : Group) (known : List (Signed Body)) (said : List Body) (word : Body) (map : PairMap First) →
    ((b : PoAck) → word ≢ body.PoAck b) →
    HasFirsts g known said map → HasFirsts g known (said ++ word ∷ []) map
firsts-passed g known said word map not has j k = record {
  update = (has j k).update;
  acked = list_any-push (acks j k) said word ∙ ap (λ b. list_any (acks j k) said || b) (quiet word not)
      ∙ or-false (list_any (acks j k) said) ∙ (has j k).acked;
  placed = (has j k).placed;
}
  where
    quiet : (word : Body) → ((b : PoAck) → word ≢ body.PoAck b) → acks j k word ≡ false
    quiet (body.PoAck b) not = absurd (not b refl)
    quiet _ not = refl

-- one word after another

pub next-said : (g : Group) (known : List (Signed Body)) (said bodies : List Body) (map : PairMap First) (i : ℕ)
    (d : Body) → i < length bodies →
    HasFirsts g known ((said ++ take i bodies) ++ get_or bodies i d ∷ []) map →
    HasFirsts g known (said ++ take (i + 1) bodies) map
next-said g known said bodies map i d within has =
    subst (λ (xs : List Body). HasFirsts g known xs map) (append_assoc said (take i bodies) (get_or bodies i d ∷ [])
    ∙ ap (λ xs. said ++ xs) (sym (take_more bodies i d within))) has

pub quiet-at : (j k : ℕ) (bodies : List Body) (i : ℕ) (word : Body) → i < length bodies →
    word ≡ get_or bodies i word → list_any (acks j k) bodies ≡ false → acks j k word ≡ false
quiet-at j k bodies i word within here none = by (acks j k word) refl
  where
    by : (b : Bool) → acks j k word ≡ b → b ≡ false
    by false e = refl
    by true e = absurd (true≢false
        (sym (list_any_at (acks j k) bodies i word within (ap (acks j k) (sym here) ∙ e)) ∙ none))
