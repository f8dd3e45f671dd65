-- What takes a walk over all numbers, by those numbers alone that known words name: acknowledgements in turn. And the ticks
-- that there were, by the events alone.
use Rattle.std.proofs.Common.{◌≡◌, ℕ, ◌-◌, Bool, true, false, ◌&&◌, cond, List, [], ◌∷◌, ◌++◌, refl, ap, arith}
use Rattle.std.proofs.Common.{filter, length, nat_lt, None, Some}
use Rattle.std.specs.Prelude.{if◌then◌else◌, is_some}
use Rattle.std.specs.List.{flat_map, filter_map, list_all}
use Rattle.message_types.specs.declared.signed.Signed.{Signed}
use Rattle.message_types.specs.declared.updates.Update.{Update}
use Rattle.message_types.specs.declared.body.Body.{Body}
use Rattle.quorum_sets.specs.Masters.{numbers_below}
use Rattle.protocol_rules.specs.Words.{first_of_list, greatest_of, numbers_from}
use Rattle.protocol_rules.specs.Group.{Group, most_number, is_door}
use Rattle.protocol_rules.specs.Preorder.{updates_requested, ack_due}
use Rattle.protocol_rules.specs.Turns.{first_requested, number_for, has_turn, acks_in_turn_due}
use Rattle.protocol_rules.specs.Measures.{Told, ticks_of}
use Rattle.protocol_rules.specs.Views.{view}
use Rattle.protocol_rules.specs.Master.{Heard, told_of, known_at, waits}
use Rattle.history_examples.proofs.Short.{lesser, enough, same_each, requested, highest, none_requested}

-- whether it has its turn, where these updates were requested so
abbrev turn_with : Group → List (Signed Body) → ℕ → ℕ → List Update → Bool
turn_with g known j k us = elim (first_of_list us) [
  | None ↦ false
  | Some u ↦ nat_lt u.client g.clients && is_door g u.client j
      && list_all (λ i. is_some (first_requested known j i)) (numbers_from 1 (k - 1))
      && nat_lt (greatest_of (filter_map (number_for known u.client j) (numbers_from 1 (k - 1)))) u.t
]

no_turn : (g : Group) (known : List (Signed Body)) (said : List Body) (j k : ℕ) → updates_requested known j k ≡ [] →
    cond (has_turn g known j k) (ack_due known said j k) [] ≡ []
no_turn g known said j k e = ap (λ (us : List Update). cond (turn_with g known j k us) (ack_due known said j k) []) e

abbrev pub short_turns : Group → List (Signed Body) → List Body → List Body
short_turns g known said =
    flat_map (λ j. flat_map (λ k. if has_turn g known j k then ack_due known said j k else [])
    (numbers_from 1 (lesser most_number (highest requested known)))) (numbers_below g.n)

pub turns_same : (g : Group) (known : List (Signed Body)) (said : List Body) →
    acks_in_turn_due g known said ≡ short_turns g known said
turns_same g known said =
    same_each (λ j. flat_map (λ k. if has_turn g known j k then ack_due known said j k else []) (numbers_from 1 most_number))
    (λ j. flat_map (λ k. if has_turn g known j k then ack_due known said j k else [])
    (numbers_from 1 (lesser most_number (highest requested known)))) (numbers_below g.n)
    (λ j. enough (λ k. if has_turn g known j k then ack_due known said j k else []) 1 most_number
    (highest requested known) (λ k h. no_turn g known said j k (none_requested known j k (omega arith))))

abbrev pub ticks_heard : List Heard → ℕ
ticks_heard before = length (filter (λ e. e.is_tick) before)

pub ticks_told : (g : Group) (seen before : List Heard) → ticks_of (told_of g seen before) ≡ ticks_heard before
ticks_told g seen [] = refl
ticks_told g seen (e ∷ rest) = by e.is_tick (ticks_told g (seen ++ e ∷ []) rest)
  where
    t : Told
    t = record { is_tick = e.is_tick; view = view g (known_at seen e.took); waits = waits g (known_at seen e.took) }

    by : (b : Bool) → ticks_of (told_of g (seen ++ e ∷ []) rest) ≡ ticks_heard rest
        → length (cond b (t ∷ filter (λ x. x.is_tick) (told_of g (seen ++ e ∷ []) rest))
        (filter (λ x. x.is_tick) (told_of g (seen ++ e ∷ []) rest)))
        ≡ length (cond b (e ∷ filter (λ x. x.is_tick) rest) (filter (λ x. x.is_tick) rest))
    by true e = omega arith
    by false e = e
