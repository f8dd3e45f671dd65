-- An intruded master of a scenario through one entry, and that no other actor cries.
use Rattle.std.proofs.Common.{◌≡◌, ℕ, ◌-◌, Bool, true, false, if◌then◌else◌, nat_lt, List, [], ◌∷◌, ◌++◌, append-nil}
use Rattle.std.proofs.Common.{refl, sym, ◌∙◌, ap}
use Rattle.std.specs.List.{flat_map}
use Rattle.std.proofs.lemmas.Grind.{flat_map-append}
use Rattle.message_types.specs.declared.signed.Signed.{Signed}
use Rattle.message_types.specs.declared.body.Body.{Body}
use Rattle.message_types.specs.Parts.{parts}
use Rattle.protocol_rules.specs.Master.{taken_frames}
use Rattle.quorum_sets.specs.Masters.{has_master}
use Rattle.scenario_file.specs.Reading.{Contents}
use Rattle.history_rules.specs.Events.{Event, Entry, Cry, frame_taken}
use Rattle.world_rules.specs.Frames.{cried, overheard}
use Rattle.world_rules.specs.Scenarios.{setup_of, masters_in, proxies_in, fits_in}
use Rattle.history_laws.proofs.BenchLists.{intruded_say_nothing}
use Rattle.world_history.specs.Roles.{Comes, IsIntruded}

-- all that an entry tells
abbrev heard_at : Event → List (Signed Body)
heard_at event = flat_map parts (taken_frames (frame_taken event) ++ cried event)

overheard_next : (own : List Entry) (e : Entry) → overheard (own ++ e ∷ []) ≡ overheard own ++ heard_at e.event
unfolding overheard
overheard_next own e =
    flat_map-append (λ (x : Entry). heard_at x.event) own (e ∷ [])
    ∙ ap (λ (ps : List (Signed Body)). overheard own ++ ps) (append-nil (heard_at e.event))

pub overheard_none : overheard [] ≡ []
unfolding overheard
overheard_none = refl

pub intruded_said : (c : Contents) (actor : ℕ) (own : List Entry) (e : Entry) (known : List (Signed Body))
    (bodies : List Body) → Comes c actor own e
    → IsIntruded (setup_of c) actor own known → bodies ≡ [] → bodies ≡ e.said
intruded_said c actor own e known bodies comes is none =
    none ∙ sym (intruded_say_nothing (setup_of c) actor own e.event is.master is.intruded) ∙ sym comes.adds.said

pub intruded_ready : (c : Contents) (actor : ℕ) (own : List Entry) (e : Entry) (event : Event)
    (old new : List (Signed Body)) → e.event ≡ event
    → IsIntruded (setup_of c) actor own old →
    new ≡ old ++ flat_map parts (taken_frames (frame_taken event) ++ cried event) →
    IsIntruded (setup_of c) actor (own ++ e ∷ []) new
intruded_ready c actor own e event old new same is more = record {
  master = is.master;
  intruded = is.intruded;
  knows = more ∙ ap (λ (ev : Event). old ++ heard_at ev) (sym same)
      ∙ ap (λ (ps : List (Signed Body)). ps ++ heard_at e.event) is.knows ∙ sym (overheard_next own e);
}

-- only an intruded master cries
pub who_cries : (c : Contents) (actor : ℕ) (bytes : List ℕ) → fits_in c actor (Cry bytes) ≡ true
    → (nat_lt actor (masters_in c) ≡ true) × (has_master c.settings.intruded actor ≡ true)
who_cries c actor bytes fits = by (nat_lt actor (masters_in c)) (has_master c.settings.intruded actor)
    (nat_lt (actor - masters_in c) (proxies_in c)) refl refl fits
  where
    by : (master intruded proxy : Bool) → nat_lt actor (masters_in c) ≡ master →
        has_master c.settings.intruded actor ≡ intruded
        → (if master then (if intruded then true else false) else (if proxy then false else false)) ≡ true
        → (nat_lt actor (masters_in c) ≡ true) × (has_master c.settings.intruded actor ≡ true)
    by true true proxy m i h = (m, i)
    by true false proxy m i h = absurd (cc)
    by false intruded true m i h = absurd (cc)
    by false intruded false m i h = absurd (cc)
