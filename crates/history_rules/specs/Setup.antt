-- What stays the same over a whole history: the group, which masters are intruded, the rules of the plant, the clients'
-- behaviour, and how words are signed and signatures checked. The theorems hold of every setup whose group is one.
use Rattle.std.specs.Prelude.{ℕ, ◌+◌, ◌-◌, suc, Bool, ◌&&◌, not, List, [], ◌∷◌, length, map, filter, nat_eq, nat_lt}
use Rattle.std.specs.Prelude.{if◌then◌else◌}
use Rattle.std.specs.List.{list_all}
use Rattle.message_types.specs.declared.signed.Signed.{Signed}
use Rattle.message_types.specs.declared.updates.Update.{Update}
use Rattle.message_types.specs.declared.vouchers.Order.{Order}
use Rattle.message_types.specs.declared.body.Body.{Body}
use Rattle.message_types.specs.Texts.{body_text}
use Rattle.message_types.specs.Spelling.{has_spelling}
use Rattle.message_types.specs.Parts.{parts}
use Rattle.protocol_rules.specs.Group.{Group}
use Rattle.protocol_rules.specs.Places.{in_place}
use Rattle.protocol_rules.specs.Master.{Heard}
use Rattle.history_rules.specs.Events.{Event, Entry, frame_taken, is_tick, is_silent}
use Rattle.history_rules.specs.Leaves.{leaves_for, leaves_of, room_of}

pub record Setup : Type 0 where
  pub group : Group
  -- the masters that are intruded
  pub intruded : ℕ → Bool
  -- the orders of a client that a list of executed updates makes
  pub orders : List Update → ℕ → List Order
  -- what a client says at an event, from its own list before
  pub client_says : ℕ → List Entry → Event → List Body
  -- whether an event is one of the actor's role
  pub fits : ℕ → Event → Bool
  -- of an actor's bodies of one entry, before which it used so many leaves, the signature of the one at a place
  pub signature : ℕ → ℕ → List Body → ℕ → List ℕ
  -- whether an actor's key bears out a text's signature
  pub signs : ℕ → List ℕ → List ℕ → Bool
  -- each actor's leaves, and whether bodies of an entry share one
  pub leaves : ℕ
  pub shared_leaves : Bool
  -- the numbers of an actor's keeper calls that fail
  pub failing : ℕ → List ℕ

-- the actor is a master that isn't intruded, or a client
abbrev pub is_correct : Setup → ℕ → Bool
is_correct w actor = not (nat_lt actor w.group.n && w.intruded actor)

abbrev pub is_correct_master : Setup → ℕ → Bool
is_correct_master w actor = nat_lt actor w.group.n && not (w.intruded actor)

-- The frame stands: it has a spelling, and each of its parts is of an actor that is there, signed by it, and in its
-- place.
unfoldable pub stands : Setup → Signed Body → Bool
stands w frame =
    has_spelling frame
    && list_all (λ p. nat_lt p.signer (w.group.n + w.group.clients) && w.signs p.signer (body_text p.body) p.sig
    && in_place w.group p) (parts frame)

-- how many leaves an actor's entries used
abbrev pub leaves_used : Setup → List Entry → ℕ
leaves_used w own = leaves_of w.shared_leaves (map (λ e. length e.said) own)

-- how many bodies of one entry can still be signed
abbrev pub room : Setup → List Entry → ℕ
room w own = room_of w.shared_leaves (w.leaves - leaves_used w own)

-- the frames of an entry's bodies
abbrev pub signed_from : Setup → ℕ → ℕ → List Body → ℕ → List Body → List (Signed Body)
signed_from w actor used said place [] = []
signed_from w actor used said place (b ∷ rest) =
    record { signer = actor; body = b; sig = w.signature actor used said place }
    ∷ signed_from w actor used said (suc place) rest

-- a master's entries as what it heard and said, without the silent ones; `used` leaves were used before
abbrev pub heard_from : Setup → ℕ → ℕ → List Entry → List Heard
heard_from w actor used [] = []
heard_from w actor used (e ∷ rest) =
    if is_silent e.event
    then heard_from w actor (used + leaves_for w.shared_leaves (length e.said)) rest
    else record {
      took = frame_taken e.event;
      is_tick = is_tick e.event;
      said =
          signed_from w actor used e.said 0 e.said;
    }
    ∷ heard_from w actor (used + leaves_for w.shared_leaves (length e.said)) rest

-- the entries of one actor, in order
unfoldable pub own : List Entry → ℕ → List Entry
own history actor = filter (λ e. nat_eq e.actor actor) history
