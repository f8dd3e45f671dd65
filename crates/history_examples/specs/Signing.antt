-- How the actors of the examples sign, what their clients say, and which events are of whose role. (This project's own,
-- for these examples alone: a signature that is the signer's number and the text itself. Nothing in the laws of
-- agreement looks into signatures.)
use Rattle.std.specs.Prelude.{ℕ, zero, suc, ◌+◌, ◌-◌, Bool, true, false, List, [], ◌∷◌, Some, None, length, slice_get}
use Rattle.std.specs.Prelude.{nat_lt, if◌then◌else◌}
use Rattle.std.specs.List.{flat_map}
use Rattle.std.specs.Str.{bytes_eq}
use Rattle.message_types.specs.declared.signed.Signed.{Signed}
use Rattle.message_types.specs.declared.updates.Update.{Update}
use Rattle.message_types.specs.declared.body.Body.{Body}
use Rattle.message_types.specs.declared.body.Body.TheVariants as body
use Rattle.message_types.specs.Texts.{body_text, frame_text}
use Rattle.quorum_sets.specs.declared.sizes.Rules.TheVariants.{First}
use Rattle.protocol_rules.specs.Group.{Group}
use Rattle.history_rules.specs.Events.{Event, Entry, Took, Tick, Command, Cry, Skip, Restart}
use Rattle.history_rules.specs.Setup.{Setup}

-- the signature of a body by an actor
abbrev pub seal : ℕ → Body → List ℕ
seal actor b = actor ∷ body_text b

-- an actor's frame of a body of one kind
abbrev pub sealed : {B : Type 0} → (B → Body) → ℕ → B → Signed B
sealed kind actor b = record { signer = actor; body = b; sig = seal actor (kind b) }

-- an actor's frame of a body
abbrev pub framed : ℕ → Body → Signed Body
framed actor b = sealed (λ x. x) actor b

-- the signature of the body at a place of an entry
abbrev pub seal_at : ℕ → ℕ → List Body → ℕ → List ℕ
seal_at actor used said place = elim (slice_get said place) [ Some b ↦ seal actor b | None ↦ [] ]

-- whether this is the actor's signature of a text
abbrev pub is_seal : ℕ → List ℕ → List ℕ → Bool
is_seal actor text sig = bytes_eq sig (actor ∷ text)

-- at each command a screen says its next update; the actor numbers of the clients follow those of the masters
abbrev pub screen_says : Group → ℕ → List Entry → Event → List Body
screen_says g actor before event = elim event [
  | Command op ↦ body.Update record { client = actor - g.n; t = length (flat_map (λ e. e.said) before) + 1; op = op }
      ∷ []
  | _ ↦ []
]

-- the events of a master, of an intruded one, and of a screen
abbrev pub fits_master : Event → Bool
fits_master (Took stamp place frame) = true
fits_master Tick = true
fits_master Skip = true
fits_master Restart = true
fits_master _ = false

abbrev pub fits_intruded : Event → Bool
fits_intruded (Cry bytes) = true
fits_intruded event = fits_master event

abbrev pub fits_screen : Event → Bool
fits_screen (Took stamp place frame) = true
fits_screen (Command op) = true
fits_screen Skip = true
fits_screen Restart = true
fits_screen _ = false

-- A group of four masters, of which one may be intruded, and so many screens. A quorum is three.
abbrev pub four_masters : ℕ → Group
four_masters clients = record { n = 4; f = 1; k = 0; q = 3; clients = clients; rules = First }

-- A group of masters and screens on a plant without orders, with leaves enough and no keeper that fails.
abbrev pub setup_of : Group → (ℕ → Bool) → Setup
setup_of g intruded = record {
  group = g;
  intruded = intruded;
  orders = λ updates client. [];
  client_says = screen_says g;
  fits = λ actor event. if nat_lt actor g.n then (if intruded actor then fits_intruded event else fits_master event)
      else fits_screen event;
  signature = seal_at;
  signs = is_seal;
  leaves = 1024;
  shared_leaves = false;
  failing = λ actor. [];
}

-- entries: a screen's command, an intruded master's cry, a frame taken, a tick
abbrev pub commands : ℕ → ℕ → Update → Entry
commands stamp actor u = record { stamp = stamp; actor = actor; event = Command u.op; said = body.Update u ∷ [] }

abbrev pub cries : ℕ → ℕ → Body → Entry
cries stamp actor b = record { stamp = stamp; actor = actor; event = Cry (frame_text (framed actor b)); said = [] }

abbrev pub takes : ℕ → ℕ → ℕ → ℕ → Body → List Body → Entry
takes stamp actor from by b said =
    record { stamp = stamp; actor = actor; event = Took from 0 (framed by b); said = said }

abbrev pub ticks : ℕ → ℕ → List Body → Entry
ticks stamp actor said = record { stamp = stamp; actor = actor; event = Tick; said = said }

abbrev pub restarts : ℕ → ℕ → Entry
restarts stamp actor = record { stamp = stamp; actor = actor; event = Restart; said = [] }

-- so many ticks of one actor, at which it says nothing
abbrev pub quiet_ticks : ℕ → ℕ → ℕ → List Entry
quiet_ticks stamp actor zero = []
quiet_ticks stamp actor (suc count) = ticks stamp actor [] ∷ quiet_ticks (suc stamp) actor count
