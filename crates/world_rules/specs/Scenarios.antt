-- What the histories of a scenario go by: its group, its intruded masters, the orders of its plant, its clients, the
-- events that each actor may have, and its actors' keys, leaves and keepers. (RFC 8554 for the keys; which key an actor
-- has, and the rest, is this project's own.)
use Rattle.std.specs.Prelude.{◌≡◌, ℕ, ◌+◌, ◌-◌, Option, Some, None, Bool, true, false, List, [], length, map, nat_eq, nat_lt, if◌then◌else◌}
use Rattle.std.specs.List.{slice_index_or}
use Rattle.quorum_sets.specs.Quorum.{group_size, quorum_size}
use Rattle.quorum_sets.specs.Masters.{has_master}
use Rattle.hash_signatures.specs.Signatures.{Key, key_public, all_leaves}
use Rattle.hash_signatures.specs.State.{key_from}
use Rattle.checked_frames.specs.Signing.{signs}
use Rattle.checked_frames.specs.Entries as entries
use Rattle.ots_keys.specs.declared.parameters.Ots.TheVariants.{W4}
use Rattle.actor_keys.specs.Keys.{key_of}
use Rattle.message_types.specs.declared.body.Body.{Body}
use Rattle.message_types.specs.Texts.{body_text}
use Rattle.protocol_rules.specs.Group.{Group}
use Rattle.field_device.specs.Places.{Places, zeros, size_of}
use Rattle.master_points.specs.Orders.{orders}
use Rattle.scenario_file.specs.declared.held.HeldKeys.{HeldKeys}
use Rattle.scenario_file.specs.Reading.{Contents}
use Rattle.history_rules.specs.Events.{Event, Took, Tick, Command, Field, Poll, Cry, Skip, Restart, Entry}
use Rattle.history_rules.specs.Setup.{Setup}
use Rattle.world_rules.specs.Clients.{front_of, desk_of, proxy_says, screen_says, device_of}

abbrev pub proxies_in : Contents → ℕ
proxies_in c = length c.plant.devices

abbrev pub masters_in : Contents → ℕ
masters_in c = group_size c.settings.f c.settings.k

abbrev pub group_in : Contents → Group
group_in c = record {
  n = masters_in c;
  f = c.settings.f;
  k = c.settings.k;
  q = quorum_size c.settings.f c.settings.k;
  clients = proxies_in c + c.settings.screens;
  rules = c.settings.rules;
}

-- how many actors a scenario has: its masters, then its clients
abbrev pub actors_in : Contents → ℕ
actors_in c = (group_in c).n + (group_in c).clients

-- the key with which an actor signs, of a scenario's heights: one that the seed makes, or else the one key that is held
abbrev pub key_with : Option HeldKeys → List ℕ → List ℕ → ℕ → Key
key_with None seed heights actor = key_of seed heights actor
key_with (Some held) seed heights actor = key_from held.seed held.identifier heights W4

-- the key with which an actor of the scenario signs
unfoldable pub key_in : Contents → ℕ → Key
key_in c actor = key_with c.held c.settings.seed c.settings.heights actor

-- the public key by which an actor's words are checked: that of its key, or else what the ring that is held has of it
abbrev pub public_with : Option HeldKeys → Key → ℕ → List ℕ
public_with None key actor = key_public key
public_with (Some held) key actor = slice_index_or held.ring actor []

-- the public key by which the actor's words are checked, in this scenario
unfoldable pub public_in : Contents → ℕ → List ℕ
public_in c actor = public_with c.held (key_in c actor) actor

-- The actor's words are checked by the key with which it signs. Where the seed is known this is so of all actors, else of
-- the one whose key is held.
abbrev pub HasKey : Contents → ℕ → Type 0
HasKey c actor = public_in c actor ≡ key_public (key_in c actor)

-- whether bodies of an entry share a leaf, and so how many do at most
abbrev pub shares_leaves : Contents → Bool
shares_leaves c = nat_eq c.settings.frames 2

abbrev pub most_together : Contents → ℕ
most_together c = entries.group_size (shares_leaves c)

-- the signature of the body at a place among an entry's bodies, before which so many leaves were used
unfoldable pub signature_in : Contents → ℕ → ℕ → List Body → ℕ → List ℕ
signature_in c actor used said place =
    slice_index_or (entries.entry_signatures (key_in c actor) used (most_together c) (map body_text said)) place []

-- what a client is to say at an event after its own entries: the proxies' numbers come before the screens'
abbrev pub client_in : Contents → ℕ → List Entry → Event → List Body
client_in c actor own event =
    let client = actor - masters_in c in
    if nat_lt client (proxies_in c)
    then proxy_says (front_of (masters_in c) c.settings.f c.plant client own) event
    else screen_says (desk_of (masters_in c) c.settings.f client own) event

-- the events of each role
abbrev pub fits_all : Event → Bool
fits_all (Took stamp place frame) = true
fits_all Tick = true
fits_all Skip = true
fits_all _ = false

abbrev pub fits_correct : Event → Bool
fits_correct Restart = true
fits_correct event = fits_all event

abbrev pub fits_intruded : Event → Bool
fits_intruded (Cry bytes) = true
fits_intruded event = fits_all event

abbrev pub fits_screen : Event → Bool
fits_screen (Command op) = true
fits_screen event = fits_correct event

abbrev pub fits_proxy : Places → Event → Bool
fits_proxy device Poll = true
fits_proxy device (Field area place value) = nat_lt place (size_of device area)
fits_proxy device event = fits_correct event

abbrev pub fits_in : Contents → ℕ → Event → Bool
fits_in c actor event =
    if nat_lt actor (masters_in c)
    then (if has_master c.settings.intruded actor then fits_intruded event else fits_correct event)
    else (if nat_lt (actor - masters_in c) (proxies_in c)
    then fits_proxy (zeros (device_of c.plant (actor - masters_in c))) event
    else fits_screen event)

unfoldable pub setup_of : Contents → Setup
setup_of c = record {
  group = group_in c;
  intruded = has_master c.settings.intruded;
  orders = orders c.plant c.settings.screens;
  client_says = client_in c;
  fits = fits_in c;
  signature = signature_in c;
  signs = λ actor text sig. signs (public_in c actor) text sig;
  leaves = all_leaves (key_in c 0);
  shared_leaves = shares_leaves c;
  failing = λ actor. slice_index_or c.failing actor [];
}
