-- What holds of the setup of every scenario, as statements that need no look into it.
use Rattle.std.specs.Prelude.{◌≡◌, ℕ, List, [], ◌∷◌, None}
use Rattle.std.specs.List.{slice_index_or}
use Rattle.message_types.specs.declared.signed.Signed.{Signed}
use Rattle.message_types.specs.declared.body.Body.{Body}
use Rattle.message_types.specs.Parts.{parts}
use Rattle.quorum_sets.specs.Masters.{has_master}
use Rattle.hash_signatures.specs.Signatures.{all_leaves}
use Rattle.checked_frames.specs.Signing as signing
use Rattle.vouched_orders.specs.Vouching.{votes_in}
use Rattle.scenario_file.specs.Reading.{Contents}
use Rattle.scenario_file.specs.Valid.{IsScenario}
use Rattle.history_rules.specs.Events.{Event, Entry}
use Rattle.history_rules.specs.Setup.{Setup}
use Rattle.agreement.specs.Laws.{HasSizes}
use Rattle.world_rules.specs.Plant.{GoesByPlant}
use Rattle.words_in_place.specs.Signing.{SignsWell}
use Rattle.world_rules.specs.Scenarios.{group_in, key_in, public_in, HasKey, shares_leaves, signature_in, client_in}
use Rattle.world_rules.specs.Scenarios.{fits_in, setup_of}

-- the setup's group has the sizes of a group
abbrev pub SizesOfGroup : Type 0
SizesOfGroup = (c : Contents) → IsScenario c → HasSizes (setup_of c).group

-- its orders go by the plant
abbrev pub OrdersGoByPlant : Type 0
OrdersGoByPlant = (c : Contents) → GoesByPlant (setup_of c) c.plant c.settings.screens

-- every actor's key has as many leaves as the setup says
abbrev pub LeavesOfAll : Type 0
LeavesOfAll = (c : Contents) (actor : ℕ) → (setup_of c).leaves ≡ all_leaves (key_in c actor)

-- Where the seed is known, each actor's words are checked by the key with which it signs.
abbrev pub SeedHasKeys : Type 0
SeedHasKeys = (c : Contents) (actor : ℕ) → c.held ≡ None → HasKey c actor

-- The signatures of an actor that has its key sign: what it signs with leaves that it has, its key bears out, and each
-- signature is within the limits.
abbrev pub SignaturesSign : Type 0
SignaturesSign = (c : Contents) (actor : ℕ) → IsScenario c → HasKey c actor → SignsWell (setup_of c) actor

-- A frame's parts hold its own vote where it is a voucher, else none: no voucher stands inside another frame.
abbrev pub NoVoteInside : Type 0
NoVoteInside = (frame : Signed Body) → votes_in (parts frame) ≡ votes_in (frame ∷ [])

-- the setup goes by the contents of the scenario, part by part
pub record GoesBy (w : Setup) (c : Contents) : Type 0 where
  pub group : w.group ≡ group_in c
  pub intruded : (master : ℕ) → w.intruded master ≡ has_master c.settings.intruded master
  pub clients : (actor : ℕ) (own : List Entry) (event : Event) →
      w.client_says actor own event ≡ client_in c actor own event
  pub fits : (actor : ℕ) (event : Event) → w.fits actor event ≡ fits_in c actor event
  pub signature : (actor used : ℕ) (said : List Body) (place : ℕ) →
      w.signature actor used said place ≡ signature_in c actor used said place
  pub signs : (actor : ℕ) (text sig : List ℕ) →
      w.signs actor text sig ≡ signing.signs (public_in c actor) text sig
  pub shared_leaves : w.shared_leaves ≡ shares_leaves c
  pub failing : (actor : ℕ) → w.failing actor ≡ slice_index_or c.failing actor []

-- so does that of every scenario
abbrev pub SetupGoesBy : Type 0
SetupGoesBy = (c : Contents) → GoesBy (setup_of c) c
