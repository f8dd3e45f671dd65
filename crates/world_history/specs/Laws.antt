-- What a scenario's actors are charged with, sign and check, and what a correct master's object says, as statements.
use Rattle.std.specs.Prelude.{◌≡◌, ℕ, ◌+◌, ◌-◌, ◌^◌, ◌≤◌, Bool, true, false, List, [], ◌∷◌, ◌++◌, length, map}
use Rattle.message_types.specs.declared.signed.Signed.{Signed}
use Rattle.message_types.specs.declared.body.Body.{Body}
use Rattle.message_types.specs.Texts.{body_text}
use Rattle.scenario_file.specs.declared.scenario.Scenario.{Scenario}
use Rattle.scenario_file.specs.Reading.{Contents, contents}
use Rattle.scenario_file.specs.Valid.{IsScenario}
use Rattle.hash_signatures.specs.Signatures.{all_leaves}
use Rattle.checked_frames.specs.Standing as ring
use Rattle.checked_frames.specs.Entries.{group_size, groups_for, entry_signatures}
use Rattle.history_rules.specs.Events.{Entry, frame_taken, is_tick, is_silent}
use Rattle.history_rules.specs.Leaves.{leaves_for}
use Rattle.history_rules.specs.Setup.{Setup, is_correct_master, stands, leaves_used, signed_from}
use Rattle.history_rules.specs.Legal.{heard_in}
use Rattle.history_laws.specs.BenchLists.{AddsEntry, IsBenchList}
use Rattle.master_knowledge.specs.Whole.{is_whole}
use Rattle.master_node.specs.Charge.{IsChargeOf, says_at}
use Rattle.master_node.specs.Laws.{charge_of}
use Rattle.master_node.specs.Running.{AreItsFrames}
use Rattle.bench_rules.specs.Lists.{frames_after}
use Rattle.world_rules.specs.Scenarios.{setup_of, key_in, most_together}
use Rattle.world_history.specs.Signed.{frames_with, ring_in}

-- A scenario's master is charged with what the scenario's setup says, with all leaves of its key.
abbrev pub ChargedBySetup : Type 0
ChargedBySetup = (scenario : Scenario) (master : ℕ) →
    IsChargeOf scenario master (all_leaves (key_in (contents scenario) 0))
    (charge_of (setup_of (contents scenario)) master)

-- At an event that isn't silent a correct master's object says what the rules make the master say at the entry ..
abbrev pub MasterSays : Type 0
MasterSays =
    (w : Setup) (master : ℕ) (list : List Entry) (e : Entry) → is_correct_master w master ≡ true →
    IsBenchList w master list → AddsEntry w master list e
    → is_silent e.event ≡ false → says_at (charge_of w master) (heard_in w master list) (frame_taken e.event)
    (is_tick e.event) ≡ e.said

-- .. and the frames that it is to be handed are those of the entry.
abbrev pub MasterIsHanded : Type 0
MasterIsHanded =
    (w : Setup) (master : ℕ) (list : List Entry) (e : Entry) → is_correct_master w master ≡ true →
    IsBenchList w master list → AddsEntry w master list e
    → is_silent e.event ≡ false
    → AreItsFrames (charge_of w master) (heard_in w master list) (frame_taken e.event) (is_tick e.event)
    (frames_after w master list e)

-- A frame that stands is whole: each of its parts is in its place.
abbrev pub StandingIsWhole : Type 0
StandingIsWhole = (w : Setup) (frame : Signed Body) → stands w frame ≡ true → is_whole w.group frame ≡ true

-- A frame stands in a scenario's histories exactly where it stands by the public keys of the scenario's actors.
abbrev pub StandsByRing : Type 0
StandsByRing = (c : Contents) (frame : Signed Body) → stands (setup_of c) frame ≡ ring.stands (ring_in c) frame

-- A scenario's keys have at most 2^30 leaves.
abbrev pub LeavesAreFew : Type 0
LeavesAreFew = (c : Contents) (actor : ℕ) → IsScenario c → all_leaves (key_in c actor) ≤ 2 ^ 30

-- An entry uses a leaf for each group of its bodies, ..
abbrev pub LeavesUsedNext : Type 0
LeavesUsedNext = (w : Setup) (list : List Entry) (e : Entry) →
    leaves_used w (list ++ e ∷ []) ≡ leaves_used w list + leaves_for w.shared_leaves (length e.said)

abbrev pub GroupsUseLeaves : Type 0
GroupsUseLeaves = (shared : Bool) (bodies : ℕ) → groups_for (group_size shared) bodies ≡ leaves_for shared bodies

-- .. and there are enough left for them.
abbrev pub LeavesEnough : Type 0
LeavesEnough =
    (w : Setup) (actor : ℕ) (list : List Entry) (e : Entry) → AddsEntry w actor list e →
    leaves_for w.shared_leaves (length e.said) ≤ w.leaves - leaves_used w list

-- The frames of an entry's bodies are these with the signatures that the actor's key makes of the entry, one for each
-- body.
abbrev pub SignaturesForAll : Type 0
SignaturesForAll =
    (c : Contents) (actor used : ℕ) (said : List Body) → IsScenario c
    → length (entry_signatures (key_in c actor) used (most_together c) (map body_text said)) ≡ length said

abbrev pub SignedBySignatures : Type 0
SignedBySignatures =
    (c : Contents) (actor used : ℕ) (said : List Body) → IsScenario c
    → signed_from (setup_of c) actor used said 0 said ≡ frames_with actor said
    (entry_signatures (key_in c actor) used (most_together c) (map body_text said))
