-- What a frame is held as.
use Rattle.std.proofs.Common.{◌≡◌, ℕ, Bool, true, false, cond, Option, Some, None, sym, ◌∙◌, ap}
use Rattle.message_types.specs.declared.signed.Signed.{Signed}
use Rattle.message_types.specs.declared.body.Body.{Body}
use Rattle.checked_frames.specs.Standing.{Ring}
use Rattle.checked_frames.specs.Standing as ring
use Rattle.scenario_file.specs.Reading.{Contents}
use Rattle.world_rules.specs.Scenarios.{setup_of}
use Rattle.world_history.specs.Signed.{ring_in}
use Rattle.world_history.proofs.FramesRead.{stands_by}
use Rattle.station_turns.specs.declared.held.Held.{Held}
use Rattle.station_turns.specs.Checking.{held_where_standing}

made : Bool → ℕ → ℕ → Signed Body → Option Held
made well stamp place f = cond well (Some (record { stamp = stamp; place = place; frame = f })) None

pub held_well : (c : Contents) (rg : Ring) (stamp place : ℕ) (f x : Signed Body) → x ≡ f →
    ring.stands rg f ≡ true → rg ≡ ring_in c
    → ◌≡◌ {A = Option Held} (Some (record { stamp = stamp; place = place; frame = x }))
    (held_where_standing (setup_of c) stamp place f)
unfolding made
held_well c rg stamp place f x frame stand same =
    ap (λ (y : Signed Body). Some (record { stamp = stamp; place = place; frame = y })) frame
    ∙ sym (ap (λ b. made b stamp place f) (stands_by c rg f same ∙ stand))

pub held_fallen : (c : Contents) (rg : Ring) (stamp place : ℕ) (f : Signed Body) → ring.stands rg f ≡ false →
    rg ≡ ring_in c → ◌≡◌ {A = Option Held} None (held_where_standing (setup_of c) stamp place f)
unfolding made
held_fallen c rg stamp place f fallen same = sym (ap (λ b. made b stamp place f) (stands_by c rg f same ∙ fallen))
