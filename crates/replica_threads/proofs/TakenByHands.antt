-- What is taken from an inbox.
use Rattle.std.proofs.Common.{◌≡◌, ℕ, Bool, true, false, cond, Option, Some, None, Result, Ok, Err, refl, sym, ◌∙◌}
use Rattle.std.proofs.Common.{ap, subst, inl, inr, ◌⊎◌}
use Rattle.std.specs.Prelude.{IfOk, IfSome}
use Rattle.plain_lists.specs.declared.want.Want.{Want}
use Rattle.message_types.specs.declared.signed.Signed.{Signed}
use Rattle.message_types.specs.declared.body.Body.{Body}
use Rattle.scenario_file.specs.Reading.{Contents}
use Rattle.history_rules.specs.Setup.{Setup, stands}
use Rattle.world_rules.specs.Scenarios.{setup_of}
use Rattle.checked_frames.specs.Standing.{Ring}
use Rattle.world_history.specs.Signed.{ring_in}
use Rattle.station_turns.specs.declared.held.Held.{Held}
use Rattle.station_turns.specs.Checking.{held_where_standing}
use Rattle.inboxes.specs.declared.pass.InboxPass.{InboxPass}
use Rattle.inboxes.specs.Passes.{known}
use Rattle.inboxes.specs.Steps.{Took}
use Rattle.replica_threads.specs.declared.posted.Posted.{Posted}
use Rattle.replica_threads.specs.Hands.{Takes, may_post}

abbrev pub stand_held : Setup → Option Held → Type 0
stand_held w held = IfSome held (λ h. stands w h.frame ≡ true)

-- a frame was taken, and is held if it stands
pub taken_one : (r : Result (Option Held) Want) (ring : Ring) (x : Posted) (old new : InboxPass Posted) →
    Took may_post (known old) x (known new)
    → IfOk r (λ held. (c : Contents) → ring ≡ ring_in c →
    held ≡ held_where_standing (setup_of c) x.stamp x.place x.frame)
    → IfOk r (λ held. (c : Contents) → ring ≡ ring_in c → Takes c old held new)
taken_one (Ok held) ring x old new took told = λ c same. inr (record { posted = x; took = took; checked = told c same })
taken_one (Err e) ring x old new took told = told

checked_stands : (w : Setup) (stamp place : ℕ) (f : Signed Body) → stand_held w (held_where_standing w stamp place f)
checked_stands w stamp place f = by (stands w f) refl
  where
    by : (b : Bool) → stands w f ≡ b →
        stand_held w (cond b (Some (record { stamp = stamp; place = place; frame = f })) None)
    by true stand = stand
    by false fallen = tt

taken_stands : (c : Contents) (old new : InboxPass Posted) (next : Option Held) → Takes c old next new →
    stand_held (setup_of c) next
taken_stands c old new next (inl none) = subst (stand_held (setup_of c)) (sym none.1) tt
taken_stands c old new next (inr one) = subst (stand_held (setup_of c)) (sym one.checked)
    (checked_stands (setup_of c) one.posted.stamp one.posted.place one.posted.frame)

-- what is held then stands
pub next_stands : (r : Result (Option Held) Want) (ring : Ring) (held : Option Held) (old new : InboxPass Posted) →
    IfOk r (λ next. (c : Contents) → ring ≡ ring_in c → Takes c old next new)
    → IfOk r (λ next. (c : Contents) → ring ≡ ring_in c → stand_held (setup_of c) held → stand_held (setup_of c) next)
next_stands (Ok next) ring held old new takes = λ c same well. taken_stands c old new next (takes c same)
next_stands (Err e) ring held old new takes = takes
