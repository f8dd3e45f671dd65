-- Whether an event makes the next entry of its actor.
use Rattle.std.proofs.Common.{◌≡◌, ℕ, Bool, true, false, cond, ◌&&◌, List, Option, Some, None, refl, sym, subst}
use Rattle.history_rules.specs.Events.{Event, Entry}
use Rattle.history_rules.specs.Setup.{Setup}
use Rattle.history_rules.specs.Legal.{says}
use Rattle.printed_history.specs.declared.reading.SoFar.{SoFar}
use Rattle.printed_history.specs.Histories.{is_running, entry_with, entry_next}
use Rattle.printed_history.specs.Reading.{HasMore, Takes}

-- no entry, or the one that the actor's event makes
if_so : Setup → List Entry → ℕ → Event → Bool → Option Entry
if_so w before actor event b = cond b (Some (entry_with before actor event (says w before actor event))) None

-- an actor that isn't running makes none
pub no_run : (w : Setup) (before : List Entry) (actor : ℕ) (found : Option Event) (r : SoFar) →
    is_running w before actor ≡ false → Takes (entry_next w before actor found) false r r
unfolding if_so
no_run w before actor None r still = (refl, refl)
no_run w before actor (Some event) r still =
    subst (λ b. Takes (if_so w before actor event (b && w.fits actor event)) false r r) (sym still) (refl, refl)

-- no event, no entry
pub no_event_next : (w : Setup) (before : List Entry) (actor : ℕ) (found : Option Event) (r : SoFar) → None ≡ found →
    Takes (entry_next w before actor found) false r r
no_event_next w before actor found r none =
    subst (λ (o : Option Event). Takes (entry_next w before actor o) false r r) none (refl, refl)

-- nor of an event that isn't one of the actor's role
pub no_role_next : (w : Setup) (before : List Entry) (actor : ℕ) (event : Event) (found : Option Event) (r : SoFar) →
    Some event ≡ found → is_running w before actor ≡ true → w.fits actor event ≡ false →
    Takes (entry_next w before actor found) false r r
unfolding if_so
no_role_next w before actor event found r is runs other =
    subst (λ (o : Option Event). Takes (entry_next w before actor o) false r r) is
    (subst (λ b. Takes (if_so w before actor event (b && w.fits actor event)) false r r) (sym runs)
    (subst (λ b. Takes (if_so w before actor event b) false r r) (sym other) (refl, refl)))

-- one that is makes the next
pub comes_next : (w : Setup) (before : List Entry) (actor : ℕ) (event : Event) (found : Option Event) (old new : SoFar) →
    Some event ≡ found → is_running w before actor ≡ true → w.fits actor event ≡ true →
    HasMore old new (entry_with before actor event (says w before actor event)) →
    Takes (entry_next w before actor found) true old new
unfolding if_so
comes_next w before actor event found old new is runs fits more =
    subst (λ (o : Option Event). Takes (entry_next w before actor o) true old new) is
    (subst (λ b. Takes (if_so w before actor event (b && w.fits actor event)) true old new) (sym runs)
    (subst (λ b. Takes (if_so w before actor event b) true old new) (sym fits) (refl, more)))
