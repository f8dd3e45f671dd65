-- The next entry that an actor kept, and its event with another place.
use Rattle.std.proofs.Common.{◌≡◌, ℕ, zero, suc, ◌+◌, ◌<◌, ◌≤◌, List, [], ◌∷◌, length, get_or, take, refl, sym, ap, subst, arith}
use Rattle.scenario_file.specs.Reading.{Contents}
use Rattle.history_rules.specs.Events.{Event, Took, Tick, Command, Field, Poll, Cry, Skip, Restart, Entry}
use Rattle.history_rules.specs.Setup.{Setup}
use Rattle.history_rules.specs.Legal.{TakesWell, Stands, IsLegalEntry}
use Rattle.history_laws.specs.Own.{IsOwnEntry, IsOwnHistory}
use Rattle.history_laws.proofs.OwnEntries.{own_of_legal}
use Rattle.world_rules.specs.Scenarios.{setup_of}
use Rattle.joint_lists.specs.Stations.{IsStation}
use Rattle.joint_lists.specs.Plain.{without_place}
use Rattle.joint_lists.specs.Joining.{placed}
use Rattle.joint_lists.proofs.Alone.{own_alone}

-- an entry stands in its list behind those before it
pub stands_at : (list : List Entry) (n : ℕ) (x : Entry) → n < length list → x ≡ get_or list n x →
    Stands list (take n list) x
stands_at [] n x below is = absurd (omega arith)
stands_at (e ∷ list) zero x below is = record { after = list; whole = ap (λ (y : Entry). y ∷ list) (sym is) }
stands_at (e ∷ list) (suc n) x below is =
    let r : Stands list (take n list) x = stands_at list n x (omega arith) is in
    record { after = r.after; whole = ap (λ (es : List Entry). e ∷ es) r.whole }

-- The actor could make the entry after those before it, which are as many as its stamp says.
pub record IsNext (w : Setup) (actor : ℕ) (before : List Entry) (x : Entry) : Type 0 where
  pub own_entry : IsOwnEntry w actor before x
  pub there : x.actor < w.group.n + w.group.clients
  pub now : x.stamp ≡ length before

pub next_kept : (c : Contents) (actor : ℕ) (list before : List Entry) (x : Entry) → IsStation c actor list →
    Stands list before x → IsNext (setup_of c) actor before x
next_kept c actor list before x is s =
    let legal : IsLegalEntry (setup_of c) before x = is.legal.entries before x s in
    record {
      own_entry = (subst (IsOwnHistory (setup_of c) actor) (own_alone actor list is.alone)
          (own_of_legal (setup_of c) list actor is.legal)).entries before x s;
      there = legal.actor;
      now = legal.stamp;
    }

-- another place changes nothing else
pub placed_plain : (stamp place : ℕ) (event : Event) → without_place (placed stamp place event) ≡ without_place event
placed_plain stamp place (Took s p frame) = refl
placed_plain stamp place Tick = refl
placed_plain stamp place (Command op) = refl
placed_plain stamp place (Field area at value) = refl
placed_plain stamp place Poll = refl
placed_plain stamp place (Cry bytes) = refl
placed_plain stamp place Skip = refl
placed_plain stamp place Restart = refl

-- a frame that could be taken can be taken from there too, behind no fewer entries
pub placed_well : (w : Setup) (now then stamp place : ℕ) (event : Event) → TakesWell w then event → then ≤ now →
    (0 < now → stamp < now) → TakesWell w now (placed stamp place event)
placed_well w now then stamp place (Took s p frame) taken most low =
    let before : s < then = taken.1 in
    (taken.0, low (omega arith))
placed_well w now then stamp place Tick taken most low = tt
placed_well w now then stamp place (Command op) taken most low = tt
placed_well w now then stamp place (Field area at value) taken most low = tt
placed_well w now then stamp place Poll taken most low = tt
placed_well w now then stamp place (Cry bytes) taken most low = tt
placed_well w now then stamp place Skip taken most low = tt
placed_well w now then stamp place Restart taken most low = tt
