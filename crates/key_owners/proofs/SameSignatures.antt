-- An actor does the same by two setups that differ in nothing but how words are signed, where its own signatures are the
-- same, and the same frames stand.
use Rattle.std.proofs.Common.{◌≡◌, ℕ, suc, ◌+◌, ◌<◌, cond, Bool, true, List, [], ◌∷◌, nat_lt, take, length, refl, sym, ◌∙◌, subst}
use Rattle.message_types.specs.declared.signed.Signed.{Signed}
use Rattle.message_types.specs.declared.body.Body.{Body}
use Rattle.protocol_rules.specs.Master.{Heard, answers}
use Rattle.history_rules.specs.Events.{Event, Took, Entry, frame_taken, is_tick, is_silent}
use Rattle.history_rules.specs.Leaves.{leaves_for}
use Rattle.history_rules.specs.Setup.{Setup, stands, leaves_used, room, signed_from, heard_from, own}
use Rattle.history_rules.specs.Legal.{heard_in, says_in, TakesWell, IsLegal, IsLegalEntry}
use Rattle.joint_lists.specs.Stations.{acts_alone}
use Rattle.key_owners.proofs.OwnEntries.{its_own}

-- the setup with other signatures
abbrev pub other : Setup → (ℕ → ℕ → List Body → ℕ → List ℕ) → (ℕ → List ℕ → List ℕ → Bool) → Setup
other w signature signs = record w { signature = signature; signs = signs }

module _ (w : Setup) (signature : ℕ → ℕ → List Body → ℕ → List ℕ) (signs : ℕ → List ℕ → List ℕ → Bool) (actor : ℕ)
    (same : (used : ℕ) (said : List Body) (place : ℕ) →
    w.signature actor used said place ≡ signature actor used said place) where
  pub signed_same : (used : ℕ) (said : List Body) (place : ℕ) (bodies : List Body)
      → signed_from w actor used said place bodies ≡ signed_from (other w signature signs) actor used said place bodies
  signed_same used said place [] = refl
  signed_same used said place (b ∷ rest) =
      λ i. record { signer = actor; body = b; sig = same used said place i } ∷ signed_same used said (suc place) rest i

  heard_same : (used : ℕ) (es : List Entry) → heard_from w actor used es ≡ heard_from (other w signature signs) actor used es
  heard_same used [] = refl
  heard_same used (e ∷ rest) =
      let after : ℕ = used + leaves_for w.shared_leaves (length e.said) in
      λ i. cond (is_silent e.event) (heard_same after rest i)
      (record {
        took = frame_taken e.event;
        is_tick = is_tick e.event;
        said = signed_same used e.said 0 e.said i;
      } ∷ heard_same after rest i)

  pub says_same : (list : List Entry) (event : Event) → says_in w actor list event ≡ says_in (other w signature signs) actor list event
  unfolding says_in heard_in
  says_same list event =
      λ i. take (room w list)
      (cond (nat_lt actor w.group.n)
      (cond (w.intruded actor) []
      (cond (is_silent event) []
      (answers w.group w.orders actor (heard_same 0 list i) (frame_taken event) (is_tick event))))
      (w.client_says actor list event))

  module _ (stand : (f : Signed Body) → stands w f ≡ stands (other w signature signs) f) where
    taken_same : (now : ℕ) (event : Event) → TakesWell w now event → TakesWell (other w signature signs) now event
    taken_same now (Took stamp place frame) well = (sym (stand frame) ∙ well.0, well.1)
    taken_same now _ well = tt

    entry_same : (before : List Entry) (e : Entry) → e.actor ≡ actor → IsLegalEntry w before e →
        IsLegalEntry (other w signature signs) before e
    entry_same before e by legal = record {
      stamp = legal.stamp;
      actor = legal.actor;
      running = legal.running;
      role = legal.role;
      taken = taken_same (length before) e.event legal.taken;
      said = legal.said
          ∙ subst (λ (a : ℕ). says_in w a (own before a) e.event ≡ says_in (other w signature signs) a (own before a) e.event) (sym by)
          (says_same (own before actor) e.event);
    }

    pub legal_same : (list : List Entry) → acts_alone actor list ≡ true → IsLegal w list → IsLegal (other w signature signs) list
    legal_same list alone legal = record {
      entries = λ before e at. entry_same before e (its_own actor list before e alone at) (legal.entries before e at);
    }
