-- The history with a change of view, computed: it meets the premises of the laws of how a view is left, and the update is
-- executed in the next one.
use Rattle.std.proofs.Common.{◌≡◌, ◌≤◌, ◌<◌, ℕ, zero, suc, true, false, not, [], ◌∷◌, length, refl, sym, ◌∙◌}
use Rattle.std.proofs.Common.{arith, nat_lt, nat_eq}
use Rattle.std.proofs.lemmas.Bool.{false≢true, and_parts, leb-true, ltb-true, or_from, ne_eqb}
use Rattle.quorum_sets.specs.Masters.{voters}
use Rattle.message_types.specs.declared.body.Body.TheVariants as body
use Rattle.protocol_rules.specs.Views.{view, is_open, is_suspected}
use Rattle.history_rules.specs.Setup.{room, own}
use Rattle.history_rules.specs.Legal.{executions}
use Rattle.history_rules.specs.Audit.{HasSaid}
use Rattle.history_laws.proofs.Forged.{has_said_from}
use Rattle.agreement.specs.Laws.{known_by}
use Rattle.progress.specs.Rounds.{AreConnected}
use Rattle.history_examples.specs.Words.{update}
use Rattle.progress_examples.specs.ChangeOfView as it
use Rattle.progress_examples.specs.Examples.{ExecutedAfterVotes, votes_spread, view_left, next_open, executed}
use Rattle.progress_examples.proofs.Computing.{computing_live, IsComputed, is_sound, below_in}
use Rattle.progress_examples.proofs.Fair.{are_rounds}
use Rattle.progress_examples.proofs.NineRounds.{sizes}

-- what holds of masters 1, 2 and 3 holds of each connected one
pub each_connected : (P : ℕ → Type 0) → P 1 → P 2 → P 3 → (m : ℕ) → it.connected m ≡ true → P m
each_connected P first second third zero is = absurd (false≢true is)
each_connected P first second third (suc zero) is = first
each_connected P first second third (suc (suc zero)) is = second
each_connected P first second third (suc (suc (suc zero))) is = third
each_connected P first second third (suc (suc (suc (suc m)))) is =
    let low : suc (suc (suc (suc m))) < 4 = ltb-true (suc (suc (suc (suc m)))) 4
    (and_parts (nat_lt (suc (suc (suc (suc m)))) 4) (not (nat_eq (suc (suc (suc (suc m)))) 0)) is).0 in
    absurd (omega arith)

computed : IsComputed it.setup executed 1
unfolding computing_live
computed = record { live = refl; come = refl; say = refl; intruded = refl; forged = refl; alike = refl }

connected : AreConnected it.setup it.connected
unfolding computing_live
connected = record {
  correct = λ m is. is;
  enough = leb-true 3 (length (voters it.connected 4)) refl;
}

-- who votes at once
pub each_voting : (P : ℕ → Type 0) → P 1 → P 2 → (m : ℕ) → it.voting m ≡ true → P m
each_voting P first second zero is = absurd (false≢true is)
each_voting P first second (suc zero) is = first
each_voting P first second (suc (suc zero)) is = second
each_voting P first second (suc (suc (suc m))) is =
    let none : it.voting (suc (suc (suc m))) ≡ false = or_from (nat_eq (suc (suc (suc m))) 1) (nat_eq (suc (suc (suc m))) 2)
    (ne_eqb (suc (suc (suc m))) 1 (λ e. absurd (omega arith))) (ne_eqb (suc (suc (suc m))) 2 (λ e. absurd (omega arith))) in
    absurd (false≢true (sym none ∙ is))

pub executed_after_votes : ExecutedAfterVotes
unfolding computing_live
executed_after_votes = record {
  live = refl;
  sound = is_sound it.setup executed 1 sizes (omega arith) computed;
  intruded = refl;
  leader = refl;
  connected = connected;
  rounds = are_rounds it.setup it.connected it.beginning it.rounds connected (λ m lt. below_in 4 m lt) refl;
  leaves = each_connected (λ m. 1 ≤ room it.setup (own executed m)) (leb-true 1 (room it.setup (own executed 1)) refl)
      (leb-true 1 (room it.setup (own executed 2)) refl) (leb-true 1 (room it.setup (own executed 3)) refl);
  enough = ltb-true 1 (length (voters it.voting 4)) refl;
  voting = each_voting (λ m. (it.connected m ≡ true) × HasSaid it.beginning m (body.Suspect record { v = 0 }))
      (refl, has_said_from it.beginning 1 (body.Suspect record { v = 0 }) refl)
      (refl, has_said_from it.beginning 2 (body.Suspect record { v = 0 }) refl);
  voted = each_connected (λ m. HasSaid votes_spread m (body.Suspect record { v = 0 }))
      (has_said_from votes_spread 1 (body.Suspect record { v = 0 }) refl)
      (has_said_from votes_spread 2 (body.Suspect record { v = 0 }) refl)
      (has_said_from votes_spread 3 (body.Suspect record { v = 0 }) refl);
  leads = refl;
  came = each_connected (λ m. view it.setup.group (known_by it.setup view_left m) ≡ 1) refl refl refl;
  told = each_connected (λ m. is_suspected it.setup.group (known_by it.setup view_left m) 0 ≡ true) refl refl refl;
  stayed = each_connected (λ m. view it.setup.group (known_by it.setup executed m) ≡ 1) refl refl refl;
  opened = each_connected (λ m. is_open it.setup.group (known_by it.setup next_open m) ≡ true) refl refl refl;
  none_before = each_connected (λ m. executions it.setup next_open m ≡ []) refl refl refl;
  executed = each_connected (λ m. executions it.setup executed m ≡ update ∷ []) refl refl refl;
}
