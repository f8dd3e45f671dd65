-- The history in which votes don't spread, computed.
use Rattle.std.proofs.Common.{◌≡◌, ◌≤◌, true, false, [], ◌∷◌, length, refl, sym, ◌∙◌, arith}
use Rattle.std.proofs.lemmas.Bool.{false≢true, leb-true, ltb-true}
use Rattle.quorum_sets.specs.Masters.{voters}
use Rattle.message_types.specs.declared.body.Body.TheVariants as body
use Rattle.protocol_rules.specs.Views.{view}
use Rattle.history_rules.specs.Setup.{room, own}
use Rattle.history_rules.specs.Audit.{HasSaid}
use Rattle.history_rules.specs.Counts.{has_said}
use Rattle.history_laws.proofs.Forged.{has_said_from, has_said_of}
use Rattle.agreement.specs.Laws.{known_by}
use Rattle.progress.specs.Rounds.{AreConnected, AreRounds}
use Rattle.history_examples.proofs.Computing.{IsComputed, is_sound, four_have_sizes}
use Rattle.progress_examples.specs.VoteSplit as it
use Rattle.progress_examples.specs.Examples.{VotesDontSpread, split_up}
use Rattle.progress_examples.proofs.Computing.{computing_live, below_in}
use Rattle.progress_examples.proofs.Fair.{are_rounds}
use Rattle.progress_examples.proofs.ChangeOfView.{each_connected, each_voting}

computed : IsComputed it.setup split_up 1 0
unfolding computing_live
computed = record { come = refl; say = refl; intruded = refl; forged = refl; alike = refl }

connected : AreConnected it.setup it.connected
unfolding computing_live
connected = record {
  correct = λ m is. is;
  enough = leb-true 3 (length (voters it.connected 4)) refl;
}

fair : AreRounds it.setup it.connected it.beginning (it.round ∷ [])
unfolding computing_live
fair = are_rounds it.setup it.connected it.beginning (it.round ∷ []) connected (λ m lt. below_in 4 m lt) refl

-- master 3 said no such vote
no_vote : has_said split_up 3 (body.Suspect record { v = 0 }) ≡ false
unfolding computing_live
no_vote = refl

pub votes_dont_spread : VotesDontSpread
unfolding computing_live
votes_dont_spread = record {
  first = refl;
  sound = is_sound it.setup split_up 1 (four_have_sizes 1) (omega arith) computed;
  connected = connected;
  round = fair.0;
  leaves = each_connected (λ m. 1 ≤ room it.setup (own split_up m)) (leb-true 1 (room it.setup (own split_up 1)) refl)
      (leb-true 1 (room it.setup (own split_up 2)) refl) (leb-true 1 (room it.setup (own split_up 3)) refl);
  enough = ltb-true 1 (length (voters it.voting 4)) refl;
  voting = each_voting (λ m. (it.connected m ≡ true) × HasSaid it.beginning m (body.Suspect record { v = 0 }))
      (refl, has_said_from it.beginning 1 (body.Suspect record { v = 0 }) refl)
      (refl, has_said_from it.beginning 2 (body.Suspect record { v = 0 }) refl);
  third = refl;
  silent = λ said. false≢true (sym no_vote ∙ has_said_of split_up 3 (body.Suspect record { v = 0 }) said);
  ahead = refl;
  behind = each_voting (λ m. view it.setup.group (known_by it.setup split_up m) ≡ 0) refl refl;
}
