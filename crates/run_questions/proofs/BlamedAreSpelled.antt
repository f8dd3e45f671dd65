-- The words taken in a legal history have spellings, and so do those of which pairs are made.
use Rattle.std.proofs.Common.{◌≡◌, ℕ, zero, suc, ◌<◌, true, List, [], ◌∷◌, length, get_or, refl, sym, subst, arith}
use Rattle.std.proofs.lemmas.Bool.{and_from}
use Rattle.std.specs.List.{All, flat_map}
use Rattle.plain_lists.specs.Lists.{IsIn, here, there}
use Rattle.plain_lists.proofs.Members.{none_in, in_flat_map_from, in_filter_map_from, all_at}
use Rattle.quorum_sets.specs.Masters.{numbers_below}
use Rattle.message_types.specs.declared.signed.Signed.{Signed}
use Rattle.message_types.specs.declared.body.Body.{Body}
use Rattle.message_types.specs.Spelling.{has_spelling}
use Rattle.message_types.specs.Parts.{parts}
use Rattle.protocol_rules.specs.Master.{taken_frames}
use Rattle.history_rules.specs.Events.{Event, Took, Entry, frame_taken}
use Rattle.history_rules.specs.Setup.{Setup}
use Rattle.history_rules.specs.Legal.{IsLegal, TakesWell}
use Rattle.history_rules.specs.Audit.{parts_taken}
use Rattle.words_in_place.proofs.Spelled.{parts_are_spelled}
use Rattle.scenario_file.specs.Reading.{Contents}
use Rattle.world_rules.specs.Scenarios.{setup_of}
use Rattle.blame_check.specs.declared.pairs.Named.{Named}
use Rattle.blame_check.specs.Contradictions.{first_pair}
use Rattle.blame_check.specs.Laws.{words_taken, blamed}
use Rattle.blame_check.proofs.FirstPairs.{pair_is}
use Rattle.run_questions.specs.BlameText.{IsSpelled}
use Rattle.agreement.proofs.Places.{stands_in}
use Rattle.history_rules.proofs.Frames.{spelled_of_standing}

event_spelled : (w : Setup) (now : ℕ) (event : Event) → TakesWell w now event → (p : Signed Body) →
    IsIn p (flat_map parts (taken_frames (frame_taken event))) → has_spelling p ≡ true
event_spelled w now (Took stamp place frame) well p among =
    all_at has_spelling among
    (parts_are_spelled (frame ∷ []) (and_from (has_spelling frame) true (spelled_of_standing w frame well.0) refl))
event_spelled w now _ well p among = absurd (none_in among)

word_spelled : (w : Setup) (history : List Entry) → IsLegal w history → (p : Signed Body) →
    IsIn p (words_taken history) → has_spelling p ≡ true
word_spelled w history legal p among =
    let at = in_flat_map_from parts_taken history among in
    let place = stands_in history at.1 in
    event_spelled w (length place.0) at.0.event (legal.entries place.0 at.0 place.1).taken p at.2

pair_spelled : (w : Setup) (history : List Entry) → IsLegal w history → (x : Named) →
    IsIn x (blamed w history) → IsSpelled x
pair_spelled w history legal x among =
    let found = in_filter_map_from (λ m. first_pair m [] (words_taken history)) (numbers_below w.group.n) among in
    let pair = pair_is found.0 (words_taken history) x found.2 in
    record {
      first = word_spelled w history legal x.first pair.first_in;
      second =
          word_spelled w history legal x.second pair.second_in;
    }

in_place : {X : Type 0} (xs : List X) (i : ℕ) (d : X) → i < length xs → IsIn (get_or xs i d) xs
in_place [] i d below = absurd (omega arith)
in_place (x ∷ xs) zero d below = here xs
in_place (x ∷ xs) (suc i) d below = there x xs (in_place xs i d (omega arith))

pub pairs_spelled : (c : Contents) (history : List Entry) (pairs : List Named) → IsLegal (setup_of c) history →
    pairs ≡ blamed (setup_of c) history → All IsSpelled pairs
pairs_spelled c history pairs legal is =
    subst (All IsSpelled) (sym is)
    (λ k d below. pair_spelled (setup_of c) history legal _ (in_place (blamed (setup_of c) history) k d below))
