-- How the window goes on: what all connected masters have ordered without a gap, up to a number that is marked, is stable at each
-- a round later. (After PBFT's checkpoints; in rounds they are this project's own.)
use Rattle.std.specs.Prelude.{◌≡◌, ℕ, ◌+◌, ◌%◌, ◌≤◌, Bool, true, List, [], ◌∷◌, ◌++◌}
use Rattle.plain_lists.specs.Lists.{Begins}
use Rattle.message_types.specs.declared.views.Plan.{Plan}
use Rattle.message_types.specs.declared.body.Body.TheVariants as body
use Rattle.protocol_rules.specs.Group.{is_live, most_number, window, mark_step}
use Rattle.protocol_rules.specs.Facts.{facts_of}
use Rattle.protocol_rules.specs.Order.{gapless, stable}
use Rattle.history_rules.specs.Events.{Entry}
use Rattle.history_rules.specs.Setup.{Setup, is_correct_master, room, own}
use Rattle.history_rules.specs.Legal.{IsLegal}
use Rattle.history_rules.specs.Audit.{HasSaid}
use Rattle.agreement.specs.Laws.{IsSound, known_by}
use Rattle.progress.specs.Rounds.{AreConnected, IsRound, AreRounds, then_rounds}
use Rattle.progress.specs.UnderLeader.{IsLed, IsOffer}

-- A correct master has marked each number that is to be marked, up to those that it has ordered without a gap.
abbrev pub OrderedIsMarked : Type 0
OrderedIsMarked =
    (w : Setup) (history : List Entry) (m s : ℕ) → is_live w.group ≡ true → IsLegal w history
    → is_correct_master w m ≡ true → 1 ≤ room w (own history m) → 1 ≤ s → s % mark_step ≡ 0
    → s ≤ gapless w.group (facts_of w.group (known_by w history m)) → HasSaid history m (body.Mark record { s = s })

-- What all connected masters marked in the beginning is stable at each of them a round later.
abbrev pub MarksArrive : Type 0
MarksArrive =
    (w : Setup) (connected : ℕ → Bool) (beginning round : List Entry) → IsLegal w (beginning ++ round)
    → AreConnected w connected → IsRound w connected beginning round → (s : ℕ)
    → ((m : ℕ) → connected m ≡ true → HasSaid beginning m (body.Mark record { s = s }))
    → (m : ℕ) → connected m ≡ true → s ≤ stable w.group (facts_of w.group (known_by w (beginning ++ round) m))

-- So what all of them have ordered without a gap in the beginning, up to a number that is to be marked, is stable at each a
-- round later.
abbrev pub OrderedIsStable : Type 0
OrderedIsStable =
    (w : Setup) (connected : ℕ → Bool) (beginning round : List Entry) → is_live w.group ≡ true
    → IsLegal w (beginning ++ round) → AreConnected w connected → IsRound w connected beginning round
    → ((m : ℕ) → connected m ≡ true → 1 ≤ room w (own beginning m)) → (s : ℕ) → 1 ≤ s → s % mark_step ≡ 0
    → ((m : ℕ) → connected m ≡ true → s ≤ gapless w.group (facts_of w.group (known_by w beginning m)))
    → (m : ℕ) → connected m ≡ true → s ≤ stable w.group (facts_of w.group (known_by w (beginning ++ round) m))

-- What a view offers before four rounds, within each window, up to a number that is to be marked, is stable at each after them.
abbrev pub OfferIsStable : Type 0
OfferIsStable =
    (w : Setup) (connected : ℕ → Bool) (v : ℕ) (plan : Plan) (beginning middle first second third fourth : List Entry)
    → is_live w.group ≡ true → IsSound w (then_rounds middle (first ∷ second ∷ third ∷ fourth ∷ [])) → AreConnected w connected
    → AreRounds w connected middle (first ∷ second ∷ third ∷ fourth ∷ [])
    → IsLed w connected v plan beginning (then_rounds middle (first ∷ second ∷ third ∷ fourth ∷ [])) → Begins beginning middle
    → (s : ℕ) (rows : List (List ℕ)) → IsOffer w v plan middle s rows → s ≤ most_number → s % mark_step ≡ 0
    → ((m : ℕ) → connected m ≡ true → s ≤ stable w.group (facts_of w.group (known_by w middle m)) + window)
    → (m : ℕ) → connected m ≡ true
    → s ≤ stable w.group (facts_of w.group (known_by w (then_rounds middle (first ∷ second ∷ third ∷ fourth ∷ [])) m))
