-- A plain run: four masters, of which none is intruded, and one screen. The screen's update comes to master 0, which is
-- its door and leads view 0. Masters 0, 1 and 2 acknowledge, summarize, prepare and commit, each frame by frame, and
-- master 0 executes. Master 3 hears nothing. A quorum is three.
use Rattle.std.specs.Prelude.{List, [], ◌∷◌, ◌++◌, false}
use Rattle.message_types.specs.declared.body.Body.TheVariants as body
use Rattle.protocol_rules.specs.Group.{Group}
use Rattle.history_rules.specs.Events.{Entry}
use Rattle.history_rules.specs.Setup.{Setup}
use Rattle.history_examples.specs.Signing.{four_masters, setup_of, commands, takes, ticks}
use Rattle.history_examples.specs.Words.{update, request, ack, summary, proposal, prepare, commit}

abbrev pub group : Group
group = four_masters 1

abbrev pub setup : Setup
setup = setup_of group (λ m. false)

-- The screen's command; master 0 introduces the update, masters 1 and 2 acknowledge it.
abbrev pub introduced : List Entry
introduced =
    commands 0 4 update
    ∷ takes 1 0 0 4 (body.Update update) (body.PoRequest request ∷ [])
    ∷ takes 2 1 1 0 (body.PoRequest request) (body.PoAck ack ∷ [])
    ∷ takes 3 2 1 0 (body.PoRequest request) (body.PoAck ack ∷ [])
    ∷ []

-- Master 0 acknowledges its own request, and the three hear each other's acknowledgements.
abbrev pub certified : List Entry
certified =
    takes 4 0 2 1 (body.PoAck ack) (body.PoAck ack ∷ [])
    ∷ takes 5 0 3 2 (body.PoAck ack) []
    ∷ takes 6 1 4 0 (body.PoAck ack) []
    ∷ takes 7 1 3 2 (body.PoAck ack) []
    ∷ takes 8 2 4 0 (body.PoAck ack) []
    ∷ takes 9 2 2 1 (body.PoAck ack) []
    ∷ []

-- At a tick each says its summary.
abbrev pub summarized : List Entry
summarized =
    ticks 10 0 (body.PoSummary summary ∷ [])
    ∷ ticks 11 1 (body.PoSummary summary ∷ [])
    ∷ ticks 12 2 (body.PoSummary summary ∷ [])
    ∷ []

-- The leader hears the others' summaries, and proposes all three at its next tick; masters 1 and 2 prepare.
abbrev pub proposed : List Entry
proposed =
    takes 13 0 11 1 (body.PoSummary summary) []
    ∷ takes 14 0 12 2 (body.PoSummary summary) []
    ∷ ticks 15 0 (proposal ∷ [])
    ∷ takes 16 1 15 0 proposal (body.Prepare prepare ∷ [])
    ∷ takes 17 2 15 0 proposal (body.Prepare prepare ∷ [])
    ∷ []

-- Master 0 prepares too; the three hear each other's prepares and commit.
abbrev pub prepared : List Entry
prepared =
    takes 18 0 16 1 (body.Prepare prepare) (body.Prepare prepare ∷ [])
    ∷ takes 19 0 17 2 (body.Prepare prepare) (body.Commit commit ∷ [])
    ∷ takes 20 1 18 0 (body.Prepare prepare) []
    ∷ takes 21 1 17 2 (body.Prepare prepare) (body.Commit commit ∷ [])
    ∷ takes 22 2 18 0 (body.Prepare prepare) []
    ∷ takes 23 2 16 1 (body.Prepare prepare) (body.Commit commit ∷ [])
    ∷ []

-- Master 0 hears the others' commits.
abbrev pub committed : List Entry
committed =
    takes 24 0 21 1 (body.Commit commit) []
    ∷ takes 25 0 23 2 (body.Commit commit) []
    ∷ []

abbrev pub history : List Entry
history = introduced ++ certified ++ summarized ++ proposed ++ prepared ++ committed
