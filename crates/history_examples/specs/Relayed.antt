-- A history in which an update is executed under an intruded leader: four masters, of which master 0 is intruded, and
-- one screen. Master 0 introduces and proposes all, masters 1 and 2 acknowledge, summarize, prepare and commit, and
-- master 3, which heard nothing so far, takes the certificate and the order and executes.
use Rattle.std.specs.Prelude.{List, [], ◌∷◌, ◌++◌, nat_eq}
use Rattle.message_types.specs.declared.body.Body.TheVariants as body
use Rattle.protocol_rules.specs.Group.{Group}
use Rattle.history_rules.specs.Events.{Entry}
use Rattle.history_rules.specs.Setup.{Setup}
use Rattle.history_examples.specs.Signing.{four_masters, setup_of, commands, cries, takes, ticks}
use Rattle.history_examples.specs.Words.{update, request, ack, certificate, summary, proposal, prepare, report}
use Rattle.history_examples.specs.Words.{commit, order}

abbrev pub group : Group
group = four_masters 1

abbrev pub setup : Setup
setup = setup_of group (λ m. nat_eq m 0)

-- The screen's command; master 0's request, which masters 1 and 2 acknowledge; its certificate.
abbrev pub introduced : List Entry
introduced =
    commands 0 4 update
    ∷ cries 1 0 (body.PoRequest request)
    ∷ takes 2 1 1 0 (body.PoRequest request) (body.PoAck ack ∷ [])
    ∷ takes 3 2 1 0 (body.PoRequest request) (body.PoAck ack ∷ [])
    ∷ cries 4 0 certificate
    ∷ takes 5 1 4 0 certificate []
    ∷ takes 6 2 4 0 certificate []
    ∷ []

-- At a tick masters 1 and 2 say their summaries.
abbrev pub summarized : List Entry
summarized =
    ticks 7 1 (body.PoSummary summary ∷ [])
    ∷ ticks 8 2 (body.PoSummary summary ∷ [])
    ∷ []

-- Master 0 proposes them as number 1, and masters 1 and 2 prepare it.
abbrev pub proposed : List Entry
proposed =
    cries 9 0 proposal
    ∷ takes 10 1 9 0 proposal (body.Prepare prepare ∷ [])
    ∷ takes 11 2 9 0 proposal (body.Prepare prepare ∷ [])
    ∷ []

-- Master 0's report holds the three prepares, and masters 1 and 2 commit.
abbrev pub prepared : List Entry
prepared =
    cries 12 0 report
    ∷ takes 13 1 12 0 report (body.Commit commit ∷ [])
    ∷ takes 14 2 12 0 report (body.Commit commit ∷ [])
    ∷ []

-- Master 3 learns of the certificate, which it acknowledges too, and of the order.
abbrev pub committed : List Entry
committed =
    cries 15 0 order
    ∷ takes 16 3 4 0 certificate (body.PoAck ack ∷ [])
    ∷ takes 17 3 15 0 order []
    ∷ []

abbrev pub history : List Entry
history = introduced ++ summarized ++ proposed ++ prepared ++ committed
