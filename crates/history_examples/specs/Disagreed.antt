-- A history in which correct masters disagree: of four masters two are intruded, 0 and 1, where a group of four bears
-- one.
-- Master 0 introduces two updates of two screens as one and the same request, one to each correct master. Each of these
-- acknowledges its own, so each gets a certificate of its own from the intruded ones. Then one order, and each executes
-- another update.
use Rattle.std.specs.Prelude.{List, [], ◌∷◌, ◌++◌, nat_lt}
use Rattle.message_types.specs.declared.body.Body.TheVariants as body
use Rattle.protocol_rules.specs.Group.{Group}
use Rattle.history_rules.specs.Events.{Entry}
use Rattle.history_rules.specs.Setup.{Setup}
use Rattle.history_examples.specs.Signing.{four_masters, setup_of, commands, cries, takes, ticks}
use Rattle.history_examples.specs.Words.{update, request, ack, certificate, other_update, other_request, other_ack}
use Rattle.history_examples.specs.Words.{other_certificate, summary, proposal, prepare, report, commit, order}

abbrev pub group : Group
group = four_masters 2

abbrev pub setup : Setup
setup = setup_of group (λ m. nat_lt m 2)

-- Two commands; master 0's two requests of one number, one for each correct master, and the first one's certificate.
abbrev pub introduced : List Entry
introduced =
    commands 0 4 update
    ∷ commands 1 5 other_update
    ∷ cries 2 0 (body.PoRequest request)
    ∷ cries 3 0 (body.PoRequest other_request)
    ∷ takes 4 2 2 0 (body.PoRequest request) (body.PoAck ack ∷ [])
    ∷ takes 5 3 3 0 (body.PoRequest other_request) (body.PoAck other_ack ∷ [])
    ∷ cries 6 0 certificate
    ∷ takes 7 2 6 0 certificate []
    ∷ ticks 8 2 (body.PoSummary summary ∷ [])
    ∷ []

-- Of the correct masters master 2 alone prepares and commits: that is a quorum, with two intruded ones.
abbrev pub ordered : List Entry
ordered =
    cries 9 0 proposal
    ∷ takes 10 2 9 0 proposal (body.Prepare prepare ∷ [])
    ∷ cries 11 0 report
    ∷ takes 12 2 11 0 report (body.Commit commit ∷ [])
    ∷ []

-- Both correct masters learn of the order, and master 3 of its own certificate.
abbrev pub executed : List Entry
executed =
    cries 13 0 order
    ∷ takes 14 2 13 0 order []
    ∷ cries 15 0 other_certificate
    ∷ takes 16 3 15 0 other_certificate []
    ∷ takes 17 3 13 0 order []
    ∷ []

abbrev pub history : List Entry
history = introduced ++ ordered ++ executed
