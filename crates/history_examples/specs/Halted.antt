-- A history in which an actor is halted: four masters, of which master 0 is intruded, and one screen. The third call of
-- master 3's keeper fails. Master 3 takes a certificate, and that entry is kept by the first call. Then it restarts:
-- the second call reads what was kept, the third is to keep the restart. So master 3 is halted, and masters 1 and 2 go
-- on without it. (Of the other actors call 0 is to fail, and there is no such call.)
use Rattle.std.specs.Prelude.{List, [], ◌∷◌, ◌++◌, nat_eq, if◌then◌else◌}
use Rattle.message_types.specs.declared.body.Body.TheVariants as body
use Rattle.protocol_rules.specs.Group.{Group}
use Rattle.history_rules.specs.Events.{Entry}
use Rattle.history_rules.specs.Setup.{Setup}
use Rattle.history_examples.specs.Signing.{four_masters, setup_of, cries, takes, ticks, restarts}
use Rattle.history_examples.specs.Words.{ack, certificate, summary, proposal, prepare, report, commit, order}
use Rattle.history_examples.specs.Relayed as relayed

abbrev pub group : Group
group = four_masters 1

abbrev pub setup : Setup
setup = let plain : Setup = setup_of group (λ m. nat_eq m 0) in
    record plain { failing = λ actor. if nat_eq actor 3 then 3 ∷ [] else 0 ∷ [] }

-- It begins as the run under an intruded leader. Master 3 takes the certificate too, and acknowledges it.
abbrev pub introduced : List Entry
introduced = relayed.introduced ++ takes 7 3 4 0 certificate (body.PoAck ack ∷ []) ∷ []

-- Master 3's restart, its last entry.
abbrev pub restarted : List Entry
restarted = restarts 8 3 ∷ []

-- Masters 1 and 2 summarize, prepare and commit what master 0 proposes.
abbrev pub prepared : List Entry
prepared =
    ticks 9 1 (body.PoSummary summary ∷ [])
    ∷ ticks 10 2 (body.PoSummary summary ∷ [])
    ∷ cries 11 0 proposal
    ∷ takes 12 1 11 0 proposal (body.Prepare prepare ∷ [])
    ∷ takes 13 2 11 0 proposal (body.Prepare prepare ∷ [])
    ∷ cries 14 0 report
    ∷ takes 15 1 14 0 report (body.Commit commit ∷ [])
    ∷ takes 16 2 14 0 report (body.Commit commit ∷ [])
    ∷ []

-- Master 1 restarts as well, and goes on; it learns of the order.
abbrev pub committed : List Entry
committed =
    cries 17 0 order
    ∷ restarts 18 1
    ∷ takes 19 1 17 0 order []
    ∷ []

abbrev pub history : List Entry
history = introduced ++ restarted ++ prepared ++ committed
