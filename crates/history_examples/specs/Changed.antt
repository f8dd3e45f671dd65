-- A change of view: four masters, of which master 0 is intruded and leads view 0, and one screen. Master 0 introduces
-- an update and proposes it, masters 1 and 2 prepare it, and then the leader is silent. Masters 1 and 2 wait for it for
-- 24 ticks each, tell so, suspect it, and report into view 1, which master 1 leads and opens. What was prepared in view
-- 0 is ordered in view 1, and master 1 executes it. Master 3 hears nothing. A quorum is three.
use Rattle.std.specs.Prelude.{ℕ, ◌+◌, List, [], ◌∷◌, ◌++◌, nat_eq}
use Rattle.message_types.specs.declared.ordering.Prepare.{Prepare}
use Rattle.message_types.specs.declared.ordering.Commit.{Commit}
use Rattle.message_types.specs.declared.views.Report.{Report}
use Rattle.message_types.specs.declared.body.Body.{Body}
use Rattle.message_types.specs.declared.body.Body.TheVariants as body
use Rattle.protocol_rules.specs.Group.{Group}
use Rattle.history_rules.specs.Events.{Entry}
use Rattle.history_rules.specs.Setup.{Setup}
use Rattle.history_examples.specs.Signing.{four_masters, sealed, setup_of, cries, takes, ticks, quiet_ticks}
use Rattle.history_examples.specs.Words.{rows, rows_digest, order_by, three, prepared_report, report}
use Rattle.history_examples.specs.Relayed.{introduced, summarized, proposed}

abbrev pub group : Group
group = four_masters 1

abbrev pub setup : Setup
setup = setup_of group (λ m. nat_eq m 0)

-- how long a master waited in view 0; its vote against that view's leader; what masters 1 and 2 bring into view 1,
-- namely nothing; and the word that opens it, with the three masters' reports
abbrev pub waited : ℕ → Body
waited count = body.TatReport record { v = 0; ticks = count }

abbrev pub suspect : Body
suspect = body.Suspect record { v = 0 }

abbrev pub empty_report : Report
empty_report = record { v = 1; base = 0; marks = []; certificates = [] }

abbrev pub new_view : Body
new_view = body.NewView record {
  v = 1;
  reports = sealed body.Report 0 prepared_report
      ∷ sealed body.Report 1 empty_report ∷ sealed body.Report 2 empty_report ∷ [];
}

-- number 1 once more, in view 1
abbrev pub prepare_again : Prepare
prepare_again = record { v = 1; s = 1; digest = rows_digest }

abbrev pub commit_again : Commit
commit_again = record { v = 1; s = 1; digest = rows_digest }

abbrev pub order_again : Body
order_again = order_by three rows commit_again

-- It begins as the run under an intruded leader, until masters 1 and 2 have prepared the update. The proposal is master
-- 0's last word as a leader.
abbrev pub begun : List Entry
begun = introduced ++ summarized ++ proposed

-- A master waits for 24 ticks: at each eighth it tells how long so far, and its sixteenth tick in all is one with a
-- ping.
abbrev pub waits_of : ℕ → ℕ → List Entry
waits_of first master =
    quiet_ticks first master 7 ++ ticks (first + 7) master (waited 8 ∷ [])
    ∷ [] ++ quiet_ticks (first + 8) master 6 ++ ticks (first + 14) master (body.Ping record { number = 1 } ∷ [])
    ∷ ticks (first + 15) master (waited 16 ∷ [])
    ∷ [] ++ quiet_ticks (first + 16) master 7 ++ ticks (first + 23) master (waited 24 ∷ [])
    ∷ []

abbrev pub waits_of_1 : List Entry
waits_of_1 = waits_of 12 1

abbrev pub waits_of_2 : List Entry
waits_of_2 = waits_of 36 2

-- Master 0 says that it waited as long. Masters 1 and 2 hear of three masters' 24 ticks, more than the 16 that are
-- acceptable as long as nobody told a bound, and suspect the leader at their next tick.
abbrev pub suspected : List Entry
suspected =
    cries 60 0 (waited 24)
    ∷ takes 61 1 60 0 (waited 24) []
    ∷ takes 62 1 59 2 (waited 24) []
    ∷ ticks 63 1 (suspect ∷ [])
    ∷ takes 64 2 60 0 (waited 24) []
    ∷ takes 65 2 35 1 (waited 24) []
    ∷ ticks 66 2 (suspect ∷ [])
    ∷ cries 67 0 suspect
    ∷ []

-- A quorum suspects the leader: masters 1 and 2 report into view 1. Master 1 leads it, and opens it with three reports,
-- of which master 0's brings what was prepared.
abbrev pub reported : List Entry
reported =
    takes 68 1 67 0 suspect []
    ∷ takes 69 1 66 2 suspect (body.Report empty_report ∷ [])
    ∷ takes 70 2 67 0 suspect []
    ∷ takes 71 2 63 1 suspect (body.Report empty_report ∷ [])
    ∷ cries 72 0 report
    ∷ takes 73 1 72 0 report []
    ∷ takes 74 1 71 2 (body.Report empty_report) (new_view ∷ [])
    ∷ []

-- In view 1 all three prepare what the new view plans as number 1, and masters 1 and 2 commit it.
abbrev pub prepared_again : List Entry
prepared_again =
    takes 75 2 74 1 new_view (body.Prepare prepare_again ∷ [])
    ∷ takes 76 1 75 2 (body.Prepare prepare_again) (body.Prepare prepare_again ∷ [])
    ∷ cries 77 0 (body.Prepare prepare_again)
    ∷ takes 78 1 77 0 (body.Prepare prepare_again) (body.Commit commit_again ∷ [])
    ∷ takes 79 2 76 1 (body.Prepare prepare_again) []
    ∷ takes 80 2 77 0 (body.Prepare prepare_again) (body.Commit commit_again ∷ [])
    ∷ []

-- Master 1 learns of the order.
abbrev pub committed_again : List Entry
committed_again =
    cries 81 0 order_again
    ∷ takes 82 1 81 0 order_again []
    ∷ []

-- view 0, and all
abbrev pub in_first_view : List Entry
in_first_view = begun ++ waits_of_1 ++ waits_of_2 ++ suspected

abbrev pub history : List Entry
history = in_first_view ++ reported ++ prepared_again ++ committed_again
