-- A leader that is silent: four masters, of which master 0 is intruded and leads view 0, and one screen, whose doors are
-- masters 0 and 1. Masters 1, 2 and 3 are connected, a quorum. They certify the update and sum it up, and nobody offers it.
-- Master 1 is ahead with its ticks: its wait passes 32 of them, and it votes; so does the intruded master, and with two votes
-- master 2 goes along. From here on there are rounds: in the first the votes spread, in the second all leave the view, two more
-- open view 1, which master 1 leads, and in three more the update is offered, prepared, committed and executed.
use Rattle.std.specs.Prelude.{ℕ, Bool, ◌||◌, List, [], ◌∷◌, ◌++◌, nat_eq}
use Rattle.message_types.specs.declared.preordering.PoAck.{PoAck}
use Rattle.message_types.specs.declared.preordering.PoSummary.{PoSummary}
use Rattle.message_types.specs.declared.ordering.Prepare.{Prepare}
use Rattle.message_types.specs.declared.ordering.Commit.{Commit}
use Rattle.message_types.specs.declared.body.Body.{Body}
use Rattle.message_types.specs.declared.body.Body.TheVariants as body
use Rattle.history_rules.specs.Events.{Took, Entry}
use Rattle.history_rules.specs.Setup.{Setup, is_correct_master}
use Rattle.history_examples.specs.Signing.{framed, setup_of, commands, cries, takes, ticks, quiet_ticks}
use Rattle.history_examples.specs.Words.{update, update_digest, request, by}
use Rattle.history_examples.specs.Changed.{suspect, empty_report}
use Rattle.progress_examples.specs.NineRounds.{group}

abbrev pub setup : Setup
setup = setup_of group (λ m. nat_eq m 0)

-- the connected masters: all correct ones; those of them that have voted before the rounds
abbrev pub connected : ℕ → Bool
connected m = is_correct_master setup m

abbrev pub voting : ℕ → Bool
voting m = nat_eq m 1 || nat_eq m 2

-- the words: of request 1 of master 1, its summary, an ask for number 1, and a report into view 1 that brings nothing
abbrev pub ack : Body
ack = let word : PoAck = record { j = 1; k = 1; digest = update_digest } in body.PoAck word

abbrev pub row : PoSummary
row = record { numbers = 0 ∷ 1 ∷ 0 ∷ 0 ∷ [] }

abbrev pub summary : Body
summary = body.PoSummary row

abbrev pub ask : Body
ask = body.AskOrder record { s = 1 }

abbrev pub report : Body
report = body.Report empty_report

-- what opens view 1, and what is offered there as number 1, with the digest of its rows
abbrev pub three : List ℕ
three = 1 ∷ 2 ∷ 3 ∷ []

abbrev pub new_view : Body
new_view = body.NewView record { v = 1; reports = by three body.Report empty_report }

abbrev pub proposal : Body
proposal = body.PrePrepare record { v = 1; s = 1; frames = by three body.PoSummary row }

abbrev pub rows_digest : List ℕ
rows_digest =
    0x1e ∷ 0x20 ∷ 0x1f ∷ 0xe8 ∷ 0x6e ∷ 0x8a ∷ 0x5a ∷ 0x00
    ∷ 0xbe ∷ 0x39 ∷ 0xcf ∷ 0x46 ∷ 0x21 ∷ 0x5b ∷ 0x2f ∷ 0x68
    ∷ 0x11 ∷ 0x48 ∷ 0xd1 ∷ 0x98 ∷ 0x16 ∷ 0xeb ∷ 0xaa ∷ 0x72
    ∷ 0x8a ∷ 0x61 ∷ 0x01 ∷ 0xc3 ∷ 0x1e ∷ 0xee ∷ 0xf6 ∷ 0x7c ∷ []

abbrev pub prepare : Body
prepare = let word : Prepare = record { v = 1; s = 1; digest = rows_digest } in body.Prepare word

abbrev pub commit : Body
commit = let word : Commit = record { v = 1; s = 1; digest = rows_digest } in body.Commit word

-- Master 1 introduces the update, and all three certify it.
abbrev pub certified : List Entry
certified =
    commands 0 4 update
    ∷ takes 1 1 0 4 (body.Update update) (body.PoRequest request ∷ [])
    ∷ takes 2 2 1 1 (body.PoRequest request) (ack ∷ [])
    ∷ takes 3 3 1 1 (body.PoRequest request) (ack ∷ [])
    ∷ takes 4 1 2 2 ack (ack ∷ [])
    ∷ takes 5 1 3 3 ack []
    ∷ takes 6 2 3 3 ack []
    ∷ takes 7 2 4 1 ack []
    ∷ takes 8 3 2 2 ack []
    ∷ takes 9 3 4 1 ack []
    ∷ []

-- Each says a summary, and master 1 knows all three: from now on it waits.
abbrev pub summed_up : List Entry
summed_up =
    ticks 10 1 (summary ∷ [])
    ∷ ticks 11 2 (summary ∷ [])
    ∷ ticks 12 3 (summary ∷ [])
    ∷ takes 13 1 11 2 summary []
    ∷ takes 14 1 12 3 summary []
    ∷ []

-- It waits for 33 ticks: at the 17th it asks for number 1, its 32nd tick in all is one at which it says its summary and its ask
-- again, and at the 33rd its patience is at its end.
abbrev pub waited : List Entry
waited =
    quiet_ticks 15 1 16
    ++ ticks 31 1 (ask ∷ [])
    ∷ quiet_ticks 32 1 13
    ++ ticks 45 1 (summary ∷ ask ∷ [])
    ∷ ticks 46 1 []
    ∷ ticks 47 1 (suspect ∷ [])
    ∷ []

-- With the intruded master's vote there are two, and master 2 goes along.
abbrev pub joined : List Entry
joined =
    cries 48 0 suspect
    ∷ takes 49 2 47 1 suspect []
    ∷ takes 50 2 48 0 suspect (suspect ∷ [])
    ∷ []

abbrev pub beginning : List Entry
beginning = certified ++ summed_up ++ waited ++ joined

-- The votes spread, and master 2, which knows three by now, leaves the view. (At entry 45 two words were said.)
abbrev pub votes_spread : List Entry
votes_spread =
    ticks 51 1 []
    ∷ ticks 52 2 (report ∷ [])
    ∷ ticks 53 3 []
    ∷ takes 54 2 10 1 summary []
    ∷ takes 55 2 12 3 summary []
    ∷ takes 56 2 31 1 ask []
    ∷ takes 57 2 45 1 summary []
    ∷ record { stamp = 58; actor = 2; event = Took 45 1 (framed 1 ask); said = [] }
    ∷ takes 59 3 10 1 summary []
    ∷ takes 60 3 11 2 summary []
    ∷ takes 61 3 31 1 ask []
    ∷ takes 62 3 45 1 summary []
    ∷ record { stamp = 63; actor = 3; event = Took 45 1 (framed 1 ask); said = [] }
    ∷ takes 64 3 47 1 suspect []
    ∷ takes 65 3 50 2 suspect (suspect ∷ [])
    ∷ takes 66 1 50 2 suspect []
    ∷ []

-- Masters 3 and 1 leave it too, and report.
abbrev pub view_left : List Entry
view_left =
    ticks 67 1 []
    ∷ ticks 68 2 []
    ∷ ticks 69 3 (report ∷ [])
    ∷ takes 70 1 52 2 report []
    ∷ takes 71 1 65 3 suspect (report ∷ [])
    ∷ takes 72 2 65 3 suspect []
    ∷ takes 73 3 52 2 report []
    ∷ []

-- Master 1 knows three reports and opens view 1.
abbrev pub reported : List Entry
reported =
    ticks 74 1 []
    ∷ ticks 75 2 []
    ∷ ticks 76 3 []
    ∷ takes 77 1 69 3 report (new_view ∷ [])
    ∷ takes 78 2 69 3 report []
    ∷ takes 79 2 71 1 report []
    ∷ takes 80 3 71 1 report []
    ∷ []

-- It is open to it at its next event, at which it offers number 1, and to the others when they take the word.
abbrev pub opened : List Entry
opened =
    ticks 81 1 (proposal ∷ [])
    ∷ ticks 82 2 []
    ∷ ticks 83 3 []
    ∷ takes 84 2 77 1 new_view []
    ∷ takes 85 3 77 1 new_view []
    ∷ []

abbrev pub prepared : List Entry
prepared =
    ticks 86 1 (prepare ∷ [])
    ∷ ticks 87 2 []
    ∷ ticks 88 3 []
    ∷ takes 89 2 81 1 proposal (prepare ∷ [])
    ∷ takes 90 3 81 1 proposal (prepare ∷ [])
    ∷ []

abbrev pub committed : List Entry
committed =
    ticks 91 1 []
    ∷ ticks 92 2 []
    ∷ ticks 93 3 []
    ∷ takes 94 1 89 2 prepare []
    ∷ takes 95 1 90 3 prepare (commit ∷ [])
    ∷ takes 96 2 86 1 prepare []
    ∷ takes 97 2 90 3 prepare (commit ∷ [])
    ∷ takes 98 3 86 1 prepare []
    ∷ takes 99 3 89 2 prepare (commit ∷ [])
    ∷ []

abbrev pub ordered : List Entry
ordered =
    ticks 100 1 []
    ∷ ticks 101 2 []
    ∷ ticks 102 3 []
    ∷ takes 103 1 97 2 commit []
    ∷ takes 104 1 99 3 commit []
    ∷ takes 105 2 95 1 commit []
    ∷ takes 106 2 99 3 commit []
    ∷ takes 107 3 95 1 commit []
    ∷ takes 108 3 97 2 commit []
    ∷ []

abbrev pub rounds : List (List Entry)
rounds = votes_spread ∷ view_left ∷ reported ∷ opened ∷ prepared ∷ committed ∷ ordered ∷ []
