-- Votes that don't spread, under the rules first specified: the history with a change of view (`history_examples`), up to
-- where masters 1 and 2 have voted against the silent leader, and a fair round behind it. The intruded leader's vote goes to
-- master 3 alone, which so knows three votes and is in view 1 before it has voted itself: by these rules it votes against the
-- leader of its present view only, so never against master 0. Masters 1 and 2 know two votes, and stay.
use Rattle.std.specs.Prelude.{ℕ, Bool, ◌||◌, List, [], ◌∷◌, nat_eq}
use Rattle.message_types.specs.declared.preordering.PoAck.{PoAck}
use Rattle.message_types.specs.declared.body.Body.{Body}
use Rattle.message_types.specs.declared.body.Body.TheVariants as body
use Rattle.history_rules.specs.Events.{Entry}
use Rattle.history_rules.specs.Setup.{Setup, is_correct_master}
use Rattle.history_examples.specs.Signing.{takes, ticks}
use Rattle.history_examples.specs.Words.{update, update_digest, request, ack, summary, prepare}
use Rattle.history_examples.specs.Changed as changed

abbrev pub setup : Setup
setup = changed.setup

-- the connected masters: all correct ones; those of them that voted before the round
abbrev pub connected : ℕ → Bool
connected m = is_correct_master setup m

abbrev pub voting : ℕ → Bool
voting m = nat_eq m 1 || nat_eq m 2

abbrev pub ping : Body
ping = body.Ping record { number = 1 }

abbrev pub pong : ℕ → Body
pong to = body.Pong record { to = to; number = 1 }

abbrev pub own_ack : PoAck
own_ack = record { j = 1; k = 1; digest = update_digest }

abbrev pub beginning : List Entry
beginning = changed.in_first_view

-- Each ticks, and takes all that the others said; master 3 takes the intruded master's vote too.
abbrev pub round : List Entry
round =
    ticks 68 1 []
    ∷ ticks 69 2 []
    ∷ ticks 70 3 []
    ∷ takes 71 1 0 4 (body.Update update) (body.PoRequest request ∷ [])
    ∷ takes 72 1 3 2 (body.PoAck ack) (body.PoAck own_ack ∷ [])
    ∷ takes 73 1 8 2 (body.PoSummary summary) []
    ∷ takes 74 1 11 2 (body.Prepare prepare) []
    ∷ takes 75 1 43 2 (changed.waited 8) []
    ∷ takes 76 1 50 2 ping (pong 2 ∷ [])
    ∷ takes 77 1 51 2 (changed.waited 16) []
    ∷ takes 78 1 66 2 changed.suspect []
    ∷ takes 79 2 2 1 (body.PoAck ack) []
    ∷ takes 80 2 7 1 (body.PoSummary summary) []
    ∷ takes 81 2 10 1 (body.Prepare prepare) []
    ∷ takes 82 2 19 1 (changed.waited 8) []
    ∷ takes 83 2 26 1 ping (pong 1 ∷ [])
    ∷ takes 84 2 27 1 (changed.waited 16) []
    ∷ takes 85 2 63 1 changed.suspect []
    ∷ takes 86 3 2 1 (body.PoAck ack) []
    ∷ takes 87 3 3 2 (body.PoAck ack) []
    ∷ takes 88 3 7 1 (body.PoSummary summary) []
    ∷ takes 89 3 8 2 (body.PoSummary summary) []
    ∷ takes 90 3 10 1 (body.Prepare prepare) []
    ∷ takes 91 3 11 2 (body.Prepare prepare) []
    ∷ takes 92 3 19 1 (changed.waited 8) []
    ∷ takes 93 3 26 1 ping (pong 1 ∷ [])
    ∷ takes 94 3 27 1 (changed.waited 16) []
    ∷ takes 95 3 35 1 (changed.waited 24) []
    ∷ takes 96 3 43 2 (changed.waited 8) []
    ∷ takes 97 3 50 2 ping (pong 2 ∷ [])
    ∷ takes 98 3 51 2 (changed.waited 16) []
    ∷ takes 99 3 59 2 (changed.waited 24) []
    ∷ takes 100 3 67 0 changed.suspect []
    ∷ takes 101 3 63 1 changed.suspect []
    ∷ takes 102 3 66 2 changed.suspect (body.Report changed.empty_report ∷ [])
    ∷ []
