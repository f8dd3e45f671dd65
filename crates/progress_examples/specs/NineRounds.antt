-- One update in nine rounds, each of which takes it one step on: four masters, of which master 1 is intruded and silent,
-- and one screen, whose doors are masters 0 and 1. Masters 0, 2 and 3 are connected, a quorum, and master 0 leads view 0.
-- In each round each of them ticks first, and then takes what was said in the round before, nothing sooner.
use Rattle.std.specs.Prelude.{ℕ, Bool, List, [], ◌∷◌, nat_eq}
use Rattle.message_types.specs.declared.ordering.Prepare.{Prepare}
use Rattle.message_types.specs.declared.ordering.Commit.{Commit}
use Rattle.message_types.specs.declared.body.Body.{Body}
use Rattle.message_types.specs.declared.body.Body.TheVariants as body
use Rattle.quorum_sets.specs.declared.sizes.Rules.TheVariants.{Live}
use Rattle.protocol_rules.specs.Group.{Group}
use Rattle.history_rules.specs.Events.{Entry}
use Rattle.history_rules.specs.Setup.{Setup, is_correct_master}
use Rattle.history_examples.specs.Signing.{setup_of, commands, takes, ticks}
use Rattle.history_examples.specs.Words.{update, request, ack, summary, proposal_by}

abbrev pub group : Group
group = record { n = 4; f = 1; k = 0; q = 3; clients = 1; rules = Live }

abbrev pub setup : Setup
setup = setup_of group (λ m. nat_eq m 1)

-- the connected masters: all correct ones
abbrev pub connected : ℕ → Bool
connected m = is_correct_master setup m

-- the summaries of masters 0, 2 and 3 as number 1 of view 0, the digest of their rows, and the votes for it
abbrev pub proposal : Body
proposal = proposal_by (0 ∷ 2 ∷ 3 ∷ []) summary

abbrev pub rows_digest : List ℕ
rows_digest =
    0x2c ∷ 0x56 ∷ 0xf6 ∷ 0xb8 ∷ 0x83 ∷ 0x62 ∷ 0x01 ∷ 0x63
    ∷ 0x11 ∷ 0xa7 ∷ 0x89 ∷ 0x46 ∷ 0x43 ∷ 0x63 ∷ 0xa8 ∷ 0x37
    ∷ 0x10 ∷ 0x3c ∷ 0x58 ∷ 0x63 ∷ 0xf6 ∷ 0x76 ∷ 0xe4 ∷ 0xad
    ∷ 0xe9 ∷ 0x2b ∷ 0x62 ∷ 0xf4 ∷ 0x04 ∷ 0x69 ∷ 0x81 ∷ 0xb1 ∷ []

abbrev pub prepare : Body
prepare = let word : Prepare = record { v = 0; s = 1; digest = rows_digest } in body.Prepare word

abbrev pub commit : Body
commit = let word : Commit = record { v = 0; s = 1; digest = rows_digest } in body.Commit word

-- The screen's command is all that went before.
abbrev pub beginning : List Entry
beginning = commands 0 4 update ∷ []

-- Master 0 takes the update and introduces it.
abbrev pub introduced : List Entry
introduced =
    ticks 1 0 []
    ∷ ticks 2 2 []
    ∷ ticks 3 3 []
    ∷ takes 4 0 0 4 (body.Update update) (body.PoRequest request ∷ [])
    ∷ []

-- Each acknowledges the request, master 0 at its next event.
abbrev pub acknowledged : List Entry
acknowledged =
    ticks 5 0 (body.PoAck ack ∷ [])
    ∷ ticks 6 2 []
    ∷ ticks 7 3 []
    ∷ takes 8 2 4 0 (body.PoRequest request) (body.PoAck ack ∷ [])
    ∷ takes 9 3 4 0 (body.PoRequest request) (body.PoAck ack ∷ [])
    ∷ []

-- Each takes the others' acknowledgements, after its tick: what is certified now it sums up at the next.
abbrev pub certified : List Entry
certified =
    ticks 10 0 []
    ∷ ticks 11 2 []
    ∷ ticks 12 3 []
    ∷ takes 13 0 8 2 (body.PoAck ack) []
    ∷ takes 14 0 9 3 (body.PoAck ack) []
    ∷ takes 15 2 5 0 (body.PoAck ack) []
    ∷ takes 16 2 9 3 (body.PoAck ack) []
    ∷ takes 17 3 5 0 (body.PoAck ack) []
    ∷ takes 18 3 8 2 (body.PoAck ack) []
    ∷ []

abbrev pub summarized : List Entry
summarized =
    ticks 19 0 (body.PoSummary summary ∷ [])
    ∷ ticks 20 2 (body.PoSummary summary ∷ [])
    ∷ ticks 21 3 (body.PoSummary summary ∷ [])
    ∷ []

-- Each takes the others' summaries, the leader after its tick too.
abbrev pub known : List Entry
known =
    ticks 22 0 []
    ∷ ticks 23 2 []
    ∷ ticks 24 3 []
    ∷ takes 25 0 20 2 (body.PoSummary summary) []
    ∷ takes 26 0 21 3 (body.PoSummary summary) []
    ∷ takes 27 2 19 0 (body.PoSummary summary) []
    ∷ takes 28 2 21 3 (body.PoSummary summary) []
    ∷ takes 29 3 19 0 (body.PoSummary summary) []
    ∷ takes 30 3 20 2 (body.PoSummary summary) []
    ∷ []

-- The leader offers number 1.
abbrev pub offered : List Entry
offered =
    ticks 31 0 (proposal ∷ [])
    ∷ ticks 32 2 []
    ∷ ticks 33 3 []
    ∷ []

abbrev pub prepared : List Entry
prepared =
    ticks 34 0 (prepare ∷ [])
    ∷ ticks 35 2 []
    ∷ ticks 36 3 []
    ∷ takes 37 2 31 0 proposal (prepare ∷ [])
    ∷ takes 38 3 31 0 proposal (prepare ∷ [])
    ∷ []

-- Each takes the others' prepares, and commits at the second.
abbrev pub committed : List Entry
committed =
    ticks 39 0 []
    ∷ ticks 40 2 []
    ∷ ticks 41 3 []
    ∷ takes 42 0 37 2 prepare []
    ∷ takes 43 0 38 3 prepare (commit ∷ [])
    ∷ takes 44 2 34 0 prepare []
    ∷ takes 45 2 38 3 prepare (commit ∷ [])
    ∷ takes 46 3 34 0 prepare []
    ∷ takes 47 3 37 2 prepare (commit ∷ [])
    ∷ []

-- Each takes the others' commits, and executes at the second.
abbrev pub ordered : List Entry
ordered =
    ticks 48 0 []
    ∷ ticks 49 2 []
    ∷ ticks 50 3 []
    ∷ takes 51 0 45 2 commit []
    ∷ takes 52 0 47 3 commit []
    ∷ takes 53 2 43 0 commit []
    ∷ takes 54 2 47 3 commit []
    ∷ takes 55 3 43 0 commit []
    ∷ takes 56 3 45 2 commit []
    ∷ []

abbrev pub eight : List (List Entry)
eight =
    introduced ∷ acknowledged ∷ certified ∷ summarized ∷ known ∷ offered ∷ prepared ∷ committed ∷ []

abbrev pub nine : List (List Entry)
nine =
    introduced ∷ acknowledged ∷ certified ∷ summarized ∷ known ∷ offered ∷ prepared ∷ committed ∷ ordered ∷ []
