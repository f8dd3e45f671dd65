-- A group that bears one master away besides one intruded, whose bodies of one entry share leaves, up to 32 a leaf: six
-- masters, of which master 0 is intruded, and one screen. A quorum is four. Each actor has five leaves, and each
-- executed update makes 40 orders of the screen. Masters 1, 2 and 3 acknowledge, summarize, prepare and commit, each
-- with a leaf of its own. When master 1 executes, it has one leaf left, and vouches for the first 32 orders.
use Rattle.std.specs.Prelude.{ℕ, ◌+◌, true, List, [], ◌∷◌, ◌++◌, map, nat_eq}
use Rattle.std.specs.List.{flat_map}
use Rattle.message_types.specs.declared.updates.Update.{Update}
use Rattle.message_types.specs.declared.preordering.PoRequest.{PoRequest}
use Rattle.message_types.specs.declared.preordering.PoSummary.{PoSummary}
use Rattle.message_types.specs.declared.ordering.Prepare.{Prepare}
use Rattle.message_types.specs.declared.ordering.Commit.{Commit}
use Rattle.message_types.specs.declared.vouchers.Order.{Order}
use Rattle.message_types.specs.declared.vouchers.Order.TheVariants as order
use Rattle.message_types.specs.declared.body.Body.{Body}
use Rattle.message_types.specs.declared.body.Body.TheVariants as body
use Rattle.quorum_sets.specs.Masters.{numbers_below}
use Rattle.quorum_sets.specs.declared.sizes.Rules.TheVariants.{First}
use Rattle.protocol_rules.specs.Group.{Group}
use Rattle.history_rules.specs.Events.{Entry}
use Rattle.history_rules.specs.Setup.{Setup}
use Rattle.history_examples.specs.Signing.{sealed, setup_of, commands, cries, takes, ticks}
use Rattle.history_examples.specs.Words.{update, ack, certificate_by, proposal_by, report_by, order_by}

abbrev pub group : Group
group = record { n = 6; f = 1; k = 1; q = 4; clients = 1; rules = First }

-- the orders of the screen
abbrev pub forty_orders : List Update → ℕ → List Order
forty_orders updates client = flat_map (λ u. map (λ raw. order.Write 0 raw) (numbers_below 40)) updates

abbrev pub setup : Setup
setup = let plain : Setup = setup_of group (λ m. nat_eq m 0) in
    record plain { orders = forty_orders; leaves = 5; shared_leaves = true }

-- the request of master 0 and its certificate by four masters; a summary; the rows of the four, and their digest; and
-- the words about number 1
abbrev pub four : List ℕ
four = 0 ∷ 1 ∷ 2 ∷ 3 ∷ []

abbrev pub request : PoRequest
request = record { k = 1; update = sealed body.Update 6 update }

abbrev pub certificate : Body
certificate = certificate_by four request ack

abbrev pub summary : PoSummary
summary = record { numbers = 1 ∷ 0 ∷ 0 ∷ 0 ∷ 0 ∷ 0 ∷ [] }

abbrev pub proposal : Body
proposal = proposal_by four summary

abbrev pub rows : List (List ℕ)
rows = summary.numbers ∷ summary.numbers ∷ summary.numbers ∷ summary.numbers ∷ [] ∷ [] ∷ []

abbrev pub rows_digest : List ℕ
rows_digest =
    0x96 ∷ 0x26 ∷ 0x50 ∷ 0x8e ∷ 0x70 ∷ 0xd9 ∷ 0xf0 ∷ 0x8f
    ∷ 0x39 ∷ 0xa3 ∷ 0x7b ∷ 0xce ∷ 0xe3 ∷ 0x9b ∷ 0xbc ∷ 0x12
    ∷ 0x62 ∷ 0x18 ∷ 0x83 ∷ 0x13 ∷ 0x1b ∷ 0xf0 ∷ 0x2f ∷ 0xd0
    ∷ 0x3a ∷ 0xcf ∷ 0x05 ∷ 0x77 ∷ 0x65 ∷ 0xbc ∷ 0x3a ∷ 0xbd ∷ []

abbrev pub prepare : Prepare
prepare = record { v = 0; s = 1; digest = rows_digest }

abbrev pub commit : Commit
commit = record { v = 0; s = 1; digest = rows_digest }

abbrev pub report : Body
report = body.Report (report_by four rows prepare)

abbrev pub ordered : Body
ordered = order_by four rows commit

-- vouchers for the first orders
abbrev pub vouchers : ℕ → List Body
vouchers count = map (λ raw. body.Voucher record { client = 0; number = raw + 1; order = order.Write 0 raw })
    (numbers_below count)

-- The screen's command; master 0's request, which masters 1, 2 and 3 acknowledge; its certificate; and their summaries.
abbrev pub introduced : List Entry
introduced =
    commands 0 6 update
    ∷ cries 1 0 (body.PoRequest request)
    ∷ takes 2 1 1 0 (body.PoRequest request) (body.PoAck ack ∷ [])
    ∷ takes 3 2 1 0 (body.PoRequest request) (body.PoAck ack ∷ [])
    ∷ takes 4 3 1 0 (body.PoRequest request) (body.PoAck ack ∷ [])
    ∷ cries 5 0 certificate
    ∷ takes 6 1 5 0 certificate []
    ∷ takes 7 2 5 0 certificate []
    ∷ takes 8 3 5 0 certificate []
    ∷ ticks 9 1 (body.PoSummary summary ∷ [])
    ∷ ticks 10 2 (body.PoSummary summary ∷ [])
    ∷ ticks 11 3 (body.PoSummary summary ∷ [])
    ∷ []

-- Master 0 proposes them as number 1; masters 1, 2 and 3 prepare it, and commit it once they know four prepares.
abbrev pub prepared : List Entry
prepared =
    cries 12 0 proposal
    ∷ takes 13 1 12 0 proposal (body.Prepare prepare ∷ [])
    ∷ takes 14 2 12 0 proposal (body.Prepare prepare ∷ [])
    ∷ takes 15 3 12 0 proposal (body.Prepare prepare ∷ [])
    ∷ cries 16 0 report
    ∷ takes 17 1 16 0 report (body.Commit commit ∷ [])
    ∷ takes 18 2 16 0 report (body.Commit commit ∷ [])
    ∷ takes 19 3 16 0 report (body.Commit commit ∷ [])
    ∷ []

-- Master 1 learns of the order, and vouches for as many of the 40 orders as its last leaf can sign.
abbrev pub committed : List Entry
committed =
    cries 20 0 ordered
    ∷ takes 21 1 20 0 ordered (vouchers 32)
    ∷ []

abbrev pub history : List Entry
history = introduced ++ prepared ++ committed
