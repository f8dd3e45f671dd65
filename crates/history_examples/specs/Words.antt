-- The words of the examples: how an update of screen 0 is introduced, certified, proposed, prepared and committed by
-- masters 0, 1 and 2, and how an update of screen 1 is introduced and certified as that same request. (Digests are
-- written out; that they are those of the update and the rows comes out where the examples' entries are computed.)
use Rattle.std.specs.Prelude.{ℕ, List, [], ◌∷◌, map}
use Rattle.message_types.specs.declared.signed.Signed.{Signed}
use Rattle.message_types.specs.declared.updates.Op.TheVariants as op
use Rattle.message_types.specs.declared.updates.Update.{Update}
use Rattle.message_types.specs.declared.preordering.PoRequest.{PoRequest}
use Rattle.message_types.specs.declared.preordering.PoAck.{PoAck}
use Rattle.message_types.specs.declared.preordering.PoSummary.{PoSummary}
use Rattle.message_types.specs.declared.ordering.Prepare.{Prepare}
use Rattle.message_types.specs.declared.ordering.Commit.{Commit}
use Rattle.message_types.specs.declared.views.Report.{Report}
use Rattle.message_types.specs.declared.body.Body.{Body}
use Rattle.message_types.specs.declared.body.Body.TheVariants as body
use Rattle.history_examples.specs.Signing.{sealed}

-- screen 0's first update, and its digest
abbrev pub update : Update
update = record { client = 0; t = 1; op = op.Ack 0 }

abbrev pub update_digest : List ℕ
update_digest =
    0x53 ∷ 0x07 ∷ 0xc0 ∷ 0xb0 ∷ 0xae ∷ 0x6a ∷ 0xac ∷ 0xdc
    ∷ 0xf5 ∷ 0x07 ∷ 0x62 ∷ 0x54 ∷ 0xf1 ∷ 0xff ∷ 0x92 ∷ 0xf9
    ∷ 0x8e ∷ 0x7d ∷ 0x8f ∷ 0xce ∷ 0x3c ∷ 0x1c ∷ 0x94 ∷ 0x79
    ∷ 0xbd ∷ 0x37 ∷ 0xfe ∷ 0x10 ∷ 0xd7 ∷ 0x35 ∷ 0x56 ∷ 0x1a ∷ []

-- request 1 of master 0, and a master's acknowledgement of it
abbrev pub request : PoRequest
request = record { k = 1; update = sealed body.Update 4 update }

abbrev pub ack : PoAck
ack = record { j = 0; k = 1; digest = update_digest }

-- a master's summary: request 1 of master 0 is certified
abbrev pub summary : PoSummary
summary = record { numbers = 1 ∷ 0 ∷ 0 ∷ 0 ∷ [] }

-- the rows of masters 0, 1 and 2, and their digest
abbrev pub rows : List (List ℕ)
rows = summary.numbers ∷ summary.numbers ∷ summary.numbers ∷ [] ∷ []

abbrev pub rows_digest : List ℕ
rows_digest =
    0xa4 ∷ 0xb9 ∷ 0x80 ∷ 0x3f ∷ 0x4f ∷ 0xcf ∷ 0x68 ∷ 0x27
    ∷ 0x84 ∷ 0x32 ∷ 0x25 ∷ 0x06 ∷ 0xc6 ∷ 0x72 ∷ 0x1e ∷ 0xf1
    ∷ 0x79 ∷ 0xae ∷ 0xa1 ∷ 0x24 ∷ 0x16 ∷ 0xa7 ∷ 0xd9 ∷ 0xe4
    ∷ 0xfd ∷ 0xac ∷ 0x62 ∷ 0xdb ∷ 0xf6 ∷ 0xf9 ∷ 0x2d ∷ 0x61 ∷ []

abbrev pub prepare : Prepare
prepare = record { v = 0; s = 1; digest = rows_digest }

abbrev pub commit : Commit
commit = record { v = 0; s = 1; digest = rows_digest }

-- the word of each of these masters
abbrev pub by : {B : Type 0} → List ℕ → (B → Body) → B → List (Signed B)
by masters kind b = map (λ m. sealed kind m b) masters

-- what a master tells with the words of these masters: a certificate of master 0's request, a proposal of their
-- summaries, a report into view 1 that holds their prepares in view 0, the order of number 1 with their commits
abbrev pub certificate_by : List ℕ → PoRequest → PoAck → Body
certificate_by masters r a =
    body.Give record { request = sealed body.PoRequest 0 r; acks = by masters body.PoAck a }

abbrev pub proposal_by : List ℕ → PoSummary → Body
proposal_by masters row = body.PrePrepare record { v = 0; s = 1; frames = by masters body.PoSummary row }

abbrev pub report_by : List ℕ → List (List ℕ) → Prepare → Report
report_by masters matrix p = record {
  v = 1;
  base = 0;
  marks = [];
  certificates = record { s = 1; v = 0; rows = matrix; prepares = by masters body.Prepare p } ∷ [];
}

abbrev pub order_by : List ℕ → List (List ℕ) → Commit → Body
order_by masters matrix c =
    body.GiveOrdered record { s = 1; v = c.v; rows = matrix; commits = by masters body.Commit c }

-- these words of masters 0, 1 and 2
abbrev pub three : List ℕ
three = 0 ∷ 1 ∷ 2 ∷ []

abbrev pub certificate : Body
certificate = certificate_by three request ack

abbrev pub proposal : Body
proposal = proposal_by three summary

abbrev pub prepared_report : Report
prepared_report = report_by three rows prepare

abbrev pub report : Body
report = body.Report prepared_report

abbrev pub order : Body
order = order_by three rows commit

-- screen 1's first update, and its digest
abbrev pub other_update : Update
other_update = record { client = 1; t = 1; op = op.Ack 0 }

abbrev pub other_digest : List ℕ
other_digest =
    0xf9 ∷ 0x7f ∷ 0xd2 ∷ 0xaf ∷ 0x3e ∷ 0x2c ∷ 0xb2 ∷ 0x73
    ∷ 0x9d ∷ 0x1a ∷ 0xbc ∷ 0xfd ∷ 0x4e ∷ 0xa4 ∷ 0x0b ∷ 0x14
    ∷ 0x98 ∷ 0x32 ∷ 0xef ∷ 0x05 ∷ 0xaf ∷ 0xae ∷ 0x16 ∷ 0x99
    ∷ 0xc9 ∷ 0x73 ∷ 0x1e ∷ 0x1f ∷ 0xa4 ∷ 0x96 ∷ 0x54 ∷ 0x1c ∷ []

-- once more request 1 of master 0, with this update, a master's acknowledgement, and those of masters 0, 1 and 3
abbrev pub other_request : PoRequest
other_request = record { k = 1; update = sealed body.Update 5 other_update }

abbrev pub other_ack : PoAck
other_ack = record { j = 0; k = 1; digest = other_digest }

abbrev pub other_certificate : Body
other_certificate = certificate_by (0 ∷ 1 ∷ 3 ∷ []) other_request other_ack
