-- The body that a word is, made of the frames that its speaker knows as a correct master would make it of these. (This
-- project's own, so that plays can have masters that say anything.)
use Rattle.std.specs.Prelude.{ℕ, Bool, List, [], ◌∷◌, Option, Some, None, map}
use Rattle.std.specs.List.{filter_map, list_all}
use Rattle.std.specs.Option.{option_map, option_and_then}
use Rattle.message_types.specs.declared.signed.Signed.{Signed}
use Rattle.message_types.specs.declared.updates.Update.{Update}
use Rattle.message_types.specs.declared.preordering.PoSummary.{PoSummary}
use Rattle.message_types.specs.declared.ordering.Certificate.{Certificate}
use Rattle.message_types.specs.declared.ordering.Mark.{Mark}
use Rattle.message_types.specs.declared.views.Report.{Report}
use Rattle.message_types.specs.declared.reconciling.Give.{Give}
use Rattle.message_types.specs.declared.body.Body.{Body}
use Rattle.message_types.specs.declared.body.Body.TheVariants as body
use Rattle.message_types.specs.Spelling.{has_spelling}
use Rattle.message_types.specs.Digests.{digest_of_update, digest_of_rows}
use Rattle.protocol_rules.specs.declared.facts.OrderFact.{OrderFact}
use Rattle.protocol_rules.specs.Words.{first_of_list}
use Rattle.protocol_rules.specs.Group.{Group}
use Rattle.protocol_rules.specs.Facts.{facts_of}
use Rattle.protocol_rules.specs.Matrix.{rows_of_frames}
use Rattle.protocol_rules.specs.Preorder.{certified}
use Rattle.protocol_rules.specs.Order.{stable, marks_at, certificate_at}
use Rattle.protocol_rules.specs.Reconcile.{request_of, quorum_of_acks}
use Rattle.global_order.specs.Giving.{given_order}
use Rattle.play_words.specs.declared.words.Item.{Item}
use Rattle.play_words.specs.declared.words.Ref.{Ref}
use Rattle.play_words.specs.declared.words.Word.{Word}
use Rattle.play_words.specs.declared.words.Word.TheVariants as word
use Rattle.intruder_words.specs.Naming.{named}

-- all frames known have a spelling
abbrev pub are_spelled : List (Signed Body) → Bool
are_spelled known = list_all has_spelling known

-- all of them, or none where one is none
abbrev pub all_of : {X : Type 0} → List (Option X) → Option (List X)
all_of [] = Some []
all_of (None ∷ rest) = None
all_of (Some x ∷ rest) = option_map (λ xs. x ∷ xs) (all_of rest)

-- the frame as one of its kind
abbrev pub as_update : Signed Body → Option (Signed Update)
as_update f = elim f.body [ body.Update b ↦ Some record { signer = f.signer; body = b; sig = f.sig } | _ ↦ None ]

abbrev pub as_summary : Signed Body → Option (Signed PoSummary)
as_summary f = elim f.body [ body.PoSummary b ↦ Some record { signer = f.signer; body = b; sig = f.sig } | _ ↦ None ]

abbrev pub as_report : Signed Body → Option (Signed Report)
as_report f = elim f.body [ body.Report b ↦ Some record { signer = f.signer; body = b; sig = f.sig } | _ ↦ None ]

-- the digest of a request's update, or of a preprepare's rows
abbrev pub digest_in : Group → Signed Body → Option (List ℕ)
digest_in g f = elim f.body [
  | body.PoRequest b ↦ Some (digest_of_update b.update.body)
  | body.PrePrepare b ↦ Some (digest_of_rows (rows_of_frames g b.frames))
  | _ ↦ None
]

-- the named frames, each of its kind
abbrev pub update_named : List (Signed Body) → Ref → Option (Signed Update)
update_named known r = option_and_then as_update (named known r)

abbrev pub summary_named : List (Signed Body) → Ref → Option (Signed PoSummary)
summary_named known r = option_and_then as_summary (named known r)

abbrev pub report_named : List (Signed Body) → Ref → Option (Signed Report)
report_named known r = option_and_then as_report (named known r)

abbrev pub digest_named : Group → List (Signed Body) → Ref → Option (List ℕ)
digest_named g known r = option_and_then (digest_in g) (named known r)

-- all of these certificates
abbrev pub certificate_known : Group → List OrderFact → Item → Option Certificate
certificate_known g facts item = certificate_at g facts item.s item.v

abbrev pub certificates_known : Group → List OrderFact → List Item → Option (List Certificate)
certificates_known g facts items = all_of (map (certificate_known g facts) items)

-- a report on the base, with the base's marks and these certificates
abbrev pub report_with : ℕ → ℕ → List (Signed Mark) → List Certificate → Report
report_with v base marks certificates = record { v = v; base = base; marks = marks; certificates = certificates }

abbrev pub report_of : Group → List OrderFact → ℕ → ℕ → List Item → Option Report
report_of g facts v base items =
    option_and_then (λ marks. option_map (report_with v base marks) (certificates_known g facts items))
    (marks_at g facts base)

-- the base of a report for which none is told is the stable number
abbrev pub base_or_stable : Group → List OrderFact → Option ℕ → ℕ
base_or_stable g facts None = stable g facts
base_or_stable g facts (Some base) = base

-- a certified request: the first with its update, and a quorum's acknowledgements
abbrev pub give_with : Group → List (Signed Body) → ℕ → ℕ → Update → Option Give
give_with g known j k u =
    option_map (λ request. record { request = request; acks = quorum_of_acks g known j k (digest_of_update u) })
    (first_of_list (filter_map (request_of j k u) known))

abbrev pub give_of : Group → List (Signed Body) → ℕ → ℕ → Option Give
give_of g known j k = option_and_then (give_with g known j k) (certified g known j k)

-- the words that need no frame
abbrev pub plain_body : Word → Option Body
plain_body (word.PoSummary numbers) = Some (body.PoSummary record { numbers = numbers })
plain_body (word.Ping number) = Some (body.Ping record { number = number })
plain_body (word.Pong to number) = Some (body.Pong record { to = to; number = number })
plain_body (word.Rtt to number ticks) = Some (body.Rtt record { to = to; number = number; ticks = ticks })
plain_body (word.TatReport v ticks) = Some (body.TatReport record { v = v; ticks = ticks })
plain_body (word.TatBound v ticks) = Some (body.TatBound record { v = v; ticks = ticks })
plain_body (word.Suspect v) = Some (body.Suspect record { v = v })
plain_body (word.AskUpdate j k) = Some (body.AskUpdate record { j = j; k = k })
plain_body (word.AskOrder s) = Some (body.AskOrder record { s = s })
plain_body (word.Voucher client number order) =
    Some (body.Voucher record { client = client; number = number; order = order })
plain_body (word.Mark s) = Some (body.Mark record { s = s })
plain_body _ = None

-- The body that a word is where these frames are known; none where a frame or certificate that it needs isn't known,
-- and for a raw word.
unfoldable pub body_of : Group → List (Signed Body) → Word → Option Body
body_of g known (word.PoRequest k update) = option_map (λ u. body.PoRequest record { k = k; update = u })
    (update_named known update)
body_of g known (word.PoAck j k digest) = option_map (λ d. body.PoAck record { j = j; k = k; digest = d })
    (digest_named g known digest)
body_of g known (word.PrePrepare v s frames) = option_map (λ fs. body.PrePrepare record { v = v; s = s; frames = fs })
    (all_of (map (summary_named known) frames))
body_of g known (word.Prepare v s digest) = option_map (λ d. body.Prepare record { v = v; s = s; digest = d })
    (digest_named g known digest)
body_of g known (word.Commit v s digest) = option_map (λ d. body.Commit record { v = v; s = s; digest = d })
    (digest_named g known digest)
body_of g known (word.Report v base items) =
    let facts = facts_of g known in
    option_map (λ report. body.Report report) (report_of g facts v (base_or_stable g facts base) items)
body_of g known (word.NewView v reports) = option_map (λ rs. body.NewView record { v = v; reports = rs })
    (all_of (map (report_named known) reports))
body_of g known (word.Give j k) = option_map (λ gift. body.Give gift) (give_of g known j k)
body_of g known (word.GiveOrdered s) = option_map (λ gift. body.GiveOrdered gift) (given_order g (facts_of g known) s)
body_of g known other = plain_body other
