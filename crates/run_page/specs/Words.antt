-- The fields of words, as the details of a run tell them: each behind a space, clients and signers by their names, and of
-- a digest its first four bytes. (This project's own.)
use Rattle.std.specs.Prelude.{ℕ, ◌+◌, List, ◌++◌, codes, decimal, take}
use Rattle.std.specs.List.{flat_map}
use Rattle.hex.specs.Hex.{encode_lower}
use Rattle.message_types.specs.declared.updates.Update.{Update}
use Rattle.message_types.specs.declared.preordering.PoRequest.{PoRequest}
use Rattle.message_types.specs.declared.ordering.PrePrepare.{PrePrepare}
use Rattle.message_types.specs.declared.views.Report.{Report}
use Rattle.message_types.specs.declared.views.NewView.{NewView}
use Rattle.message_types.specs.declared.signed.Signed.{Signed}
use Rattle.message_types.specs.declared.ordering.Mark.{Mark}
use Rattle.message_types.specs.declared.reconciling.Give.{Give}
use Rattle.message_types.specs.declared.reconciling.GiveOrdered.{GiveOrdered}
use Rattle.message_types.specs.declared.vouchers.Order.{Order}
use Rattle.message_types.specs.declared.vouchers.Order.TheVariants as order
use Rattle.message_types.specs.declared.vouchers.Voucher.{Voucher}
use Rattle.message_types.specs.declared.body.Body.{Body}
use Rattle.message_types.specs.declared.body.Body.TheVariants as body
use Rattle.scenario_file.specs.declared.actors.Cast.{Cast}
use Rattle.scenario_file.specs.Actors.{actor_name}
use Rattle.script_grammar.specs.Kinds.{kind_name}
use Rattle.run_lines.specs.Names.{kind_of, notice_name}
use Rattle.run_lines.specs.Texts.{op_text}
use Rattle.run_page.specs.Lists.{certificate_text, number_text, row_text, signer_text}

unfoldable pub digest_text : List ℕ → List ℕ
digest_text digest = codes " " ++ encode_lower (take 4 digest)

unfoldable pub update_text : Cast → Update → List ℕ
update_text cast b = codes " " ++ actor_name cast (cast.masters + b.client) ++ codes " " ++ decimal b.t ++ codes " "
    ++ op_text b.op

unfoldable pub request_text : Cast → PoRequest → List ℕ
request_text cast b = codes " " ++ decimal b.k ++ update_text cast b.update.body

unfoldable pub vote_text : (v s : ℕ) → List ℕ → List ℕ
vote_text v s digest = codes " " ++ decimal v ++ codes " " ++ decimal s ++ digest_text digest

unfoldable pub offer_text : Cast → PrePrepare → List ℕ
offer_text cast b = codes " " ++ decimal b.v ++ codes " " ++ decimal b.s ++ flat_map (row_text cast) b.frames

unfoldable pub base_text : (v base : ℕ) → List ℕ
base_text v base = codes " " ++ decimal v ++ codes " base " ++ decimal base ++ codes " marks"

-- who marked, before the certificates
unfoldable pub marks_text : Cast → List (Signed Mark) → List ℕ
marks_text cast marks = flat_map (λ frame. signer_text cast frame.signer) marks ++ codes " certificates"

unfoldable pub report_text : Cast → Report → List ℕ
report_text cast b = base_text b.v b.base ++ marks_text cast b.marks ++ flat_map certificate_text b.certificates

unfoldable pub new_view_text : Cast → NewView → List ℕ
new_view_text cast b = codes " " ++ decimal b.v ++ flat_map (λ frame. signer_text cast frame.signer) b.reports

unfoldable pub give_text : Cast → Give → List ℕ
give_text cast b = codes " m" ++ decimal b.request.signer ++ codes " " ++ decimal b.request.body.k
    ++ flat_map (λ frame. signer_text cast frame.signer) b.acks

unfoldable pub given_order_text : Cast → GiveOrdered → List ℕ
given_order_text cast b = codes " " ++ decimal b.s ++ codes " " ++ decimal b.v
    ++ flat_map (λ frame. signer_text cast frame.signer) b.commits

unfoldable pub order_text : Order → List ℕ
order_text (order.Write point raw) = codes " write " ++ decimal point ++ codes " " ++ decimal raw
order_text (order.Notice n) = codes " notice " ++ notice_name n.what ++ codes " " ++ decimal n.t ++ codes " "
    ++ decimal n.number

unfoldable pub voucher_text : Cast → Voucher → List ℕ
voucher_text cast b = codes " " ++ actor_name cast (cast.masters + b.client) ++ codes " " ++ decimal b.number
    ++ order_text b.order

-- the fields of a word, by its kind
unfoldable pub fields_text : Cast → Body → List ℕ
fields_text cast (body.Update b) = update_text cast b
fields_text cast (body.PoRequest b) = request_text cast b
fields_text cast (body.PoAck b) = codes " m" ++ decimal b.j ++ codes " " ++ decimal b.k ++ digest_text b.digest
fields_text cast (body.PoSummary b) = flat_map (number_text (codes " ")) b.numbers
fields_text cast (body.PrePrepare b) = offer_text cast b
fields_text cast (body.Prepare b) = vote_text b.v b.s b.digest
fields_text cast (body.Commit b) = vote_text b.v b.s b.digest
fields_text cast (body.Ping b) = codes " " ++ decimal b.number
fields_text cast (body.Pong b) = codes " m" ++ decimal b.to ++ codes " " ++ decimal b.number
fields_text cast (body.Rtt b) = codes " m" ++ decimal b.to ++ codes " " ++ decimal b.number ++ codes " "
    ++ decimal b.ticks
fields_text cast (body.TatReport b) = codes " " ++ decimal b.v ++ codes " " ++ decimal b.ticks
fields_text cast (body.TatBound b) = codes " " ++ decimal b.v ++ codes " " ++ decimal b.ticks
fields_text cast (body.Suspect b) = codes " " ++ decimal b.v
fields_text cast (body.Report b) = report_text cast b
fields_text cast (body.NewView b) = new_view_text cast b
fields_text cast (body.AskUpdate b) = codes " m" ++ decimal b.j ++ codes " " ++ decimal b.k
fields_text cast (body.Give b) = give_text cast b
fields_text cast (body.AskOrder b) = codes " " ++ decimal b.s
fields_text cast (body.GiveOrdered b) = given_order_text cast b
fields_text cast (body.Voucher b) = voucher_text cast b
fields_text cast (body.Mark b) = codes " " ++ decimal b.s

-- a word: who signed it, its kind and its fields
unfoldable pub word_text : Cast → ℕ → Body → List ℕ
word_text cast signer b = actor_name cast signer ++ codes " " ++ kind_name (kind_of b) ++ fields_text cast b
