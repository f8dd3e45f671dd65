-- Each kind of word is made by its own function, whose answer is the definition's for that kind; a word that
-- needs nothing known is made of itself alone.
use Rattle.std.proofs.Common.{◌∙◌}
use Rattle.std.proofs.lemmas.Result.{IfOk-weaker}
use Rattle.protocol_rules.specs.Group.{group_of}
use Rattle.intruder_words.specs.Speaking.{body_of}
use Rattle.intruder_words.proofs.Spoken.{as-word, proposal-of, new-view-of, others-plain}
use Rattle.intruder_words.proofs.bodies.body_of.Goals as goal

pub returns-in-PoRequest : goal.returns-in-PoRequest
unfolding body_of
returns-in-PoRequest c = as-word (group_of c.args.sizes.now 0) c.args.known.now _ _ c.in-PoRequest.is
    c.request_body.result c.request_body.ensures

pub returns-in-PoAck : goal.returns-in-PoAck
unfolding body_of
returns-in-PoAck c = as-word (group_of c.args.sizes.now 0) c.args.known.now _ _ c.in-PoAck.is
    c.ack_body.result c.ack_body.ensures

pub returns-in-PrePrepare : goal.returns-in-PrePrepare
unfolding body_of
returns-in-PrePrepare c =
    as-word (group_of c.args.sizes.now 0) c.args.known.now _ _ c.in-PrePrepare.is c.proposal_body.result
    (proposal-of c.args.known.now c.in-PrePrepare.v c.in-PrePrepare.s c.proposal_body.result _ _ c.as_slice.ensures
    c.proposal_body.ensures)

pub returns-in-Prepare : goal.returns-in-Prepare
unfolding body_of
returns-in-Prepare c = as-word (group_of c.args.sizes.now 0) c.args.known.now _ _ c.in-Prepare.is
    c.prepare_body.result c.prepare_body.ensures

pub returns-in-Commit : goal.returns-in-Commit
unfolding body_of
returns-in-Commit c = as-word (group_of c.args.sizes.now 0) c.args.known.now _ _ c.in-Commit.is
    c.commit_body.result c.commit_body.ensures

pub returns-in-Report : goal.returns-in-Report
unfolding body_of
returns-in-Report c = as-word (group_of c.args.sizes.now 0) c.args.known.now _ _ c.in-Report.is
    c.report_body.result c.report_body.ensures

pub returns-in-NewView : goal.returns-in-NewView
unfolding body_of
returns-in-NewView c =
    as-word (group_of c.args.sizes.now 0) c.args.known.now _ _ c.in-NewView.is c.new_view_body.result
    (new-view-of c.args.known.now c.in-NewView.v c.new_view_body.result _ _ c.as_slice-in-NewView.ensures
    c.new_view_body.ensures)

pub returns-in-Give : goal.returns-in-Give
unfolding body_of
returns-in-Give c = as-word (group_of c.args.sizes.now 0) c.args.known.now _ _ c.in-Give.is
    c.give_body.result c.give_body.ensures

pub returns-in-GiveOrdered : goal.returns-in-GiveOrdered
unfolding body_of
returns-in-GiveOrdered c = as-word (group_of c.args.sizes.now 0) c.args.known.now _ _ c.in-GiveOrdered.is
    c.order_body.result c.order_body.ensures

pub returns-in_default : goal.returns-in_default
returns-in_default c = IfOk-weaker c.plain_body.result _ _
    (λ b is. is ∙ others-plain (group_of c.args.sizes.now 0) c.args.known.now c.args.word.now
    c.in_default.not-PoRequest c.in_default.not-PoAck c.in_default.not-PrePrepare c.in_default.not-Prepare
    c.in_default.not-Commit c.in_default.not-Report
    c.in_default.not-NewView c.in_default.not-Give c.in_default.not-GiveOrdered) c.plain_body.ensures
