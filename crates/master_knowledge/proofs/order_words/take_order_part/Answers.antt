-- Each kind of word tells the order one fact or none, the one that the rules draw from it. That its rows fit
-- follows from the part's being in place.
use Rattle.std.proofs.Common.{◌≡◌, ◌≤◌, List, map, refl, sym, ◌∙◌, ap, subst, arith}
use Rattle.message_types.specs.declared.ordering.Certificate.{Certificate}
use Rattle.message_types.specs.declared.body.Body.TheVariants as body
use Rattle.protocol_rules.specs.declared.facts.OrderFact.TheVariants as fact
use Rattle.std.specs.List.{list_all}
use Rattle.view_change.specs.Planning.{is_spelled}
use Rattle.view_change.proofs.InPlace.{new_view-spelled}
use Rattle.master_knowledge.specs.Whole.{IsWhole}
use Rattle.std.proofs.lemmas.Result.{on_ok_weaker}
use Rattle.protocol_rules.specs.Facts.{tells}
use Rattle.global_order.specs.OrderState.{Learns}
use Rattle.global_order.proofs.Learning.{learns-nothing}
use Rattle.master_knowledge.proofs.OfKind.{same_part, tells_nothing, told_as}
use Rattle.master_knowledge.proofs.Whole.{mark_within}
use Rattle.master_knowledge.proofs.Rows.{summaries_spelled, certificates_spelled, given_spelled}
use Rattle.master_knowledge.proofs.order_words.take_order_part.Goals as goal

pub take_proposal-requires : goal.take_proposal-requires
take_proposal-requires c = summaries_spelled c.args.sizes.now.n c.args.part.now.signer c.in-PrePrepare.proposal.v
    c.in-PrePrepare.proposal.s c.in-PrePrepare.proposal.frames c.args.part.now.sig
    (subst (IsWhole c.args.sizes.now.n)
    (sym (same_part body.PrePrepare c.args.part.now c.in-PrePrepare.proposal c.in-PrePrepare.proposal
    c.args.part.now.sig c.in-PrePrepare.is refl refl)) c.requires)

pub take_certificates-requires : goal.take_certificates-requires
take_certificates-requires c = ap (list_all is_spelled) c.as_slice.ensures
    ∙ certificates_spelled c.args.sizes.now.n c.args.part.now.signer c.in-Report.report c.args.part.now.sig
    (subst (IsWhole c.args.sizes.now.n)
    (sym (same_part body.Report c.args.part.now c.in-Report.report c.in-Report.report c.args.part.now.sig
    c.in-Report.is refl refl)) c.requires)

pub take_rows-requires : goal.take_rows-requires
take_rows-requires c = given_spelled c.args.sizes.now.n c.args.part.now.signer
    c.in-GiveOrdered.given c.args.part.now.sig
    (subst (IsWhole c.args.sizes.now.n)
    (sym (same_part body.GiveOrdered c.args.part.now c.in-GiveOrdered.given c.in-GiveOrdered.given
    c.args.part.now.sig c.in-GiveOrdered.is refl refl)) c.requires)

pub take_plan-requires : goal.take_plan-requires
take_plan-requires c =
    let is = subst (IsWhole c.args.sizes.now.n)
    (sym (same_part body.NewView c.args.part.now c.in-NewView.new_view c.in-NewView.new_view c.args.part.now.sig
    c.in-NewView.is refl refl)) c.requires in
    let few : c.args.sizes.now.n ≤ 14 = is.few in
    let same : is.group.n ≡ c.args.sizes.now.n = is.same in
    new_view-spelled is.group record {
      signer = c.args.part.now.signer;
      body = c.in-NewView.new_view;
      sig =
          c.args.part.now.sig;
    } (omega arith) is.whole

pub returns-in-PrePrepare : goal.returns-in-PrePrepare
returns-in-PrePrepare c = on_ok_weaker c.take_proposal.result (λ took g masters.
    told_as g _ _ c.args.part.now _
    (same_part body.PrePrepare c.args.part.now c.in-PrePrepare.proposal c.in-PrePrepare.proposal
    c.args.part.now.sig c.in-PrePrepare.is refl refl) (took g masters)) c.take_proposal.ensures

pub returns-in_ok-copy-in-Prepare : goal.returns-in_ok-copy-in-Prepare
returns-in_ok-copy-in-Prepare c = on_ok_weaker c.take_prepare.result (λ took g masters.
    told_as g _ _ c.args.part.now _
    (same_part body.Prepare c.args.part.now c.in-Prepare.prepare c.in-Prepare.prepare
    c.in_ok-copy-in-Prepare.field-0 c.in-Prepare.is refl c.in_ok-copy-in-Prepare.ensures) took)
    c.take_prepare.ensures.taken

pub returns-in_ok-copy-in-Commit : goal.returns-in_ok-copy-in-Commit
returns-in_ok-copy-in-Commit c = on_ok_weaker c.take_commit.result (λ took g masters.
    told_as g _ _ c.args.part.now _
    (same_part body.Commit c.args.part.now c.in-Commit.commit c.in-Commit.commit c.in_ok-copy-in-Commit.field-0
    c.in-Commit.is refl c.in_ok-copy-in-Commit.ensures) took) c.take_commit.ensures.taken

pub returns-in_ok-copy-in-Mark : goal.returns-in_ok-copy-in-Mark
returns-in_ok-copy-in-Mark c =
    let same = same_part body.Mark c.args.part.now c.in-Mark.mark c.in-Mark.mark c.in_ok-copy-in-Mark.field-0
    c.in-Mark.is refl c.in_ok-copy-in-Mark.ensures in
    let is = subst (IsWhole c.args.sizes.now.n) (sym same) c.requires in
    let low = mark_within is.group record {
      signer = c.args.part.now.signer;
      body = c.in-Mark.mark;
      sig =
          c.in_ok-copy-in-Mark.field-0;
    } is.whole in
    on_ok_weaker c.take_mark.result (λ took g masters. told_as g _ _ c.args.part.now _ same (took low))
    c.take_mark.ensures.taken

pub returns-in-Report : goal.returns-in-Report
returns-in-Report c = on_ok_weaker c.take_certificates.result (λ took g masters.
    told_as g _ _ c.args.part.now _
    (same_part body.Report c.args.part.now c.in-Report.report c.in-Report.report c.args.part.now.sig
    c.in-Report.is refl refl)
    (subst (λ (cs : List Certificate). Learns c.args.order.now c.take_certificates.new.order
    (map (λ d. fact.Rows d.rows) cs)) c.as_slice.ensures took)) c.take_certificates.ensures

pub returns-in-GiveOrdered : goal.returns-in-GiveOrdered
returns-in-GiveOrdered c = on_ok_weaker c.take_rows.result (λ took g masters.
    told_as g _ _ c.args.part.now _
    (same_part body.GiveOrdered c.args.part.now c.in-GiveOrdered.given c.in-GiveOrdered.given c.args.part.now.sig
    c.in-GiveOrdered.is refl refl) took) c.take_rows.ensures.taken

pub returns-in-NewView : goal.returns-in-NewView
returns-in-NewView c = on_ok_weaker c.take_plan.result (λ took g masters.
    told_as g _ _ c.args.part.now _
    (same_part body.NewView c.args.part.now c.in-NewView.new_view c.in-NewView.new_view c.args.part.now.sig
    c.in-NewView.is refl refl) (took g masters)) c.take_plan.ensures

pub returns-in_default : goal.returns-in_default
returns-in_default c = λ g masters. learns-nothing c.args.order.now (tells g c.args.part.now)
    (tells_nothing g c.args.part.now.signer c.args.part.now.body c.args.part.now.sig c.in_default.not-PrePrepare
    c.in_default.not-Prepare c.in_default.not-Commit c.in_default.not-Mark c.in_default.not-Report
    c.in_default.not-GiveOrdered c.in_default.not-NewView)
