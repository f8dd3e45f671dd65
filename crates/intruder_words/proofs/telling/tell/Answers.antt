-- Each kind of frame hands over the facts that it tells, or others that give the same answers to the question;
-- a frame of any other kind tells nothing. Frames that are spelled hold rows that are.
use Rattle.std.proofs.Common.{◌≡◌, List, true, map, ◌∙◌, ap, subst}
use Rattle.std.specs.List.{list_all}
use Rattle.std.proofs.lemmas.Bool.{and_parts}
use Rattle.std.proofs.lemmas.Result.{on_ok_weaker}
use Rattle.message_types.specs.declared.ordering.Certificate.{Certificate}
use Rattle.message_types.specs.declared.body.Body.{Body}
use Rattle.message_types.specs.Spelling.{body_fits}
use Rattle.protocol_rules.specs.declared.facts.OrderFact.TheVariants as fact
use Rattle.protocol_rules.specs.Group.{group_of}
use Rattle.view_change.specs.Planning.{is_spelled}
use Rattle.words_in_place.proofs.Spelled.{new_views_fit}
use Rattle.intruder_words.specs.Telling.{IsTold}
use Rattle.intruder_words.proofs.Fits.{certificates-fit}
use Rattle.intruder_words.proofs.Heard.{tells-as, none-told, others-told}
use Rattle.intruder_words.proofs.telling.tell.Goals as goal

pub tell_proposal-requires : goal.tell_proposal-requires
tell_proposal-requires c = subst (λ (b : Body). body_fits b ≡ true) c.in-PrePrepare.is c.requires

pub tell_certificates-requires : goal.tell_certificates-requires
tell_certificates-requires c = ap (list_all is_spelled) c.as_slice.ensures ∙ certificates-fit c.in-Report.report
    (subst (λ (b : Body). body_fits b ≡ true) c.in-Report.is c.requires)

pub tell_given-requires : goal.tell_given-requires
tell_given-requires c = (and_parts _ _ (subst (λ (b : Body). body_fits b ≡ true) c.in-GiveOrdered.is c.requires)).0

pub tell_plan-requires : goal.tell_plan-requires
tell_plan-requires c = new_views_fit c.in-NewView.new_view
    (subst (λ (b : Body). body_fits b ≡ true) c.in-NewView.is c.requires)

pub returns-in-PrePrepare : goal.returns-in-PrePrepare
returns-in-PrePrepare c =
    on_ok_weaker c.tell_proposal.result (λ told. tells-as c.args.question.now (group_of c.args.sizes.now 0)
    _ _ c.args.frame.now _ c.in-PrePrepare.is (told c.args.question.now)) c.tell_proposal.ensures

pub returns-in-Prepare : goal.returns-in-Prepare
returns-in-Prepare c = on_ok_weaker c.tell_prepare.result
    (λ told. tells-as c.args.question.now (group_of c.args.sizes.now 0) _ _ c.args.frame.now _ c.in-Prepare.is told)
    c.tell_prepare.ensures

pub returns-in-Commit : goal.returns-in-Commit
returns-in-Commit c = on_ok_weaker c.tell_commit.result
    (λ told. tells-as c.args.question.now (group_of c.args.sizes.now 0) _ _ c.args.frame.now _ c.in-Commit.is told)
    c.tell_commit.ensures

pub returns-in-Report : goal.returns-in-Report
returns-in-Report c = on_ok_weaker c.tell_certificates.result
    (λ told. tells-as c.args.question.now (group_of c.args.sizes.now 0) _ _ c.args.frame.now _ c.in-Report.is
    (subst (λ (cs : List Certificate). IsTold c.args.question.now c.args.order.now c.tell_certificates.new.order
    (map (λ d. fact.Rows d.rows) cs)) c.as_slice.ensures (told c.args.question.now))) c.tell_certificates.ensures

pub returns-in-GiveOrdered : goal.returns-in-GiveOrdered
returns-in-GiveOrdered c =
    on_ok_weaker c.tell_given.result (λ told. tells-as c.args.question.now (group_of c.args.sizes.now 0)
    _ _ c.args.frame.now _ c.in-GiveOrdered.is (told c.args.question.now)) c.tell_given.ensures

pub returns-in-NewView : goal.returns-in-NewView
returns-in-NewView c = on_ok_weaker c.tell_plan.result
    (λ told. tells-as c.args.question.now (group_of c.args.sizes.now 0) _ _ c.args.frame.now _ c.in-NewView.is
    (told c.args.question.now)) c.tell_plan.ensures

pub returns-in_default : goal.returns-in_default
returns-in_default c = none-told c.args.question.now c.args.order.now _
    (others-told c.args.question.now (group_of c.args.sizes.now 0) c.args.frame.now.signer c.args.frame.now.body
    c.args.frame.now.sig c.in_default.not-PrePrepare c.in_default.not-Prepare c.in_default.not-Commit
    c.in_default.not-Report c.in_default.not-GiveOrdered c.in_default.not-NewView)
