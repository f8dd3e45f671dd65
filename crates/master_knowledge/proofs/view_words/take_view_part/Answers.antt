-- Suspicions, reports and new views are all that the views go by. The numbers and reports in one that is in
-- place are within their limits, and a word of another kind changes nothing.
use Rattle.std.proofs.Common.{◌≡◌, ◌≤◌, [], ◌∷◌, ◌++◌, true, refl, sym, ◌∙◌, ap, subst, arith}
use Rattle.std.proofs.lemmas.Result.{on_ok_weaker}
use Rattle.message_types.specs.declared.signed.Signed.{Signed}
use Rattle.message_types.specs.declared.body.Body.{Body}
use Rattle.message_types.specs.declared.body.Body.TheVariants as body
use Rattle.std.specs.List.{list_all}
use Rattle.message_types.specs.Parts.{parts}
use Rattle.protocol_rules.specs.Places.{in_place}
use Rattle.view_change.specs.ViewState.{AreViewsOf}
use Rattle.view_change.proofs.Others.{other_passed}
use Rattle.view_change.proofs.InPlace.{new_view-spelled}
use Rattle.master_knowledge.proofs.OfKind.{same_part, no_view_word}
use Rattle.master_knowledge.proofs.Whole.{suspect_within, new_view_within}
use Rattle.master_knowledge.proofs.view_words.take_view_part.Goals as goal

pub take_new_view-requires : goal.take_new_view-requires
take_new_view-requires c =
    let few : c.args.views.now.group.n ≤ 14 = c.requires.few in
    let same : c.requires.group.n ≡ c.args.views.now.group.n = c.requires.same in
    new_view-spelled c.requires.group record {
      signer = c.args.part.now.signer;
      body =
          c.in_ok-copy-in-NewView.field-0;
      sig = c.in_ok-copy-in-NewView-2.field-0;
    } (omega arith)
    (ap (λ (f : Signed Body). list_all (in_place c.requires.group) (parts f))
    (same_part body.NewView c.args.part.now c.in-NewView.new_view c.in_ok-copy-in-NewView.field-0
    c.in_ok-copy-in-NewView-2.field-0 c.in-NewView.is c.in_ok-copy-in-NewView.ensures
    c.in_ok-copy-in-NewView-2.ensures)
    ∙ c.requires.whole)

pub returns-in-Suspect : goal.returns-in-Suspect
returns-in-Suspect c =
    let whole = subst (λ (f : Signed Body). list_all (in_place c.requires.group) (parts f) ≡ true)
    (sym (same_part body.Suspect c.args.part.now c.in-Suspect.suspect c.in-Suspect.suspect c.args.part.now.sig
    c.in-Suspect.is refl refl)) c.requires.whole in
    let low = suspect_within c.requires.group record {
      signer = c.args.part.now.signer;
      body = c.in-Suspect.suspect;
      sig = c.args.part.now.sig;
    } whole in
    record {
      ok = on_ok_weaker c.take_suspect.result (λ took g me known said is.
          subst (λ (f : Signed Body). AreViewsOf g me c.take_suspect.new.self (known ++ f ∷ []) said)
          (same_part body.Suspect c.args.part.now c.in-Suspect.suspect c.in-Suspect.suspect c.args.part.now.sig
          c.in-Suspect.is refl refl)
          (took low c.args.part.now.sig g me known said is)) c.take_suspect.ensures.ok;
    }

pub returns-in_ok-copy-in-Report-2 : goal.returns-in_ok-copy-in-Report-2
returns-in_ok-copy-in-Report-2 c = record {
  ok = on_ok_weaker c.take_report.result (λ took g me known said is.
      subst (λ (f : Signed Body). AreViewsOf g me c.take_report.new.self (known ++ f ∷ []) said)
      (same_part body.Report c.args.part.now c.in-Report.report c.in_ok-copy-in-Report.field-0
      c.in_ok-copy-in-Report-2.field-0 c.in-Report.is c.in_ok-copy-in-Report.ensures
      c.in_ok-copy-in-Report-2.ensures)
      (took g me known said is)) c.take_report.ensures.ok;
}

pub returns-in_ok-copy-in-NewView-2 : goal.returns-in_ok-copy-in-NewView-2
returns-in_ok-copy-in-NewView-2 c =
    let whole = subst (λ (f : Signed Body). list_all (in_place c.requires.group) (parts f) ≡ true)
    (sym (same_part body.NewView c.args.part.now c.in-NewView.new_view c.in_ok-copy-in-NewView.field-0
    c.in_ok-copy-in-NewView-2.field-0 c.in-NewView.is c.in_ok-copy-in-NewView.ensures
    c.in_ok-copy-in-NewView-2.ensures)) c.requires.whole in
    let low = new_view_within c.requires.group record {
      signer = c.args.part.now.signer;
      body =
          c.in_ok-copy-in-NewView.field-0;
      sig = c.in_ok-copy-in-NewView-2.field-0;
    } whole in
    record {
      ok = on_ok_weaker c.take_new_view.result (λ took g me known said is.
          subst (λ (f : Signed Body). AreViewsOf g me c.take_new_view.new.self (known ++ f ∷ []) said)
          (same_part body.NewView c.args.part.now c.in-NewView.new_view c.in_ok-copy-in-NewView.field-0
          c.in_ok-copy-in-NewView-2.field-0 c.in-NewView.is c.in_ok-copy-in-NewView.ensures
          c.in_ok-copy-in-NewView-2.ensures)
          (took low g me known said is)) c.take_new_view.ensures.ok;
    }

pub returns-in_default : goal.returns-in_default
returns-in_default c = record {
  ok = other_passed c.args.views.now c.args.part.now
      (no_view_word c.args.part.now.signer c.args.part.now.body c.args.part.now.sig c.in_default.not-Suspect
      c.in_default.not-Report c.in_default.not-NewView);
}
