-- Five kinds of body have texts that digests tell apart, and each is noted by its own function; a body of any
-- other kind has none.
use Rattle.std.proofs.Common.{ℕ, List, ◌++◌, subst, sym}
use Rattle.std.proofs.lemmas.List.{append-nil}
use Rattle.message_types.specs.declared.body.Body.{Body}
use Rattle.history_rules.specs.Audit.{texts_of}
use Rattle.history_audit.specs.Texts.{AreTexts}
use Rattle.history_audit.proofs.Spelled.{no_texts}
use Rattle.history_audit.proofs.texts.note_body.Goals as goal

pub returns-in_ok-note_update-in-Update : goal.returns-in_ok-note_update-in-Update
returns-in_ok-note_update-in-Update c = λ g n given are.
    subst (λ (b : Body). AreTexts (given ++ texts_of g b) c.note_update.new.kept) (sym c.in-Update.is)
    (c.in_ok-note_update-in-Update.ensures given are)

pub returns-in_ok-note_proposal-in-PrePrepare : goal.returns-in_ok-note_proposal-in-PrePrepare
returns-in_ok-note_proposal-in-PrePrepare c = λ g n given are.
    subst (λ (b : Body). AreTexts (given ++ texts_of g b) c.note_proposal.new.kept) (sym c.in-PrePrepare.is)
    (c.in_ok-note_proposal-in-PrePrepare.ensures g n given are)

pub returns-in_ok-note_report-in-Report : goal.returns-in_ok-note_report-in-Report
returns-in_ok-note_report-in-Report c = λ g n given are.
    subst (λ (b : Body). AreTexts (given ++ texts_of g b) c.note_report.new.kept) (sym c.in-Report.is)
    (c.in_ok-note_report-in-Report.ensures given are)

pub returns-in_ok-note_rows-in-GiveOrdered : goal.returns-in_ok-note_rows-in-GiveOrdered
returns-in_ok-note_rows-in-GiveOrdered c = λ g n given are.
    subst (λ (b : Body). AreTexts (given ++ texts_of g b) c.note_rows.new.kept) (sym c.in-GiveOrdered.is)
    (c.in_ok-note_rows-in-GiveOrdered.ensures given are)

pub returns-in_ok-note_new_view-in-NewView : goal.returns-in_ok-note_new_view-in-NewView
returns-in_ok-note_new_view-in-NewView c = λ g n given are.
    subst (λ (b : Body). AreTexts (given ++ texts_of g b) c.note_new_view.new.kept) (sym c.in-NewView.is)
    (c.in_ok-note_new_view-in-NewView.ensures g n given are)

pub returns-in_default : goal.returns-in_default
returns-in_default c = λ g n given are.
    subst (λ (ts : List (List ℕ)). AreTexts (given ++ ts) c.args.kept.now)
    (sym (no_texts g c.args.body.now c.in_default.not-Update c.in_default.not-PrePrepare c.in_default.not-Report
    c.in_default.not-GiveOrdered c.in_default.not-NewView))
    (subst (λ (ts : List (List ℕ)). AreTexts ts c.args.kept.now) (sym (append-nil given)) are)
