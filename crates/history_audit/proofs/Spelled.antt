-- What is spelled: the reports of a new view, and the parts of a frame that stands.
use Rattle.std.proofs.Common.{◌≡◌, true, ◌&&◌, List, [], ◌∷◌, map, refl, ◌∙◌, arith}
use Rattle.std.proofs.lemmas.Bool.{and_parts, and_from}
use Rattle.std.proofs.lemmas.List.Folds.{list_all-append}
use Rattle.std.specs.List.{list_all}
use Rattle.message_types.specs.declared.signed.Signed.{Signed}
use Rattle.message_types.specs.declared.ordering.Certificate.{Certificate}
use Rattle.message_types.specs.declared.views.Report.{Report}
use Rattle.message_types.specs.declared.views.NewView.{NewView}
use Rattle.message_types.specs.declared.updates.Update.{Update}
use Rattle.message_types.specs.declared.ordering.PrePrepare.{PrePrepare}
use Rattle.message_types.specs.declared.reconciling.GiveOrdered.{GiveOrdered}
use Rattle.message_types.specs.declared.body.Body.{Body}
use Rattle.message_types.specs.declared.body.Body.TheVariants as body
use Rattle.message_types.specs.Parts.{parts, inside}
use Rattle.message_types.specs.Spelling.{always_fits, frames_fit, rows_fit, signature_fits, certificate_fits}
use Rattle.message_types.specs.Spelling.{report_fits, body_fits, has_spelling}
use Rattle.protocol_rules.specs.Group.{Group}
use Rattle.protocol_rules.specs.Plans.{certificates_of}
use Rattle.history_rules.specs.Audit.{texts_of}
use Rattle.view_change.specs.Planning.{is_spelled, are_spelled}
use Rattle.checked_frames.proofs.InsideLaws.{AreFew, inside_few, spelled_body}

certificates_spelled : (cs : List Certificate) → list_all certificate_fits cs ≡ true → list_all is_spelled cs ≡ true
certificates_spelled [] e = refl
certificates_spelled (c ∷ cs) e =
    let both = and_parts (certificate_fits c) (list_all certificate_fits cs) e in
    and_from (is_spelled c) (list_all is_spelled cs) (and_parts (rows_fit c.rows) (frames_fit always_fits c.prepares)
    both.0).0 (certificates_spelled cs both.1)

reports_spelled : (frames : List (Signed Report)) → list_all (λ f. report_fits f.body && signature_fits f)
    frames ≡ true → are_spelled (map (λ f. f.body) frames) ≡ true
reports_spelled [] e = refl
reports_spelled (f ∷ frames) e =
    let both = and_parts (report_fits f.body && signature_fits f)
    (list_all (λ z. report_fits z.body && signature_fits z) frames) e in
    let report = (and_parts (report_fits f.body) (signature_fits f) both.0).0 in
    let all = (and_parts _ (list_all certificate_fits f.body.certificates) report).1 in
    list_all-append is_spelled f.body.certificates (certificates_of (map (λ z. z.body) frames))
    ∙ and_from (list_all is_spelled f.body.certificates) (are_spelled (map (λ z. z.body) frames))
    (certificates_spelled f.body.certificates all) (reports_spelled frames both.1)

pub new_view_spelled : (b : NewView) → body_fits (body.NewView b) ≡ true →
    are_spelled (map (λ f. f.body) b.reports) ≡ true
new_view_spelled b e = reports_spelled b.reports
    (and_parts _ (list_all (λ f. report_fits f.body && signature_fits f) b.reports) e).1

-- a frame and the frames inside it
pub parts_few : (frame : Signed Body) → has_spelling frame ≡ true → AreFew 3347 (parts frame)
parts_few frame spelled =
    let rest = inside_few frame.body (spelled_body frame spelled) in
    let few = rest.few in
    record {
      each = and_from (body_fits frame.body) (list_all (λ f. body_fits f.body) (inside frame.body))
          (spelled_body frame spelled) rest.each;
      few = omega arith;
    }

-- a body of any other kind holds no text that is digested
pub no_texts : (g : Group) (b : Body) → ((x : Update) → b ≡ body.Update x → ⊥) →
    ((x : PrePrepare) → b ≡ body.PrePrepare x → ⊥) → ((x : Report) → b ≡ body.Report x → ⊥)
    → ((x : GiveOrdered) → b ≡ body.GiveOrdered x → ⊥) → ((x : NewView) → b ≡ body.NewView x → ⊥) → texts_of g b ≡ []
no_texts g (body.Update x) update proposal report given view = absurd (update x refl)
no_texts g (body.PrePrepare x) update proposal report given view = absurd (proposal x refl)
no_texts g (body.Report x) update proposal report given view = absurd (report x refl)
no_texts g (body.GiveOrdered x) update proposal report given view = absurd (given x refl)
no_texts g (body.NewView x) update proposal report given view = absurd (view x refl)
no_texts g (body.PoRequest x) update proposal report given view = refl
no_texts g (body.PoAck x) update proposal report given view = refl
no_texts g (body.PoSummary x) update proposal report given view = refl
no_texts g (body.Prepare x) update proposal report given view = refl
no_texts g (body.Commit x) update proposal report given view = refl
no_texts g (body.Ping x) update proposal report given view = refl
no_texts g (body.Pong x) update proposal report given view = refl
no_texts g (body.Rtt x) update proposal report given view = refl
no_texts g (body.TatReport x) update proposal report given view = refl
no_texts g (body.TatBound x) update proposal report given view = refl
no_texts g (body.Suspect x) update proposal report given view = refl
no_texts g (body.AskUpdate x) update proposal report given view = refl
no_texts g (body.Give x) update proposal report given view = refl
no_texts g (body.AskOrder x) update proposal report given view = refl
no_texts g (body.Voucher x) update proposal report given view = refl
no_texts g (body.Mark x) update proposal report given view = refl
