-- A report brings what is known of the global order.
use Rattle.std.proofs.Common.{◌≡◌, ℕ, List, ◌++◌, ◌∙◌, ap}
use Rattle.message_types.specs.declared.signed.Signed.{Signed}
use Rattle.message_types.specs.declared.ordering.Mark.{Mark}
use Rattle.message_types.specs.declared.ordering.Certificate.{Certificate}
use Rattle.message_types.specs.declared.body.Body.{Body}
use Rattle.protocol_rules.specs.declared.facts.OrderFact.{OrderFact}
use Rattle.protocol_rules.specs.Group.{Group}
use Rattle.protocol_rules.specs.Order.{stable, marks_for, certificates_below}
use Rattle.protocol_rules.specs.Views.{report_due, new_view_due}

pub view_alike : (g : Group) (me : ℕ) (known : List (Signed Body)) (said : List Body)
    (facts : List OrderFact) (v w : ℕ) → v ≡ w
    → report_due g known said (stable g facts) (marks_for g facts (stable g facts)) (certificates_below g facts v)
    ++ new_view_due g me known said
    ≡ report_due g known said (stable g facts) (marks_for g facts (stable g facts)) (certificates_below g facts w)
    ++ new_view_due g me known said
view_alike g me known said facts v w same =
    ap (λ x. report_due g known said (stable g facts) (marks_for g facts (stable g facts))
    (certificates_below g facts x) ++ new_view_due g me known said) same

-- so do a base, marks and certificates that are those of the rules
pub report_alike : (g : Group) (me : ℕ) (known : List (Signed Body)) (said : List Body) (facts : List OrderFact)
    (v base : ℕ) (marks : List (Signed Mark)) (certificates : List Certificate)
    → base ≡ stable g facts → marks ≡ marks_for g facts (stable g facts) → certificates ≡ certificates_below g facts v
    → report_due g known said base marks certificates ++ new_view_due g me known said
    ≡ report_due g known said (stable g facts) (marks_for g facts (stable g facts)) (certificates_below g facts v)
    ++ new_view_due g me known said
report_alike g me known said facts v base marks certificates from shown brought =
    ap (λ b. report_due g known said b marks certificates ++ new_view_due g me known said) from
    ∙ ap (λ ms. report_due g known said (stable g facts) ms certificates ++ new_view_due g me known said) shown
    ∙ ap (λ cs. report_due g known said (stable g facts) (marks_for g facts (stable g facts)) cs
    ++ new_view_due g me known said) brought
