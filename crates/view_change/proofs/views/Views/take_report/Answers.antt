-- Only the first report of a master for a view counts. It is put in at its own place, so that all others stay
-- as they were.
use Rattle.std.proofs.Common.{◌&&◌, Some, nat_eq, ap, sym, ◌∙◌, if◌then◌else◌}
use Rattle.std.specs.Option.{is_some}
use Rattle.message_types.specs.declared.signed.Signed.{Signed}
use Rattle.message_types.specs.declared.views.Report.{Report}
use Rattle.view_change.specs.ViewState.{ViewState, at_place}
use Rattle.view_change.proofs.Maps.{at_place-is, place_put}
use Rattle.view_change.proofs.Known.{report-passed, report-taken}
use Rattle.view_change.proofs.views.Views.take_report.Goals as goal

pub returns-then-contains_key-clause-ok : goal.returns-then-contains_key-clause-ok
returns-then-contains_key-clause-ok c = λ g me known said is.
    report-passed g me c.args.self.now known said c.args.frame.now
    (ap (λ (v : ViewState). is_some (at_place v.reports c.args.frame.now.body.v c.args.frame.now.signer))
    (sym c.self.view_is)
    ∙ sym (ap is_some (at_place-is c.self.inside.reports c.args.frame.now.body.v c.args.frame.now.signer))
    ∙ sym c.contains_key.ensures ∙ c.if-contains_key.true)
    is

pub returns-clause-ok : goal.returns-clause-ok
returns-clause-ok c = λ g me known said is.
    report-taken g me c.args.self.now _ known said c.args.frame.now
    (ap (λ (v : ViewState). is_some (at_place v.reports c.args.frame.now.body.v c.args.frame.now.signer))
    (sym c.self.view_is)
    ∙ sym (ap is_some (at_place-is c.self.inside.reports c.args.frame.now.body.v c.args.frame.now.signer))
    ∙ sym c.contains_key.ensures ∙ c.if-contains_key.false)
    (ap (λ (v : ViewState). v.group) c.self.view_is) (ap (λ (v : ViewState). v.me) c.self.view_is)
    (ap (λ (v : ViewState). v.view) c.self.view_is) (ap (λ (v : ViewState). v.suspects) c.self.view_is)
    (λ w j.
    place_put c.self.inside.reports c.insert.new.self c.args.frame.now.body.v c.args.frame.now.signer
    c.in_ok-copy.copy c.in_ok-insert.ensures.updates w j
    ∙ ap (λ (f : Signed Report). if nat_eq c.args.frame.now.body.v w
    && nat_eq c.args.frame.now.signer j then Some f else at_place c.self.inside.reports.entries w j)
    c.in_ok-copy.ensures
    ∙ ap (λ (v : ViewState). if nat_eq c.args.frame.now.body.v w
    && nat_eq c.args.frame.now.signer j then Some c.args.frame.now else at_place v.reports w j) c.self.view_is)
    (ap (λ (v : ViewState). v.plans) c.self.view_is) (ap (λ (v : ViewState). v.reported) c.self.view_is)
    (ap (λ (v : ViewState). v.opened) c.self.view_is)
    is
