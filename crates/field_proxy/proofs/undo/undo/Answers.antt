-- Each turn puts back what the log's last item held: undoing what is left of the log, from the device as it is
-- now, always gives what undoing all of it gave at the beginning.
use Rattle.std.proofs.Common.{arith, ap, sym, ◌∙◌, ◌≡◌, []}
use Rattle.std.proofs.lemmas.List.{nil_from_length}
use Rattle.field_proxy.specs.Undoing.{undone}
use Rattle.field_proxy.proofs.PlaceLaws.{undone-push}
use Rattle.field_proxy.proofs.undo.undo.Goals as goal

pub loop-held-preserved : goal.loop-held-preserved
loop-held-preserved c =
    ap (undone c.pop.new.self.items) c.put_back.ensures
    ∙ sym (undone-push c.pop.new.self.items c.in-Some.held c.loop-held.device)
    ∙ ap (λ log. undone log c.loop-held.device) (sym c.in-Some.ensures.items)
    ∙ c.loop-held.invariant

pub returns : goal.returns
unfolding undone
returns c =
    let none : c.loop-held.log.items ≡ [] =
    nil_from_length c.loop-held.log.items (omega (arith, c.in_default.ensures.cases.0)) in
    sym (ap (λ log. undone log c.loop-held.device) none) ∙ c.loop-held.invariant
