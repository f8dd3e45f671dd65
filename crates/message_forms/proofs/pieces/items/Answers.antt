-- Each item is read after the key of the one before, so the reader and the list so far are those of the
-- definition's items, and the first fault ends both alike.
use Rattle.std.proofs.lemmas.Result.{err_from_is_err_and}
use Rattle.message_forms.proofs.Walking.{keeps, fails}
use Rattle.message_forms.proofs.pieces.items.Goals as goal

pub returns-in_err-item : goal.returns-in_err-item
returns-in_err-item g c =
    let p = err_from_is_err_and c.from_residual.result c.from_residual.ensures.1 in
    rw (p.1, p.2)
    (fails g.T.Listed.item g.T.Listed.key _ _ _ _ _ _ _ c.loop-place-test.true c.loop-place.invariant
    c.in_err-item.ensures)

pub loop-place-preserved : goal.loop-place-preserved
loop-place-preserved g c =
    rw (c.in_ok-push.ensures.ok, c.key_of-before.ensures)
    (keeps g.T.Listed.item g.T.Listed.key _ _ _ _ _ _ _ _ c.loop-place-test.true c.in_ok-item.ensures
    c.loop-place.invariant)
