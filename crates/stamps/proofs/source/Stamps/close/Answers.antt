-- At the end the table's word is how many numbers were drawn, and all draws were below it. Where all seats were
-- put into one, each number has been drawn by one of them, once.
use Rattle.std.proofs.Common.{◌<◌, ℕ, sym, ◌∙◌, subst, All, arith}
use Rattle.stamps.specs.Seats.{Drawer, IsWhole, IsEachOnce}
use Rattle.stamps.proofs.Closing.{closes_below, closes_draws, closes_numbers}
use Rattle.stamps.proofs.source.Stamps.close.Goals as goal

pub returns-clause-below : goal.returns-clause-below
returns-clause-below c =
    subst (λ (d : Drawer). All (λ x. x < c.word-drawn.result) d.drawn) c.seat.view_is
    (closes_below c.self.inside.table.shared.key c.seat.inside.seat.id c.word-drawn.result c.seat.inside.seat.me.0 _ _
    c.close_with-closed.ensures.values.2 c.word-drawn.ensures)

pub returns-clause-draws : goal.returns-clause-draws
returns-clause-draws c =
    subst (λ (d : Drawer). IsWhole d → IsEachOnce c.word-drawn.result d.drawn) c.seat.view_is
    (λ whole. closes_draws c.self.inside.table.shared.key c.seat.inside.seat.id c.word-drawn.result
    c.seat.inside.seat.me.0 _ _ c.close_with-closed.ensures.values.2 c.word-drawn.ensures
    (whole ∙ sym c.seat.invariant.1) (omega (arith, whole, c.seat.invariant.1, c.seat.invariant.3)))

pub returns-clause-numbers : goal.returns-clause-numbers
returns-clause-numbers c =
    subst (λ (d : Drawer). IsWhole d → IsEachOnce d.made d.numbers) c.seat.view_is
    (λ whole. subst (λ (n : ℕ). IsEachOnce n c.seat.inside.seat.me.0.numbers) c.seat.invariant.1
    (closes_numbers c.self.inside.table.shared.key c.seat.inside.seat.id c.word-drawn.result c.seat.inside.seat.me.0 _
    _ c.close_with-closed.ensures.values.2 c.word-drawn.ensures
    (whole ∙ sym c.seat.invariant.1) (omega (arith, whole, c.seat.invariant.1, c.seat.invariant.3))))
