-- The first seat counts those made, so the next one's number is new, and there are no more than the source has
-- seats. With all of them made it answers none and nothing changes.
use Rattle.std.proofs.Common.{◌≡◌, sym, ap, ◌∙◌, subst, arith}
use Rattle.stamps.specs.Seats.{Drawer, Source}
use Rattle.stamps.proofs.Keeping.{splits}
use Rattle.stamps.proofs.source.Stamps.split.Goals as goal

pub split_seat-requires : goal.split_seat-requires
split_seat-requires c =
    let of = ap (λ (d : Drawer). d.of) c.seat.view_is ∙ c.requires.of ∙ sym c.self.view_is in
    let first : c.seat.inside.number ≡ 0 = subst (λ (d : Drawer). d.number ≡ 0) (sym c.seat.view_is) c.requires.first in
    let made = c.seat.invariant.1 in
    let most = c.seat.invariant.2 in
    let counts = c.seat.invariant.4 first in (
      ap (λ (s : Source). s.table) of,
      omega (arith, c.self.invariant.0),
      splits c.self.inside.table.shared.key c.seat.inside.seat.id c.seat.inside.seat.me.0 (omega (arith, made, counts))
          (omega (arith, made, most, c.if-seat.false, ap (λ (s : Source). s.seats) of)),
    )
