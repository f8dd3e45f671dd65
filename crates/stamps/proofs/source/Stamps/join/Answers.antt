-- Only a seat that isn't the first can be put into another, and both are of this source. What either drew is
-- together what the joined seat drew.
use Rattle.std.proofs.Common.{◌≢◌, sym, ap, ◌∙◌, subst, arith}
use Rattle.stamps.specs.Seats.{Drawer, Source}
use Rattle.stamps.proofs.Keeping.{joins}
use Rattle.stamps.proofs.source.Stamps.join.Goals as goal

pub join_seat-requires : goal.join_seat-requires
join_seat-requires c =
    let of = ap (λ (d : Drawer). d.of) c.seat.view_is ∙ c.requires.of.0 ∙ sym c.self.view_is in
    let of_other = ap (λ (d : Drawer). d.of) c.other.view_is ∙ c.requires.of.1 ∙ sym c.self.view_is in
    let later : c.other.inside.number ≢ 0 =
    subst (λ (d : Drawer). d.number ≢ 0) (sym c.other.view_is) c.requires.later in (
      ap (λ (s : Source). s.table) of,
      ap (λ (s : Source). s.table) of_other,
      c.other.invariant.0,
      omega (arith, c.self.invariant.0),
      joins c.self.inside.table.shared.key c.seat.inside.seat.id c.other.inside.seat.id c.seat.inside.seat.me.0
          c.other.inside.seat.me.0
          (c.other.invariant.1 ∙ c.other.invariant.5 (omega (arith, later))),
    )
