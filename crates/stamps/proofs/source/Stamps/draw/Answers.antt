-- A draw adds one to the shared word and answers what it was, so it is above all that this seat drew before and
-- nobody else's. A seat that wasn't joined may draw.
use Rattle.std.proofs.Common.{◌≡◌, ◌<◌, ◌^◌, ◌∷◌, [], length, sym, ap, ◌∙◌, subst, arith}
use Rattle.stamps.specs.Seats.{Drawer, Source}
use Rattle.stamps.proofs.Keeping.{draws}
use Rattle.stamps.proofs.source.Stamps.draw.Goals as goal

pub fetch_add-requires : goal.fetch_add-requires
fetch_add-requires c =
    let of = ap (λ (d : Drawer). d.of) c.seat.view_is ∙ c.requires.of ∙ sym c.self.view_is in (
      ap (λ (s : Source). s.table) of,
      omega (arith, c.self.invariant.0),
      draws c.self.inside.table.shared.key c.self.inside.table.shared.table_id.slots c.seat.inside.seat.id
          c.seat.inside.seat.me c.self.invariant.2
          (subst (λ (d : Drawer). length d.drawn < 2 ^ 32) (sym c.seat.view_is) c.requires.few)
          (ap length (subst (λ (d : Drawer). d.numbers ≡ d.number ∷ []) (sym c.seat.view_is) c.requires.alone)),
    )
