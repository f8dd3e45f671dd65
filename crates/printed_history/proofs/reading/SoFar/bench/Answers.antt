-- Each actor at hand has its bench, in the order of their numbers.
use Rattle.std.proofs.Common.{ℕ, ◌<◌, length, sym, subst, arith}
use Rattle.printed_history.specs.Reading.{contents_in}
use Rattle.printed_history.proofs.AtHand.{place_within, its_bench}
use Rattle.printed_history.proofs.reading.SoFar.bench.Goals as goal

pub index-requires : goal.index-requires
index-requires c =
    let there : c.place-place.result < length c.args.self.now.benches.items =
    subst (λ (p : ℕ). p < length c.args.self.now.benches.items) (sym c.place-place.ensures)
    (place_within (contents_in c.args.self.now) c.args.self.now.history c.args.self.now.only c.args.actor
    c.args.self.now.benches.items c.requires.there c.requires.at_hand.are_benches) in
    omega (arith, c.args.self.now.benches.ok)

pub returns : goal.returns
returns c =
    its_bench c.args.self.now c.args.actor c.place-place.result c.index.result.now c.requires.at_hand c.requires.there
    (record { own = c.requires.own; here = c.place-place.ensures; found = c.index.ensures })
