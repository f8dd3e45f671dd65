-- The tally of no votes has no entries and nothing done.
use Rattle.std.proofs.Common.{refl}
use Rattle.vouched_orders.proofs.TallyLaws.{tally-none}
use Rattle.vouched_orders.proofs.vouched.Vouched.new.Goals as goal

pub returns : goal.returns
returns c = record {
  masters = refl;
  intruded = refl;
  tally = tally-none c.args.sizes.now.n c.args.sizes.now.f c.new.result c.new-2.result c.new.ensures.empty
      c.new-2.ensures.empty;
}
