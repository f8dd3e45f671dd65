use Rattle.std.proofs.Common.{◌∙◌, ◌-◌, slice_index}
use Rattle.lane_chains.proofs.LanesOneByOne.{lanes_with_two}
use Rattle.lane_chains.proofs.RotationByShifts.{rotation_is}
use Rattle.lane_chains.proofs.lanes.rotated.Goals as goal

pub returns : goal.returns
returns c j lt =
    lanes_with_two _ _ _ c.args.x c.args.k (32 - c.args.k) c.fits-x.0 j lt
    ∙ rotation_is (slice_index c.args.x j) c.args.k c.requires.0 c.requires.1
