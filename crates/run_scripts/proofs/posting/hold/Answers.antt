use Rattle.std.proofs.Common.{◌≡◌, arith}
use Rattle.run_scripts.proofs.FramesHeld.{held_some, held_none}
use Rattle.run_scripts.proofs.posting.hold.Goals as goal

pub returns-in_ok-from_standing-in-Ok : goal.returns-in_ok-from_standing-in-Ok
returns-in_ok-from_standing-in-Ok c = λ w stand.
    held_some w c.args.stamp c.args.place c.in-Ok.place c.args.frame c.in_ok-from_standing-in-Ok.field-0
    c.in-Ok.ensures.1 c.in-Ok.ensures.0 c.in_ok-from_standing-in-Ok.ensures stand

pub returns-in-Err : goal.returns-in-Err
returns-in-Err c = λ w stand. held_none w c.args.stamp c.args.place c.args.frame c.in-Err.ensures
