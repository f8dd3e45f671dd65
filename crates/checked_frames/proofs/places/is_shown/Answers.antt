use Rattle.std.proofs.Common.{◌≤◌, arith}
use Rattle.protocol_rules.specs.Group.{group_of}
use Rattle.protocol_rules.proofs.PlacedRows.{rows_in_place_fit}
use Rattle.checked_frames.proofs.places.is_shown.Goals as goal

pub rows_digest-digest-requires : goal.rows_digest-digest-requires
rows_digest-digest-requires c =
    let sizes = c.args.sizes.now in
    let group = sizes.group in
    let all = sizes.all in
    let few : sizes.n ≤ 14 = let f = group.at_most_three_intruded in let k = group.at_most_two_away in omega arith in
    rows_in_place_fit (group_of sizes 0) c.args.certificate.now.rows few c.requires
