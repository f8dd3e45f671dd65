-- The limits as numbers, for steps of arithmetic.
use Rattle.std.proofs.Common.{◌≡◌, refl}
use Rattle.protocol_rules.specs.Group.{most_number, most_view}

pub most_number-is : most_number ≡ 4096
unfolding most_number
most_number-is = refl

pub most_view-is : most_view ≡ 255
unfolding most_view
most_view-is = refl
