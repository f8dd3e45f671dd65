use Rattle.std.proofs.Common.{refl}
use Rattle.lacking.proofs.Coming.{none_come}
use Rattle.lacking.proofs.furthest.Furthest.new.Goals as goal

pub returns : goal.returns
returns c clients = record { masters = refl; intruded = refl; numbers = λ j lt. none_come 14 j }
