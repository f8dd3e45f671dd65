use Rattle.printed_laws.proofs.AlikeAreTheSame.{alike_come_to_the_same}
use Rattle.printed_laws.proofs.alike_come_to_the_same.Goals as goal

pub returns : goal.returns
returns c = alike_come_to_the_same
