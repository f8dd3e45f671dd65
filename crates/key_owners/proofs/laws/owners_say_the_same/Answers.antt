use Rattle.key_owners.proofs.Owners.{owners_say_the_same}
use Rattle.key_owners.proofs.laws.owners_say_the_same.Goals as goal

pub returns : goal.returns
returns c = owners_say_the_same
