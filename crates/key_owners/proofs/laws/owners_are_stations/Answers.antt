use Rattle.key_owners.proofs.Owners.{owners_are_stations}
use Rattle.key_owners.proofs.laws.owners_are_stations.Goals as goal

pub returns : goal.returns
returns c = owners_are_stations
