use Rattle.client_roles.proofs.Counting.{updates_stay_few, commands_stay_few}
use Rattle.client_roles.proofs.laws.counts_stay_few.Goals as goal

pub returns-clause-updates : goal.returns-clause-updates
returns-clause-updates c = updates_stay_few

pub returns-clause-commands : goal.returns-clause-commands
returns-clause-commands c = commands_stay_few
