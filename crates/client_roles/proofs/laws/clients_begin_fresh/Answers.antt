use Rattle.client_roles.proofs.Going.{proxies_begin_fresh, screens_begin_fresh}
use Rattle.client_roles.proofs.laws.clients_begin_fresh.Goals as goal

pub returns-clause-proxies : goal.returns-clause-proxies
returns-clause-proxies c = proxies_begin_fresh

pub returns-clause-screens : goal.returns-clause-screens
returns-clause-screens c = screens_begin_fresh
