use Rattle.client_roles.proofs.Saying.{proxies_say_by_room, screens_say_by_room}
use Rattle.client_roles.proofs.laws.clients_say_by_room.Goals as goal

pub returns-clause-proxies : goal.returns-clause-proxies
returns-clause-proxies c = proxies_say_by_room

pub returns-clause-screens : goal.returns-clause-screens
returns-clause-screens c = screens_say_by_room
