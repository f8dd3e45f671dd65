use Rattle.client_roles.proofs.Wording.{client_words_fit, client_words_are_in_place}
use Rattle.client_roles.proofs.laws.client_words_fit.Goals as goal

pub returns-clause-fit : goal.returns-clause-fit
returns-clause-fit c = client_words_fit

pub returns-clause-placed : goal.returns-clause-placed
returns-clause-placed c = client_words_are_in_place
