use Rattle.printed_laws.proofs.RunsReadBack.{texts_tell_histories}
use Rattle.printed_laws.proofs.texts_tell_histories.Goals as goal

pub returns : goal.returns
returns c = texts_tell_histories
