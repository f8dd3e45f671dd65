use Rattle.printed_laws.proofs.RunsReadBack.{printed_runs_read_back}
use Rattle.printed_laws.proofs.printed_runs_read_back.Goals as goal

pub returns : goal.returns
returns c = printed_runs_read_back
