use Rattle.std.proofs.Common.{Some, None}
use Rattle.master_answers.proofs.Gifting.{ask_found}
use Rattle.master_answers.proofs.ask.ask_in.Goals as goal

pub returns-in-Some : goal.returns-in-Some
returns-in-Some c = ask_found c.args.frame.now (Some c.in-Some.wanted) c.in-Some.ensures

pub returns-in-None : goal.returns-in-None
returns-in-None c = ask_found c.args.frame.now None c.in-None.ensures
