use Rattle.intruder_words.proofs.Alike.{told-given}
use Rattle.intruder_words.proofs.telling.tell_given.Goals as goal

pub returns : goal.returns
returns c = λ question. (_, c.in_ok-take_rows.ensures.taken, told-given question c.args.rows.now)
