-- Where it isn't so nothing is raised, and no figure is below 0.
use Rattle.std.proofs.Common.{cond, max, get_or, sym, ◌∙◌, ap}
use Rattle.master_answers.proofs.Lacked.{raised_none}
use Rattle.master_answers.proofs.lacking_words.raise_if.Goals as goal

pub returns-then-is_so : goal.returns-then-is_so
returns-then-is_so c j lt = c.raise.ensures j lt
    ∙ ap (λ b. max (get_or c.args.reach.now.numbers j 0) (cond b (get_or c.args.other.now.numbers j 0) 0))
    (sym c.if-is_so.true)

pub returns-else-is_so : goal.returns-else-is_so
returns-else-is_so c j lt = raised_none (get_or c.args.reach.now.numbers j 0)
    ∙ ap (λ b. max (get_or c.args.reach.now.numbers j 0) (cond b (get_or c.args.other.now.numbers j 0) 0))
    (sym c.if-is_so.false)
