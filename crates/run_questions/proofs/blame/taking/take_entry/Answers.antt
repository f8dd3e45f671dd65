use Rattle.run_questions.proofs.BlameGrows.{nothing_taken}
use Rattle.run_questions.proofs.blame.taking.take_entry.Goals as goal

pub returns-in_default : goal.returns-in_default
returns-in_default c = λ n words has. nothing_taken n words c.args.entry.now c.args.blame.now c.in_default.not-Took has
