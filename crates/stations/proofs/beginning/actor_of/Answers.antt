-- A correct actor that was read by its name is there.
use Rattle.std.proofs.Common.{subst}
use Rattle.scenario_file.specs.Reading.{contents}
use Rattle.script_grammar.specs.Faults.{Answers}
use Rattle.script_grammar.specs.Names.{Who, correct_in}
use Rattle.stations.proofs.Named.{named_there, named_correct}
use Rattle.stations.proofs.beginning.actor_of.Goals as goal

pub returns-clause-there : goal.returns-clause-there
returns-clause-there c =
    named_there (contents c.args.scenario.now) c.args.name.now c.correct.result
    (subst (λ (w : Who). Answers c.correct.result (correct_in w c.args.name.now)) c.of.ensures c.correct.ensures)

pub returns-clause-correct : goal.returns-clause-correct
returns-clause-correct c =
    named_correct (contents c.args.scenario.now) c.args.name.now c.correct.result
    (subst (λ (w : Who). Answers c.correct.result (correct_in w c.args.name.now)) c.of.ensures c.correct.ensures)
