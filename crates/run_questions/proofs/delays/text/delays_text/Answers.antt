use Rattle.std.proofs.Common.{ap}
use Rattle.scenario_file.specs.Reading.{contents}
use Rattle.run_questions.specs.DelaysText.{watched_in}
use Rattle.run_questions.proofs.Watched.{few_cast}
use Rattle.run_questions.proofs.delays.text.delays_text.Goals as goal

pub delays_of-requires : goal.delays_of-requires
unfolding watched_in
delays_of-requires c =
    few_cast (contents c.args.scenario.now) _ c.requires.valid (ap (λ w. w.cast) c.in_ok-watched.ensures)
