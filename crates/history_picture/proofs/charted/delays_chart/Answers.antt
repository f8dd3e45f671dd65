use Rattle.std.proofs.Common.{ap}
use Rattle.scenario_file.specs.Reading.{contents}
use Rattle.run_questions.specs.DelaysText.{watched_in}
use Rattle.history_picture.proofs.Marked.{few_cast}
use Rattle.history_picture.proofs.charted.delays_chart.Goals as goal

pub delays_of-requires : goal.delays_of-requires
unfolding watched_in
delays_of-requires c =
    few_cast (contents c.args.scenario.now) c.in_ok-watched.watched.cast c.requires.valid
    (ap (λ w. w.cast) c.in_ok-watched.ensures)
