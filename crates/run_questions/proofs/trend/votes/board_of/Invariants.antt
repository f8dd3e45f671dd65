-- The actors so far have voted.
use Rattle.std.proofs.Common.{◌≡◌, take}
use Rattle.std.specs.List.{filter_map}
use Rattle.scenario_file.specs.Reading.{contents}
use Rattle.run_questions.specs.TrendAnswers.{vote_of}
use Rattle.run_questions.proofs.VotesGathered.{with_votes}
use Rattle.run_questions.proofs.trend.votes.board_of.Given as goal

abbrev pub invariant-loop-bench : goal.invariant-loop-bench
invariant-loop-bench l =
    l.board ≡ with_votes l.scenario.sizes.n l.scenario.sizes.f
    (filter_map (vote_of (contents l.scenario) l.question.point l.question.first l.question.last)
    (take l.bench-index l.benches))
