-- Each bench's vote is that of its master's executed updates, or none where it is too short or no correct
-- master's. The board has the votes of the benches so far.
use Rattle.std.proofs.Common.{◌∙◌, ap}
use Rattle.scenario_file.specs.Reading.{contents}
use Rattle.run_questions.specs.TrendAnswers.{vote_of}
use Rattle.run_questions.proofs.VotesGathered.{votes_more}
use Rattle.run_questions.proofs.BenchesAnswer.{may_be_asked, vote_is}
use Rattle.run_questions.proofs.trend.votes.board_of.Goals as goal

pub ask-requires-clause-master : goal.ask-requires-clause-master
ask-requires-clause-master c =
    may_be_asked (contents c.args.scenario.now) c.bench-item.result _ c.actor.result c.loop-bench.board.n
    (ap (λ b. b.world) c.bench-item.is
    ∙ c.requires.worlds c.loop-bench.bench-index c.bench-item.result c.loop-bench-test.true)
    c.executions-executed.ensures c.actor.ensures (ap (λ t. t.n) c.loop-bench.invariant ∙ c.args.scenario.now.sizes.all)

pub loop-bench-preserved : goal.loop-bench-preserved
loop-bench-preserved c =
    votes_more (vote_of (contents c.args.scenario.now) c.args.question.point c.args.question.first
    c.args.question.last) c.args.benches.now c.loop-bench.bench-index c.bench-item.result
    c.args.scenario.now.sizes.n c.args.scenario.now.sizes.f c.loop-bench.board c.ask.new.board _
    c.loop-bench-test.true c.bench-item.is c.loop-bench.invariant
    (vote_is (contents c.args.scenario.now) c.args.question.point c.args.question.first c.args.question.last
    c.actor.result c.bench-item.result _ c.actor.ensures c.executions-executed.ensures)
    c.in_ok-ask.ensures.board
