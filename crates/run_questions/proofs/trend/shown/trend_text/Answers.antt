-- How many updates more than f masters executed decides whether the question is refused. Else the votes of the
-- masters' own trends are tallied, and the answer shown is the definition's for this history.
use Rattle.std.proofs.Common.{ℕ, Err, sym, ◌∙◌, ap}
use Rattle.scenario_file.specs.Reading.{contents}
use Rattle.trend_archive.specs.Trends.{refusal}
use Rattle.run_questions.proofs.VotesGathered.{answered_is, gives_fault, gives_same, refused_is}
use Rattle.run_questions.proofs.BenchesAnswer.{count_is, tallied, worlds_are}
use Rattle.run_questions.proofs.trend.shown.trend_text.Goals as goal

pub board_of-requires-clause-worlds : goal.board_of-requires-clause-worlds
board_of-requires-clause-worlds c =
    worlds_are (contents c.args.scenario.now) c.requires.benches.0 c.args.benches.now c.requires.benches.1

pub returns-in-Some : goal.returns-in-Some
returns-in-Some c = λ history are.
    gives_fault _ c.from.result
    (refused_is (contents c.args.scenario.now) history c.args.point c.args.first c.args.last
    c.in_ok-executed.executed c.in-Some.answer
    (count_is (contents c.args.scenario.now) history c.args.benches.now c.in_ok-executed.executed
    are c.in_ok-executed.ensures)
    (ap (λ (n : ℕ). refusal n c.in_ok-executed.executed c.args.point c.args.first c.args.last)
    (sym c.len-points.ensures) ∙ sym c.refusal.ensures ∙ c.in-Some.is)
    ∙ ap (λ f. Err f) (sym c.from.ensures))

pub returns : goal.returns
returns c = λ history are.
    gives_same _ _ c.shown_text.result
    (answered_is (contents c.args.scenario.now) history c.args.point c.args.first c.args.last
    c.in_ok-executed.executed c.in_ok-board.board
    (count_is (contents c.args.scenario.now) history c.args.benches.now c.in_ok-executed.executed
    are c.in_ok-executed.ensures)
    (ap (λ (n : ℕ). refusal n c.in_ok-executed.executed c.args.point c.args.first c.args.last)
    (sym c.len-points.ensures) ∙ sym c.refusal.ensures ∙ c.in_default.is)
    (tallied (contents c.args.scenario.now) history c.args.point c.args.first c.args.last c.args.scenario.now.sizes.n
    c.args.benches.now c.in_ok-board.board
    c.args.scenario.now.sizes.all are c.in_ok-board.ensures.board))
    c.shown_text.ensures
