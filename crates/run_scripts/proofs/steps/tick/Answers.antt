-- The actors that a line has tick are those that the definition names, and each of them is there. So many times
-- over all of them tick.
use Rattle.std.proofs.Common.{◌≡◌, ℕ, List, true, ap, sym, ◌∙◌, subst}
use Rattle.std.proofs.lemmas.Result.{err_from_is_err_and}
use Rattle.std.specs.List.{list_all}
use Rattle.scenario_file.specs.Reading.{contents}
use Rattle.script_laws.specs.Accepted.{is_there}
use Rattle.run_scripts.specs.Making.{Making, all_tick, times_over}
use Rattle.run_scripts.specs.Playing.{given_in, IsMaking, Goes}
use Rattle.run_scripts.proofs.DoneAndLeft.{wants}
use Rattle.run_scripts.proofs.PlayKeeps.{tickers_there}
use Rattle.run_scripts.proofs.steps.tick.Goals as goal

pub tick_times-requires-clause-there : goal.tick_times-requires-clause-there
tick_times-requires-clause-there c =
    ap (list_all (is_there (contents c.args.world.now.scenario.now))) (c.deref.ensures.value ∙ c.in_ok-actors.ensures)
    ∙ tickers_there (contents c.args.world.now.scenario.now) c.args.who c.requires.there

pub returns-in_err-actors : goal.returns-in_err-actors
returns-in_err-actors c = λ m is.
    let p = err_from_is_err_and c.from_residual.result c.from_residual.ensures.1 in
    wants (given_in c.args.world.now) c.from_residual.result p.0 _ c.args.playing.now p.1 p.2

pub returns : goal.returns
returns c = λ m is.
    subst (λ (actors : List ℕ). Goes (given_in c.args.world.now) c.tick_times.result
    (times_over c.args.times (all_tick (given_in c.args.world.now) actors) m) c.tick_times.new.playing)
    (c.deref.ensures.value ∙ c.in_ok-actors.ensures) (c.tick_times.ensures m is)
