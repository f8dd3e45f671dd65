-- Each kind of line does what the definition has it do. That the actors, frames and masters that it names are
-- there follows from the line's being one of this scenario.
use Rattle.std.proofs.Common.{◌≡◌, ℕ, List, ◌∷◌, ◌++◌, [], Ok, refl, ap, sym, ◌∙◌}
use Rattle.std.proofs.lemmas.Bool.{and_parts}
use Rattle.std.proofs.lemmas.Result.{err_from_is_err_and}
use Rattle.scenario_file.specs.Reading.{contents}
use Rattle.script_lines.specs.declared.step.Step.TheVariants as step
use Rattle.script_laws.specs.Accepted.{is_there, is_named, is_step_of}
use Rattle.run_scripts.specs.Making.{goes, other_than}
use Rattle.run_scripts.specs.Playing.{given_in}
use Rattle.run_scripts.proofs.DoneAndLeft.{wants}
use Rattle.run_scripts.proofs.DueStays.{emptied_play}
use Rattle.run_scripts.proofs.LostActors.{lost_play, goes_by, accepted_as}
use Rattle.run_scripts.proofs.steps.goes.Goals as goal

pub tick-requires-clause-there : goal.tick-requires-clause-there
unfolding is_step_of
tick-requires-clause-there c = accepted_as (contents c.args.world.now.scenario.now) c.args.step
    (step.Tick c.in-Tick.who c.in-Tick.times) c.in-Tick.is c.requires.accepted

pub returns-in-Tick : goal.returns-in-Tick
unfolding goes
returns-in-Tick c = λ m is. goes_by (given_in c.args.world.now) c.args.step (step.Tick c.in-Tick.who c.in-Tick.times)
    c.tick.result m _ c.in-Tick.is (c.tick.ensures m is)

pub returns-in-Flow : goal.returns-in-Flow
unfolding goes
returns-in-Flow c = λ m is. goes_by (given_in c.args.world.now) c.args.step (step.Flow c.in-Flow.rounds)
    c.flow.result m _ c.in-Flow.is (c.flow.ensures m is)

pub returns-in_err-lose-in-Lose : goal.returns-in_err-lose-in-Lose
returns-in_err-lose-in-Lose c = λ m is.
    let p = err_from_is_err_and c.from_residual.result c.from_residual.ensures.1 in
    wants (given_in c.args.world.now) c.from_residual.result p.0 _ _ p.1 p.2

pub returns-in_ok-lose-in-Lose : goal.returns-in_ok-lose-in-Lose
unfolding goes
returns-in_ok-lose-in-Lose c = λ m is. goes_by (given_in c.args.world.now) c.args.step (step.Lose c.in-Lose.actor)
    (Ok tt) m _ c.in-Lose.is (
      _,
      refl,
      lost_play (given_in c.args.world.now) m c.args.playing.now _ _ is refl refl
          refl (c.in_ok-lose-in-Lose.ensures
          ∙ ap (λ (lost : List ℕ). other_than c.in-Lose.actor lost ++ c.in-Lose.actor ∷ []) is.lost) refl,
    )

pub returns-in-Heal : goal.returns-in-Heal
unfolding goes
returns-in-Heal c = λ m is. goes_by (given_in c.args.world.now) c.args.step (step.Heal c.in-Heal.actor) (Ok tt)
    m _ c.in-Heal.is (
      _,
      refl,
      lost_play (given_in c.args.world.now) m c.args.playing.now _ _ is refl refl refl
          (c.heal.ensures ∙ ap (other_than c.in-Heal.actor) is.lost) refl,
    )

pub returns-in-Drop : goal.returns-in-Drop
unfolding goes
returns-in-Drop c = λ m is. goes_by (given_in c.args.world.now) c.args.step step.Drop (Ok tt) m _ c.in-Drop.is (
  _,
  refl,
  emptied_play (given_in c.args.world.now) m c.args.playing.now _ is refl refl refl
      c.new.ensures.items refl refl,
)

pub take-requires-clause-there : goal.take-requires-clause-there
unfolding is_step_of
take-requires-clause-there c =
    (and_parts (is_there (contents c.args.world.now.scenario.now) c.in-Take.actor)
    (is_named (contents c.args.world.now.scenario.now) c.in-Take.frame)
    (accepted_as (contents c.args.world.now.scenario.now) c.args.step (step.Take c.in-Take.actor c.in-Take.frame)
    c.in-Take.is c.requires.accepted)).0

pub take-requires-clause-named : goal.take-requires-clause-named
unfolding is_step_of
take-requires-clause-named c =
    (and_parts (is_there (contents c.args.world.now.scenario.now) c.in-Take.actor)
    (is_named (contents c.args.world.now.scenario.now) c.in-Take.frame)
    (accepted_as (contents c.args.world.now.scenario.now) c.args.step (step.Take c.in-Take.actor c.in-Take.frame)
    c.in-Take.is c.requires.accepted)).1

pub returns-in-Take : goal.returns-in-Take
unfolding goes
returns-in-Take c = λ m is. goes_by (given_in c.args.world.now) c.args.step
    (step.Take c.in-Take.actor c.in-Take.frame) c.take.result m _ c.in-Take.is (c.take.ensures m is)

pub cry_times-requires-clause-master : goal.cry_times-requires-clause-master
unfolding is_step_of
cry_times-requires-clause-master c = accepted_as (contents c.args.world.now.scenario.now) c.args.step
    (step.Cry c.in-Cry.master c.in-Cry.times) c.in-Cry.is c.requires.accepted

pub returns-in-Cry : goal.returns-in-Cry
unfolding goes
returns-in-Cry c = λ m is. goes_by (given_in c.args.world.now) c.args.step (step.Cry c.in-Cry.master c.in-Cry.times)
    c.cry_times.result m _ c.in-Cry.is (c.cry_times.ensures m is)

pub does-requires-clause-role : goal.does-requires-clause-role
unfolding is_step_of
does-requires-clause-role c = accepted_as (contents c.args.world.now.scenario.now) c.args.step
    (step.Command c.in-Command.screen c.in-Command.op) c.in-Command.is c.requires.accepted

pub returns-in-Command : goal.returns-in-Command
unfolding goes
returns-in-Command c = λ m is. goes_by (given_in c.args.world.now) c.args.step
    (step.Command c.in-Command.screen c.in-Command.op) c.does.result m _ c.in-Command.is (c.does.ensures m is)

pub does-requires-in-Field-clause-role : goal.does-requires-in-Field-clause-role
unfolding is_step_of
does-requires-in-Field-clause-role c = accepted_as (contents c.args.world.now.scenario.now) c.args.step
    (step.Field c.in-Field.proxy c.in-Field.area c.in-Field.place c.in-Field.value) c.in-Field.is c.requires.accepted

pub returns-in-Field : goal.returns-in-Field
unfolding goes
returns-in-Field c = λ m is. goes_by (given_in c.args.world.now) c.args.step
    (step.Field c.in-Field.proxy c.in-Field.area c.in-Field.place c.in-Field.value) c.does-in-Field.result m _
    c.in-Field.is (c.does-in-Field.ensures m is)

pub does-requires-in-Poll-clause-role : goal.does-requires-in-Poll-clause-role
unfolding is_step_of
does-requires-in-Poll-clause-role c = accepted_as (contents c.args.world.now.scenario.now) c.args.step
    (step.Poll c.in-Poll.proxy) c.in-Poll.is c.requires.accepted

pub returns-in-Poll : goal.returns-in-Poll
unfolding goes
returns-in-Poll c = λ m is. goes_by (given_in c.args.world.now) c.args.step (step.Poll c.in-Poll.proxy)
    c.does-in-Poll.result m _ c.in-Poll.is (c.does-in-Poll.ensures m is)

pub does-requires-in-Restart-clause-role : goal.does-requires-in-Restart-clause-role
unfolding is_step_of
does-requires-in-Restart-clause-role c = accepted_as (contents c.args.world.now.scenario.now) c.args.step
    (step.Restart c.in-Restart.actor) c.in-Restart.is c.requires.accepted

pub returns-in-Restart : goal.returns-in-Restart
unfolding goes
returns-in-Restart c = λ m is. goes_by (given_in c.args.world.now) c.args.step (step.Restart c.in-Restart.actor)
    c.does-in-Restart.result m _ c.in-Restart.is (c.does-in-Restart.ensures m is)
