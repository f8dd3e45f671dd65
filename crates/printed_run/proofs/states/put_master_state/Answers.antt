-- An intruded master is told as such. Of any other the bench holds view, executed updates and own list, which
-- are those of the definition, and whether it halted follows from that list.
use Rattle.std.proofs.Common.{◌≡◌, ◌++◌, ◌∙◌, List, ℕ, OnOk, ap, sym, subst}
use Rattle.std.specs.Prelude.{string_bytes}
use Rattle.scenario_file.specs.Reading.{contents}
use Rattle.printed_run.proofs.ShownLines.{master_put}
use Rattle.history_rules.specs.Keeping.{is_halted}
use Rattle.history_rules.specs.Events.{Entry}
use Rattle.world_rules.specs.Scenarios.{setup_of}
use Rattle.printed_run.proofs.states.put_master_state.Goals as goal

pub returns : goal.returns
returns c =
    subst (λ (line : List ℕ). OnOk c.put_master.result
    (string_bytes c.put_master.new.text ≡ string_bytes c.args.text.now ++ line))
    (master_put (contents c.args.scenario.now) c.args.bench.now c.cast-cast.result c.actor-master.result c.view.result
    c.executions.result.now c.is_halted-halted.result
    c.requires.bench c.requires.master c.actor-master.ensures c.cast-cast.ensures (sym c.if-has.false ∙ c.has.ensures)
    c.view.ensures c.executions.ensures
    (c.is_halted-halted.ensures
    ∙ ap (λ (es : List Entry). is_halted (setup_of (contents c.args.scenario.now)) c.actor-master.result es)
    c.list.ensures))
    c.put_master.ensures
