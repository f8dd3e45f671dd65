-- An intruded master begins with nothing overheard, and a correct one as a node of the scenario with all leaves
-- of its key. Each is the role of an empty own list.
use Rattle.std.proofs.Common.{◌<◌, sym, ◌∙◌, arith}
use Rattle.scenario_file.specs.Reading.{contents}
use Rattle.world_rules.specs.Scenarios.{masters_in}
use Rattle.world_history.proofs.BenchAtFirst.{intruded_begins, master_begins, masters_are}
use Rattle.world_history.proofs.start.begin_master.Goals as goal

pub returns-then-has : goal.returns-then-has
returns-then-has c =
    let same = masters_are c.args.scenario.now in
    let low : c.args.master < masters_in (contents c.args.scenario.now) = omega arith in
    intruded_begins (contents c.args.scenario.now) c.args.master c.new.result low
    (sym c.has.ensures ∙ c.if-has.true) c.new.ensures

pub returns : goal.returns
returns c =
    let same = masters_are c.args.scenario.now in
    let low : c.args.master < masters_in (contents c.args.scenario.now) = omega arith in
    master_begins c.args.scenario.now c.args.master c.args.leaves c.in_ok-make.field-0 low
    (sym c.has.ensures ∙ c.if-has.false) c.requires.leaves
    c.in_ok-make.ensures.made c.in_ok-make.ensures.working
