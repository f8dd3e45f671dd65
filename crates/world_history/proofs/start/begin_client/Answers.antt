-- A client whose number is below that of the devices begins as its device's proxy, and any other as a screen.
use Rattle.std.proofs.Common.{arith}
use Rattle.world_history.proofs.BenchAtFirst.{scenario_proxy_begins, scenario_screen_begins}
use Rattle.world_history.proofs.start.begin_client.Goals as goal

pub make-requires : goal.make-requires
make-requires c = record { few = c.requires.valid.plant.points; there = omega arith }

pub returns-then-client-len : goal.returns-then-client-len
returns-then-client-len c = scenario_proxy_begins c.args.scenario.now c.args.client c.in_ok-make.field-0 (omega arith)
    c.in_ok-make.ensures.made

pub returns : goal.returns
returns c = scenario_screen_begins c.args.scenario.now c.args.client c.make-2.result (omega arith)
    c.make-2.ensures.made
