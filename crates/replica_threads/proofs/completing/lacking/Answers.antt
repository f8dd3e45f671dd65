-- Each turn adds one to the turns made unless the actor halts at it. So at the end it has made them all or is
-- halted, and want of memory ends it before.
use Rattle.std.proofs.Common.{◌≡◌, ◌<◌, sym, ◌∙◌, inr, arith}
use Rattle.world_history.specs.KeptState.{halted_in}
use Rattle.station_turns.specs.Pace.{turns_made}
use Rattle.replica_threads.proofs.Turning.{left_to_make, made_more, made_all}
use Rattle.replica_threads.proofs.TurnsSent.{none_sent, then_sent}
use Rattle.replica_threads.proofs.completing.lacking.Goals as goal

pub loop-made-init : goal.loop-made-init
loop-made-init g c =
    let works = sym c.is_given_up.ensures ∙ c.if-is_given_up.false in (
      c.requires.passes,
      tt,
      works,
      inr (sym (c.count-made.ensures.made works)),
      c.count-made.ensures.most works,
      none_sent g.N.Naming.name c.args.actor c.args.passes.now.items,
    )

pub make_turn-requires-clause-running : goal.make_turn-requires-clause-running
make_turn-requires-clause-running g c = sym (c.halted.ensures c.loop-made.invariant.2) ∙ c.if-halted.false

pub make_turn-requires-clause-left : goal.make_turn-requires-clause-left
make_turn-requires-clause-left g c =
    left_to_make (halted_in c.loop-made.station.kept.bench) (turns_made c.loop-made.station.kept.bench.list)
    c.loop-made._made g.N.Naming.name.turns c.loop-made.invariant.3
    (sym (c.halted.ensures c.loop-made.invariant.2) ∙ c.if-halted.false)
    (omega (arith, c.loop-made-test.true, c.requires.shared.turns))

pub loop-made-preserved : goal.loop-made-preserved
loop-made-preserved g c = (
  c.in_ok-held.ensures.passes,
  c.in_ok-held.ensures.stands,
  c.in_ok-held.ensures.works,
  made_more (halted_in c.loop-made.station.kept.bench) (halted_in c.make_turn.new.station.kept.bench)
      (turns_made c.loop-made.station.kept.bench.list) (turns_made c.make_turn.new.station.kept.bench.list)
      c.loop-made._made c.loop-made.invariant.3 (sym (c.halted.ensures c.loop-made.invariant.2) ∙ c.if-halted.false)
      c.in_ok-held.ensures.made,
  omega (arith, c.loop-made-test.true, c.requires.shared.turns),
  then_sent g.N.Naming.name c.args.actor c.args.passes.now.items c.loop-made.passes.items c.make_turn.new.passes.items
      c.loop-made.invariant.5 c.in_ok-held.ensures.sent,
)

pub returns : goal.returns
returns g c = record {
  passes = c.loop-made.invariant.0;
  sent = c.loop-made.invariant.5;
  works = c.loop-made.invariant.2;
  all = made_all (halted_in c.loop-made.station.kept.bench) (turns_made c.loop-made.station.kept.bench.list)
      c.loop-made._made g.N.Naming.name.turns c.loop-made.invariant.3
      (omega (arith, c.loop-made.invariant.4, c.loop-made-test.false, c.requires.shared.turns));
}
