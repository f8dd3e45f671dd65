-- Each stamp drawn is later than all before. One that isn't above the held frame's becomes a skip, which any
-- actor may have, until a later one comes, the actor halts or so many skips were made.
use Rattle.std.proofs.Common.{◌≡◌, ◌+◌, refl, sym, ◌∙◌, arith}
use Rattle.std.proofs.lemmas.Bool.{true≢false}
use Rattle.station_turns.specs.Turns.{Stationed, stationed}
use Rattle.station_turns.proofs.InputGiven.{skip_fits}
use Rattle.station_turns.proofs.SkipsOfTurn.{Drawn, drawn_more, drawn_world, ends_late, ends_cut, skips_on, seated_so}
use Rattle.station_turns.proofs.SkipsOfTurn.{kept_so}
use Rattle.station_turns.proofs.skipping.draw.Goals.{After-draw-stamp}
use Rattle.station_turns.proofs.skipping.draw.Goals as goal

-- the station once the stamp was drawn, and that it was
abbrev seated : After-draw-stamp → Stationed
seated c = seated_so (stationed c.loop-skip.live) c.draw-stamp.new.seat

drawn : (c : After-draw-stamp) →
    Drawn (stationed c.args.live.now) c.args.held.now c.loop-skip._skip c.draw-stamp.result (seated c)
drawn c = drawn_more (stationed c.args.live.now) (stationed c.loop-skip.live) (seated c)
    c.args.held.now c.loop-skip._skip c.draw-stamp.result
    c.args.live.now.used c.args.live.now.count c.requires.alive c.requires.running c.loop-skip.invariant.0 refl
    c.draw-stamp.ensures.drawn refl refl c.draw-stamp.ensures.above

pub returns-then-not-is_early-clause-draws : goal.returns-then-not-is_early-clause-draws
returns-then-not-is_early-clause-draws c =
    ends_late (stationed c.args.live.now) (stationed c.loop-skip.live)
    (seated ((goal.at.returns-then-not-is_early-clause-draws c).After-draw-stamp))
    c.args.held.now c.loop-skip._skip c.draw-stamp.result
    c.args.live.now.used c.args.live.now.count c.requires.alive c.requires.running c.loop-skip.invariant.0 refl
    c.draw-stamp.ensures.drawn refl refl c.draw-stamp.ensures.above
    (λ early. absurd (true≢false (sym early ∙ sym c.is_early.ensures ∙ c.if-not-is_early.true)))

pub act-requires-clause-scenario : goal.act-requires-clause-scenario
act-requires-clause-scenario c =
    c.requires.scenario
    ∙ sym (drawn_world (stationed c.args.live.now) (seated ((goal.at.act-requires-clause-scenario c).After-draw-stamp))
    c.args.held.now c.loop-skip._skip c.draw-stamp.result
    (drawn ((goal.at.act-requires-clause-scenario c).After-draw-stamp)))

pub act-requires-clause-fits : goal.act-requires-clause-fits
act-requires-clause-fits c = skip_fits c.loop-skip.live.kept.bench

pub act-requires-clause-later : goal.act-requires-clause-later
act-requires-clause-later c =
    (drawn ((goal.at.act-requires-clause-later c).After-draw-stamp)).can.later

pub returns-then-halted-clause-draws : goal.returns-then-halted-clause-draws
returns-then-halted-clause-draws c =
    ends_cut (stationed c.args.live.now) (seated ((goal.at.returns-then-halted-clause-draws c).After-draw-stamp))
    (kept_so (seated ((goal.at.returns-then-halted-clause-draws c).After-draw-stamp)) c.act.new.self)
    c.args.held.now c.loop-skip._skip c.draw-stamp.result
    (drawn ((goal.at.returns-then-halted-clause-draws c).After-draw-stamp))
    (sym c.is_early.ensures ∙ c.if-not-is_early.false) (omega (arith, c.loop-skip-test.true))
    c.in_ok-act.ensures.entry c.in_ok-act.ensures.works refl refl refl
    (sym (c.halted.ensures c.in_ok-act.ensures.works) ∙ c.if-halted.true)

pub loop-skip-preserved : goal.loop-skip-preserved
loop-skip-preserved c = (
  skips_on (stationed c.args.live.now) (seated ((goal.at.loop-skip-preserved c).After-draw-stamp))
      (kept_so (seated ((goal.at.loop-skip-preserved c).After-draw-stamp)) c.act.new.self)
      c.args.held.now c.loop-skip._skip c.draw-stamp.result
      (drawn ((goal.at.loop-skip-preserved c).After-draw-stamp))
      (sym c.is_early.ensures ∙ c.if-not-is_early.false) (omega (arith, c.loop-skip-test.true))
      c.in_ok-act.ensures.entry c.in_ok-act.ensures.works refl refl refl
      (sym (c.halted.ensures c.in_ok-act.ensures.works) ∙ c.if-halted.false),
  c.loop-skip.invariant.1,
)

pub returns-clause-draws : goal.returns-clause-draws
returns-clause-draws c =
    ends_late (stationed c.args.live.now) (stationed c.loop-skip.live)
    (seated_so (stationed c.loop-skip.live) c.draw.new.seat) c.args.held.now c.loop-skip._skip c.draw.result
    c.args.live.now.used c.args.live.now.count c.requires.alive c.requires.running c.loop-skip.invariant.0 refl
    c.draw.ensures.drawn refl refl c.draw.ensures.above
    (λ early. omega (arith, c.loop-skip-test.false))
