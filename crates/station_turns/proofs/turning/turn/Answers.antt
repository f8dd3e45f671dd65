-- The draw leaves a stamp later than all before, or the actor halted at a skip. Then the one entry that is due
-- comes at that stamp, and the count of turns is again that of the list.
use Rattle.std.proofs.Common.{◌≡◌, ℕ, ◌+◌, refl, sym, ◌∙◌, ap, subst}
use Rattle.std.specs.Prelude.{Option}
use Rattle.world_history.specs.State.{setup_in}
use Rattle.station_turns.specs.declared.held.Held.{Held}
use Rattle.station_turns.specs.Turns.{stationed, DrawsOne, TakesAt, Enters, event_next}
use Rattle.station_turns.proofs.WholeTurns.{alive_after, alive_cut, alive_counts, last_drawn, one_drawn, draws_work}
use Rattle.station_turns.proofs.WholeTurns.{mid_world, mid_used, mid_count, mid_takes, mid_stand}
use Rattle.station_turns.proofs.turning.turn.Goals.{Else-halted}
use Rattle.station_turns.proofs.turning.turn.Goals as goal

pub returns-then-halted-clause-alive : goal.returns-then-halted-clause-alive
returns-then-halted-clause-alive c =
    alive_counts (stationed c.draw.new.live) c.args.live.now.used c.args.live.now.count _ _
    (alive_cut (stationed c.args.live.now) (stationed c.draw.new.live) c.args.held c.in_ok-stamp.stamp
    c.args.live.now.used c.args.live.now.count c.requires.alive
    (last_drawn (stationed c.args.live.now) (stationed c.draw.new.live) c.args.held c.in_ok-stamp.stamp
    c.in_ok-stamp.ensures.draws
    (sym (c.halted.ensures (draws_work (stationed c.args.live.now) (stationed c.draw.new.live)
    c.args.held c.in_ok-stamp.stamp c.in_ok-stamp.ensures.draws)) ∙ c.if-halted.true)))
    c.draw.ensures.counts.0 c.draw.ensures.counts.1

-- the one draw of a turn whose actor goes on
drawn_one : (c : Else-halted) →
    DrawsOne (stationed c.args.live.now) c.args.held c.in_ok-stamp.stamp (stationed c.draw.new.live)
drawn_one c = one_drawn (stationed c.args.live.now) (stationed c.draw.new.live) c.args.held c.in_ok-stamp.stamp
    c.in_ok-stamp.ensures.draws
    (sym (c.halted.ensures (draws_work (stationed c.args.live.now) (stationed c.draw.new.live)
    c.args.held c.in_ok-stamp.stamp c.in_ok-stamp.ensures.draws)) ∙ c.if-halted.false)

pub enter_next-requires-clause-scenario : goal.enter_next-requires-clause-scenario
enter_next-requires-clause-scenario c =
    c.requires.scenario ∙ sym (mid_world (stationed c.args.live.now) (stationed c.draw.new.live)
    c.args.held c.in_ok-stamp.stamp
    (drawn_one (goal.at.enter_next-requires-clause-scenario c).Else-halted))

pub enter_next-requires-clause-used : goal.enter_next-requires-clause-used
enter_next-requires-clause-used c =
    c.draw.ensures.counts.0 ∙ mid_used (stationed c.args.live.now) (stationed c.draw.new.live)
    c.args.held c.in_ok-stamp.stamp c.args.live.now.used c.args.live.now.count c.requires.alive
    (drawn_one (goal.at.enter_next-requires-clause-used c).Else-halted)

pub enter_next-requires-clause-count : goal.enter_next-requires-clause-count
enter_next-requires-clause-count c =
    c.draw.ensures.counts.1 ∙ mid_count (stationed c.args.live.now) (stationed c.draw.new.live)
    c.args.held c.in_ok-stamp.stamp c.args.live.now.used c.args.live.now.count c.requires.alive
    (drawn_one (goal.at.enter_next-requires-clause-count c).Else-halted)

pub enter_next-requires-clause-takes : goal.enter_next-requires-clause-takes
enter_next-requires-clause-takes c =
    subst (λ (h : Option Held). TakesAt (setup_in c.draw.new.live.kept.bench) c.in_ok-stamp.stamp h)
    (sym c.still_held.ensures)
    (mid_takes (stationed c.args.live.now) (stationed c.draw.new.live) c.args.held c.in_ok-stamp.stamp
    (drawn_one (goal.at.enter_next-requires-clause-takes c).Else-halted) c.requires.stands)

pub returns-clause-stand : goal.returns-clause-stand
returns-clause-stand c =
    mid_stand (stationed c.args.live.now) (stationed c.draw.new.live) c.args.held c.in_ok-stamp.stamp
    c.in_ok-turned.turned.cried c.in_ok-turned.turned.frames.items
    (drawn_one (goal.at.returns-clause-stand c).Else-halted)
    c.in_ok-turned.ensures.stand

pub returns-clause-alive : goal.returns-clause-alive
returns-clause-alive c =
    alive_counts _ c.enter_next.new.live.used (c.args.live.now.count + 1) _ _
    (alive_after (stationed c.args.live.now) (stationed c.draw.new.live) (stationed c.enter_next.new.live)
    c.args.held c.in_ok-turned.turned c.in_ok-stamp.stamp c.args.live.now.used c.args.live.now.count
    c.enter_next.new.live.used c.requires.alive c.requires.running c.requires.left
    (drawn_one (goal.at.returns-clause-alive c).Else-halted)
    (subst (λ (h : Option Held). Enters (stationed c.draw.new.live) c.in_ok-stamp.stamp
    (event_next c.draw.new.live.inputs.items c.draw.new.live.kept.bench h) c.in_ok-turned.turned
    (stationed c.enter_next.new.live))
    c.still_held.ensures c.in_ok-turned.ensures.enters)
    c.in_ok-turned.ensures.used)
    refl (ap (λ (n : ℕ). n + 1) (c.enter_next.ensures.count ∙ c.draw.ensures.counts.1))
