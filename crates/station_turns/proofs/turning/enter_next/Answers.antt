-- What comes next is a tick, an input or the held frame, as the rules of pacing tell from inputs used and turns
-- made. In each case the entry is that event, and a frame that wasn't taken is given back.
use Rattle.std.proofs.Common.{◌≡◌, refl, sym, ◌∙◌}
use Rattle.std.specs.Prelude.{Some, None}
use Rattle.history_rules.specs.Events.{Tick}
use Rattle.world_entries.specs.Entries.{event_of}
use Rattle.station_turns.specs.Turns.{stationed, event_from_input}
use Rattle.station_turns.proofs.WholeTurns.{tick_next, input_next, frame_next, enters_as, back_as, frame_enters}
use Rattle.station_turns.proofs.WholeTurns.{ok_so}
use Rattle.station_turns.proofs.turning.enter_next.Goals as goal

pub returns-in-Tick-clause-enters : goal.returns-in-Tick-clause-enters
returns-in-Tick-clause-enters c =
    ok_so c.enter.result c.enter.ensures.enters
    (λ t done. enters_as (stationed c.args.live.now) (stationed c.enter.new.live) c.args.stamp c.args.held t (Some Tick)
    (tick_next (stationed c.args.live.now) c.args.live.now.used c.args.live.now.count
    (record {
      used_is = c.requires.used;
      count_is = c.requires.count;
      kind_is =
          sym c.in-Tick.is ∙ c.kind_of_next.ensures;
    })) done)

pub returns-in-Tick-clause-back : goal.returns-in-Tick-clause-back
returns-in-Tick-clause-back c =
    ok_so c.enter.result c.enter.ensures.back
    (λ t done. back_as (stationed c.args.live.now) c.args.held t (Some Tick)
    (tick_next (stationed c.args.live.now) c.args.live.now.used c.args.live.now.count
    (record {
      used_is = c.requires.used;
      count_is = c.requires.count;
      kind_is =
          sym c.in-Tick.is ∙ c.kind_of_next.ensures;
    })) done)

pub returns-in-Input-clause-enters : goal.returns-in-Input-clause-enters
returns-in-Input-clause-enters c =
    ok_so c.give.result c.give.ensures.enters
    (λ t done. enters_as (stationed c.args.live.now) (stationed c.give.new.live) c.args.stamp c.args.held t
    (Some (event_from_input (stationed c.args.live.now)))
    (input_next (stationed c.args.live.now) c.args.live.now.used c.args.live.now.count
    (record {
      used_is = c.requires.used;
      count_is = c.requires.count;
      kind_is =
          sym c.in-Input.is ∙ c.kind_of_next.ensures;
    })) done)

pub returns-in-Input-clause-back : goal.returns-in-Input-clause-back
returns-in-Input-clause-back c =
    ok_so c.give.result c.give.ensures.back
    (λ t done. back_as (stationed c.args.live.now) c.args.held t (Some (event_from_input (stationed c.args.live.now)))
    (input_next (stationed c.args.live.now) c.args.live.now.used c.args.live.now.count
    (record {
      used_is = c.requires.used;
      count_is = c.requires.count;
      kind_is =
          sym c.in-Input.is ∙ c.kind_of_next.ensures;
    })) done)

pub returns-in-Frame-clause-enters : goal.returns-in-Frame-clause-enters
returns-in-Frame-clause-enters c =
    ok_so c.enter-in-Frame.result c.enter-in-Frame.ensures.enters
    (λ t done. frame_enters (stationed c.args.live.now) (stationed c.enter-in-Frame.new.live) c.args.stamp c.args.held
    (event_of c.taking.result) t
    (frame_next (stationed c.args.live.now) c.args.live.now.used c.args.live.now.count
    (record {
      used_is = c.requires.used;
      count_is = c.requires.count;
      kind_is =
          sym c.in-Frame.is ∙ c.kind_of_next.ensures;
    }))
    c.taking.ensures done)

pub returns-in-Frame-clause-back : goal.returns-in-Frame-clause-back
returns-in-Frame-clause-back c =
    ok_so c.enter-in-Frame.result c.enter-in-Frame.ensures.back
    (λ t done. back_as (stationed c.args.live.now) c.args.held t None
    (frame_next (stationed c.args.live.now) c.args.live.now.used c.args.live.now.count
    (record {
      used_is = c.requires.used;
      count_is = c.requires.count;
      kind_is =
          sym c.in-Frame.is ∙ c.kind_of_next.ensures;
    })) done)
