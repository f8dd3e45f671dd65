-- The name is that of no correct actor, or its life is lived.
use Rattle.std.proofs.Common.{◌≡◌, Option, IfSome, length, refl, subst, sym}
use Rattle.scenario_file.specs.Reading.{contents, with_held}
use Rattle.scenario_file.specs.declared.held.HeldKeys.{HeldKeys}
use Rattle.world_rules.specs.Scenarios.{actors_in}
use Rattle.station_words.specs.Wanted.{wanted}
use Rattle.station_commands.specs.Lives.{LifeCause, Reach, reach_of}
use Rattle.station_commands.specs.Courses.{shelf_of}
use Rattle.station_commands.specs.Courses.InScenario.{life, no_keys}
use Rattle.station_commands.proofs.Calls.{actor_ends, ends_before}
use Rattle.station_commands.proofs.Holdings.{ring_is_whole}
use Rattle.station_commands.proofs.call.live_in.Goals as goal

pub live_kept-requires-clause-ring : goal.live_kept-requires-clause-ring
live_kept-requires-clause-ring g c =
    subst (λ (k : Option HeldKeys). IfSome k (λ keys. length keys.ring ≡ actors_in (contents c.args.scenario.now)))
    (sym c.as_ref.ensures.value) (ring_is_whole (contents c.args.scenario.now) c.args.asked.now.actor.now
    (g.F.Files.held c.args.files.now) (wanted c.args.asked.now).keys c.in-Ok-open_keys.keys c.in-Ok-open_keys.ensures)

pub returns-in-Ok-open_keys : goal.returns-in-Ok-open_keys
returns-in-Ok-open_keys g c =
    let reach : Reach = reach_of (g.K.Keep.lies c.args.keep.now) (g.K.KeptFile.held c.live_kept.new.keep)
    (g.K.KeptFile.faults c.args.keep.now) (g.K.KeptFile.faults c.live_kept.new.keep)
    (g.L.Lines.waiting c.args.lines.now) (g.L.Lines.faults c.args.lines.now) (g.L.Lines.faults c.live_kept.new.lines)
    (g.O.Sink.told c.args.out.now) (g.O.Sink.told c.live_kept.new.out) (g.O.Sink.faults c.args.out.now)
    (g.O.Sink.faults c.live_kept.new.out) in
    life c.in-Ok.actor c.in-Ok-open_keys.keys c.in-Ok.ensures.cause c.in-Ok-open_keys.ensures
    (subst (λ (k : Option HeldKeys). LifeCause (with_held (contents c.args.scenario.now) k) c.in-Ok.actor
    c.args.asked.now.keep.now reach c.live_kept.result) c.as_ref.ensures.value c.live_kept.ensures)

pub returns-in-Err-open_keys : goal.returns-in-Err-open_keys
returns-in-Err-open_keys g c =
    let reach : Reach = reach_of (g.K.Keep.lies c.args.keep.now) (g.K.KeptFile.held c.args.keep.now)
    (g.K.KeptFile.faults c.args.keep.now) (g.K.KeptFile.faults c.args.keep.now)
    (g.L.Lines.waiting c.args.lines.now) (g.L.Lines.faults c.args.lines.now) (g.L.Lines.faults c.args.lines.now)
    (g.O.Sink.told c.args.out.now) (g.O.Sink.told c.args.out.now) (g.O.Sink.faults c.args.out.now)
    (g.O.Sink.faults c.args.out.now) in
    no_keys c.in-Ok.actor c.in-Err-open_keys.refusal c.in-Ok.ensures.cause c.in-Err-open_keys.ensures
    (ends_before (c.args.keep.now ≡ c.args.keep.now) reach c.in-Err-open_keys.refusal refl refl)

pub returns-in-Err : goal.returns-in-Err
returns-in-Err g c =
    let reach : Reach = reach_of (g.K.Keep.lies c.args.keep.now) (g.K.KeptFile.held c.args.keep.now)
    (g.K.KeptFile.faults c.args.keep.now) (g.K.KeptFile.faults c.args.keep.now)
    (g.L.Lines.waiting c.args.lines.now) (g.L.Lines.faults c.args.lines.now) (g.L.Lines.faults c.args.lines.now)
    (g.O.Sink.told c.args.out.now) (g.O.Sink.told c.args.out.now) (g.O.Sink.faults c.args.out.now)
    (g.O.Sink.faults c.args.out.now) in
    actor_ends (c.args.keep.now ≡ c.args.keep.now) (contents c.args.scenario.now) (wanted c.args.asked.now)
    (shelf_of (g.F.Files.held c.args.files.now) (g.F.Files.faults c.args.files.now) (g.F.Files.faults c.args.files.now)) reach
    c.in-Err.refusal refl refl c.in-Err.ensures.cause
