-- The file is opened, then the station begins, then it lives; each may end the call.
use Rattle.std.proofs.Common.{◌∙◌, Err, refl, sym, ap, subst}
use Rattle.printed_history.specs.Reading.{known_by}
use Rattle.stations.specs.Going.{origin}
use Rattle.station_commands.specs.declared.refusal.StationRefusal.{StationRefusal}
use Rattle.station_commands.specs.Lives.{LifeCause, Reach, reach_of}
use Rattle.station_commands.proofs.Ends.{begun_so, ends_halted, ends_unbegun, ends_unopened}
use Rattle.station_commands.proofs.life.live_kept.Goals as goal

pub returns-in-Err : goal.returns-in-Err
returns-in-Err g c =
    let reach : Reach = reach_of (g.K.Keep.lies c.args.keep.now) (g.K.KeptFile.held c.open_named.new.keep)
    (g.K.KeptFile.faults c.args.keep.now) (g.K.KeptFile.faults c.open_named.new.keep)
    (g.L.Lines.waiting c.args.lines.now) (g.L.Lines.faults c.args.lines.now) (g.L.Lines.faults c.args.lines.now)
    (g.O.Sink.told c.args.out.now) (g.O.Sink.told c.args.out.now) (g.O.Sink.faults c.args.out.now)
    (g.O.Sink.faults c.args.out.now) in
    ends_unopened (known_by c.args.scenario.now c.args.held) c.args.actor c.args.name.now reach c.in-Err.refusal refl
    c.in-Err.ensures.cause

pub returns-in-Err-begin_kept : goal.returns-in-Err-begin_kept
returns-in-Err-begin_kept g c =
    let reach : Reach = reach_of (g.K.Keep.lies c.args.keep.now) (g.K.KeptFile.held c.begin_kept.new.keep)
    (g.K.KeptFile.faults c.args.keep.now) (g.K.KeptFile.faults c.begin_kept.new.keep)
    (g.L.Lines.waiting c.args.lines.now) (g.L.Lines.faults c.args.lines.now) (g.L.Lines.faults c.args.lines.now)
    (g.O.Sink.told c.args.out.now) (g.O.Sink.told c.args.out.now) (g.O.Sink.faults c.args.out.now)
    (g.O.Sink.faults c.args.out.now) in
    ends_unbegun (known_by c.args.scenario.now c.args.held) c.args.actor c.args.name.now c.in-Ok.named reach
    (g.K.KeptFile.held c.open_named.new.keep) (g.K.KeptFile.faults c.open_named.new.keep)
    c.in-Err-begin_kept.refusal refl c.in-Ok.ensures.opened c.in-Ok.ensures.cause.1 c.in-Ok.ensures.cause.0
    c.in-Err-begin_kept.ensures.cause

pub returns-in-Ok-live : goal.returns-in-Ok-live
returns-in-Ok-live g c =
    let reach : Reach = reach_of (g.K.Keep.lies c.args.keep.now) (g.K.KeptFile.held c.live.new.file)
    (g.K.KeptFile.faults c.args.keep.now) (g.K.KeptFile.faults c.live.new.file)
    (g.L.Lines.waiting c.args.lines.now) (g.L.Lines.faults c.args.lines.now) (g.L.Lines.faults c.live.new.lines)
    (g.O.Sink.told c.args.out.now) (g.O.Sink.told c.live.new.sink) (g.O.Sink.faults c.args.out.now)
    (g.O.Sink.faults c.live.new.sink) in
    record {
      from = origin c.in-Ok-begin_kept.station (g.K.KeptFile.held c.begin_kept.new.keep)
          (g.O.Sink.told c.args.out.now);
      begun = begun_so (known_by c.args.scenario.now c.args.held) c.args.actor c.args.name.now reach c.in-Ok-begin_kept.station
          (g.K.KeptFile.held c.open_named.new.keep) (g.K.KeptFile.held c.begin_kept.new.keep)
          c.in-Ok-begin_kept.ensures.same.0 c.in-Ok-begin_kept.ensures.same.1 c.in-Ok.ensures.opened
          c.in-Ok-begin_kept.ensures.read c.in-Ok-begin_kept.ensures.whole;
      lived = c.live.ensures.lived;
      answered = c.in-Ok-live.ensures.answered;
    }

pub returns : goal.returns
returns g c =
    let reach : Reach = reach_of (g.K.Keep.lies c.args.keep.now) (g.K.KeptFile.held c.live.new.file)
    (g.K.KeptFile.faults c.args.keep.now) (g.K.KeptFile.faults c.live.new.file)
    (g.L.Lines.waiting c.args.lines.now) (g.L.Lines.faults c.args.lines.now) (g.L.Lines.faults c.live.new.lines)
    (g.O.Sink.told c.args.out.now) (g.O.Sink.told c.live.new.sink) (g.O.Sink.faults c.args.out.now)
    (g.O.Sink.faults c.live.new.sink) in
    subst (λ (e : StationRefusal). LifeCause (known_by c.args.scenario.now c.args.held) c.args.actor c.args.name.now reach (Err e))
    (sym c.halt_refusal.ensures)
    (ends_halted (known_by c.args.scenario.now c.args.held) c.args.actor c.args.name.now reach
    (g.K.KeptFile.faults c.begin_kept.new.keep) c.in-Err-live.halt
    (record {
      from = origin c.in-Ok-begin_kept.station (g.K.KeptFile.held c.begin_kept.new.keep)
          (g.O.Sink.told c.args.out.now);
      begun = begun_so (known_by c.args.scenario.now c.args.held) c.args.actor c.args.name.now reach c.in-Ok-begin_kept.station
          (g.K.KeptFile.held c.open_named.new.keep) (g.K.KeptFile.held c.begin_kept.new.keep)
          c.in-Ok-begin_kept.ensures.same.0 c.in-Ok-begin_kept.ensures.same.1 c.in-Ok.ensures.opened
          c.in-Ok-begin_kept.ensures.read c.in-Ok-begin_kept.ensures.whole;
      lived = c.live.ensures.lived;
    })
    (c.in-Ok-begin_kept.ensures.cause ∙ c.in-Ok.ensures.cause.1)
    (λ e. c.live.ensures.input (c.in-Err-live.is ∙ ap Err e)) (λ e. c.live.ensures.keep (c.in-Err-live.is ∙ ap Err e))
    (λ e. c.live.ensures.output (c.in-Err-live.is ∙ ap Err e)) (λ e. c.live.ensures.full (c.in-Err-live.is ∙ ap Err e)))
