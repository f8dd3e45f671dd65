-- The words are none of a station, or their scenario is none, or the rest is lived in it.
use Rattle.std.proofs.Common.{◌≡◌, ◌∙◌, Err, map, string_bytes, refl, ap}
use Rattle.scenario_file.specs.Reading.{contents}
use Rattle.station_words.specs.Wanted.{wanted}
use Rattle.station_commands.specs.Lives.{Reach, reach_of}
use Rattle.station_commands.specs.Courses.{Shelf, shelf_of}
use Rattle.station_commands.specs.Courses.Course.{in_scenario, no_scenario}
use Rattle.station_commands.specs.declared.refusal.StationRefusal.TheVariants as refusal
use Rattle.station_commands.proofs.Calls.{ends_before, shelf_moves, words_end}
use Rattle.station_commands.proofs.call.live_as_asked.Goals as goal

pub returns-in-Err : goal.returns-in-Err
returns-in-Err g c =
    let shelf : Shelf = shelf_of (g.F.Files.held c.args.files.now) (g.F.Files.faults c.args.files.now)
    (g.F.Files.faults c.args.files.now) in
    let reach : Reach = reach_of (g.K.Keep.lies c.args.keep.now) (g.K.KeptFile.held c.args.keep.now)
    (g.K.KeptFile.faults c.args.keep.now) (g.K.KeptFile.faults c.args.keep.now)
    (g.L.Lines.waiting c.args.lines.now) (g.L.Lines.faults c.args.lines.now) (g.L.Lines.faults c.args.lines.now)
    (g.O.Sink.told c.args.out.now) (g.O.Sink.told c.args.out.now) (g.O.Sink.faults c.args.out.now)
    (g.O.Sink.faults c.args.out.now) in
    words_end (c.args.keep.now ≡ c.args.keep.now) (map string_bytes c.args.words.now) shelf reach c.in-Err.answer c.words_refusal.result
    c.words_refusal.ensures refl refl (λ e. c.read_station.ensures.usage (c.in-Err.is ∙ ap Err e))

pub returns-in-Ok-open_scenario : goal.returns-in-Ok-open_scenario
returns-in-Ok-open_scenario g c =
    in_scenario (wanted c.in-Ok.asked) (contents c.in-Ok-open_scenario.scenario)
    (record { taken = c.in-Ok.ensures.taken; is = c.in-Ok.ensures.asked }) c.in-Ok-open_scenario.ensures.cause
    (shelf_moves (c.live_in.new.keep ≡ c.args.keep.now) (contents c.in-Ok-open_scenario.scenario)
    (wanted c.in-Ok.asked) (g.F.Files.held c.args.files.now) (g.F.Files.held c.open_scenario.new.files)
    (g.F.Files.faults c.args.files.now) (g.F.Files.faults c.open_scenario.new.files)
    (g.F.Files.faults c.live_in.new.files) _ c.live_in.result c.open_scenario.ensures.kept
    c.in-Ok-open_scenario.ensures.file_faults c.live_in.ensures)

pub returns-in-Err-open_scenario : goal.returns-in-Err-open_scenario
returns-in-Err-open_scenario g c =
    let reach : Reach = reach_of (g.K.Keep.lies c.args.keep.now) (g.K.KeptFile.held c.args.keep.now)
    (g.K.KeptFile.faults c.args.keep.now) (g.K.KeptFile.faults c.args.keep.now)
    (g.L.Lines.waiting c.args.lines.now) (g.L.Lines.faults c.args.lines.now) (g.L.Lines.faults c.args.lines.now)
    (g.O.Sink.told c.args.out.now) (g.O.Sink.told c.args.out.now) (g.O.Sink.faults c.args.out.now)
    (g.O.Sink.faults c.args.out.now) in
    no_scenario (wanted c.in-Ok.asked) c.in-Err-open_scenario.refusal
    (record { taken = c.in-Ok.ensures.taken; is = c.in-Ok.ensures.asked }) c.in-Err-open_scenario.ensures.cause
    (ends_before (c.args.keep.now ≡ c.args.keep.now) reach (refusal.Known c.in-Err-open_scenario.refusal) refl refl)
