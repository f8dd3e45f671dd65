-- What the bench shows is told in notes.
use Rattle.std.proofs.Common.{◌∙◌, ap}
use Rattle.std.proofs.lemmas.Result.{on_ok_weaker}
use Rattle.kept_lines.specs.Adding.{cast_in}
use Rattle.printed_history.specs.Reading.{contents_in}
use Rattle.script_grammar.specs.Names.{Who}
use Rattle.stations.specs.Marks.{reached_by}
use Rattle.stations.specs.Station.{bench_of}
use Rattle.stations.proofs.Noted.{tells_notes}
use Rattle.stations.proofs.station.Station.tell_since.Goals as goal

pub company-requires : goal.company-requires
company-requires c = c.requires.at_hand

pub note_since-requires : goal.note_since-requires
note_since-requires c = ap (λ b. b.is_spent) c.bench-bench.ensures

pub returns : goal.returns
returns c =
    on_ok_weaker c.note_since.result
    (λ is. tells_notes (contents_in c.args.self.now.so_far) (cast_in c.args.self.now.so_far) c.cast-cast.result
    (reached_by c.args.since) (bench_of c.args.self.now) c.bench-bench.result.now c.args.batch.now
    c.note_since.new.batch (c.cast-cast.ensures.value ∙ ap (λ (w : Who). w.cast) c.company.ensures)
    c.bench-bench.ensures is)
    c.note_since.ensures
