-- What isn't clear is noted.
use Rattle.std.proofs.Common.{codes, refl, sym, ap, subst}
use Rattle.station_rules.specs.Answers.{Asked, Unclear}
use Rattle.stations.specs.Asking.{asked_by}
use Rattle.stations.specs.Station.{HasAnswered}
use Rattle.stations.proofs.Entering.{noted, badline_note}
use Rattle.stations.proofs.station.Station.take.Goals as goal

pub returns-in_ok-note-in-Unclear-clause-answered : goal.returns-in_ok-note-in-Unclear-clause-answered
returns-in_ok-note-in-Unclear-clause-answered c =
    subst (λ (a : Asked). HasAnswered c.args.self.now a c.args.batch.now c.args.self.now c.note.new.self)
    (sym (ap asked_by c.in-Unclear.is))
    (noted c.args.self.now Unclear c.args.batch.now c.note.new.self (codes "note badline\n") c.requires.ready
    badline_note refl c.in_ok-note-in-Unclear.ensures.done)
