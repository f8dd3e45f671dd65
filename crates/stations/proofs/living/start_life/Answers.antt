-- Where it can't start it said nothing; else it has started, and goes on.
use Rattle.std.proofs.Common.{[], ◌∷◌}
use Rattle.station_files.specs.Batch.{none_waits}
use Rattle.station_rules.specs.Answers.{Start}
use Rattle.stations.specs.Going.{origin}
use Rattle.stations.proofs.Going.{first_going, started_going, none_asked, asked_first, asked_begins}
use Rattle.stations.proofs.Released.{is_life}
use Rattle.stations.proofs.living.start_life.Goals as goal

pub returns-in_err-start-clause-lived : goal.returns-in_err-start-clause-lived
returns-in_err-start-clause-lived g c = λ room waiting. record {
  asked = [];
  came = asked_first room waiting;
  lived =
      is_life (origin c.args.station.now (g.F.KeptFile.held c.args.file.now) (g.S.Sink.told c.args.sink.now)) []
      c.args.station.now none_waits (g.F.KeptFile.held c.args.file.now) (g.S.Sink.told c.args.sink.now)
      (first_going c.args.station.now (g.F.KeptFile.held c.args.file.now) (g.S.Sink.told c.args.sink.now)
      c.requires.ready c.requires.held);
}

pub returns-in_err-release_if-clause-lived : goal.returns-in_err-release_if-clause-lived
returns-in_err-release_if-clause-lived g c = λ room waiting. record {
  asked = Start ∷ [];
  came = asked_begins room waiting waiting [] (none_asked room waiting);
  lived =
      c.in_err-release_if.ensures.lived
      (origin c.args.station.now (g.F.KeptFile.held c.args.file.now) (g.S.Sink.told c.args.sink.now)) (Start ∷ [])
      c.start.new.self
      (started_going c.args.station.now c.start.new.self c.args.batch.now c.start.new.batch
      (g.F.KeptFile.held c.args.file.now) (g.S.Sink.told c.args.sink.now) c.requires.ready c.requires.held
      c.requires.none c.in_ok-start.ensures.answered);
}

pub returns-clause-going : goal.returns-clause-going
returns-clause-going g c =
    c.in_ok-release_if.ensures.going
    (origin c.args.station.now (g.F.KeptFile.held c.args.file.now) (g.S.Sink.told c.args.sink.now)) (Start ∷ [])
    c.start.new.self
    (started_going c.args.station.now c.start.new.self c.args.batch.now c.start.new.batch
    (g.F.KeptFile.held c.args.file.now) (g.S.Sink.told c.args.sink.now) c.requires.ready c.requires.held
    c.requires.none c.in_ok-start.ensures.answered)

pub returns-clause-lived : goal.returns-clause-lived
returns-clause-lived g c = λ room waiting. record {
  asked = Start ∷ [];
  came = asked_begins room waiting waiting [] (none_asked room waiting);
  lived =
      is_life (origin c.args.station.now (g.F.KeptFile.held c.args.file.now) (g.S.Sink.told c.args.sink.now))
      (Start ∷ []) c.start.new.self c.release_if.new.batch (g.F.KeptFile.held c.release_if.new.file)
      (g.S.Sink.told c.release_if.new.sink)
      (c.in_ok-release_if.ensures.going
      (origin c.args.station.now (g.F.KeptFile.held c.args.file.now) (g.S.Sink.told c.args.sink.now)) (Start ∷ [])
      c.start.new.self
      (started_going c.args.station.now c.start.new.self c.args.batch.now c.start.new.batch
      (g.F.KeptFile.held c.args.file.now) (g.S.Sink.told c.args.sink.now) c.requires.ready c.requires.held
      c.requires.none c.in_ok-start.ensures.answered));
}
