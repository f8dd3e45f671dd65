-- What waits is kept first, and what is put is said by what is kept. So it goes on, and where it can't, it was a life.
use Rattle.std.proofs.Common.{sym, subst}
use Rattle.station_files.specs.Batch.{Waiting}
use Rattle.stations.specs.Going.{IsGoing}
use Rattle.stations.proofs.Turns.{on_err_so}
use Rattle.stations.proofs.Released.{released, refused_life}
use Rattle.stations.proofs.living.release_if.Goals as goal

pub returns-in_err-release-clause-lived : goal.returns-in_err-release-clause-lived
returns-in_err-release-clause-lived g c =
    on_err_so c.from_residual.result (λ o asked s going.
    refused_life c.answer_is_said.ensures.one o asked s c.args.batch.now (g.F.KeptFile.held c.args.file.now)
    (g.F.KeptFile.held c.release.new.file) (g.S.Sink.told c.args.sink.now) (g.S.Sink.told c.release.new.sink)
    c.in_err-release.field-0.0 going c.in_err-release.ensures.released)

pub returns-in_ok-release-clause-going : goal.returns-in_ok-release-clause-going
returns-in_ok-release-clause-going g c = λ o asked s going.
    subst (λ (w : Waiting). IsGoing o asked s w (g.F.KeptFile.held c.release.new.file) (g.S.Sink.told c.release.new.sink))
    (sym c.release.ensures.emptied)
    (released c.answer_is_said.ensures.one o asked s c.args.batch.now (g.F.KeptFile.held c.args.file.now)
    (g.F.KeptFile.held c.release.new.file) (g.S.Sink.told c.args.sink.now) (g.S.Sink.told c.release.new.sink) going
    c.in_ok-release.ensures.released.0 c.in_ok-release.ensures.released.1)
