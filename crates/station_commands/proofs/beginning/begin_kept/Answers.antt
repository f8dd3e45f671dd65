-- What `stations` refuses is told as a refusal of the file, or as want of memory.
use Rattle.std.proofs.Common.{◌∙◌, Err, sym, ap, subst}
use Rattle.printed_history.specs.Reading.{known_by}
use Rattle.station_commands.specs.declared.refusal.StationRefusal.{StationRefusal}
use Rattle.station_commands.specs.Lives.{NotBegun}
use Rattle.station_commands.proofs.Ends.{not_begun, other_key}
use Rattle.station_commands.proofs.beginning.begin_kept.Goals as goal

pub returns-in-Err-clause-cause : goal.returns-in-Err-clause-cause
returns-in-Err-clause-cause g c =
    let world = known_by c.args.scenario.now c.args.held in
    subst (λ (e : StationRefusal). NotBegun world c.args.actor (g.K.KeptFile.held c.args.keep.now)
    (g.K.KeptFile.faults c.args.keep.now) (g.K.KeptFile.faults c.begin.new.file) c.args.name e)
    (sym c.begin_refusal.ensures)
    (not_begun world c.args.actor (g.K.KeptFile.held c.args.keep.now) (g.K.KeptFile.faults c.args.keep.now)
    (g.K.KeptFile.faults c.begin.new.file) c.args.name c.in-Err.refusal c.in-Err.ensures.read
    (λ e. c.begin.ensures.failed (c.in-Err.is ∙ ap Err e))
    (λ e. other_key world c.args.actor c.in-Err.refusal e c.in-Err.ensures.key))
