-- The fault is that of the file at its place, which is told by its name.
use Rattle.std.proofs.Common.{◌≡◌, ◌∙◌, ap, map, sym}
use Rattle.run_program.proofs.Merging.{fault_tells}
use Rattle.run_program.proofs.merged.join_refusal.Goals as goal

pub returns-in-Ok : goal.returns-in-Ok
returns-in-Ok c =
    fault_tells (map (λ name. name.now) c.args.names.now) c.args.refusal c.in-Some.file c.in-Some.fault
    c.in-Ok.name (sym c.fault_of.ensures ∙ c.in-Some.is) c.in-Ok.ensures
