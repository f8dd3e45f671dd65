use Rattle.run_lines.proofs.Cutting.{more_follows}
use Rattle.run_lines.proofs.runs.is_end.Goals as goal

pub returns-in-Some : goal.returns-in-Some
returns-in-Some c = λ cast number. more_follows cast number c.args.rest.now c.in-Some.field-0.0.now
    c.in-Some.field-0.1.now c.in-Some.ensures.pieces
