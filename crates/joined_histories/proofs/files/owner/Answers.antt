-- The first line tells the owner, where there is one.
use Rattle.std.proofs.Common.{ap, sym, subst}
use Rattle.run_lines.specs.Runs.{pieces}
use Rattle.kept_lines.specs.Reading.{Refuses}
use Rattle.joined_histories.specs.Files.{owner_by}
use Rattle.joined_histories.proofs.Owners.{named_first, bad_first, reads_there}
use Rattle.joined_histories.proofs.files.owner.Goals as goal

pub returns-in_default : goal.returns-in_default
returns-in_default c = ap (owner_by c.args.company.now.cast) c.in_default.ensures.pieces

pub returns-in-Ok : goal.returns-in-Ok
returns-in-Ok c =
    reads_there c.in-Ok.told.actor c.named.result (owner_by c.args.company.now.cast (pieces c.args.bytes.now))
    c.named.ensures
    (named_first c.args.company.now.cast c.args.bytes.now c.in-Some.line.now c.in-Some.field-0-1.now c.entry_part.result.now c.in-Ok.told
    c.in-Some.ensures.pieces c.entry_part.ensures c.in-Ok.ensures)

pub returns-in-Err : goal.returns-in-Err
returns-in-Err c =
    subst (λ r. Refuses r (owner_by c.args.company.now.cast (pieces c.args.bytes.now))) (sym c.first_fault.ensures)
    (bad_first c.args.company.now.cast c.args.bytes.now c.in-Some.line.now c.in-Some.field-0-1.now c.entry_part.result.now c.in-Err.fault
    c.in-Some.ensures.pieces c.entry_part.ensures c.in-Err.ensures)
