-- Each line is read as the definition reads it, with the least master that may come next. So the first line
-- that isn't of its form, or whose master doesn't rise, is the one that is told.
use Rattle.std.proofs.Common.{◌≡◌, ◌<◌, ◌≤◌, ◌+◌, List, ℕ, sym, ap, subst, arith, rules}
use Rattle.parity_parts.specs.declared.part.Part.{Part}
use Rattle.run_lines.specs.Runs.{pieces}
use Rattle.part_lines.specs.declared.fault.RebuildRefusal.{RebuildRefusal}
use Rattle.part_lines.specs.Reading.{and_then, from_least, part_in, each_line, rising}
use Rattle.part_lines.specs.Rebuilding.{RefusesText}
use Rattle.part_lines.proofs.Cutting.{behind, part_more, part_fault, fault_of_text}
use Rattle.part_lines.proofs.Steps.{next_low}
use Rattle.part_lines.proofs.told.read_parts.Goals as goal

pub overflow_add-least : goal.overflow_add-least
overflow_add-least c =
    let some : 1 ≤ c.args.sizes.now.n = search rules in
    let few : c.args.sizes.now.n ≤ 14 = search rules in
    let low : c.in-Ok.part.master < c.args.sizes.now.n =
    next_low c.args.sizes.now.n c.args.sizes.now.f c.loop-bytes.least c.in-Some.bytes.now
    c.in-Ok.part some c.in-Ok.ensures in
    omega (arith, few, low)

pub returns-in-Err : goal.returns-in-Err
returns-in-Err c =
    let read = part_in c.args.sizes.now.n c.args.sizes.now.f in
    subst (λ (e : RebuildRefusal). RefusesText e
    (rising 0 2 (each_line (part_in c.args.sizes.now.n c.args.sizes.now.f) (pieces c.args.text.now))))
    (sym c.at.ensures)
    (fault_of_text c.in-Err.fault (and_then (from_least c.loop-bytes.least) (read c.in-Some.bytes.now))
    c.loop-bytes.line _ c.in-Err.ensures
    (λ is. part_fault read c.loop-bytes.least c.loop-bytes.line c.loop-bytes.parts c.in-Err.fault c.in-Some.bytes.now
    c.loop-bytes.rest.now c.in-Some.after.now _
    c.loop-bytes.invariant.0 c.in-Some.ensures.pieces is))

pub loop-bytes-preserved : goal.loop-bytes-preserved
loop-bytes-preserved c =
    let read = part_in c.args.sizes.now.n c.args.sizes.now.f in (
      subst (λ (ps : List Part). behind ps
          (rising (c.in-Ok.part.master + 1) (c.loop-bytes.line + 1)
          (each_line (part_in c.args.sizes.now.n c.args.sizes.now.f) (pieces c.in-Some.after.now))) ≡ rising 0 2
          (each_line (part_in c.args.sizes.now.n c.args.sizes.now.f) (pieces c.args.text.now)))
          (sym c.in_ok-push-in-Ok.ensures.ok)
          (part_more read c.loop-bytes.least c.loop-bytes.line c.loop-bytes.parts c.in-Ok.part c.in-Some.bytes.now
          c.loop-bytes.rest.now c.in-Some.after.now _
          c.loop-bytes.invariant.0 c.in-Some.ensures.pieces c.in-Ok.ensures),
      omega (arith, c.in-Some.ensures.shorter, c.loop-bytes.invariant.1),
    )
