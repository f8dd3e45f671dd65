-- Behind the entries read so far stand those that the definition reads of the rest. So the first bad line is
-- told by its number, and after so many entries nothing may be left.
use Rattle.std.proofs.Common.{◌≡◌, ◌<◌, ◌+◌, ◌-◌, ◌∙◌, List, [], ◌∷◌, ◌++◌, length, sym, ap, subst, arith}
use Rattle.std.proofs.lemmas.List.{length-append}
use Rattle.run_lines.specs.declared.entry_line.EntryLine.{EntryLine}
use Rattle.run_lines.specs.Runs.{pieces, entries_in}
use Rattle.run_lines.proofs.Cutting.{behind, entries_more}
use Rattle.run_lines.proofs.runs.read_entries.Goals as goal

pub loop-place-preserved : goal.loop-place-preserved
loop-place-preserved c =
    let cast = c.args.company.now.cast in
    let inside : c.loop-place.place < c.args.count = omega arith in (
      subst (λ (es : List EntryLine). behind es
          (entries_in cast (c.args.first + (c.loop-place.place + 1)) (c.args.count - (c.loop-place.place + 1))
          (pieces c.in-Some.after.now)) ≡ entries_in cast c.args.first c.args.count (pieces c.args.text.now))
          (sym c.in_ok-push-in-Ok.ensures.ok)
          (entries_more cast c.args.first c.args.count c.loop-place.place c.loop-place.entries c.in-Ok.entry
          c.in-Some.bytes.now c.loop-place.rest.now c.in-Some.after.now _
          inside c.loop-place.invariant.0 c.in-Some.ensures.pieces c.in-Ok.ensures),
      ap length c.in_ok-push-in-Ok.ensures.ok ∙ length-append c.loop-place.entries (c.in-Ok.entry ∷ [])
          ∙ ap (λ n. n + 1) c.loop-place.invariant.1,
    )
