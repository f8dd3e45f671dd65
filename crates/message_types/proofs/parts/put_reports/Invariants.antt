use Rattle.std.proofs.Common.{◌≡◌, ◌∷◌, ◌++◌, take}
use Rattle.std.specs.List.{flat_map}
use Rattle.message_types.specs.declared.body.Body.TheVariants as body
use Rattle.message_types.specs.Parts.{as_frame, inside_report}
use Rattle.message_types.proofs.parts.put_reports.Given as goal

abbrev pub invariant-loop-report : goal.invariant-loop-report
invariant-loop-report l =
    l.out.items ≡ l.fn.out.items ++ flat_map (λ f. as_frame body.Report f ∷ inside_report f.body)
    (take l.report-index l.reports)
