-- The entries at hand stand for those of the history, one for one: so the counts over them are the counts of
-- the history.
use Rattle.std.proofs.Common.{◌≡◌, List, length, subst, ap, ◌∙◌, arith}
use Rattle.std.proofs.lemmas.List.{length-map}
use Rattle.std.specs.Result.{IfOk}
use Rattle.history_rules.specs.Events.{Entry}
use Rattle.history_rules.specs.Counts.{forged, alike}
use Rattle.scenario_file.specs.Reading.{contents}
use Rattle.world_entries.specs.Entries.{entry_of}
use Rattle.world_rules.specs.Scenarios.{setup_of, group_in}
use Rattle.history_audit.specs.Counting.{are_spelled}
use Rattle.history_audit.proofs.counting.audit.Goals as goal

pub audit_entries-requires-clause-short : goal.audit_entries-requires-clause-short
audit_entries-requires-clause-short c =
    omega (arith, length-map c.entries.result.now entry_of, ap length c.entries.ensures, c.requires.short)

pub audit_entries-requires-clause-spelled : goal.audit_entries-requires-clause-spelled
audit_entries-requires-clause-spelled c = ap are_spelled c.entries.ensures ∙ c.requires.spelled

pub returns-clause-forged : goal.returns-clause-forged
returns-clause-forged c =
    subst (λ (es : List Entry). IfOk c.audit_entries.result
    (λ counts. counts.forged ≡ forged (setup_of (contents c.args.scenario.now)) es))
    c.entries.ensures c.audit_entries.ensures.forged

pub returns-clause-alike : goal.returns-clause-alike
returns-clause-alike c =
    subst (λ (es : List Entry). IfOk c.audit_entries.result
    (λ counts. counts.alike ≡ alike (group_in (contents c.args.scenario.now)) es))
    c.entries.ensures c.audit_entries.ensures.alike
