-- A legal history of at most 2^32 entries of each actor can be audited. The counts are those of the audit and the benches
-- agree where their definition says so: so the two texts, one behind the other, are the totals.
use Rattle.std.proofs.Common.{refl}
use Rattle.std.specs.Prelude.{string_bytes}
use Rattle.scenario_file.specs.Reading.{contents}
use Rattle.printed_run.proofs.WholeText.{totals_put}
use Rattle.printed_run.proofs.printing.put_totals.Goals as goal

pub audit-requires-clause-short : goal.audit-requires-clause-short
audit-requires-clause-short c =
    c.few_each.ensures.all (contents c.args.scenario.now) c.args.history.now c.requires.valid c.requires.legal
    c.requires.few

pub audit-requires-clause-spelled : goal.audit-requires-clause-spelled
audit-requires-clause-spelled c =
    c.legal_are_spelled.ensures (contents c.args.scenario.now) c.args.history.now c.requires.valid refl c.requires.legal
    c.requires.few

pub returns : goal.returns
returns c =
    totals_put (contents c.args.scenario.now) c.args.history.now (string_bytes c.args.text.now)
    (string_bytes c.put_audit.new.text) (string_bytes c.put_agree.new.text)
    c.in_ok-counts.counts.forged c.in_ok-counts.counts.alike c.in_ok-counts.counts.intruded
    c.args.scenario.now.sizes.f c.agree_benches.result
    c.in_ok-put_audit.ensures c.in_ok-counts.ensures.forged c.in_ok-counts.ensures.alike
    c.in_ok-counts.ensures.intruded refl
    (c.agree_benches.ensures.relation (contents c.args.scenario.now) c.args.history.now c.requires.benches)
    c.in_ok-put_agree.ensures
