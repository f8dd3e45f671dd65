use Rattle.std.proofs.Common.{refl, ◌∙◌, ap, []}
use Rattle.protocol_rules.specs.Group.{group_of}
use Rattle.suspect_leader.specs.MeasureState.{with_all}
use Rattle.suspect_leader.proofs.Start.{start, no_trip_at}
use Rattle.suspect_leader.proofs.measure.Measure.new.Goals as goal

pub returns-clause-nothing : goal.returns-clause-nothing
returns-clause-nothing c = λ clients. start (group_of c.args.sizes clients) c.args.me _ refl refl refl refl refl refl
    c.new.ensures.empty c.new-2.ensures.empty (no_trip_at 14)
    (ap (λ l. with_all l c.new-3.result.keys) c.new-4.ensures.empty ∙ ap (with_all []) c.new-3.ensures.empty)
    c.new-5.ensures.empty
