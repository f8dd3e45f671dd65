use Rattle.std.proofs.Common.{◌≡◌, ◌<◌, ℕ, List, length, ap, ◌∙◌, arith}
use Rattle.std.specs.Prelude.{slice_index}
use Rattle.std.specs.Option.{unwrap_or}
use Rattle.suspect_leader.specs.MeasureState.{MeasureState, told_at, turnaround_kept}
use Rattle.suspect_leader.proofs.Masters.{intruded_few, ranked_length}
use Rattle.quorum_sets.proofs.Numbered.{masters_few}
use Rattle.suspect_leader.proofs.measure.Measure.turnaround_told.Goals as goal

pub all_told-reports-requires : goal.all_told-reports-requires
all_told-reports-requires c = masters_few c.self.inside.sizes

pub lowest-requires : goal.lowest-requires
lowest-requires c =
    let fewer : c.self.inside.sizes.f < c.self.inside.sizes.n = intruded_few c.self.inside.sizes in
    let count : length c.all_told-reports.result ≡ c.self.inside.sizes.n = ap length c.all_told-reports.ensures
    ∙ ranked_length (λ j. unwrap_or (told_at c.self.inside.reports.entries c.args.v j) 0) c.self.inside.sizes.n in
    omega arith

pub returns : goal.returns
returns c =
    c.lowest.ensures ∙ ap (λ (l : List ℕ). slice_index l c.self.inside.sizes.f) c.all_told-reports.ensures
    ∙ ap (λ (k : MeasureState). turnaround_kept k c.args.v) c.self.view_is
