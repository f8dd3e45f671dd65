use Rattle.std.proofs.Common.{◌≡◌, ◌<◌, ℕ, List, length, reverse, ap, ◌∙◌, arith}
use Rattle.std.specs.Prelude.{slice_index}
use Rattle.std.specs.Option.{unwrap_or}
use Rattle.suspect_leader.specs.MeasureState.{MeasureState, told_at, acceptable_kept}
use Rattle.suspect_leader.proofs.Masters.{intruded_few, ranked_length}
use Rattle.quorum_sets.proofs.Numbered.{masters_few}
use Rattle.suspect_leader.proofs.measure.Measure.acceptable_told.Goals as goal

pub all_told-bounds-requires : goal.all_told-bounds-requires
all_told-bounds-requires c = masters_few c.self.inside.sizes

pub highest-requires : goal.highest-requires
highest-requires c =
    let fewer : c.self.inside.sizes.f < c.self.inside.sizes.n = intruded_few c.self.inside.sizes in
    let count : length c.all_told-bounds.result ≡ c.self.inside.sizes.n = ap length c.all_told-bounds.ensures
    ∙ ranked_length (λ j. unwrap_or (told_at c.self.inside.bounds.entries c.args.v j) 16) c.self.inside.sizes.n in
    omega arith

pub returns : goal.returns
returns c =
    c.highest.ensures ∙ ap (λ (l : List ℕ). slice_index (reverse l) c.self.inside.sizes.f) c.all_told-bounds.ensures
    ∙ ap (λ (k : MeasureState). acceptable_kept k c.args.v) c.self.view_is
