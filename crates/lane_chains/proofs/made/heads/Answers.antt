-- Value j is the head of leaf q + j, and lane j takes that value.
use Rattle.std.proofs.Common.{◌≡◌, ◌≢◌, ◌<◌, ◌+◌, ◌∙◌, ℕ, List, [], ◌∷◌, ap, arith, below_more, refl, slice_index}
use Rattle.lane_chains.specs.Chains.{value_at}
use Rattle.lane_chains.specs.Made.{head}
use Rattle.lane_chains.proofs.LanesOneByOne.{below_eight}
use Rattle.lane_chains.proofs.made.heads.Goals as goal

abbrev places : List ℕ
places = 0 ∷ 1 ∷ 2 ∷ 3 ∷ 4 ∷ 5 ∷ 6 ∷ 7 ∷ []

place_is : (j : ℕ) → j < 8 → slice_index places j ≡ j
place_is = below_eight (λ (j : ℕ). slice_index places j ≡ j) refl refl refl refl refl refl refl refl

pub leaves-preserved : goal.leaves-preserved
leaves-preserved c =
    below_more (λ k. value_at c.write_value.new.values k ≡ head c.args.id.now (c.args.q + k) c.args.tag) c.leaves.j
    (λ k lt. let ne : k ≢ c.leaves.j = omega arith in c.write_value.ensures.others k ne ∙ c.leaves.invariant k lt)
    (c.write_value.ensures.written ∙ c.head.ensures)

pub gathered_values-requires : goal.gathered_values-requires
gathered_values-requires c = λ j lt. let at = place_is j lt in omega (arith, at)

pub returns : goal.returns
returns c = λ j lt.
    c.gathered_values.ensures j lt
    ∙ ap (value_at c.leaves.values) (place_is j lt)
    ∙ c.leaves.invariant j (omega arith)
