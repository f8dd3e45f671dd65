-- Place n takes digit n / 3 of list n % 3; the places before it stay as they are.
use Rattle.std.proofs.Common.{◌∙◌, ◌%◌, ◌/◌, ℕ, List, ap, arith, slice_index}
use Rattle.std.proofs.lemmas.List.{length-set}
use Rattle.lane_chains.specs.Three.{of_three}
use Rattle.ots_keys.proofs.TogetherLaws.{places_more}
use Rattle.ots_keys.proofs.together.digits_in_turn.Goals as goal

pub places-preserved : goal.places-preserved
places-preserved c =
    let n = c.places.n in (
      length-set c.places.all n _ ∙ c.places.invariant.0,
      places_more (λ (m : ℕ). slice_index (of_three c.args.x.now c.args.y.now c.args.z.now (m % 3)) (m / 3)) c.places.all n _
          (omega (arith, c.places.invariant.0)) (ap (λ (t : List ℕ). slice_index t (n / 3)) c.list_of-list.ensures)
          c.places.invariant.1,
    )

pub returns : goal.returns
returns c = λ n lt. c.places.invariant.1 n (omega arith)
