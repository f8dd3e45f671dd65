-- Place n takes value n / 3 of text n % 3; the places before it stay as they are.
use Rattle.std.proofs.Common.{◌≡◌, ◌≢◌, ◌≤◌, ◌%◌, ◌/◌, ◌*◌, ◌∙◌, ℕ, List, ap, arith, below_more, length}
use Rattle.lane_chains.specs.Chains.{value_at}
use Rattle.lane_chains.specs.Three.{of_three}
use Rattle.ots_keys.proofs.TogetherLaws.{each_of_three}
use Rattle.ots_keys.proofs.together.values_in_turn.Goals as goal

pub read_value-value-requires : goal.read_value-value-requires
read_value-value-requires c =
    let x = c.args.x.now in
    let y = c.args.y.now in
    let z = c.args.z.now in
    let k : ℕ = c.places.n % 3 in
    let room : 32 * c.args.count ≤ length (of_three x y z k) =
    each_of_three (λ (t : List ℕ). 32 * c.args.count ≤ length t) x y z c.requires.x c.requires.y c.requires.z k in
    let same : length c.text_of-text.result.now ≡ length (of_three x y z k) = ap length c.text_of-text.ensures in
    omega (arith, room, same)

pub places-preserved : goal.places-preserved
places-preserved c =
    let n = c.places.n in
    below_more (λ m. value_at c.write_value.new.values m
    ≡ value_at (of_three c.args.x.now c.args.y.now c.args.z.now (m % 3)) (m / 3)) n
    (λ m lt. let ne : m ≢ n = omega arith in c.write_value.ensures.others m ne ∙ c.places.invariant m lt)
    (c.write_value.ensures.written ∙ c.read_value-value.ensures
    ∙ ap (λ (t : List ℕ). value_at t (n / 3)) c.text_of-text.ensures)

pub returns : goal.returns
returns c = λ n lt. c.places.invariant n (omega arith)
