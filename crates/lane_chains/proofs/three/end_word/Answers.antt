-- Lane k has the word at key k's value.
use Rattle.std.proofs.Common.{◌≡◌, ◌+◌, ◌*◌, ◌∙◌, ℕ, ap, arith}
use Rattle.sha2.specs.Sha256.{word_at}
use Rattle.lane_chains.proofs.ThreeKeys.{below_three}
use Rattle.lane_chains.proofs.three.end_word.Goals as goal

pub returns : goal.returns
returns c =
    let i = c.args.i in
    let w = c.args.w in
    let first : 96 * c.from.result + 4 * w ≡ 32 * (3 * i + 0) + 4 * w = omega (arith, c.from.ensures) in
    let second : 96 * c.from.result + 4 * w + 32 ≡ 32 * (3 * i + 1) + 4 * w = omega (arith, c.from.ensures) in
    let third : 96 * c.from.result + 4 * w + 64 ≡ 32 * (3 * i + 2) + 4 * w = omega (arith, c.from.ensures) in
    let word = λ (at : ℕ). word_at c.args.values.now at in
    below_three _ (c.load_be-x.ensures ∙ ap word first) (c.load_be-y.ensures ∙ ap word second)
    (c.load_be-z.ensures ∙ ap word third)
