-- The first sixteen words are the block's. Each turn makes the eight words that the next one reads, and has eight
-- rounds; the last eight find all words there.
use Rattle.std.proofs.Common.{◌≡◌, ◌+◌, ◌*◌, ◌∙◌, ℕ, ap, arith}
use Rattle.sha2.specs.Sha256.{rounds, schedule}
use Rattle.lane_chains.proofs.rounds.run_rounds.Goals as goal

pub turns-init : goal.turns-init
turns-init c = λ j lt b h words begun.
    (λ k below. words k (omega arith), c.run_three-v.ensures j lt b h words begun)

pub turns-preserved : goal.turns-preserved
turns-preserved c = λ j lt b h words begun.
    let held = c.turns.invariant j lt b h words begun in
    let turn = c.turns.turn in
    let more = c.put_words.ensures j lt b held.0 in
    let next : 8 * turn + 8 ≡ 8 * (turn + 1) = omega arith in (
      λ k below. more k (omega arith),
      c.run_eight-next.ensures j lt b h (λ k below. more k (omega arith)) held.1
          ∙ ap (λ (n : ℕ). rounds h (schedule b 48) n) next,
    )

pub returns : goal.returns
returns c = λ j lt b h words begun.
    let held = c.turns.invariant j lt b h words begun in
    let done : 8 * c.turns.turn ≡ 56 = omega (arith, c.turns.auto.turn-end (omega arith)) in
    c.run_eight.ensures j lt b h (λ k below. held.0 k (omega arith)) (rw done at held.1)
