-- After each turn every lane stands so many steps further in its own chain, at most at its last. A lane that is
-- done takes no more, though its block is hashed along with the others.
use Rattle.std.proofs.Common.{◌-◌, ◌∙◌, ℕ, ap, arith, slice_index}
use Rattle.std.specs.Prelude.{cond, ltb}
use Rattle.lane_chains.specs.Lanes.{lane, id_lane}
use Rattle.lane_chains.proofs.LanesOfChains.{lane_more, lane_none, lane_done, step_fits, zero_lane}
use Rattle.lane_chains.proofs.runs.run_lanes.Goals as goal

pub turns-init : goal.turns-init
turns-init c = λ j lt. lane_none _ _ _ _ _ _ _ (c.requires.order j lt) (c.requires.turns j lt)

pub step_keys-next-requires-clause-steps : goal.step_keys-next-requires-clause-steps
step_keys-next-requires-clause-steps c = λ j lt.
    let s = slice_index c.turns.steps j in
    step_fits s (slice_index c.args.to j) (slice_index c.chosen-now.result j) (c.requires.top j lt)
    (c.chosen-now.ensures j lt ∙ ap (λ (z : ℕ). cond (ltb s (slice_index c.args.to j)) s z) (zero_lane j lt))

pub turns-preserved : goal.turns-preserved
turns-preserved c = λ j lt.
    let s = slice_index c.turns.steps j in
    let t = slice_index c.args.to j in
    lane_more (id_lane j c.args.ids) (slice_index c.args.q j) (slice_index c.args.chains j) (slice_index c.args.from j) t
    (c.args.turns - c.turns.turn) _ s (slice_index c.chosen-now.result j) (lane j c.args.start) (lane j c.turns.v)
    (lane j c.step_keys-next.result) _ _ (c.turns.invariant j lt) (c.requires.top j lt) (omega arith)
    (c.chosen-now.ensures j lt ∙ ap (λ (z : ℕ). cond (ltb s t) s z) (zero_lane j lt))
    (c.step_keys-next.ensures j lt) (c.chosen_values-kept.ensures j lt)
    (c.chosen-later.ensures j lt ∙ ap (λ (x : ℕ). cond (ltb s t) x s) (c.plus_one.ensures j lt))

pub returns : goal.returns
returns c = λ j lt. lane_done _ _ _ _ _ _ _ _ _ (c.turns.invariant j lt) (omega arith)
