-- Each master's lane is looked at once, and gives the acknowledgements due of all its numbers.
use Rattle.std.proofs.Common.{◌≡◌, ◌≢◌, ℕ, ◌+◌, ◌≤◌, ◌<◌, ◌++◌, List, [], ◌∙◌, ap, sym, subst, refl, arith}
use Rattle.std.proofs.Common.{append_assoc, get_or-set_other}
use Rattle.std.specs.List.{flat_map}
use Rattle.std.proofs.lemmas.List.{append-nil}
use Rattle.message_types.specs.declared.body.Body.{Body}
use Rattle.quorum_sets.specs.Masters.{numbers_below}
use Rattle.quorum_sets.proofs.Numbered.{masters_few}
use Rattle.protocol_rules.specs.Group.{group_of}
use Rattle.preorder.specs.declared.lanes.Lane.{Lane}
use Rattle.preorder.specs.Lanes.{IsAcknowledged, lane_at, lane_acks_due}
use Rattle.preorder.proofs.Ranges.{flat_map-below-more, flat_map-below-none}
use Rattle.preorder.proofs.Turning.{lanes-set}
use Rattle.preorder.proofs.lanes.push_acks_in_turn.Goals as goal

pub loop-master-init : goal.loop-master-init
loop-master-init c = record {
  added = λ known said has lanes.
      sym (ap (λ xs. c.args.bodies.now.items ++ xs)
      (flat_map-below-none (λ j. lane_acks_due (group_of c.args.sizes.now c.args.clients) known said j)) ∙ append-nil _);
  seen = λ known said has lanes. lanes.each;
  rest = λ j low. refl;
}

pub loop-master-preserved : goal.loop-master-preserved
loop-master-preserved c =
    let g = group_of c.args.sizes.now c.args.clients in
    let j = c.loop-master.master in
    let few : c.args.sizes.now.n ≤ 14 = masters_few c.args.sizes.now in
    let below : j < 14 = omega arith in
    let old : lane_at c.loop-master.lanes j ≡ lane_at c.args.lanes.now j = c.loop-master.invariant.rest j (omega arith) in
    record {
      added = λ known said has lanes.
          let f : ℕ → List Body = λ i. lane_acks_due g known said i in
          c.in_ok-push_lane.ensures.added known said has
          ((c.loop-master.invariant.seen known said has lanes).lane j below)
          (subst (λ (lane : Lane). IsAcknowledged g known said j lane.seen) (sym old) (lanes.acknowledged j below))
          ∙ ap (λ xs. xs ++ f j) (c.loop-master.invariant.added known said has lanes)
          ∙ append_assoc c.args.bodies.now.items (flat_map f (numbers_below j)) (f j)
          ∙ ap (λ xs. c.args.bodies.now.items ++ xs) (sym (flat_map-below-more f j));
      seen = λ known said has lanes.
          let before = c.loop-master.invariant.seen known said has lanes in
          lanes-set g known c.loop-master.lanes j c.push_lane.new.lane before below
          (c.in_ok-push_lane.ensures.seen known said has (before.lane j below));
      rest = λ i low.
          let apart : i ≢ j = λ (e : i ≡ j). absurd (omega arith) in
          get_or-set_other c.loop-master.lanes j i c.push_lane.new.lane (record { seen = 0; greatest = [] }) apart
          ∙ c.loop-master.invariant.rest i (omega arith);
    }

pub returns-clause-added : goal.returns-clause-added
returns-clause-added c = λ known said has lanes.
    let all : c.loop-master.master ≡ c.args.sizes.now.n = omega arith in
    c.loop-master.invariant.added known said has lanes
    ∙ ap (λ n. c.args.bodies.now.items
    ++ flat_map (λ j. lane_acks_due (group_of c.args.sizes.now c.args.clients) known said j) (numbers_below n)) all
