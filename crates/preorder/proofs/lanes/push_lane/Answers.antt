-- Of each number passed the acknowledgement due is pushed, if there is one; the lane stops where a number isn't known, and
-- behind that nothing has its turn.
use Rattle.std.proofs.Common.{◌≡◌, ℕ, ◌+◌, ◌-◌, ◌≤◌, ◌++◌, List, ◌∙◌, ap, sym, arith, append_assoc, inl, inr}
use Rattle.std.specs.List.{flat_map}
use Rattle.std.proofs.lemmas.List.{append-nil}
use Rattle.message_types.specs.declared.body.Body.{Body}
use Rattle.protocol_rules.specs.Group.{group_of, most_number}
use Rattle.protocol_rules.specs.Words.{numbers_from}
use Rattle.preorder.specs.Index.{first_update}
use Rattle.preorder.specs.Lanes.{ack_in_turn_due}
use Rattle.preorder.proofs.Ranges.{flat_map-more}
use Rattle.preorder.proofs.AcksInTurn.{lane-all}
use Rattle.protocol_rules.proofs.Numbers.{flat_map-none}
use Rattle.preorder.proofs.lanes.push_lane.Goals as goal

pub loop-lane-init : goal.loop-lane-init
loop-lane-init c = record {
  grows = omega arith;
  added = λ known said has is.
      let f : ℕ → List Body = λ k. ack_in_turn_due (group_of c.args.sizes.now c.args.clients) known said c.args.master k in
      let s = c.args.lane.now.seen in
      let none : s - s ≡ 0 = omega arith in
      sym (ap (λ n. c.args.bodies.now.items ++ flat_map f (numbers_from (s + 1) n)) none
      ∙ ap (λ xs. c.args.bodies.now.items ++ xs) (flat_map-none f (s + 1)) ∙ append-nil _);
  seen = λ known said has is. is;
}

pub look_at-requires-clause-more : goal.look_at-requires-clause-more
unfolding most_number
look_at-requires-clause-more c = c.loop-lane-test.true

pub loop-lane-preserved : goal.loop-lane-preserved
loop-lane-preserved c =
    let s = c.args.lane.now.seen in
    let n = c.loop-lane.lane.seen in
    let grown : c.look_at.new.lane.seen ≡ n + 1 = c.in_ok-look_at.ensures.next in
    let before : s ≤ n = c.loop-lane.invariant.grows in
    record {
      grows = omega arith;
      added = λ known said has is.
          let f : ℕ → List Body =
          λ k. ack_in_turn_due (group_of c.args.sizes.now c.args.clients) known said c.args.master k in
          let more : (n - s) + 1 ≡ c.look_at.new.lane.seen - s = omega arith in
          let here : n + 1 ≡ (s + 1) + (n - s) = omega arith in
          c.in_ok-look_at.ensures.added known said has (c.loop-lane.invariant.seen known said has is)
          (sym (has c.args.master (n + 1)).update ∙ ap first_update (sym c.in-Some.ensures.value))
          ∙ ap (λ xs. xs ++ f (n + 1)) (c.loop-lane.invariant.added known said has is)
          ∙ append_assoc c.args.bodies.now.items (flat_map f (numbers_from (s + 1) (n - s))) (f (n + 1))
          ∙ ap (λ k. c.args.bodies.now.items ++ (flat_map f (numbers_from (s + 1) (n - s)) ++ f k)) here
          ∙ ap (λ xs. c.args.bodies.now.items ++ xs) (sym (flat_map-more f (s + 1) (n - s)))
          ∙ ap (λ m. c.args.bodies.now.items ++ flat_map f (numbers_from (s + 1) m)) more;
      seen = λ known said has is.
          c.in_ok-look_at.ensures.seen known (c.loop-lane.invariant.seen known said has is)
          (sym (has c.args.master (n + 1)).update ∙ ap first_update (sym c.in-Some.ensures.value));
    }

pub returns-in_default-clause-added : goal.returns-in_default-clause-added
returns-in_default-clause-added c = λ known said has is was.
    let g = group_of c.args.sizes.now c.args.clients in
    let old = c.loop-lane.invariant.seen known said has is in
    c.loop-lane.invariant.added known said has is
    ∙ ap (λ xs. c.args.bodies.now.items ++ xs)
    (lane-all g known said c.args.firsts.now.entries c.args.master c.args.lane.now.seen c.loop-lane.lane.seen has was
    c.loop-lane.invariant.grows old.limit
    (inr (sym (has c.args.master (c.loop-lane.lane.seen + 1)).update ∙ ap first_update (sym c.in_default.ensures.value))))

pub returns-clause-added : goal.returns-clause-added
unfolding most_number
returns-clause-added c = λ known said has is was.
    let g = group_of c.args.sizes.now c.args.clients in
    let old = c.loop-lane.invariant.seen known said has is in
    c.loop-lane.invariant.added known said has is
    ∙ ap (λ xs. c.args.bodies.now.items ++ xs)
    (lane-all g known said c.args.firsts.now.entries c.args.master c.args.lane.now.seen c.loop-lane.lane.seen has was
    c.loop-lane.invariant.grows old.limit (inl (omega arith)))
