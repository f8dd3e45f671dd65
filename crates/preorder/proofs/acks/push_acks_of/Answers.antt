-- Of each number in the range the acknowledgement due is pushed, if there is one: so at its end those of the whole
-- range.
use Rattle.std.proofs.Common.{◌≡◌, ℕ, ◌+◌, ◌-◌, ◌++◌, List, ◌∙◌, ap, sym, arith, append_assoc}
use Rattle.std.specs.List.{flat_map}
use Rattle.std.proofs.lemmas.List.{append-nil}
use Rattle.message_types.specs.declared.body.Body.{Body}
use Rattle.protocol_rules.specs.Words.{numbers_from}
use Rattle.protocol_rules.specs.Preorder.{ack_due}
use Rattle.preorder.proofs.Ranges.{flat_map-more}
use Rattle.protocol_rules.proofs.Numbers.{flat_map-none}
use Rattle.preorder.proofs.acks.push_acks_of.Goals as goal

pub loop-number-init : goal.loop-number-init
loop-number-init c = record {
  in_range = omega arith;
  added = λ g known said has.
      let none : c.args.low - c.args.low ≡ 0 = omega arith in
      sym (ap (λ n. c.args.bodies.now.items ++ flat_map (ack_due known said c.args.master)
      (numbers_from c.args.low n)) none
      ∙ ap (λ xs. c.args.bodies.now.items ++ xs) (flat_map-none (ack_due known said c.args.master) c.args.low)
      ∙ append-nil _);
}

pub loop-number-preserved : goal.loop-number-preserved
loop-number-preserved c = record {
  in_range = omega arith;
  added = λ g known said has.
      let low = c.args.low in
      let number = c.loop-number.number in
      let f : ℕ → List Body = λ k. ack_due known said c.args.master k in
      let more : number + 1 - low ≡ (number - low) + 1 = omega arith in
      let here : low + (number - low) ≡ number = omega arith in
      c.in_ok-push_ack.ensures g known said has
      ∙ ap (λ xs. xs ++ f number) (c.loop-number.invariant.added g known said has)
      ∙ append_assoc c.args.bodies.now.items (flat_map f (numbers_from low (number - low))) (f number)
      ∙ ap (λ k. c.args.bodies.now.items ++ (flat_map f (numbers_from low (number - low)) ++ f k)) (sym here)
      ∙ ap (λ xs. c.args.bodies.now.items ++ xs) (sym (flat_map-more f low (number - low)))
      ∙ ap (λ n. c.args.bodies.now.items ++ flat_map f (numbers_from low n)) (sym more);
}

pub returns : goal.returns
returns c = λ g known said has.
    let in_range = c.loop-number.invariant.in_range in
    let all : c.loop-number.number - c.args.low ≡ c.args.high - c.args.low = omega arith in
    c.loop-number.invariant.added g known said has
    ∙ ap (λ n. c.args.bodies.now.items ++ flat_map (ack_due known said c.args.master) (numbers_from c.args.low n)) all
