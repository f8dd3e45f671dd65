-- Outside its range a master's numbers have nothing due, so the acknowledgements of the range are those of all its
-- numbers, one master after the other.
use Rattle.std.proofs.Common.{◌≡◌, ℕ, ◌++◌, List, ◌∙◌, ap, sym, arith, append_assoc}
use Rattle.std.specs.List.{flat_map}
use Rattle.std.proofs.lemmas.List.{append-nil}
use Rattle.message_types.specs.declared.body.Body.{Body}
use Rattle.quorum_sets.specs.Masters.{numbers_below}
use Rattle.protocol_rules.specs.Group.{most_number}
use Rattle.protocol_rules.specs.Words.{numbers_from}
use Rattle.protocol_rules.specs.Preorder.{ack_due}
use Rattle.preorder.proofs.Ranges.{flat_map-below-more, flat_map-below-none, acks-narrow}
use Rattle.preorder.proofs.acks.push_acks.Goals as goal

pub loop-master-init : goal.loop-master-init
loop-master-init c = λ g known said has pending.
    sym (ap (λ xs. c.args.bodies.now.items ++ xs)
    (flat_map-below-none (λ j. flat_map (λ k. ack_due known said j k) (numbers_from 1 most_number))) ∙ append-nil _)

pub loop-master-preserved : goal.loop-master-preserved
loop-master-preserved c = λ g known said has pending.
    let master = c.loop-master.master in
    let f : ℕ → List Body = λ j. flat_map (λ k. ack_due known said j k) (numbers_from 1 most_number) in
    c.in_ok-push_acks_of.ensures g known said has
    ∙ ap (λ xs. c.loop-master.bodies.items ++ xs)
    (acks-narrow known said c.args.pending.now.low c.args.pending.now.high master pending (omega arith))
    ∙ ap (λ xs. xs ++ f master) (c.loop-master.invariant g known said has pending)
    ∙ append_assoc c.args.bodies.now.items (flat_map f (numbers_below master)) (f master)
    ∙ ap (λ xs. c.args.bodies.now.items ++ xs) (sym (flat_map-below-more f master))

pub returns : goal.returns
returns c = λ g known said size has pending.
    let all : c.loop-master.master ≡ c.args.masters = omega arith in
    c.loop-master.invariant g known said has pending
    ∙ ap (λ n. c.args.bodies.now.items
    ++ flat_map (λ j. flat_map (λ k. ack_due known said j k) (numbers_from 1 most_number)) (numbers_below n))
    (all ∙ sym size)
