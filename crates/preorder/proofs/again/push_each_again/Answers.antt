-- Of each master the acknowledgement after what its vector has is added, where one was said.
use Rattle.std.proofs.Common.{◌≡◌, ℕ, ◌+◌, ◌≤◌, ◌<◌, ◌++◌, List, ◌∙◌, ap, sym, arith, append_assoc}
use Rattle.std.specs.Prelude.{slice_index}
use Rattle.std.specs.List.{find, flat_map}
use Rattle.std.specs.Option.{option_to_list}
use Rattle.std.proofs.lemmas.List.{append-nil}
use Rattle.message_types.specs.declared.body.Body.{Body}
use Rattle.quorum_sets.specs.Masters.{numbers_below}
use Rattle.protocol_rules.specs.Group.{most_number}
use Rattle.protocol_rules.specs.Preorder.{acks, vector}
use Rattle.preorder.proofs.Ranges.{flat_map-below-more, flat_map-below-none, vector-reached}
use Rattle.preorder.proofs.again.push_each_again.Goals as goal

pub loop-master-init : goal.loop-master-init
loop-master-init c = λ g known said has told reached.
    sym (ap (λ xs. c.args.bodies.now.items ++ xs)
    (flat_map-below-none (λ j. option_to_list (find (acks j (vector g known j + 1)) said))) ∙ append-nil _)

pub loop-master-preserved : goal.loop-master-preserved
unfolding most_number
loop-master-preserved c = λ g known said has told reached.
    let j = c.loop-master.master in
    let f : ℕ → List Body = λ i. option_to_list (find (acks i (vector g known i + 1)) said) in
    let below : j < 14 = omega arith in
    let limit : slice_index c.args.reach.now j ≤ 4096 = (reached j below).limit in
    let next : c.saturating_add-k.result ≡ slice_index c.args.reach.now j + 1 =
    omega (arith, c.saturating_add-k.ensures) in
    c.in_ok-push_ack_again.ensures g known said has told
    ∙ ap (λ k. c.loop-master.bodies.items ++ option_to_list (find (acks j k) said))
    (next ∙ ap (λ n. n + 1) (vector-reached g known j (slice_index c.args.reach.now j) (reached j below)))
    ∙ ap (λ xs. xs ++ f j) (c.loop-master.invariant g known said has told reached)
    ∙ append_assoc c.args.bodies.now.items (flat_map f (numbers_below j)) (f j)
    ∙ ap (λ xs. c.args.bodies.now.items ++ xs) (sym (flat_map-below-more f j))

pub returns : goal.returns
returns c = λ g known said has told reached.
    let all : c.loop-master.master ≡ c.args.masters = omega arith in
    c.loop-master.invariant g known said has told reached
    ∙ ap (λ n. c.args.bodies.now.items
    ++ flat_map (λ j. option_to_list (find (acks j (vector g known j + 1)) said)) (numbers_below n)) all
