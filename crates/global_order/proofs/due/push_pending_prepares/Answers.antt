-- Prepares are due in two ranges of the view alone. The numbers before, between and up to the end have none, so
-- both pieces are what is due for all numbers.
use Rattle.std.proofs.Common.{◌≡◌, ◌-◌, ◌++◌, min, ◌∙◌, ap, arith, append_assoc}
use Rattle.std.specs.List.{flat_map}
use Rattle.protocol_rules.specs.Words.{numbers_from}
use Rattle.protocol_rules.specs.Order.{prepare_due}
use Rattle.global_order.proofs.Touching.{narrow-prepares}
use Rattle.global_order.proofs.due.push_pending_prepares.Goals as goal

pub returns : goal.returns
returns c = λ facts words offers said pending.
    let p = c.args.pending.now in
    let high : c.min.result ≡ min p.high c.args.end = grind (arith, c.min.ensures) in
    let middle : c.min-2.result ≡ min p.beyond c.args.end = grind (arith, c.min-2.ensures) in
    c.in_ok-push_prepares-2.ensures facts words offers said
    ∙ ap (λ xs. xs ++ flat_map (prepare_due facts words p.view)
    (numbers_from c.min-2.result (c.args.end - c.min-2.result)))
    (c.in_ok-push_prepares.ensures facts words offers said)
    ∙ append_assoc c.args.bodies.now.items _ _
    ∙ ap (λ xs. c.args.bodies.now.items ++ xs)
    (narrow-prepares facts words c.args.said.now p c.args.end c.min.result c.min-2.result said pending high middle)
