-- The rows taken are those of the first numbers in order, one more each turn, up to the gapless ones. There are
-- at most 4096 of them, so no sum overflows.
use Rattle.std.proofs.Common.{◌≡◌, ◌+◌, ◌<◌, ◌≤◌, ◌∙◌, ap, arith, rules}
use Rattle.protocol_rules.specs.Group.{most_number}
use Rattle.protocol_rules.specs.Order.{gapless}
use Rattle.master_knowledge.proofs.NextRows.{gapless_small, taken_none, taken_one, taken_all, still_behind}
use Rattle.master_knowledge.proofs.numbers.take_numbers.Goals as goal

pub overflow_step-s : goal.overflow_step-s
unfolding most_number
overflow_step-s c =
    let small : gapless c.args.run.now.group c.requires.facts ≤ 4096 =
    gapless_small c.args.run.now.group c.requires.facts in
    let below : c.args.run.now.numbers ≤ gapless c.args.run.now.group c.requires.facts = c.requires.numbers in
    let is : c.numbers-s.result ≡ c.args.run.now.numbers = c.numbers-s.ensures in
    let fits : c.numbers-s.result + 1 < 18446744073709551616 = omega arith in
    search rules

pub overflow_add-s-end : goal.overflow_add-s-end
unfolding most_number
overflow_add-s-end c =
    let small : gapless c.args.run.now.group c.requires.facts ≤ 4096 =
    gapless_small c.args.run.now.group c.requires.facts in
    let is : c.gapless-s-end.result ≡ gapless c.args.run.now.group c.requires.facts =
    c.gapless-s-end.ensures c.args.run.now.group c.requires.facts c.requires.said c.requires.is in
    let fits : c.gapless-s-end.result + 1 < 18446744073709551616 = omega arith in
    search rules

pub loop-s-init : goal.loop-s-init
loop-s-init c = taken_none c.args.run.now c.args.order.now _ (let is : c.numbers-s.result ≡ c.args.run.now.numbers =
    c.numbers-s.ensures in omega arith)

pub take_number-requires-clause-behind : goal.take_number-requires-clause-behind
take_number-requires-clause-behind c =
    let is : c.gapless-s-end.result ≡ gapless c.args.run.now.group c.requires.facts =
    c.gapless-s-end.ensures c.args.run.now.group c.requires.facts c.requires.said c.requires.is in
    let next : c.loop-s.s ≡ c.loop-s.run.numbers + 1 = c.loop-s.invariant.next in
    still_behind c.args.run.now c.loop-s.run c.args.order.now c.requires c.loop-s.invariant.group (omega arith)

pub take_number-requires-clause-ordered : goal.take_number-requires-clause-ordered
take_number-requires-clause-ordered c g facts said order =
    let is : c.gapless-s-end.result ≡ gapless g facts = c.gapless-s-end.ensures g facts said order in
    omega arith

pub loop-s-preserved : goal.loop-s-preserved
loop-s-preserved c =
    taken_one c.args.run.now c.loop-s.run c.take_number.new.run c.args.order.now c.loop-s.s
    (λ g facts said order. let is : c.gapless-s-end.result ≡ gapless g facts =
    c.gapless-s-end.ensures g facts said order in omega arith)
    c.loop-s.invariant c.in_ok-take_number.ensures.group c.in_ok-take_number.ensures.number
    c.in_ok-take_number.ensures.ok

pub returns : goal.returns
returns c =
    let here : c.gapless-s-end.result ≡ gapless c.args.run.now.group c.requires.facts =
    c.gapless-s-end.ensures c.args.run.now.group c.requires.facts c.requires.said c.requires.is in
    let below : c.args.run.now.numbers ≤ gapless c.args.run.now.group c.requires.facts = c.requires.numbers in
    let last : c.loop-s.s ≡ c.gapless-s-end.result + 1 = omega arith in
    taken_all c.args.run.now c.loop-s.run c.args.order.now c.loop-s.s c.loop-s.invariant
    (λ g facts said order. last ∙ ap (λ n. n + 1) (c.gapless-s-end.ensures g facts said order))
