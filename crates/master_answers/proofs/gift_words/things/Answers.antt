-- The vector's first places are the masters', so their sum is that of the words known. Each number is at most 4,096, and
-- there are at most 14 masters.
use Rattle.std.proofs.Common.{◌≡◌, ◌≤◌, ◌+◌, ℕ, List, map, sym, ◌∙◌, ap, subst, arith}
use Rattle.std.specs.List.{sum}
use Rattle.message_types.specs.declared.signed.Signed.{Signed}
use Rattle.message_types.specs.declared.body.Body.{Body}
use Rattle.quorum_sets.specs.Masters.{numbers_below}
use Rattle.quorum_sets.proofs.Numbered.{masters_few}
use Rattle.protocol_rules.specs.Group.{Group}
use Rattle.protocol_rules.specs.Preorder.{vector}
use Rattle.protocol_rules.specs.Order.{gapless}
use Rattle.protocol_rules.specs.Facts.{facts_of}
use Rattle.master_knowledge.specs.Past.{Past}
use Rattle.master_knowledge.specs.Knows.{Knows}
use Rattle.master_answers.proofs.Gifting.{leading_sum, leading_few, numbers_few}
use Rattle.master_answers.proofs.gift_words.things.Goals as goal

pub vector_of-vector-requires-clause-same : goal.vector_of-vector-requires-clause-same
vector_of-vector-requires-clause-same c = let k = c.requires.knows in
    k.masters ∙ sym (ap (λ (g : Group). g.n) k.preorder.group)

pub vector_of-vector-requires-clause-few : goal.vector_of-vector-requires-clause-few
vector_of-vector-requires-clause-few c = masters_few c.args.knowledge.now.sizes

pub leading-requires : goal.leading-requires
leading-requires c =
    let few : c.args.knowledge.now.sizes.n ≤ 14 = masters_few c.args.knowledge.now.sizes in omega arith

pub total-requests-requires : goal.total-requests-requires
total-requests-requires c =
    let r = c.requires in
    let few : c.args.knowledge.now.sizes.n ≤ 14 = masters_few c.args.knowledge.now.sizes in
    let total : sum c.leading.result.now ≤ 57344 = leading_few r.group r.known c.leading.result.now
    c.args.knowledge.now.sizes.n r.knows.masters few
    (leading_sum r.group r.known c.vector_of-vector.result.numbers c.leading.result.now c.args.knowledge.now.sizes.n
    c.leading.ensures (omega arith) r.knows.masters
    (λ j less. c.vector_of-vector.ensures r.group r.own r.taken r.known r.said r.knows.preorder j less)) in
    omega arith

requests : (c : goal.After-gapless) (g : Group) (own : ℕ) (taken known : List (Signed Body)) (past : Past)
    (said : List Body) → Knows g own c.args.knowledge.now taken known past said →
    sum c.leading.result.now ≡ sum (map (vector g known) (numbers_below g.n))
requests c g own taken known past said k =
    let few : c.args.knowledge.now.sizes.n ≤ 14 = masters_few c.args.knowledge.now.sizes in
    leading_sum g known c.vector_of-vector.result.numbers c.leading.result.now c.args.knowledge.now.sizes.n
    c.leading.ensures (omega arith) k.masters
    (λ j less. c.vector_of-vector.ensures g own taken known said k.preorder j less)

requests_few : (c : goal.After-gapless) → sum c.leading.result.now ≤ 57344
requests_few c = let r = c.requires in
    leading_few r.group r.known c.leading.result.now c.args.knowledge.now.sizes.n r.knows.masters
    (masters_few c.args.knowledge.now.sizes) (requests c r.group r.own r.taken r.known r.past r.said r.knows)

ordered_few : (c : goal.After-gapless) → c.gapless.result ≤ 4096
ordered_few c = let r = c.requires in
    subst (λ s. s ≤ 4096) (sym (c.gapless.ensures r.group (facts_of r.group r.known) r.said r.knows.order))
    (numbers_few r.group (facts_of r.group r.known))

pub overflow_add-result : goal.overflow_add-result
overflow_add-result c =
    let requests : sum c.leading.result.now ≤ 57344 = requests_few c in
    let numbers : c.gapless.result ≤ 4096 = ordered_few c in omega arith

pub returns-clause-all : goal.returns-clause-all
returns-clause-all c g own taken known past said k =
    ap (λ x. x + c.total-requests.result) (c.gapless.ensures g (facts_of g known) said k.order)
    ∙ ap (λ x. gapless g (facts_of g known) + x)
    (c.total-requests.ensures ∙ requests c g own taken known past said k)

pub returns-clause-few : goal.returns-clause-few
returns-clause-few c =
    let requests : sum c.leading.result.now ≤ 57344 = requests_few c in
    let numbers : c.gapless.result ≤ 4096 = ordered_few c in omega arith
