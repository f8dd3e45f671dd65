-- The bodies are noted one after another, and each of them acknowledges only what was requested since all do.
use Rattle.std.proofs.Common.{◌≡◌, ◌<◌, ◌++◌, ◌∷◌, [], List, length, take, get_or, subst, arith}
use Rattle.std.proofs.lemmas.List.{take_all}
use Rattle.message_types.specs.declared.body.Body.{Body}
use Rattle.preorder.specs.Index.{HasFirsts}
use Rattle.preorder.proofs.Settling.{next-said, quiet-at}
use Rattle.preorder.proofs.firsts.note_said.Goals as goal

pub loop-body-preserved : goal.loop-body-preserved
loop-body-preserved c = λ g known said only has.
    let within : c.loop-body.body-index < length c.args.bodies.now = omega arith in
    let item = c.body-item.result in
    let here : item ≡ get_or c.args.bodies.now c.loop-body.body-index item = c.body-item.is in
    next-said g known said c.args.bodies.now c.note_body.new.firsts.entries c.loop-body.body-index item within
    (subst (λ (word : Body). HasFirsts g known ((said ++ take c.loop-body.body-index c.args.bodies.now) ++ word ∷ [])
    c.note_body.new.firsts.entries) here
    (c.note_body.ensures g known (said ++ take c.loop-body.body-index c.args.bodies.now)
    (λ j k none. quiet-at j k c.args.bodies.now c.loop-body.body-index item within here (only j k none))
    (c.loop-body.invariant g known said only has)))

pub returns : goal.returns
returns c = λ g known said only has.
    subst (λ (xs : List Body). HasFirsts g known (said ++ xs) c.loop-body.firsts.entries)
    (take_all c.loop-body.body-index c.args.bodies.now (omega arith)) (c.loop-body.invariant g known said only has)
