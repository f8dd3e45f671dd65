-- The words kept are those from before and the actor's words gone over so far; each turn adds the next one.
use Rattle.std.proofs.Common.{◌++◌, map, take, arith}
use Rattle.message_types.specs.declared.body.Body.{Body}
use Rattle.history_audit.specs.Said.{HasWords}
use Rattle.history_audit.proofs.Loops.{map_starts, map_step, map_whole}
use Rattle.history_audit.proofs.said.note_words.Goals as goal

pub loop-body-init : goal.loop-body-init
loop-body-init c = λ words has. map_starts (λ ws. HasWords ws c.args.said.now) (λ (b : Body). (c.args.actor, b))
    words c.args.bodies.now has

pub loop-body-preserved : goal.loop-body-preserved
loop-body-preserved c = λ words has.
    map_step (λ ws. HasWords ws c.note_word.new.said) (λ (b : Body). (c.args.actor, b)) words c.args.bodies.now
    c.loop-body.body-index c.body-item.result (omega arith) c.body-item.is
    (c.in_ok-note_word.ensures
    (words ++ map (λ (b : Body). (c.args.actor, b)) (take c.loop-body.body-index c.args.bodies.now))
    (c.loop-body.invariant words has))

pub returns : goal.returns
returns c = λ words has.
    map_whole (λ ws. HasWords ws c.loop-body.said) (λ (b : Body). (c.args.actor, b)) words c.args.bodies.now
    c.loop-body.body-index (omega arith) (c.loop-body.invariant words has)
