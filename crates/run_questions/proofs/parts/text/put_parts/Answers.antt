-- Each master in turn has a line where its certified update is of the digest and none where not, so after all
-- masters the lines are those of the definition.
use Rattle.std.proofs.Common.{◌<◌, ◌∙◌, ◌++◌, Option, ap, arith}
use Rattle.std.specs.Prelude.{string_bytes}
use Rattle.message_types.specs.declared.updates.Update.{Update}
use Rattle.world_rules.specs.Scenarios.{masters_in, setup_of}
use Rattle.run_questions.specs.PartsText.{certified_by, part_if}
use Rattle.run_questions.proofs.PartsInOrder.{lines_of, none_put, next_put, all_put}
use Rattle.run_questions.proofs.parts.text.put_parts.Goals as goal

pub loop-master-init : goal.loop-master-init
loop-master-init c = λ world history are size.
    none_put (λ master. part_if c.args.sizes.now.f c.args.digest.now master
    (certified_by (setup_of world) history c.args.request.originator c.args.request.number master))
    (string_bytes c.args.text.now)

pub loop-master-preserved : goal.loop-master-preserved
loop-master-preserved c = λ world history are size.
    let low : c.loop-master.master < masters_in world = omega (arith, c.loop-master-test.true, size) in
    next_put (λ master. part_if c.args.sizes.now.f c.args.digest.now master
    (certified_by (setup_of world) history c.args.request.originator c.args.request.number master))
    (string_bytes c.args.text.now) (string_bytes c.loop-master.text) (string_bytes c.put_if.new.text)
    c.loop-master.master (c.loop-master.invariant world history are size)
    (c.in_ok-put_if.ensures
    ∙ ap (λ (found : Option Update). string_bytes c.loop-master.text
    ++ lines_of (part_if c.args.sizes.now.f c.args.digest.now c.loop-master.master found))
    (c.certified_by-update.ensures world history are low))

pub returns : goal.returns
returns c = λ world history are size same.
    all_put world history c.args.request.originator c.args.request.number c.args.sizes.now.f c.args.sizes.now.n
    c.loop-master.master c.args.digest.now
    (string_bytes c.args.text.now) (string_bytes c.loop-master.text) size same c.loop-master-test.false
    c.loop-master.auto.master-end
    (c.loop-master.invariant world history are size)
