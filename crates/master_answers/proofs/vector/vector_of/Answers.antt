-- Each master's number is told at its place, and those told before stay; at the end all masters' are.
use Rattle.std.proofs.Common.{◌<◌, ◌∙◌, length, arith}
use Rattle.std.proofs.lemmas.List.{length-set}
use Rattle.summary_matrix.proofs.Loops.{told_more}
use Rattle.protocol_rules.specs.Preorder.{vector}
use Rattle.master_answers.proofs.vector.vector_of.Goals as goal

pub loop-master-preserved : goal.loop-master-preserved
loop-master-preserved c =
    let within : c.loop-master.master < length c.loop-master.reach.numbers = omega arith in (
      length-set c.loop-master.reach.numbers c.loop-master.master c.vector.result ∙ c.loop-master.invariant.0,
      λ g me taken known said is.
          told_more c.loop-master.reach.numbers c.loop-master.master c.vector.result (vector g known) within
          (c.loop-master.invariant.1 g me taken known said is) (c.vector.ensures g me taken known said is),
    )

pub returns : goal.returns
returns c g me taken known said is j less = c.loop-master.invariant.1 g me taken known said is j (omega arith)
