-- The inner reader and the grammar agree on every text: what is read spells the text and is spelled so, what is
-- spelled so is read, and else the first fault is told.
use Rattle.std.proofs.Common.{arith}
use Rattle.message_forms.proofs.Spells.{IsBytes-from}
use Rattle.message_forms.proofs.FrameLaws.{answer_found, answer_spelled, answer_only, answer_fault, answer_none}
use Rattle.message_forms.proofs.read.read_frame.Goals as goal

pub returns-clause-found : goal.returns-clause-found
returns-clause-found c =
    answer_found _ _ (IsBytes-from c.args.bytes.now (λ i. omega (arith, c.type_inv.bytes i))) c.frame.ensures

pub returns-clause-spelled : goal.returns-clause-spelled
returns-clause-spelled c =
    answer_spelled _ _ (IsBytes-from c.args.bytes.now (λ i. omega (arith, c.type_inv.bytes i))) c.frame.ensures

pub returns-clause-only : goal.returns-clause-only
returns-clause-only c = answer_only _ _ c.frame.ensures

pub returns-clause-fault : goal.returns-clause-fault
returns-clause-fault c = answer_fault _ _ c.frame.ensures

pub returns-clause-none : goal.returns-clause-none
returns-clause-none c = answer_none _ _ c.frame.ensures
