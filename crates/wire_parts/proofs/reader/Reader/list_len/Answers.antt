-- The count is read ahead, so that a refusal leaves the reader where it was. A count above the most is told
-- just where two bytes are there and spell such a one.
use Rattle.std.proofs.Common.{arith, refl, ◌<◌, ◌^◌}
use Rattle.wire_parts.proofs.ListLength.{is_above, is_not_above}
use Rattle.wire_parts.proofs.reader.Reader.list_len.Goals as goal

pub returns-then-count-most-clause-too_many : goal.returns-then-count-most-clause-too_many
returns-then-count-most-clause-too_many c =
    let fits : c.in_ok-count.count < 2 ^ 16 = omega arith in
    rw (← c.self.view_is) ((λ _. is_above _ _ _ _ fits c.in_ok-count.ensures.taken c.if-count-most.true), (λ _. refl))

pub returns-clause-too_many : goal.returns-clause-too_many
returns-clause-too_many c =
    let fits : c.in_ok-count.count < 2 ^ 16 = omega arith in
    rw (← c.self.view_is) (
      (λ no. cc),
      (λ above. absurd (is_not_above _ _ _ _ fits c.in_ok-count.ensures.taken c.if-count-most.false above)),
    )
