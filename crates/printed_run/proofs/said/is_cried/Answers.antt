-- A cry has one frame at most, at place 0, and it is what its bytes spell. So it is this frame just where the
-- bytes are read as the same one.
use Rattle.std.proofs.Common.{arith}
use Rattle.printed_run.proofs.SaidThere.{cry_spells, cry_spells_none}
use Rattle.printed_run.proofs.said.is_cried.Goals as goal

pub returns-in-Some : goal.returns-in-Some
returns-in-Some c =
    cry_spells c.args.bytes.now c.in-Some.said c.args.frame.now c.args.place c.is_same.result
    (omega (arith, c.if-place-ne0.false)) (rw c.in-Some.is at c.in_ok-found.ensures.found) c.is_same.ensures

pub returns-in-None : goal.returns-in-None
returns-in-None c =
    cry_spells_none c.args.bytes.now c.args.frame.now c.args.place (rw c.in-None.is at c.in_ok-found.ensures.found)
