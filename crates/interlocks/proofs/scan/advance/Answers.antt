-- A byte goes on with the present token, or that token is taken and the next begins at the byte, or behind it
-- at a space. In each case what is still to be read is the same, or refused alike.
use Rattle.std.proofs.Common.{◌∙◌, sym, arith}
use Rattle.interlocks.proofs.ScanLaws.{here-on, here-space, here-other, here-refused}
use Rattle.interlocks.proofs.scan.advance.Goals as goal

pub returns-then-continues-clause-ok : goal.returns-then-continues-clause-ok
returns-then-continues-clause-ok c = (
  let order = c.requires.order in omega arith,
  here-on _ _ _ _ _ c.requires.order c.requires.within
      (sym c.continues.ensures ∙ c.if-continues.true),
)

pub returns-then-byte-eq32-clause-ok : goal.returns-then-byte-eq32-clause-ok
returns-then-byte-eq32-clause-ok c = (
  omega arith,
  here-space _ _ _ _ _ _ c.requires.within (sym c.continues.ensures ∙ c.if-continues.false)
      c.in-Ok.ensures c.if-byte-eq32.true,
)

pub returns-else-byte-eq32-clause-ok : goal.returns-else-byte-eq32-clause-ok
returns-else-byte-eq32-clause-ok c = (
  omega arith,
  here-other _ _ _ _ _ _ c.requires.within (sym c.continues.ensures ∙ c.if-continues.false)
      c.in-Ok.ensures c.if-byte-eq32.false,
)

pub returns-in-Err-clause-err : goal.returns-in-Err-clause-err
returns-in-Err-clause-err c =
    here-refused _ _ _ _ _ _ c.requires.within (sym c.continues.ensures ∙ c.if-continues.false) c.in-Err.ensures
