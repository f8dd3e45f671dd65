use Rattle.std.proofs.Common.{arith, refl}
use Rattle.message_forms.proofs.Spells.{IsBytes-from}
use Rattle.entry_texts.proofs.EventReads.{spelled_is}
use Rattle.entry_texts.proofs.read.read_spelled.Goals as goal

pub returns-in-Ok : goal.returns-in-Ok
returns-in-Ok c =
    spelled_is c.args.text.now c.in-Ok.frame (IsBytes-from c.args.text.now (λ i. omega (arith, c.type_inv.text i)))
    (c.in-Ok.ensures.none refl) c.in-Ok.ensures.found c.in-Ok.ensures.spelled c.in-Ok.ensures.only
