-- All of the frame is written out but its signature, and with that one empty the test of its spelling computes.
use Rattle.std.proofs.Common.{ℕ, List, ap}
use Rattle.message_types.specs.declared.updates.Op.TheVariants as op
use Rattle.message_types.specs.declared.body.Body.TheVariants as body
use Rattle.message_types.specs.Spelling.{has_spelling}
use Rattle.text_tests.proofs.overheard.update.Goals as goal

pub returns : goal.returns
unfolding has_spelling
returns c = ap (λ (sig : List ℕ). has_spelling record {
  signer = 4;
  body =
      body.Update record { client = 0; t = 1; op = op.Ack 0 };
  sig = sig;
}) c.in_ok-from_slice.ensures
