-- The byte of the kind leads to the reader of that kind, and what that reader tells is so of the kind as it was
-- read; a byte of no kind spells no event.
use Rattle.std.proofs.Common.{◌≡◌, ◌∷◌, sym, subst, arith}
use Rattle.entry_texts.specs.Reads.{ReadsEvent}
use Rattle.entry_texts.proofs.read.read_other.Goals as goal

pub returns-in-3 : goal.returns-in-3
returns-in-3 c =
    let is : 3 ≡ c.args.kind = omega (arith, c.in-3.is) in
    λ ring. subst (λ k. ReadsEvent ring (k ∷ c.args.reader.now.rest) c.read_command.result) is
    (c.read_command.ensures ring)

pub returns-in-4 : goal.returns-in-4
returns-in-4 c =
    let is : 4 ≡ c.args.kind = omega (arith, c.in-4.is) in
    λ ring. subst (λ k. ReadsEvent ring (k ∷ c.args.reader.now.rest) c.read_field.result) is (c.read_field.ensures ring)
