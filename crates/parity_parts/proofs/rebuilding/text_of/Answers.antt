-- A set of one length may be joined, and its text is of the parts' length.
use Rattle.std.proofs.Common.{◌∙◌, sym}
use Rattle.parity_parts.specs.Parts.{first_length}
use Rattle.parity_parts.proofs.Finding.{joined_length, of_one_length}
use Rattle.parity_parts.proofs.rebuilding.text_of.Goals as goal

pub join-requires-clause-fit : goal.join-requires-clause-fit
join-requires-clause-fit c =
    of_one_length _ _ (first_length c.args.set.now) c.args.set.now
    (sym c.have_one_length.ensures ∙ c.if-not-have_one_length.false) c.requires.parts

pub returns-clause-length : goal.returns-clause-length
returns-clause-length c =
    joined_length _ _ c.args.set.now _ c.requires.count c.requires.parts
    (c.in_ok-from_vec.ensures ∙ c.in_ok-text.ensures.joined)
