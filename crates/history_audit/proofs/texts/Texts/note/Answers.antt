-- A text known already changes nothing. A new one adds itself, and its digest where no earlier text has it: so
-- texts less digests stay the count of texts that share an earlier one's digest.
use Rattle.std.proofs.Common.{◌≡◌, ◌∙◌, ap}
use Rattle.sha2.specs.Sha256.{sha256}
use Rattle.history_audit.proofs.Different.{text_known, text_new}
use Rattle.history_audit.proofs.texts.Texts.note.Goals as goal

pub returns-then-contains : goal.returns-then-contains
returns-then-contains c = λ given are. text_known given c.args.self.now c.args.text.items c.if-contains.ensures are

pub returns : goal.returns
returns c = λ given are.
    let is : c.digest.result ≡ sha256 c.args.text.items = c.digest.ensures ∙ ap sha256 c.as_slice.ensures.value in
    text_new given c.args.self.now record { texts = c.insert-2.new.self; digests = c.insert.new.self } c.args.text
    c.digest.result c.in_ok-insert.field-0
    is c.if-contains.ensures c.in_ok-insert-2.ensures.keys c.in_ok-insert.ensures.added c.in_ok-insert.ensures.len
    c.in_ok-insert.ensures.updates.0 are
