use Rattle.run_scripts.proofs.SlotsKept.{named_there, none_named}
use Rattle.run_scripts.proofs.mail.Mail.named.Goals as goal

pub returns-then-which-eq0 : goal.returns-then-which-eq0
returns-then-which-eq0 c = λ actors posts waiting there is. none_named posts c.args.which c.if-which-eq0.true

pub returns : goal.returns
returns c = λ actors posts waiting there is.
    named_there actors posts waiting c.args.self.now c.args.which c.slot_at.result c.index.result.now
    c.deref.result.now _ is there c.requires.kind c.if-which-eq0.false c.slot_at.ensures c.requires.there
    c.index.ensures c.deref.ensures.value c.get_held.ensures
