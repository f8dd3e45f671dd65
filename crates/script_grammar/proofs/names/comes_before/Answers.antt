use Rattle.script_grammar.proofs.NameLaws.{letters_decide, lengths_decide, digits_decide}
use Rattle.script_grammar.proofs.names.comes_before.Goals as goal

pub returns-then-name-other-2 : goal.returns-then-name-other-2
returns-then-name-other-2 c = lengths_decide c.args.name.now c.args.other.now c.requires.name c.requires.other
    c.if-name-other.false c.if-name-other-2.true

pub returns : goal.returns
returns c = digits_decide c.args.name.now c.args.other.now c.lt.result c.requires.name c.requires.other
    c.if-name-other.false c.if-name-other-2.false c.lt.ensures
