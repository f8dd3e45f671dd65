use Rattle.std.proofs.Common.{lit<, subst, sym}
use Rattle.std.proofs.lemmas.Str.Pattern.{strip_prefix_char}
use Rattle.script_grammar.specs.Faults.{Answers}
use Rattle.script_grammar.proofs.NumberLaws.{signed_plain}
use Rattle.script_grammar.proofs.numbers.signed.Goals as goal

pub returns-in-None : goal.returns-in-None
returns-in-None c =
    let cases = rw c.in-None.is at
    (strip_prefix_char 45 c.args.text.now c.strip_prefix.result c.strip_prefix.ensures.cases (lit< tt)) in
    subst (Answers c.not_below_zero.result) (sym (signed_plain c.args.text.now cases)) c.not_below_zero.ensures
