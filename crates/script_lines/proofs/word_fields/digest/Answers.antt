use Rattle.std.proofs.Common.{lit<}
use Rattle.std.proofs.lemmas.Str.Pattern.{strip_prefix_char}
use Rattle.script_lines.proofs.WordLaws.{no_digest}
use Rattle.script_lines.proofs.word_fields.digest.Goals as goal

pub returns-in-None : goal.returns-in-None
returns-in-None c =
    let cases = rw c.in-None.is at
    (strip_prefix_char 64 c.args.text.now c.strip_prefix.result c.strip_prefix.ensures.cases (lit< tt)) in
    no_digest c.args.company.now.cast c.args.text.now cases
