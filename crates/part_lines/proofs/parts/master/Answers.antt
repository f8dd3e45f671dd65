use Rattle.std.proofs.Common.{lit<}
use Rattle.std.proofs.lemmas.Str.Pattern.{strip_prefix_char}
use Rattle.part_lines.proofs.Words.{no_master}
use Rattle.part_lines.proofs.parts.master.Goals as goal

pub returns-in-None : goal.returns-in-None
returns-in-None c =
    let cases = rw c.in-None.is at
    (strip_prefix_char 109 c.args.name.now c.strip_prefix.result c.strip_prefix.ensures.cases (lit< tt)) in
    no_master c.args.sizes.now.n c.args.name.now cases
