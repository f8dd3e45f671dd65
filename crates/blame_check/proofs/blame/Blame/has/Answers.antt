use Rattle.std.proofs.Common.{◌∙◌, ap}
use Rattle.std.specs.List.{list_any}
use Rattle.blame_check.proofs.Rising.{is_of}
use Rattle.blame_check.proofs.blame.Blame.has.Goals as goal

pub returns : goal.returns
returns c = λ n words has. c.is_named.ensures ∙ ap (list_any (is_of c.args.master))
    (c.as_slice.ensures.value ∙ has.pairs)
