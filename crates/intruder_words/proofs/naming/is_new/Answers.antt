use Rattle.std.proofs.Common.{◌&&◌, not, ap, rules, tests}
use Rattle.std.proofs.lemmas.Iterator.{YieldsList-from_slice}
use Rattle.std.proofs.lemmas.Iterator.Search.{any_from_yields_List}
use Rattle.history_rules.specs.Sameness.{is_same_body}
use Rattle.intruder_words.specs.Naming.{bears}
use Rattle.intruder_words.proofs.naming.is_new.Goals as goal

pub returns : goal.returns
returns c = ap not (any_from_yields_List (λ e. bears c.args.which e && is_same_body e.body c.args.frame.now.body)
    _ _ _ c.any.ensures.ran (YieldsList-from_slice c.args.earlier.now cc) (λ x b q k. search (rules, tests)))
