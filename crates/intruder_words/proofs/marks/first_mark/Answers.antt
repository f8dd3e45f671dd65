-- No frame before the one looked at is such a mark: so the first that is one answers, and where the search ends
-- there is none.
use Rattle.std.proofs.Common.{◌∙◌, ap, sym, arith}
use Rattle.std.specs.List.{filter_map}
use Rattle.std.proofs.lemmas.List.{take_all}
use Rattle.protocol_rules.specs.Words.{first_of_list}
use Rattle.intruder_words.specs.Marking.{mark_of}
use Rattle.intruder_words.proofs.Voting.{votes-none, vote-found}
use Rattle.intruder_words.proofs.marks.first_mark.Goals as goal

pub returns-in-Some : goal.returns-in-Some
returns-in-Some c = sym (vote-found (mark_of c.args.s c.args.master) c.args.known.now c.loop-frame.frame-index
    c.frame-item.result _ c.loop-frame-test.true c.frame-item.is c.loop-frame.invariant
    (sym c.in_ok-mark.ensures ∙ c.in-Some.is))

pub loop-frame-preserved : goal.loop-frame-preserved
loop-frame-preserved c = votes-none (mark_of c.args.s c.args.master) c.args.known.now c.loop-frame.frame-index
    c.frame-item.result c.loop-frame-test.true c.frame-item.is c.loop-frame.invariant
    (sym c.in_ok-mark.ensures ∙ c.in_default.is)

pub returns : goal.returns
returns c = sym (ap first_of_list
    (ap (filter_map (mark_of c.args.s c.args.master))
    (sym (take_all c.loop-frame.frame-index c.args.known.now (omega arith))) ∙ c.loop-frame.invariant))
