-- The certificates so far are those of the items gone over, all of them known. The first that the order doesn't
-- know makes the whole answer none.
use Rattle.std.proofs.Common.{map, get_or, sym, ◌∙◌, ap, arith}
use Rattle.std.proofs.lemmas.List.{take_all, get_or_default}
use Rattle.intruder_words.specs.Speaking.{all_of, certificate_known}
use Rattle.intruder_words.proofs.Gathering.{gathered-none, gathered-push}
use Rattle.intruder_words.proofs.reports.certificates_in.Goals as goal

pub returns-in_default : goal.returns-in_default
returns-in_default c = λ g facts said is. sym
    (gathered-none (certificate_known g facts) c.args.items.now c.loop-item.item-index
    (get_or c.args.items.now c.loop-item.item-index record { s = 0; v = 0 }) c.loop-item-test.true
    (get_or_default c.args.items.now c.loop-item.item-index _ _ c.loop-item-test.true)
    (sym (c.in_ok-certificate.ensures g facts said is) ∙ c.in_default.is))

pub loop-item-preserved : goal.loop-item-preserved
loop-item-preserved c = λ g facts said is. gathered-push (certificate_known g facts)
    c.args.items.now c.loop-item.item-index (get_or c.args.items.now c.loop-item.item-index record { s = 0; v = 0 })
    _ _ _ c.loop-item-test.true
    (get_or_default c.args.items.now c.loop-item.item-index _ _ c.loop-item-test.true)
    (c.loop-item.invariant g facts said is) (sym (c.in_ok-certificate.ensures g facts said is) ∙ c.in-Some.is)
    c.in_ok-push.ensures.ok

pub returns : goal.returns
returns c = λ g facts said is. sym (c.loop-item.invariant g facts said is)
    ∙ ap (λ xs. all_of (map (certificate_known g facts) xs))
    (take_all c.loop-item.item-index c.args.items.now (omega arith))
