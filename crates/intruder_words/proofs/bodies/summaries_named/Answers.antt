-- The summaries so far are those named by what was gone over, all of them known. The first that isn't known
-- makes the whole answer none.
use Rattle.std.proofs.Common.{map, get_or, sym, ◌∙◌, ap, arith}
use Rattle.std.proofs.lemmas.List.{take_all, get_or_default}
use Rattle.intruder_words.specs.Speaking.{all_of, summary_named}
use Rattle.intruder_words.proofs.Gathering.{gathered-none, gathered-push}
use Rattle.intruder_words.proofs.bodies.summaries_named.Goals as goal

pub returns-in_default : goal.returns-in_default
returns-in_default c = sym (gathered-none (summary_named c.args.known.now) c.args.all.now c.loop-which.which-index
    (get_or c.args.all.now c.loop-which.which-index record { actor = 0; kind = 0; number = 0 }) c.loop-which-test.true
    (get_or_default c.args.all.now c.loop-which.which-index _ _ c.loop-which-test.true)
    (sym c.in_ok-summary.ensures ∙ c.in_default.is))

pub loop-which-preserved : goal.loop-which-preserved
loop-which-preserved c = gathered-push (summary_named c.args.known.now) c.args.all.now c.loop-which.which-index
    (get_or c.args.all.now c.loop-which.which-index record { actor = 0; kind = 0; number = 0 })
    _ _ _ c.loop-which-test.true
    (get_or_default c.args.all.now c.loop-which.which-index _ _ c.loop-which-test.true) c.loop-which.invariant
    (sym c.in_ok-summary.ensures ∙ c.in-Some.is) c.in_ok-push.ensures.ok

pub returns : goal.returns
returns c = sym c.loop-which.invariant ∙ ap (λ xs. all_of (map (summary_named c.args.known.now) xs))
    (take_all c.loop-which.which-index c.args.all.now (omega arith))
