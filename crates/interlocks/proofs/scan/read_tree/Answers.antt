-- What is still to be read from the present place on is always the whole rule. So at the end the last token and
-- the finish settle it, and a refusal on the way is the rule's.
use Rattle.std.proofs.Common.{◌≡◌, ◌∙◌, sym, subst, length, arith, Result}
use Rattle.interlocks.specs.declared.refusal.RuleRefusal.{RuleRefusal}
use Rattle.interlocks.specs.Formula.{Formula}
use Rattle.interlocks.specs.Answers.{AnswersTree, Refuses}
use Rattle.interlocks.proofs.ScanLaws.{here-start, here-end, here-end_refused}
use Rattle.interlocks.proofs.scan.read_tree.Goals as goal

pub loop-place-init : goal.loop-place-init
loop-place-init c = (omega arith, rw c.start-state.ensures (here-start _ _))

pub returns-in-Ok-take_before : goal.returns-in-Ok-take_before
returns-in-Ok-take_before c =
    let all : length c.args.text.now ≡ c.loop-place.place = let a = c.loop-place-test.false in let b =
    c.loop-place.auto.place-end in omega arith in
    subst (λ (r : Result Formula RuleRefusal). AnswersTree c.finish.result r)
    (sym (here-end _ _ _ _ c.loop-place.start _ all c.in-Ok-take_before.ensures) ∙ c.loop-place.invariant.1)
    c.finish.ensures

pub returns-in-Err-take_before : goal.returns-in-Err-take_before
returns-in-Err-take_before c =
    let all : length c.args.text.now ≡ c.loop-place.place = let a = c.loop-place-test.false in let b =
    c.loop-place.auto.place-end in omega arith in
    subst (λ (r : Result Formula RuleRefusal). Refuses c.in-Err-take_before.refused r) c.loop-place.invariant.1
    (here-end_refused _ _ _ c.loop-place.start _ _ all c.in-Err-take_before.ensures)
