-- No body before the one looked at is the same word: so one that is answers yes, and where the search ends
-- there is none.
use Rattle.std.proofs.Common.{List, map, sym, ◌∙◌, ap}
use Rattle.std.proofs.lemmas.List.{take_all}
use Rattle.std.specs.Borrow.{Bor}
use Rattle.std.specs.List.{list_any}
use Rattle.message_types.specs.declared.body.Body.{Body}
use Rattle.history_rules.specs.Sameness.{is_same_body}
use Rattle.history_audit.proofs.Words.{among_at, among_more}
use Rattle.history_audit.proofs.said.is_among.Goals as goal

pub returns-then-is_same_word : goal.returns-then-is_same_word
returns-then-is_same_word c =
    sym (among_at c.args.body.now c.args.bodies.now c.loop-other.other-index c.other-item.result
    c.loop-other-test.true c.other-item.is (sym c.if-is_same_word.ensures))

pub loop-other-preserved : goal.loop-other-preserved
loop-other-preserved c =
    among_more c.args.body.now c.args.bodies.now c.loop-other.other-index c.other-item.result c.loop-other-test.true
    c.other-item.is (sym c.if-is_same_word.ensures) c.loop-other.invariant

pub returns : goal.returns
returns c =
    sym c.loop-other.invariant
    ∙ ap (λ (zs : List (Bor Body)). list_any (is_same_body c.args.body.now) (map (λ z. z.now) zs))
    (take_all c.loop-other.other-index c.args.bodies.now c.loop-other-test.false)
