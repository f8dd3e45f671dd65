-- A number within the gapless ones is ordered, so its rows are there, and they follow the rows taken before.
-- That none are found can't be.
use Rattle.std.proofs.Common.{◌≡◌, ℕ, ◌+◌, ◌≤◌, List, [], ◌∷◌, ◌++◌, sym, ◌∙◌, ap, subst, arith}
use Rattle.std.proofs.lemmas.Result.{on_ok_weaker}
use Rattle.plain_lists.proofs.Members.{some_same, none_some}
use Rattle.protocol_rules.specs.Group.{most_number}
use Rattle.protocol_rules.specs.Order.{gapless, ordered}
use Rattle.execution.specs.Ran.{IsRunOf}
use Rattle.master_knowledge.proofs.NextRows.{gapless_small, next_rows}
use Rattle.master_knowledge.proofs.numbers.take_number.Goals as goal

pub take_rows-requires-clause-rows : goal.take_rows-requires-clause-rows
take_rows-requires-clause-rows c =
    let b = c.requires.behind in
    b.rows c.args.s c.in-Some.rows.now (sym (c.in-Some.ensures c.args.run.now.group b.facts b.said b.is))

pub take_rows-requires-clause-number : goal.take_rows-requires-clause-number
take_rows-requires-clause-number c =
    let b = c.requires.behind in
    let small : gapless c.args.run.now.group c.requires.behind.facts ≤ most_number =
    gapless_small c.args.run.now.group c.requires.behind.facts in
    let next : c.args.s ≡ c.args.run.now.numbers + 1 = c.requires.next in
    let below : c.args.s ≤ gapless c.args.run.now.group c.requires.behind.facts =
    c.requires.ordered c.args.run.now.group b.facts b.said b.is in
    omega arith

pub returns-in-Some-clause-ok : goal.returns-in-Some-clause-ok
returns-in-Some-clause-ok c = on_ok_weaker c.take_rows.result (λ ran g certified facts said runs rows is at run.
    subst (λ (r : List (List ℕ)). IsRunOf g c.take_rows.new.self certified (runs ++ r ∷ []))
    (some_same (c.in-Some.ensures g facts said is ∙ at)) (ran g certified runs run)) c.take_rows.ensures.ok

pub returns-in-None : goal.returns-in-None
returns-in-None c =
    let b = c.requires.behind in
    let next : c.args.s ≡ c.args.run.now.numbers + 1 = c.requires.next in
    let below : c.args.s ≤ gapless c.args.run.now.group c.requires.behind.facts =
    c.requires.ordered c.args.run.now.group b.facts b.said b.is in
    let at = next_rows c.args.run.now.group c.requires.behind.facts c.args.run.now.numbers (omega arith) in
    let same : 1 + c.args.run.now.numbers ≡ c.args.s = omega arith in
    absurd (none_some (c.in-None.ensures c.args.run.now.group b.facts b.said b.is
    ∙ ap (ordered c.args.run.now.group c.requires.behind.facts) (sym same) ∙ at.1))
