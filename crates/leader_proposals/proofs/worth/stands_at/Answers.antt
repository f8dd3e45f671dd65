-- What the view offers stands, else what is ordered. All rows of an order whose facts have few rows are few.
use Rattle.std.proofs.Common.{Bor, ◌≤◌, List, ℕ, length, sym, ◌∙◌, ap, subst}
use Rattle.std.specs.Prelude.{IfSome, Option}
use Rattle.std.specs.Option.{option_copied}
use Rattle.protocol_rules.specs.Order.{ordered}
use Rattle.protocol_rules.specs.Words.{or_else}
use Rattle.leader_proposals.proofs.Few.{few-ordered, few-offered, few-read}
use Rattle.leader_proposals.proofs.worth.stands_at.Goals as goal

pub returns-in-None-clause-rows : goal.returns-in-None-clause-rows
returns-in-None-clause-rows c g facts said is =
    c.ordered.ensures g facts said is
    ∙ ap (λ o. or_else o (ordered g facts c.args.s))
    (ap option_copied (sym c.in-None.is) ∙ c.offered.ensures g facts said is)

pub returns-in-Some-clause-rows : goal.returns-in-Some-clause-rows
returns-in-Some-clause-rows c g facts said is =
    ap (λ o. or_else o (ordered g facts c.args.s))
    (ap option_copied (sym c.in-Some.is) ∙ c.offered.ensures g facts said is)

pub returns-in-None-clause-few : goal.returns-in-None-clause-few
returns-in-None-clause-few c =
    let r = c.requires in
    few-read c.ordered.result
    (few-ordered r.group r.facts c.args.s _ (c.ordered.ensures r.group r.facts r.said r.is) r.few)

pub returns-in-Some-clause-few : goal.returns-in-Some-clause-few
returns-in-Some-clause-few c =
    let r = c.requires in
    subst (λ (o : Option (Bor (List (List ℕ)))). IfSome o (λ rows. length rows.now ≤ 14)) c.in-Some.is
    (few-read c.offered.result
    (few-offered r.facts c.args.view c.args.s _ (c.offered.ensures r.group r.facts r.said r.is) r.few))
