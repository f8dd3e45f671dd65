use Rattle.std.proofs.Common.{sym, ◌∙◌, ap}
use Rattle.std.specs.Option.{is_some}
use Rattle.suspect_leader.proofs.Told.{first_kept, first_stays, none_told}
use Rattle.suspect_leader.proofs.tables.keep_first.Goals as goal

pub returns-then-is_some-clause-ok : goal.returns-then-is_some-clause-ok
returns-then-is_some-clause-ok c = λ w j. first_stays c.args.table.now.entries c.args.v c.args.master c.args.ticks w j
    (ap is_some (sym c.told.ensures) ∙ sym c.is_some.ensures ∙ c.if-is_some.true)

pub returns-clause-ok : goal.returns-clause-ok
returns-clause-ok c = λ w j. first_kept c.args.table.now c.insert.new.self c.args.v c.args.master c.args.ticks w j
    (sym c.told.ensures ∙ none_told _ (sym c.is_some.ensures ∙ c.if-is_some.false)) c.in_ok-insert.ensures.updates
