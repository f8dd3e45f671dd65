-- An answer that was said isn't owed, so nothing changes; any other joins those that wait, and it alone.
use Rattle.std.proofs.Common.{◌∙◌, sym}
use Rattle.suspect_leader.proofs.Sets.{among_put, owed_put, owed_none, said_is}
use Rattle.suspect_leader.proofs.answers.owe.Goals as goal

pub returns-then-contains-clause-ok : goal.returns-then-contains-clause-ok
returns-then-contains-clause-ok c = λ s. owed_none c.args.pending.now.keys c.args.said.now c.args.answer s
    (said_is c.args.said.now c.args.answer _ c.contains.ensures ∙ c.if-contains.true)

pub returns-clause-ok : goal.returns-clause-ok
returns-clause-ok c = λ s. owed_put c.args.pending.now c.insert.new.self c.args.said.now c.args.answer s
    (said_is c.args.said.now c.args.answer _ c.contains.ensures ∙ c.if-contains.false) c.in_ok-insert.ensures.updates

pub returns-clause-only : goal.returns-clause-only
returns-clause-only c = λ s h. sym
    (among_put c.args.pending.now c.insert.new.self c.args.answer s c.in_ok-insert.ensures.updates) ∙ h
