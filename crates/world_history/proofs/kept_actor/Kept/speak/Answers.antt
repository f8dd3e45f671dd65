-- What is spoken uses one more leaf at most of an intruded master's key, and such a master has no keeper: so
-- what is kept true stays so. Where memory ends in the midst the actor stays spent.
use Rattle.std.proofs.Common.{sym, ◌∙◌, ap}
use Rattle.std.proofs.lemmas.Bool.{true≢false}
use Rattle.world_history.specs.State.{spoken, after_word}
use Rattle.world_history.specs.KeptState.{KeptState}
use Rattle.world_history.proofs.KeptInStep.{IsIntruded, seen_intruded, keeps_word}
use Rattle.world_history.proofs.kept_actor.Kept.speak.Goals.{Else-self}
use Rattle.world_history.proofs.kept_actor.Kept.speak.Goals as goal

intruded : (c : Else-self) → IsIntruded c.self.inside.bench
intruded c = seen_intruded c.self.inside.bench c.self.inside.keeper c.self.inside.is_spent c.args.self.now
    c.self.view_is (record { master = c.requires.master; intruded = c.requires.intruded })

pub speak-requires-clause-master : goal.speak-requires-clause-master
speak-requires-clause-master c = (intruded (goal.at.speak-requires-clause-master c).Else-self).master

pub speak-requires-clause-intruded : goal.speak-requires-clause-intruded
speak-requires-clause-intruded c = (intruded (goal.at.speak-requires-clause-intruded c).Else-self).intruded

pub returns-clause-spoken : goal.returns-clause-spoken
returns-clause-spoken c = c.in_ok-bytes.ensures.spoken
    ∙ ap (λ (x : KeptState). spoken x.bench c.args.word.now) c.self.view_is

pub returns-clause-bench : goal.returns-clause-bench
returns-clause-bench c = c.in_ok-bytes.ensures.state
    ∙ ap (λ (x : KeptState). after_word x.bench c.args.word.now) c.self.view_is

pub returns-clause-keeper : goal.returns-clause-keeper
returns-clause-keeper c = ap (λ (x : KeptState). x.keeper) c.self.view_is

pub returns-clause-spent : goal.returns-clause-spent
returns-clause-spent c spent =
    absurd (true≢false (sym spent ∙ sym (ap (λ (x : KeptState). x.is_spent) c.self.view_is) ∙ c.if-self.false))

pub invariant_of-self : goal.invariant_of-self
invariant_of-self c spent = absurd (true≢false spent)

pub invariant_of-self-2 : goal.invariant_of-self-2
invariant_of-self-2 c works =
    keeps_word c.self.inside.bench c.speak.new.self c.self.inside.keeper c.self.inside.is_halted c.args.word.now
    (c.self.invariant c.if-self.false) (intruded (goal.at.invariant_of-self-2 c).Else-self)
    c.in_ok-bytes.ensures.state
