-- A pong to this master makes a round trip owed. Where its ping wasn't said yet, it waits apart, and together
-- both sets are all that the rules make owed.
use Rattle.std.proofs.Common.{◌<◌, ℕ, nat_eq, sym, ap, ◌∙◌, subst}
use Rattle.std.proofs.lemmas.Bool.{ne_eqb, eq-eqb, lt-ltb}
use Rattle.std.proofs.lemmas.Result.{on_ok_weaker}
use Rattle.suspect_leader.specs.declared.saying.Saying.TheVariants.{RoundTrip}
use Rattle.suspect_leader.specs.MeasureState.{MeasureState, with_all}
use Rattle.suspect_leader.proofs.Early.{more_pending, more_early}
use Rattle.suspect_leader.proofs.Taken.{viewed, pong_passed, took_pong}
use Rattle.suspect_leader.proofs.measure.Measure.take_pong.Goals as goal

pub returns-then-word-self-clause-ok : goal.returns-then-word-self-clause-ok
returns-then-word-self-clause-ok c = λ sig g me told known said is.
    pong_passed g me c.args.self.now told known said c.args.signer c.args.word sig
    (ap (λ (k : MeasureState). nat_eq c.args.word.to k.me) (sym c.self.view_is)
    ∙ ne_eqb c.args.word.to c.self.inside.me c.if-word-self.true) is

pub returns-then-is_answerable-clause-ok : goal.returns-then-is_answerable-clause-ok
returns-then-is_answerable-clause-ok c = on_ok_weaker c.owe.result (λ more sig g me told known said is.
    took_pong g me _ told known said c.args.signer c.args.word sig
    (with_all c.owe.new.pending.keys c.self.inside.early.keys)
    (lt-ltb c.args.signer g.n (subst (λ (n : ℕ). c.args.signer < n) is.masters c.requires))
    (eq-eqb c.args.word.to me (c.if-word-self.false ∙ ap (λ (k : MeasureState). k.me) c.self.view_is ∙ is.own))
    (λ s. more_pending c.self.inside.pending.keys c.owe.new.pending.keys c.self.inside.early.keys
    c.self.inside.said.keys (RoundTrip c.args.signer c.args.word.number) s (more s)) (viewed c.self.view_is is))
    c.owe.ensures.ok

pub returns-else-is_answerable-clause-ok : goal.returns-else-is_answerable-clause-ok
returns-else-is_answerable-clause-ok c =
    on_ok_weaker c.owe-else-is_answerable.result (λ more sig g me told known said is.
    took_pong g me _ told known said c.args.signer c.args.word sig
    (with_all c.self.inside.pending.keys c.owe-else-is_answerable.new.pending.keys)
    (lt-ltb c.args.signer g.n (subst (λ (n : ℕ). c.args.signer < n) is.masters c.requires))
    (eq-eqb c.args.word.to me (c.if-word-self.false ∙ ap (λ (k : MeasureState). k.me) c.self.view_is ∙ is.own))
    (λ s. more_early c.self.inside.pending.keys c.self.inside.early.keys c.owe-else-is_answerable.new.pending.keys
    c.self.inside.said.keys (RoundTrip c.args.signer c.args.word.number) s (more s)) (viewed c.self.view_is is))
    c.owe-else-is_answerable.ensures.ok
