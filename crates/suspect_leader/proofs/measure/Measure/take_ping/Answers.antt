-- Another master's ping makes a pong to it owed, unless that was said already. A ping of one's own is answered
-- by nobody here.
use Rattle.std.proofs.Common.{◌<◌, ℕ, nat_eq, sym, ap, ◌∙◌, subst}
use Rattle.std.proofs.lemmas.Bool.{ne_eqb, lt-ltb}
use Rattle.std.proofs.lemmas.Result.{on_ok_weaker}
use Rattle.suspect_leader.specs.declared.saying.Saying.TheVariants.{Pong}
use Rattle.suspect_leader.specs.MeasureState.{MeasureState, with_all}
use Rattle.suspect_leader.proofs.Early.{more_pending}
use Rattle.suspect_leader.proofs.Taken.{viewed, own_ping_passed, took_ping}
use Rattle.suspect_leader.proofs.measure.Measure.take_ping.Goals as goal

pub returns-then-signer-self-clause-ok : goal.returns-then-signer-self-clause-ok
returns-then-signer-self-clause-ok c = λ sig g me told known said is.
    own_ping_passed g me c.args.self.now told known said c.args.signer c.args.word sig
    (c.if-signer-self.true ∙ ap (λ (k : MeasureState). k.me) c.self.view_is) is

pub returns-clause-ok : goal.returns-clause-ok
returns-clause-ok c = on_ok_weaker c.owe.result (λ more sig g me told known said is.
    took_ping g me _ told known said c.args.signer c.args.word sig
    (with_all c.owe.new.pending.keys c.self.inside.early.keys)
    (lt-ltb c.args.signer g.n (subst (λ (n : ℕ). c.args.signer < n) is.masters c.requires))
    (ap (nat_eq c.args.signer) (sym (ap (λ (k : MeasureState). k.me) c.self.view_is ∙ is.own))
    ∙ ne_eqb c.args.signer c.self.inside.me c.if-signer-self.false)
    (λ s. more_pending c.self.inside.pending.keys c.owe.new.pending.keys c.self.inside.early.keys
    c.self.inside.said.keys (Pong c.args.signer c.args.word.number) s (more s)) (viewed c.self.view_is is))
    c.owe.ensures.ok
