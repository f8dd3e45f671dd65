-- A round trip that is told to this master replaces the one that its signer told before if it is the later. One
-- that is told to another changes nothing.
use Rattle.std.proofs.Common.{◌<◌, ◌≤◌, ℕ, nat_eq, sym, ap, ◌∙◌, subst, arith}
use Rattle.std.proofs.lemmas.Bool.{ne_eqb, eq-eqb}
use Rattle.suspect_leader.specs.MeasureState.{MeasureState}
use Rattle.suspect_leader.proofs.Taken.{viewed, trip_passed, took_trip, trip_set}
use Rattle.quorum_sets.proofs.Numbered.{masters_few}
use Rattle.suspect_leader.proofs.measure.Measure.take_round_trip.Goals as goal

pub returns-then-word-self-clause-known : goal.returns-then-word-self-clause-known
returns-then-word-self-clause-known c = λ sig g me told known said is.
    trip_passed g me c.args.self.now told known said c.args.signer c.args.word sig
    (ap (λ (k : MeasureState). nat_eq c.args.word.to k.me) (sym c.self.view_is)
    ∙ ne_eqb c.args.word.to c.self.inside.me c.if-word-self.true) is

pub returns-clause-known : goal.returns-clause-known
returns-clause-known c = λ sig g me told known said is.
    let few : c.self.inside.sizes.n ≤ 14 = masters_few c.self.inside.sizes in
    let within : c.args.signer < c.self.inside.sizes.n =
    subst (λ (n : ℕ). c.args.signer < n) (sym (ap (λ (k : MeasureState). k.group.n) c.self.view_is))
    c.requires.signer in
    took_trip g me _ told known said c.args.signer c.args.word sig _
    (eq-eqb c.args.word.to me (c.if-word-self.false ∙ ap (λ (k : MeasureState). k.me) c.self.view_is ∙ is.own))
    (λ j lt. trip_set c.self.inside.trips c.args.signer j c.later.result c.args.word
    (omega arith) c.later.ensures.value)
    (viewed c.self.view_is is)
