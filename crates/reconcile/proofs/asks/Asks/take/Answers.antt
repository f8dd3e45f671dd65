-- Only another master's ask for something that has a place and wasn't given yet makes it wanted. Own words,
-- other bodies and things given already leave all as it is.
use Rattle.std.proofs.Common.{rules, ◌≡◌, ◌||◌, true, nat_eq, ap, sym, ◌∙◌}
use Rattle.std.proofs.lemmas.Bool.{ne_eqb}
use Rattle.reconcile.specs.Asking.{same_wanted, is_among}
use Rattle.reconcile.specs.AskState.{AskState}
use Rattle.reconcile.proofs.Sets.{among_is, among_put}
use Rattle.reconcile.proofs.Taken.{taken}
use Rattle.reconcile.proofs.asks.Asks.take.Goals as goal

pub returns-clause-ok : goal.returns-clause-ok
returns-clause-ok c = λ sig g me known said is.
    let has : c.has_place.result ≡ true = search rules in
    let x = c.in-Some.wanted in
    taken g me c.args.self.now _ known said record { signer = c.args.signer; body = c.args.body.now; sig = sig } x
    (sym c.asked_in.ensures ∙ c.in-Some.is)
    (ap (λ (v : AskState). nat_eq c.args.signer v.me) (sym c.self.view_is)
    ∙ ne_eqb c.args.signer c.self.inside.me c.if-signer-self.false)
    (sym (c.has_place.ensures g is.group) ∙ has)
    (ap (λ (v : AskState). is_among v.given x) (sym c.self.view_is) ∙ sym (among_is c.self.inside.given.keys x)
    ∙ sym c.contains.ensures ∙ c.if-contains.false)
    (ap (λ (v : AskState). v.masters) c.self.view_is) (ap (λ (v : AskState). v.me) c.self.view_is)
    (ap (λ (v : AskState). v.given) c.self.view_is) (ap (λ (v : AskState). v.asked) c.self.view_is)
    (λ w. among_put c.self.inside.wanted c.insert.new.self x w c.in_ok-insert.ensures.updates
    ∙ ap (λ (v : AskState). same_wanted x w || is_among v.wanted w) c.self.view_is)
    is
