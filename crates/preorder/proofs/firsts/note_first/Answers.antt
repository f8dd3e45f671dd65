-- A number that has a first request keeps it; else the request is the first, and nothing was said for it.
use Rattle.std.proofs.Common.{false, refl}
use Rattle.preorder.specs.declared.firsts.First.{First}
use Rattle.preorder.proofs.Steps.{has_firsts-known, has_firsts-new}
use Rattle.preorder.proofs.firsts.note_first.Goals as goal

pub returns-then-contains_key : goal.returns-then-contains_key
returns-then-contains_key c = λ g known said below has.
    has_firsts-known g known said c.args.frame.now c.args.firsts.now.entries c.if-contains_key.ensures has

pub returns : goal.returns
returns c = λ g known said below has.
    let first : First = record { update = c.args.frame.now.body.update.body; acked = false } in
    let put = rw c.unwrap.ensures at c.insert.ensures.updates in
    has_firsts-new g known said c.args.frame.now first c.args.firsts.now.entries c.insert.new.self.entries refl refl
    below c.requires.first c.requires.last
    c.if-contains_key.ensures put.0 has
