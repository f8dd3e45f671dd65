-- A kept path that leads to the number's tree is right for the number too, since ways to two numbers of one
-- lowest tree are the same; else a way is made anew.
use Rattle.std.proofs.Common.{subst, sym, refl}
use Rattle.hash_signatures.specs.declared.descent.Way.{Way}
use Rattle.hash_signatures.specs.State.{key_from}
use Rattle.hash_signatures.specs.Path.{IsWayOf, IsKeptPath}
use Rattle.hash_signatures.proofs.KeyLaws.{way_stays}
use Rattle.hash_signatures.proofs.path.turned.Goals as goal

pub returns-then-leads_to-clause-way : goal.returns-then-leads_to-clause-way
returns-then-leads_to-clause-way c =
    let key = key_from c.args.seed.now c.args.id.now c.args.heights.now c.args.ots in
    let path = c.in-Some.path in
    let kept : IsWayOf key path.at path.way = subst (IsKeptPath key) c.in-Some.is c.requires.kept in
    let here = way_stays key path.at c.args.m path.way kept (c.if-leads_to.ensures.0 refl) in
    subst (λ (way : Way). IsWayOf key c.args.m way) (sym c.renumbered.ensures.way) here
