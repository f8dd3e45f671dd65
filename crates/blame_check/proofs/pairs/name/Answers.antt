-- A master that is named already, or is none of the group's, changes nothing. Else its pair goes in before
-- those of greater masters, so that the list stays one of rising masters.
use Rattle.std.proofs.Common.{◌∙◌, arith}
use Rattle.blame_check.specs.Contradictions.{pair_of, rising}
use Rattle.blame_check.proofs.Rising.{unchanged, named_already, new_named}
use Rattle.blame_check.proofs.pairs.name.Goals as goal

pub returns-then-not-is_new-clause-named : goal.returns-then-not-is_new-clause-named
returns-then-not-is_new-clause-named c = λ pair own is. is
    ∙ unchanged pair own c.args.second.signer (pair_of c.args.first.now c.args.second) c.args.masters (λ below.
    named_already c.args.second.signer c.args.masters c.as_slice.result.now (rising pair c.args.masters)
    c.if-not-is_new.ensures (c.as_slice.ensures.value ∙ is) below)

pub insert-requires : goal.insert-requires
insert-requires c = omega (arith, c.place_of-place.ensures.within, c.as_slice-2.ensures.len)

pub returns-clause-named : goal.returns-clause-named
returns-clause-named c = λ pair own is.
    new_named pair own c.args.masters c.args.first.now c.args.second c.in_ok-copy.field-0 c.args.pairs.now.items
    c.as_slice.result.now c.as_slice-2.result.now c.insert.new.self.items
    c.place_of-place.result c.if-not-is_new.ensures c.as_slice.ensures.value c.as_slice-2.ensures.value
    c.place_of-place.ensures.place c.in_ok-copy.ensures
    c.in_ok-insert.ensures.items is
