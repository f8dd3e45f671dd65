-- Both lists have one length and agree at all places so far. A place where they differ makes them different,
-- and past the last one they are alike.
use Rattle.std.proofs.Common.{◌<◌, length, get_or, refl, sym, ◌∙◌, ap, arith}
use Rattle.std.proofs.lemmas.List.{get_or_default}
use Rattle.script_grammar.specs.declared.kinds.Kind.{Kind}
use Rattle.script_grammar.specs.declared.kinds.Kind.TheVariants as kind
use Rattle.script_grammar.specs.Kinds.{kind_number}
use Rattle.printed_history.proofs.KindsTold.{all_kinds, other_length, other_kind, one_kind}
use Rattle.printed_history.proofs.reading.are_kinds.Goals as goal

pub returns-then-kinds-said : goal.returns-then-kinds-said
returns-then-kinds-said c = other_length c.args.kinds.now c.args.said.now c.if-kinds-said.true

pub loop-place-init : goal.loop-place-init
loop-place-init c = refl

pub returns-then-number : goal.returns-then-number
returns-then-number c =
    let k : Kind = get_or c.args.kinds.now c.loop-place.place kind.Update in
    let below : c.loop-place.place < length c.args.said.now =
    omega (arith, c.if-kinds-said.false, c.loop-place-test.true) in
    other_kind c.args.kinds.now c.args.said.now c.loop-place.place k c.index-said-place.result
    c.loop-place-test.true below
    (get_or_default c.args.kinds.now c.loop-place.place kind.Update k c.loop-place-test.true) c.index-said-place.is
    (λ same. c.if-number.true
    (c.number.ensures ∙ same ∙ sym (c.number-in-loop-place.ensures ∙ ap kind_number c.kind_of.ensures)))

pub loop-place-preserved : goal.loop-place-preserved
loop-place-preserved c =
    let k : Kind = get_or c.args.kinds.now c.loop-place.place kind.Update in
    let below : c.loop-place.place < length c.args.said.now =
    omega (arith, c.if-kinds-said.false, c.loop-place-test.true) in
    one_kind c.args.kinds.now c.args.said.now c.loop-place.place k c.index-said-place.result
    c.loop-place-test.true below
    (get_or_default c.args.kinds.now c.loop-place.place kind.Update k c.loop-place-test.true) c.index-said-place.is
    (sym c.number.ensures ∙ c.if-number.false ∙ c.number-in-loop-place.ensures ∙ ap kind_number c.kind_of.ensures)
    c.loop-place.invariant

pub returns : goal.returns
returns c = all_kinds c.args.kinds.now c.args.said.now c.loop-place.place c.if-kinds-said.false
    (omega (arith, c.loop-place-test.false)) c.loop-place.invariant
