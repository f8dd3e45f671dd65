-- Among the frames still ahead so many different ones are left to find: a frame that doesn't count leaves as
-- many, one that counts is the frame meant or leaves one fewer.
use Rattle.std.proofs.Common.{sym, ◌∙◌, refl, arith}
use Rattle.std.proofs.lemmas.Bool.{ne_eqb}
use Rattle.intruder_words.proofs.Which.{named-is, named-none, passes, is_the_one, one_fewer, at_end}
use Rattle.intruder_words.proofs.naming.named.Goals as goal

pub returns-then-which-eq0 : goal.returns-then-which-eq0
returns-then-which-eq0 c = sym (named-none c.args.known.now c.args.which c.if-which-eq0.true)

pub loop-place-init : goal.loop-place-init
loop-place-init c = (refl, omega (arith, c.if-which-eq0.false))

pub loop-place-preserved-then-not-is_counted : goal.loop-place-preserved-then-not-is_counted
loop-place-preserved-then-not-is_counted c = (
  c.loop-place.invariant.0 ∙ passes c.args.known.now c.args.which c.loop-place.place c.loop-place.left
      c.index-known-place.result c.loop-place-test.true c.index-known-place.is
      (sym c.is_counted.ensures ∙ c.if-not-is_counted.true),
  c.loop-place.invariant.1,
)

pub returns-then-left-eq1 : goal.returns-then-left-eq1
returns-then-left-eq1 c =
    sym (named-is c.args.known.now c.args.which (ne_eqb c.args.which.number 0 c.if-which-eq0.false)
    ∙ c.loop-place.invariant.0
    ∙ is_the_one c.args.known.now c.args.which c.loop-place.place c.loop-place.left c.index-known-place.result
    c.loop-place-test.true c.index-known-place.is (sym c.is_counted.ensures ∙ c.if-not-is_counted.false)
    c.if-left-eq1.true)

pub loop-place-preserved : goal.loop-place-preserved
loop-place-preserved c = (
  c.loop-place.invariant.0 ∙ one_fewer c.args.known.now c.args.which c.loop-place.place c.loop-place.left
      c.index-known-place.result c.loop-place-test.true c.index-known-place.is
      (sym c.is_counted.ensures ∙ c.if-not-is_counted.false)
      (omega (arith, c.loop-place.invariant.1, c.if-left-eq1.false)),
  omega (arith, c.loop-place.invariant.1, c.if-left-eq1.false),
)

pub returns : goal.returns
returns c = sym (named-is c.args.known.now c.args.which (ne_eqb c.args.which.number 0 c.if-which-eq0.false)
    ∙ c.loop-place.invariant.0 ∙ at_end c.args.known.now c.args.which c.loop-place.place
    c.loop-place.left (omega arith))
