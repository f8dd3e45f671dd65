-- The numbers so far are those among what was gone over: a wanted number adds itself, a wanted request adds
-- none.
use Rattle.std.proofs.Common.{ℕ, ◌<◌, ◌++◌, List, length, get_or, sym, ◌∙◌, ap, arith}
use Rattle.std.specs.Option.{option_to_list}
use Rattle.std.proofs.lemmas.List.{take_all}
use Rattle.reconcile.specs.declared.wanted.Wanted.TheVariants.{Request}
use Rattle.reconcile.specs.Giving.{numbers_in, number_in}
use Rattle.reconcile.proofs.Loops.{numbers_more}
use Rattle.reconcile.proofs.giving.numbers_wanted.Goals as goal

pub loop-one-preserved : goal.loop-one-preserved
loop-one-preserved c =
    let within : c.loop-one.one-index < length c.args.wanted.now = omega arith in
    c.in_ok-push_number.ensures
    ∙ ap (λ (xs : List ℕ). xs
    ++ option_to_list (number_in (get_or c.args.wanted.now c.loop-one.one-index (Request 0 0))))
    c.loop-one.invariant
    ∙ sym (numbers_more c.args.wanted.now c.loop-one.one-index (Request 0 0) within)

pub returns : goal.returns
returns c = c.loop-one.invariant ∙ ap numbers_in (take_all c.loop-one.one-index c.args.wanted.now (omega arith))
