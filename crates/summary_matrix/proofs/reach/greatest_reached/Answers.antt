-- The greatest so far is that of the numbers gone over which q of all numbers reach. A number that isn't
-- greater, or that too few reach, leaves it as it is.
use Rattle.std.proofs.Common.{◌+◌, ◌<◌, ℕ, nat_le, get_or, length, refl, sym, ◌∙◌, ap, arith}
use Rattle.std.proofs.lemmas.Bool.{le-leb, lt-leb}
use Rattle.summary_matrix.proofs.Greatest.{reached-taken, reached-low, reached-few}
use Rattle.summary_matrix.proofs.reach.greatest_reached.Goals.{then-number-greatest+then-how_many_reach-q}
use Rattle.summary_matrix.proofs.reach.greatest_reached.Goals.{else-number-greatest}
use Rattle.summary_matrix.proofs.reach.greatest_reached.Goals.{else-number-greatest-via-then-number-greatest+else-how_many_reach-q}
use Rattle.summary_matrix.proofs.reach.greatest_reached.Goals.{else-number-greatest-via-else-number-greatest}
use Rattle.summary_matrix.proofs.reach.greatest_reached.Goals as goal

pub loop-number-preserved : goal.loop-number-preserved
loop-number-preserved c =
    let i : ℕ = c.loop-number.number-index in
    let x : ℕ = get_or c.args.numbers.now i 0 in
    let within : c.loop-number.number-index < length c.args.numbers.now =
    omega (arith, c.loop-number-test.true, c.loop-number.auto.number-index-end) in
    elim c.if-number-greatest.branch [
      | then-number-greatest+then-how_many_reach-q w ↦
          w.greatest-is
          ∙ reached-taken c.args.q c.args.numbers.now i c.loop-number.greatest x within refl c.loop-number.invariant
          w.if-number-greatest.true
          (ap (nat_le c.args.q) (sym w.how_many_reach.ensures)
          ∙ le-leb c.args.q w.how_many_reach.result w.if-how_many_reach-q.true)
      | else-number-greatest w ↦
          w.greatest-is
          ∙ (elim w.else-number-greatest.branch [
            | else-number-greatest-via-then-number-greatest+else-how_many_reach-q u ↦
                reached-few c.args.q c.args.numbers.now i c.loop-number.greatest x within refl c.loop-number.invariant
                (ap (nat_le c.args.q) (sym u.how_many_reach.ensures)
                ∙ lt-leb c.args.q u.how_many_reach.result u.if-how_many_reach-q.false)
            | else-number-greatest-via-else-number-greatest u ↦
                reached-low c.args.q c.args.numbers.now i c.loop-number.greatest x within refl c.loop-number.invariant
                u.if-number-greatest.false
          ])
    ]
