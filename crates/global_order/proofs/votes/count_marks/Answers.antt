-- One master after another, the count is that of the marks of the masters so far: one more exactly where a mark
-- is held.
use Rattle.std.proofs.Common.{◌≡◌, ℕ, cond, length, sym, ◌∙◌, ap, arith}
use Rattle.global_order.specs.Index.{given, mark_at}
use Rattle.global_order.proofs.Given.{given-none, given-count, at_most_one, bool_byte-cond}
use Rattle.global_order.proofs.votes.count_marks.Goals as goal

pub loop-master-init : goal.loop-master-init
loop-master-init c = (sym (ap length (given-none (mark_at c.args.marks.now c.args.s))), omega arith)

pub loop-master-preserved : goal.loop-master-preserved
loop-master-preserved c =
    let more = given-count (mark_at c.args.marks.now c.args.s) c.loop-master.master in
    let one = c.from-count.ensures ∙ bool_byte-cond c.contains_key.result in
    let here = ap {B = ℕ} (λ b. cond b 1 0) c.contains_key.ensures in
    let few = at_most_one c.contains_key.result in
    (omega (arith, more, one, here), omega (arith, one, few))

pub returns : goal.returns
returns c =
    let ended : c.loop-master.master ≡ c.args.n = omega arith in
    c.loop-master.invariant.0 ∙ ap (λ k. length (given (mark_at c.args.marks.now c.args.s) k)) ended
