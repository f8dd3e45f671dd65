-- One master after another, the marks so far are the first ones of the masters so far. Cut off at the size of a
-- quorum they are the quorum of the definition.
use Rattle.std.proofs.Common.{◌≡◌, sym, ◌∙◌, ap, arith, take}
use Rattle.std.specs.Option.{option_copied, option_map}
use Rattle.protocol_rules.specs.Order.{mark_by}
use Rattle.global_order.specs.Index.{given, mark_at, mark_of}
use Rattle.global_order.proofs.Given.{given-none, given-push, given-quorum}
use Rattle.global_order.proofs.certificates.marks_of.Goals as goal

pub loop-master-init : goal.loop-master-init
loop-master-init c = c.new-frames.ensures.items
    ∙ sym (given-none (λ m. option_map (mark_of c.args.s m) (mark_at c.args.marks.now c.args.s m)))

pub loop-master-preserved : goal.loop-master-preserved
loop-master-preserved c =
    given-push (λ m. option_map (mark_of c.args.s m) (mark_at c.args.marks.now c.args.s m))
    c.loop-master.master _ _ (option_map (mark_of c.args.s c.loop-master.master) (option_copied c.get.result))
    c.in_ok-push_signed.ensures (ap (option_map (mark_of c.args.s c.loop-master.master)) c.get.ensures.value)
    c.loop-master.invariant

pub returns : goal.returns
returns c = λ g facts sizes has.
    let ended : c.loop-master.master ≡ c.args.sizes.now.n = omega arith in
    c.truncate.ensures.items ∙ ap (take c.args.sizes.now.q) (c.loop-master.invariant
    ∙ ap (given (λ m. option_map (mark_of c.args.s m) (mark_at c.args.marks.now c.args.s m))) ended)
    ∙ given-quorum g facts c.args.sizes.now.n c.args.sizes.now.q (mark_by c.args.s)
    (λ m. option_map (mark_of c.args.s m) (mark_at c.args.marks.now c.args.s m)) sizes (has c.args.s)
