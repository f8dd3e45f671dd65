-- Each quorum of this digest has its slot take the digest; after all of them the slots of the list have it, and
-- the numbers are noted where commits may be due.
use Rattle.std.proofs.Common.{◌≡◌, ◌≤◌, ◌&&◌, [], get_or, length, take, refl, sym, ◌∙◌, ap, arith}
use Rattle.std.specs.List.{list_any}
use Rattle.std.specs.Str.{bytes_eq}
use Rattle.std.proofs.lemmas.List.{take_all}
use Rattle.std.proofs.lemmas.List.Folds.{list_any_at}
use Rattle.global_order.specs.Index.{same_pair, is_backing}
use Rattle.global_order.specs.declared.quorum.Quorum.{Quorum}
use Rattle.global_order.proofs.Booleans.{bytes-same, same_pair-own}
use Rattle.global_order.proofs.Settling.{takes-same, takes-none, slots-step, slots-skip}
use Rattle.global_order.proofs.Touching.{pending-takes}
use Rattle.global_order.proofs.slots.put_digests.Goals as goal
use Rattle.global_order.proofs.slots.put_digests.Goals.{then-eq, else-eq}

pub loop-quorum-init : goal.loop-quorum-init
loop-quorum-init c = record {
  slots = takes-none (λ k. list_any (is_backing k c.args.digest) (take 0 c.args.waiting.now))
      c.args.digest c.args.slots.now (λ k. refl);
  pending = λ said has. has;
}

pub put_digest-requires : goal.put_digest-requires
put_digest-requires c =
    let q : Quorum = get_or c.args.waiting.now c.loop-quorum.quorum-index record { v = 0; s = 0; digest = [] } in
    let same : q.digest ≡ c.args.digest = bytes-same q.digest c.args.digest (sym c.eq.ensures ∙ c.if-eq.true) in
    c.loop-quorum.invariant.slots.places (q.v, q.s)
    ∙ c.requires (q.v, q.s) (list_any_at (is_backing (q.v, q.s) c.args.digest)
    c.args.waiting.now c.loop-quorum.quorum-index record { v = 0; s = 0; digest = [] } c.loop-quorum-test.true
    (ap (λ d. same_pair (q.v, q.s) (q.v, q.s) && bytes_eq q.digest d) (sym same) ∙ same_pair-own (q.v, q.s) q.digest))

pub loop-quorum-preserved : goal.loop-quorum-preserved
loop-quorum-preserved c = elim c.if-eq.branch [
  | then-eq w ↦ rw (w.slots-is, w.pending-is) record {
    slots = slots-step c.args.waiting.now c.loop-quorum.quorum-index record { v = 0; s = 0; digest = [] }
        c.args.digest c.args.slots.now c.loop-quorum.slots w.put_digest.new.slots c.loop-quorum-test.true
        (sym c.eq.ensures ∙ w.if-eq.true) c.loop-quorum.invariant.slots w.put_digest.ensures;
    pending = λ said has. pending-takes said _ _ c.args.digest c.loop-quorum.slots w.put_digest.new.slots
        c.loop-quorum.pending w.note_pending.new.pending w.put_digest.ensures w.note_pending.ensures
        (c.loop-quorum.invariant.pending said has);
  }
  | else-eq w ↦ rw (w.slots-is, w.pending-is) record {
    slots = slots-skip c.args.waiting.now c.loop-quorum.quorum-index record { v = 0; s = 0; digest = [] }
        c.args.digest c.args.slots.now c.loop-quorum.slots c.loop-quorum-test.true (sym c.eq.ensures ∙ w.if-eq.false)
        c.loop-quorum.invariant.slots;
    pending = c.loop-quorum.invariant.pending;
  }
]

pub returns-clause-slots : goal.returns-clause-slots
returns-clause-slots c =
    let ended : length c.args.waiting.now ≤ c.loop-quorum.quorum-index = omega arith in
    takes-same (λ k. list_any (is_backing k c.args.digest) (take c.loop-quorum.quorum-index c.args.waiting.now))
    (λ k. list_any (is_backing k c.args.digest) c.args.waiting.now)
    c.args.digest c.args.slots.now c.loop-quorum.slots
    (λ k. ap (list_any (is_backing k c.args.digest))
    (sym (take_all c.loop-quorum.quorum-index c.args.waiting.now ended))) c.loop-quorum.invariant.slots

pub returns-clause-pending : goal.returns-clause-pending
returns-clause-pending c = c.loop-quorum.invariant.pending
