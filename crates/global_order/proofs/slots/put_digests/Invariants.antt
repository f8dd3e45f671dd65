-- The slots of the quorums so far took the digest, and commits may be due there.
use Rattle.std.proofs.Common.{ℕ, Bool, take}
use Rattle.std.specs.List.{list_any}
use Rattle.global_order.specs.Index.{is_backing, TakesDigest}
use Rattle.global_order.specs.Unsaid.{HasPending, holds_prepared}
use Rattle.global_order.proofs.slots.put_digests.Given as goal

-- the slots of the quorums so far have it
abbrev pub invariant-loop-quorum : goal.invariant-loop-quorum
invariant-loop-quorum l = record {
  slots : TakesDigest (λ k. list_any (is_backing k l.digest) (take l.quorum-index l.waiting))
      l.digest l.initial.slots l.slots;
  pending : (said : ℕ → ℕ → Bool) → HasPending said (holds_prepared l.initial.slots) l.initial.pending →
      HasPending said (holds_prepared l.slots) l.pending;
}
