-- Where the rows are known the slot takes the digest, else the quorum waits where it has its place. Either way
-- the choice is the one of the definition with one quorum more.
use Rattle.std.proofs.Common.{refl, ◌∙◌}
use Rattle.global_order.proofs.Settling.{agrees-backed, agrees-waits, slot-waits}
use Rattle.global_order.proofs.choices.note_prepared.Goals as goal

pub returns-then-contains_key-clause-agrees : goal.returns-then-contains_key-clause-agrees
returns-then-contains_key-clause-agrees c = λ known prepares first commits order agrees.
    agrees-backed known (c.args.v, c.args.s) c.args.digest prepares first commits order c.args.choices.now
    c.put_digest.new.slots c.note_pending.new.pending c.if-contains_key.ensures c.put_digest.ensures agrees

pub returns-clause-agrees : goal.returns-clause-agrees
returns-clause-agrees c = λ known prepares first commits order agrees.
    agrees-waits known record { v = c.args.v; s = c.args.s; digest = c.args.digest } prepares first
    commits order c.args.choices.now
    record c.args.choices.now { backed = c.put_waiting.new.waiting }
    c.if-contains_key.ensures c.requires.place c.put_waiting.ensures refl refl refl refl agrees

pub returns-then-contains_key-clause-places : goal.returns-then-contains_key-clause-places
returns-then-contains_key-clause-places c has =
    record { prepared = λ k d waits. c.put_digest.ensures.places k ∙ has.prepared k d waits; ordered = has.ordered }

pub returns-clause-places : goal.returns-clause-places
returns-clause-places c has = record {
  prepared = slot-waits record { v = c.args.v; s = c.args.s; digest = c.args.digest } c.args.choices.now.backed
      c.put_waiting.new.waiting c.args.choices.now.prepared c.requires.place c.put_waiting.ensures has.prepared;
  ordered = has.ordered;
}
