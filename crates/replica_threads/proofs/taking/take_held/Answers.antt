-- A frame from the inbox is given only where the check by the ring of keys passes, so what a turn takes stands.
-- An empty inbox gives none and leaves the pass as it is.
use Rattle.std.proofs.Common.{refl, inl, ap}
use Rattle.inboxes.specs.declared.rule.Known.{Known}
use Rattle.inboxes.specs.Passes.{known}
use Rattle.replica_threads.specs.declared.posted.Posted.{Posted}
use Rattle.replica_threads.proofs.TakenByHands.{taken_one}
use Rattle.replica_threads.proofs.Quiet.{took_quiet}
use Rattle.replica_threads.proofs.taking.take_held.Goals as goal

pub into_held-requires : goal.into_held-requires
into_held-requires g c = c.in-Some.ensures.taken.0

pub returns-in-Some : goal.returns-in-Some
returns-in-Some g c = record {
  of = c.in-Some.ensures.of;
  quiet = took_quiet (known c.args.pass.now) (known c.take.new.pass) c.in-Some.posted c.in-Some.ensures.taken;
  takes = taken_one c.into_held.result c.args.shared.now.ring.now c.in-Some.posted c.args.pass.now c.take.new.pass
      c.in-Some.ensures.taken c.into_held.ensures;
}

pub returns-in-None : goal.returns-in-None
returns-in-None g c = record {
  of = c.in-None.ensures.of;
  quiet = ap (λ (k : Known Posted). k.posted) c.in-None.ensures.taken.0;
  takes = λ all same. inl (c.in-None.ensures.taken.0, refl);
}
