-- A request that has a certificate keeps it. A new certificate leaves what was done done, so that the run goes
-- on from the request it waited for.
use Rattle.std.proofs.Common.{◌≡◌, ◌≤◌, ◌<◌, ◌+◌, ◌-◌, ℕ, List, [], Option, Some, None, true, false, is_some, map}
use Rattle.std.proofs.Common.{take, drop, length, vec_len, get_or, refl, sym, ◌∙◌, ap, subst, arith}
use Rattle.std.specs.Prelude.{vec_capacity}
use Rattle.message_types.specs.declared.updates.Update.{Update}
use Rattle.protocol_rules.specs.Keys.{same_pair}
use Rattle.execution.specs.Ran.{Ran, request_of, certificate}
use Rattle.execution.specs.Progress.{HasDone, IsStopped}
use Rattle.execution.proofs.Certificates.{IsAdded, none_there, added-stays, added-clients, added-is, there-is}
use Rattle.execution.proofs.Progressing.{done-kept}
use Rattle.execution.proofs.run.Run.take_certified.Goals.{In_ok-insert}
use Rattle.execution.proofs.run.Run.take_certified.Goals as goal

pub returns-then-contains_key-clause-ok : goal.returns-then-contains_key-clause-ok
returns-then-contains_key-clause-ok c g certified runs is =
    record {
      group = is.group;
      numbers = is.numbers;
      reached = is.reached;
      requests = is.requests;
      certificates = λ r. sym (ap (λ (m : Ran). certificate m.certificates r) c.self.view_is)
          ∙ there-is c.self.inside.certificates.entries c.args.j c.args.k c.args.update.now certified
          (sym c.if-contains_key.ensures) (λ r. ap (λ (m : Ran). certificate m.certificates r) c.self.view_is
          ∙ is.certificates r) r;
    }

-- the certificates are those before and this one
is_added : (c : In_ok-insert) →
    IsAdded c.self.inside.certificates.entries c.insert.new.self.entries c.args.j c.args.k c.args.update.now
is_added c = record { none = none_there _ c.if-contains_key.ensures; each = c.in_ok-insert.ensures.updates.0 }

pub returns-clause-ok : goal.returns-clause-ok
returns-clause-ok c g certified runs is =
    record {
      group = ap (λ (m : Ran). m.group) c.self.view_is ∙ is.group;
      numbers = ap (λ (m : Ran). m.numbers) c.self.view_is ∙ is.numbers;
      reached = λ j lt. ap (λ (m : Ran). get_or m.reach j 0) c.self.view_is ∙ is.reached j lt;
      requests = ap (λ (m : Ran). m.requests) c.self.view_is ∙ is.requests;
      certificates = added-is c.self.inside.certificates.entries c.insert.new.self.entries c.args.j c.args.k
          c.args.update.now certified (is_added (goal.at.returns-clause-ok c).In_ok-insert)
          (λ r. ap (λ (m : Ran). certificate m.certificates r) c.self.view_is
          ∙ is.certificates r);
    }

pub advance-self-inside-requires-clause-clients : goal.advance-self-inside-requires-clause-clients
advance-self-inside-requires-clause-clients c =
    let clients : c.self.inside.clients ≡ c.args.self.now.group.clients =
    ap (λ (m : Ran). m.group.clients) c.self.view_is in
    let few : c.self.inside.clients ≤ 12 = c.self.invariant.few_clients in
    let below : c.args.update.now.client < c.args.self.now.group.clients = c.requires in
    added-clients c.self.inside.certificates.entries c.insert.new.self.entries c.args.j c.args.k c.args.update.now
    (is_added (goal.at.advance-self-inside-requires-clause-clients c).In_ok-insert)
    (omega arith) c.self.invariant.clients

pub invariant_of-self-2 : goal.invariant_of-self-2
invariant_of-self-2 c =
    let clients : c.self.inside.clients ≡ c.args.self.now.group.clients =
    ap (λ (m : Ran). m.group.clients) c.self.view_is in
    let few : c.self.inside.clients ≤ 12 = c.self.invariant.few_clients in
    let below : c.args.update.now.client < c.args.self.now.group.clients = c.requires in
    let many : length c.deref.result.now ≡ length c.self.inside.requests.items = ap length c.deref.ensures.value in
    let within : c.advance-self-inside.result ≤ length c.deref.result.now = c.advance-self-inside.ensures.within in
    let room : vec_len c.advance-self-inside.new.executed + (length c.deref.result.now - c.advance-self-inside.result)
    ≤ vec_capacity c.advance-self-inside.new.executed = c.advance-self-inside.ensures.room in
    record {
      few_clients = few;
      within = omega arith;
      room = omega arith;
      clients = added-clients c.self.inside.certificates.entries c.insert.new.self.entries c.args.j c.args.k
          c.args.update.now (is_added (goal.at.invariant_of-self-2 c).In_ok-insert) (omega arith)
          c.self.invariant.clients;
      done = subst (λ (xs : List (ℕ × ℕ)). HasDone (certificate c.insert.new.self.entries)
          (map request_of (take c.advance-self-inside.result xs)) c.advance-self-inside.new.executed.items
          c.advance-self-inside.new.counts) c.deref.ensures.value
          (c.advance-self-inside.ensures.done
          (subst (λ (xs : List (ℕ × ℕ)). HasDone (certificate c.insert.new.self.entries)
          (map request_of (take c.self.inside.at xs)) c.self.inside.executed.items c.self.inside.counts)
          (sym c.deref.ensures.value)
          (done-kept (certificate c.self.inside.certificates.entries) (certificate c.insert.new.self.entries)
          (map request_of (take c.self.inside.at c.self.inside.requests.items))
          c.self.inside.executed.items c.self.inside.counts
          (added-stays c.self.inside.certificates.entries c.insert.new.self.entries c.args.j c.args.k
          c.args.update.now (is_added (goal.at.invariant_of-self-2 c).In_ok-insert)) c.self.invariant.done)));
      stopped = subst (λ (xs : List (ℕ × ℕ)). IsStopped (certificate c.insert.new.self.entries)
          (map request_of (drop c.advance-self-inside.result xs))) c.deref.ensures.value
          c.advance-self-inside.ensures.stopped;
    }
