-- With no rows and no certificates there is nothing to execute and every number is 0: so what a run keeps true
-- holds from the start.
use Rattle.std.proofs.Common.{◌≡◌, ◌≤◌, ℕ, List, [], Option, Some, None, map, length, get_or, refl, sym, ◌∙◌, ap}
use Rattle.std.proofs.Common.{subst, arith}
use Rattle.message_types.specs.declared.updates.Update.{Update}
use Rattle.protocol_rules.specs.Group.{group_of}
use Rattle.execution.specs.Ran.{request_of, certificate}
use Rattle.execution.specs.Progress.{HasDone, IsStopped}
use Rattle.execution.proofs.Beginning.{zeros, zeros-are}
use Rattle.execution.proofs.EligibleRequests.{requests-none}
use Rattle.execution.proofs.Progressing.{done-none}
use Rattle.execution.proofs.run.Run.new.Goals as goal

pub invariant_of-result : goal.invariant_of-result
invariant_of-result c =
    let none : length c.new.result.items ≡ 0 = ap length c.new.ensures.items in
    record {
      few_clients = c.requires;
      within = omega arith;
      room = omega (arith, c.new-3.ensures.len);
      clients = λ r u found. let no : None ≡ Some u =
          sym (ap (λ entries. certificate entries r) c.new-2.ensures.empty) ∙ found in absurd (cc);
      done = subst (λ (xs : List Update). HasDone (certificate c.new-2.result.entries) [] xs (zeros 12))
          (sym c.new-3.ensures.items) (done-none (certificate c.new-2.result.entries) (zeros 12) (zeros-are 12));
      stopped = subst (λ (xs : List (ℕ × ℕ)). IsStopped (certificate c.new-2.result.entries) (map request_of xs))
          (sym c.new.ensures.items) tt;
    }

pub returns : goal.returns
returns c =
    record {
      group = refl;
      numbers = refl;
      reached = λ j lt. zeros-are 14 j;
      requests = ap (map request_of) c.new.ensures.items ∙ requests-none (group_of c.args.sizes c.args.clients);
      certificates = λ r. ap (λ entries. certificate entries r) c.new-2.ensures.empty;
    }
