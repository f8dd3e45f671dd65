-- A master before its first event.
use Rattle.std.proofs.Common.{◌≡◌, ℕ, ◌+◌, ◌<◌, ◌≤◌, List, [], ◌∷◌, ◌++◌, Option, Some, None, zero, suc, length}
use Rattle.std.proofs.Common.{nat_eq, refl, sym, ◌∙◌, ap, subst, arith}
use Rattle.std.specs.Prelude.{slice_index}
use Rattle.std.specs.List.{flat_map}
use Rattle.message_types.specs.Parts.{parts}
use Rattle.protocol_rules.specs.Words.{run_from, first_met}
use Rattle.protocol_rules.specs.Group.{Group, group_of, most_number}
use Rattle.protocol_rules.specs.Facts.{facts_of, rows_known}
use Rattle.protocol_rules.specs.Order.{ordered, ordered_run}
use Rattle.protocol_rules.specs.Execution.{eligible_requests, certified_run, kept_after, executed_of}
use Rattle.protocol_rules.specs.Master.{certified_requests, executed}
use Rattle.history_rules.specs.Legal.{known_of}
use Rattle.agreement.specs.Laws.{HasSizes}
use Rattle.execution.specs.Ran.{IsRunOf}
use Rattle.master_points.specs.declared.plant.Plant.{Plant}
use Rattle.master_points.specs.Orders.{IsPlant, fresh, held_after, orders}
use Rattle.scenario_file.specs.declared.scenario.Scenario.{Scenario}
use Rattle.master_knowledge.specs.Knows.{IsExecutionOf, IsCaughtUp}
use Rattle.master_knowledge.specs.Past.{no_past}
use Rattle.master_answers.specs.Replica.{IsReplicaOf}
use Rattle.master_node.specs.declared.running.Running.{Running}
use Rattle.master_node.specs.Charge.{Charge, IsChargeOf}
use Rattle.master_node.specs.Running.{IsRunning}

run_none : {X : Type 0} (f : ℕ → Option X) (start most : ℕ) → f start ≡ None → run_from f start most ≡ []
unfolding run_from
run_none f start zero e = refl
run_none {X} f start (suc most) e =
    ap (λ (o : Option X). elim o as (λ _. List X) [ None ↦ [] | Some x ↦ x ∷ run_from f (suc start) most ]) e

nothing_ordered : (g : Group) → ordered_run g (facts_of g []) ≡ []
unfolding ordered_run ordered first_met facts_of rows_known
nothing_ordered g = run_none (ordered g []) 1 most_number refl

nothing_executed : (g : Group) → [] ≡ executed g []
unfolding executed executed_of eligible_requests certified_run kept_after
nothing_executed g = ap (executed_of g (certified_requests g [])) (sym (nothing_ordered g))

none_before : {X : Type 0} (xs ys : List X) → [] ≡ xs ++ ys → [] ≡ xs
none_before [] ys e = refl
none_before {X} (x ∷ xs) ys e = let many : 0 ≡ suc (length (xs ++ ys)) = ap length e in absurd (omega arith)

caught_at_start : (g : Group) (kept : Running) → IsExecutionOf g kept.replica.knowledge.run [] →
    IsCaughtUp g kept.replica.knowledge []
caught_at_start g kept is =
    subst (λ (runs : List (List (List ℕ))). IsRunOf g kept.replica.knowledge.run (certified_requests g []) runs)
    (sym (none_before is.before is.after (sym (nothing_ordered g) ∙ is.all)) ∙ sym (nothing_ordered g)) is.run

pub started : (scenario : Scenario) (number given : ℕ) (c : Charge) (kept : Running) →
    IsChargeOf scenario number given c → IsPlant scenario.plant scenario.screens → number < scenario.sizes.n
    → IsReplicaOf (group_of scenario.sizes (length scenario.plant.devices + scenario.screens))
    number kept.replica [] [] no_past []
    → ((n : ℕ) → slice_index kept.replica.vouchers.counts n ≡ 0)
    → kept.points ≡ fresh scenario.plant scenario.screens → kept.unheard ≡ [] → kept.leaves ≡ given →
    kept.shared_leaves ≡ nat_eq scenario.frames 2
    → IsRunning c kept []
unfolding known_of
started scenario number given c kept charge plant few is_replica counts points unheard leaves shared = record {
  sizes = subst HasSizes (sym charge.group)
      (record { group = scenario.sizes.group; all = scenario.sizes.all; quorum = scenario.sizes.quorum });
  master =
      let me : c.me ≡ number = charge.me in
      let n : c.group.n ≡ scenario.sizes.n = ap (λ (g : Group). g.n) charge.group in
      omega arith;
  ticks = omega arith;
  keeps = record { counted = []; answered = []; is_replica = own; all = λ _. refl; all_answered = λ _. refl };
  caught = caught_at_start c.group kept own.knows.run;
  points = record {
    plant = scenario.plant;
    screens = scenario.screens;
    within = plant;
    clients = sym (ap (λ (g : Group). g.clients) charge.group);
    orders = charge.orders;
    held = points ∙ ap (held_after (fresh scenario.plant scenario.screens)) (nothing_executed c.group);
  };
  vouchers = λ n less. let none : slice_index kept.replica.vouchers.counts n ≡ 0 = counts n in omega arith;
  unheard = ap (flat_map parts) unheard;
  placed = refl;
  leaves = leaves ∙ sym charge.leaves ∙ (omega arith);
  shared = shared ∙ sym charge.shared;
}
  where
    own : IsReplicaOf c.group c.me kept.replica [] [] no_past []
    own = subst (λ m. IsReplicaOf c.group m kept.replica [] [] no_past []) (sym charge.me)
        (subst (λ (g : Group). IsReplicaOf g number kept.replica [] [] no_past []) (sym charge.group) is_replica)

pub few_clients_at_start : (plant : Plant) (screens : ℕ) → IsPlant plant screens → length plant.devices + screens ≤ 12
few_clients_at_start plant screens is =
    let devices : length plant.devices ≤ 8 = is.devices in
    let shown : screens ≤ 4 = is.shown in
    omega arith

-- the charge that a scenario gives
abbrev pub charge_by : Scenario → ℕ → ℕ → Charge
charge_by scenario number given = record {
  group = group_of scenario.sizes (length scenario.plant.devices + scenario.screens);
  me = number;
  orders = orders scenario.plant scenario.screens;
  leaves = given;
  shared_leaves = nat_eq scenario.frames 2;
}

pub is_charge_by : (scenario : Scenario) (number given : ℕ) →
    IsChargeOf scenario number given (charge_by scenario number given)
is_charge_by scenario number given = record {
  group = refl;
  me = refl;
  orders = λ updates client. refl;
  leaves = refl;
  shared = refl;
}
