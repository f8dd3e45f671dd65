-- A scenario as one who holds keys knows it differs from the scenario in keys and signatures alone. It is a scenario still, all
-- keys have as many leaves, and each role begins as it does where the seed is known.
use Rattle.std.proofs.Common.{◌≡◌, ℕ, ◌^◌, ◌<◌, List, [], Option, Some, length, true, refl, sym, ◌∙◌, ap, subst}
use Rattle.message_types.specs.declared.signed.Signed.{Signed}
use Rattle.message_types.specs.declared.body.Body.{Body}
use Rattle.protocol_rules.specs.Group.{Group}
use Rattle.protocol_rules.specs.Master.{Heard}
use Rattle.hash_signatures.specs.Signatures.{total, all_leaves}
use Rattle.scenario_file.specs.declared.held.HeldKeys.{HeldKeys}
use Rattle.scenario_file.specs.Reading.{Contents, with_held}
use Rattle.scenario_file.specs.Valid.{IsScenario}
use Rattle.history_rules.specs.Setup.{Setup, is_correct_master}
use Rattle.history_rules.specs.Legal.{heard_in}
use Rattle.master_node.specs.Charge.{Charge}
use Rattle.master_node.specs.Laws.{charge_of}
use Rattle.master_node.specs.Node.{NodeState}
use Rattle.master_node.specs.Running.{IsRunning}
use Rattle.world_rules.specs.Scenarios.{setup_of, key_in}
use Rattle.world_rules.proofs.Fields.{group_is, key_heights}
use Rattle.bench_rules.proofs.HeardEvents.{heard_none}
use Rattle.world_history.specs.declared.role.Role.{Role}
use Rattle.world_history.specs.declared.role.Role.TheVariants as role
use Rattle.world_history.specs.Roles.{IsMaster, IsIntruded, IsRole}

some_same : {X : Type 0} {x y : X} → Some x ≡ Some y → x ≡ y
some_same e = cc

sized_too : (held keys : HeldKeys) → length held.identifier ≡ 16 → held ≡ keys → length keys.identifier ≡ 16
sized_too held keys sized same = ap (λ (k : HeldKeys). length k.identifier) (sym same) ∙ sized

pub held_scenario : (c : Contents) (held : HeldKeys) → length held.identifier ≡ 16 → IsScenario c →
    IsScenario (with_held c (Some held))
held_scenario c held sized is = record {
  group = is.group;
  seed = is.seed;
  some_levels = is.some_levels;
  at_most_three_levels = is.at_most_three_levels;
  heights = is.heights;
  some_frames = is.some_frames;
  at_most_two_frames = is.at_most_two_frames;
  intruded = is.intruded;
  intruded_rise = is.intruded_rise;
  some_screens = is.some_screens;
  at_most_four_screens = is.at_most_four_screens;
  plant = is.plant;
  devices = is.devices;
  points = is.points;
  alarms = is.alarms;
  interlocks = is.interlocks;
  points_differ = is.points_differ;
  alarms_differ = is.alarms_differ;
  interlocks_differ = is.interlocks_differ;
  failing = is.failing;
  failing_calls = is.failing_calls;
  intruded_keep_all = is.intruded_keep_all;
  held = λ keys same. sized_too held keys sized (some_same same);
}

-- whatever is held, all actors' keys have as many leaves
pub held_leaves : (c : Contents) (held : Option HeldKeys) (actor other : ℕ) →
    all_leaves (key_in (with_held c held) actor) ≡ all_leaves (key_in c other)
held_leaves c held actor other = ap (λ (hs : List ℕ). 2 ^ total hs)
    (key_heights (with_held c held) actor ∙ sym (key_heights c other))

-- so a master is charged with the same
abbrev charge_with : Setup → ℕ → ℕ → Charge
charge_with w actor leaves = record {
  group = w.group;
  me = actor;
  orders = w.orders;
  leaves = leaves;
  shared_leaves = w.shared_leaves;
}

held_charge : (c : Contents) (held : Option HeldKeys) (actor : ℕ) →
    charge_of (setup_of c) actor ≡ charge_of (setup_of (with_held c held)) actor
unfolding setup_of
held_charge c held actor = ap (charge_with (setup_of c) actor) (sym (held_leaves c held 0 0))

held_intruded : (c : Contents) (held : Option HeldKeys) (actor : ℕ) →
    (setup_of c).intruded actor ≡ (setup_of (with_held c held)).intruded actor
unfolding setup_of
held_intruded c held actor = refl

held_correct : (c : Contents) (held : Option HeldKeys) (actor : ℕ) →
    is_correct_master (setup_of c) actor ≡ is_correct_master (setup_of (with_held c held)) actor
unfolding setup_of
held_correct c held actor = refl

held_group : (c : Contents) (held : Option HeldKeys) → (setup_of c).group ≡ (setup_of (with_held c held)).group
held_group c held = group_is c ∙ sym (group_is (with_held c held))

master_held : (c : Contents) (held : Option HeldKeys) (actor : ℕ) (node : NodeState) →
    IsMaster (setup_of c) actor [] node → IsMaster (setup_of (with_held c held)) actor [] node
master_held c held actor node is = record {
  correct = sym (held_correct c held actor) ∙ is.correct;
  works = is.works;
  running = subst (λ (hs : List Heard). IsRunning (charge_of (setup_of (with_held c held)) actor) node.running hs)
      (heard_none (setup_of c) actor ∙ sym (heard_none (setup_of (with_held c held)) actor))
      (subst (λ (x : Charge). IsRunning x node.running (heard_in (setup_of c) actor []))
      (held_charge c held actor) is.running);
}

intruded_held : (c : Contents) (held : Option HeldKeys) (actor : ℕ) (known : List (Signed Body)) →
    IsIntruded (setup_of c) actor [] known → IsIntruded (setup_of (with_held c held)) actor [] known
intruded_held c held actor known is = record {
  master = subst (λ (g : Group). actor < g.n) (held_group c held) is.master;
  intruded = sym (held_intruded c held actor) ∙ is.intruded;
  knows = is.knows;
}

pub role_held : (c : Contents) (held : Option HeldKeys) (actor : ℕ) (r : Role) → IsRole c actor [] r →
    IsRole (with_held c held) actor [] r
role_held c held actor (role.Master node) is = master_held c held actor node is
role_held c held actor (role.Intruded known) is = intruded_held c held actor known is
role_held c held actor (role.Proxy front) is = is
role_held c held actor (role.Screen desk) is = is
