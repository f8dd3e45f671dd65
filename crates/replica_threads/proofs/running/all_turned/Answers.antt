-- Whatever the hands did in their threads, finishing leaves each actor ended. So what is left to show is that
-- both may begin: there is an inbox and a station for each actor, and a pass of each inbox.
use Rattle.std.proofs.Common.{◌≡◌, ◌∙◌, ℕ, List, length, ap, sym, subst}
use Rattle.std.specs.Prelude.{IfOk}
use Rattle.scenario_file.specs.Valid.{IsScenario}
use Rattle.world_history.specs.Signed.{ring_in}
use Rattle.world_rules.specs.Scenarios.{actors_in}
use Rattle.inboxes.specs.declared.inbox.Inbox.{Inbox}
use Rattle.replica_threads.specs.declared.posted.Posted.{Posted}
use Rattle.replica_threads.specs.Hands.{ArePassesOf}
use Rattle.replica_threads.proofs.Passes.{all_ready, crews_many}
use Rattle.replica_threads.proofs.running.all_turned.Goals as goal

pub crews-requires : goal.crews-requires
crews-requires g c = record {
  passes = subst (λ (bs : List (Inbox Posted)). ArePassesOf bs c.in_ok-inboxes.passes.items)
      (sym c.as_slice-boxes.ensures.value) c.in_ok-inboxes.ensures.passes;
}

pub make_all_turns-requires : goal.make_all_turns-requires
make_all_turns-requires g c = (
  record { owned = c.type_bounds.send-N.owned; leaving = c.type_bounds.send-N.leaving },
  (
    record { shared = c.type_bounds.sync-N.shared },
    (
      record { shared = c.type_bounds.sync-R.shared },
      (
        record { shared = c.type_bounds.sync-G.shared },
        all_ready g.N.Naming.name _ _ _ _ (record {
          valid = subst IsScenario c.requires.course.scenario c.requires.course.valid;
          scenario = c.requires.course.scenario;
          ring = c.in_ok-ring.ensures ∙ ap ring_in c.requires.course.scenario;
          stamps = c.requires.source;
          inboxes = ap length c.as_slice-boxes.ensures.value ∙ c.in_ok-inboxes.ensures.all
              ∙ c.actors-actors.ensures.actors ∙ ap actors_in c.requires.course.scenario;
          turns = c.requires.course.turns;
        }) c.in_ok-crews.ensures.hands,
      ),
    ),
  ),
)

pub all_finished-requires-clause-shared : goal.all_finished-requires-clause-shared
all_finished-requires-clause-shared g c = record {
  valid = subst IsScenario c.requires.course.scenario c.requires.course.valid;
  scenario = c.requires.course.scenario;
  ring = c.in_ok-ring.ensures ∙ ap ring_in c.requires.course.scenario;
  stamps = c.requires.source;
  inboxes = ap length c.as_slice-boxes.ensures.value ∙ c.in_ok-inboxes.ensures.all ∙ c.actors-actors.ensures.actors
      ∙ ap actors_in c.requires.course.scenario;
  turns = c.requires.course.turns;
}

pub all_finished-requires-clause-passes : goal.all_finished-requires-clause-passes
all_finished-requires-clause-passes g c = c.in_ok-crews.ensures.passes

pub returns-clause-all : goal.returns-clause-all
returns-clause-all g c =
    subst (λ (n : ℕ). IfOk c.all_finished.result (λ stations. length stations.items ≡ n))
    (c.in_ok-turned.ensures
    ∙ crews_many c.args.stations.items c.in_ok-crews.crews.items c.in_ok-crews.ensures.stations
    ∙ c.requires.stations) c.all_finished.ensures.all
