-- The lines of a printed run before its history are passed over.
use Rattle.std.proofs.Common.{ℕ, ◌-◌, Bool, true, false, cond, nat_lt, List, ◌++◌}
use Rattle.quorum_sets.specs.Masters.{numbers_below, has_master}
use Rattle.scenario_file.specs.Reading.{Contents}
use Rattle.history_rules.specs.Events.{Entry}
use Rattle.history_rules.specs.Setup.{own}
use Rattle.history_rules.specs.Keeping.{is_halted}
use Rattle.history_rules.specs.Legal.{executions_in, view_in}
use Rattle.history_rules.specs.Counts.{forged, alike, intruded_masters}
use Rattle.world_rules.specs.Headline.{agrees}
use Rattle.world_rules.specs.Scenarios.{setup_of, masters_in, proxies_in, actors_in}
use Rattle.run_lines.specs.Texts.{intruded_text, master_text, proxy_text, screen_text, audit_text, agree_text}
use Rattle.printed_run.specs.Printed.{cast_in, writes_of, notices_of, master_lines, client_lines, actor_lines}
use Rattle.printed_run.specs.Printed.{actors_text, totals_text}
use Rattle.printed_laws.specs.Lines.{IsPassed}
use Rattle.printed_laws.proofs.LinesPassed.{both_passed, each_passed}
use Rattle.printed_laws.proofs.HeadsPassed.{intruded_passed, master_passed, proxy_passed, screen_passed, audit_passed}
use Rattle.printed_laws.proofs.HeadsPassed.{agree_passed}

either_passed : (b : Bool) (one other : List ℕ) → IsPassed one → IsPassed other → IsPassed (cond b one other)
either_passed true one other first second = first
either_passed false one other first second = second

master_is_passed : (c : Contents) (master : ℕ) (list : List Entry) → IsPassed (master_lines c master list)
unfolding master_lines
master_is_passed c master list =
    either_passed (has_master c.settings.intruded master) (intruded_text (cast_in c) master)
    (master_text (cast_in c) master (view_in (setup_of c) master list) (executions_in (setup_of c) master list)
    (is_halted (setup_of c) master list))
    (intruded_passed (cast_in c) master)
    (master_passed (cast_in c) master (view_in (setup_of c) master list) (executions_in (setup_of c) master list)
    (is_halted (setup_of c) master list))

client_is_passed : (c : Contents) (actor : ℕ) (list : List Entry) → IsPassed (client_lines c actor list)
unfolding client_lines
client_is_passed c actor list =
    let client : ℕ = actor - masters_in c in
    either_passed (nat_lt client (proxies_in c))
    (proxy_text (cast_in c) actor (writes_of c client list) (is_halted (setup_of c) actor list))
    (screen_text (cast_in c) actor (notices_of c client list) (is_halted (setup_of c) actor list))
    (proxy_passed (cast_in c) actor (writes_of c client list) (is_halted (setup_of c) actor list))
    (screen_passed (cast_in c) actor (notices_of c client list) (is_halted (setup_of c) actor list))

actor_is_passed : (c : Contents) (actor : ℕ) (list : List Entry) → IsPassed (actor_lines c actor list)
actor_is_passed c actor list =
    either_passed (nat_lt actor (masters_in c)) (master_lines c actor list) (client_lines c actor list)
    (master_is_passed c actor list) (client_is_passed c actor list)

pub heads_are_passed : (c : Contents) (history : List Entry) →
    IsPassed (actors_text c history ++ totals_text (setup_of c) history)
heads_are_passed c history =
    both_passed (actors_text c history) (totals_text (setup_of c) history)
    (each_passed (λ actor. actor_lines c actor (own history actor)) (numbers_below (actors_in c))
    (λ actor. actor_is_passed c actor (own history actor)))
    (both_passed (audit_text (forged (setup_of c) history) (alike (setup_of c).group history)
    (intruded_masters (setup_of c)) (setup_of c).group.f) (agree_text (agrees (setup_of c) history))
    (audit_passed (forged (setup_of c) history) (alike (setup_of c).group history) (intruded_masters (setup_of c))
    (setup_of c).group.f)
    (agree_passed (agrees (setup_of c) history)))
