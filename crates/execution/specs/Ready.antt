-- What always holds of a run.
use Rattle.std.specs.Prelude.{◌≡◌, ℕ, ◌+◌, ◌-◌, ◌≤◌, length, map, take, drop, vec_len, vec_capacity}
use Rattle.execution.specs.Ran.{Ran, request_of, certificate}
use Rattle.execution.specs.Progress.{HasDone, IsStopped, HasClients}
use Rattle.quorum_sets.specs.declared.limits.TheConstants.{MOST_CLIENTS}
use Rattle.protocol_rules.specs.Group.{group_of}
use Rattle.execution.specs.declared.run.Run.TheInside.{Inside}

abbrev pub ran_of : Inside → Ran
ran_of a =
    record {
      group = group_of a.sizes a.clients;
      numbers = a.numbers;
      reach = a.reach.numbers;
      requests =
          map request_of a.requests.items;
      certificates = a.certificates.entries;
    }

pub record IsReady (a : Inside) : Type 0 where
  pub few_clients : a.clients ≤ MOST_CLIENTS
  pub within : a.at ≤ length a.requests.items
  pub room : vec_len a.executed + (length a.requests.items - a.at) ≤ vec_capacity a.executed
  pub clients : HasClients a.certificates.entries
  pub done : HasDone (certificate a.certificates.entries) (map request_of (take a.at a.requests.items))
      a.executed.items a.counts
  pub stopped : IsStopped (certificate a.certificates.entries) (map request_of (drop a.at a.requests.items))
