-- The whole table of a history's delays, from what happened in it. (This project's own.)
use Rattle.std.specs.Prelude.{ℕ, ◌+◌}
use Rattle.scenario_file.specs.Actors.{actors_of}
use Rattle.delay_times.specs.declared.table.Watched.{Watched}
use Rattle.delay_times.specs.declared.table.Delays.{Delays}
use Rattle.delay_times.specs.Outcomes.{outcomes_in}
use Rattle.delay_times.specs.Unexecuted.{unexecuted_in}
use Rattle.delay_times.specs.Spreads.{spreads_in}
use Rattle.delay_times.specs.Reigns.{reigns_in}

-- the views in turn, how delays spread, what isn't executed by all, and each outcome
unfoldable pub delays_of : Watched → Delays
delays_of x = record {
  reigns = reigns_in x.masters x.happenings x.entries;
  spreads = spreads_in (outcomes_in x.cast.proxies x.masters x.happenings) (x.cast.proxies + x.cast.screens)
      (actors_of x.cast);
  unexecuted = unexecuted_in x.masters x.happenings;
  outcomes = outcomes_in x.cast.proxies x.masters x.happenings;
}
