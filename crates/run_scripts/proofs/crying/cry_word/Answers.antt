-- What a master can say of a word comes from what it overheard, and at most uses its next leaf. So its bench
-- still runs and has the same list, and the cry fits it as the next entry.
use Rattle.std.proofs.Common.{◌≡◌, ◌<◌, ◌^◌, true, false, length, nat_lt, refl, sym, ◌∙◌, ap}
use Rattle.std.specs.List.{list_all}
use Rattle.scenario_file.specs.Reading.{contents}
use Rattle.history_rules.specs.Events.{Cry, Entry}
use Rattle.world_history.specs.State.{BenchState, setup_in}
use Rattle.world_history.specs.KeptState.{halted_in}
use Rattle.run_scripts.proofs.WordSaid.{spoke, cry_fits, none_said, some_said, cried_more}
use Rattle.run_scripts.proofs.crying.cry_word.Goals as goal

pub returns-in_default-clause-spoken : goal.returns-in_default-clause-spoken
returns-in_default-clause-spoken c = none_said _ _ c.in_ok-bytes.ensures.spoken c.in_default.is

pub act-requires-clause-scenario : goal.act-requires-clause-scenario
act-requires-clause-scenario c =
    spoke (λ (x : BenchState). contents c.args.world.now.scenario.now ≡ x.world) c.args.kept.now.bench
    c.speak.new.self.bench c.args.word.now c.in_ok-bytes.ensures.bench (λ n. c.requires.scenario)

pub act-requires-clause-running : goal.act-requires-clause-running
act-requires-clause-running c =
    spoke (λ (x : BenchState). halted_in x ≡ false) c.args.kept.now.bench c.speak.new.self.bench c.args.word.now
    c.in_ok-bytes.ensures.bench (λ n. c.requires.running)

pub act-requires-clause-fits : goal.act-requires-clause-fits
act-requires-clause-fits c =
    spoke (λ (x : BenchState). (setup_in x).fits x.actor (Cry c.in_ok-copy.field-0) ≡ true) c.args.kept.now.bench
    c.speak.new.self.bench c.args.word.now c.in_ok-bytes.ensures.bench
    (λ n. cry_fits c.args.kept.now.bench c.in_ok-copy.field-0 c.requires.master c.requires.intruded)

pub act-requires-clause-later : goal.act-requires-clause-later
act-requires-clause-later c =
    spoke (λ (x : BenchState). list_all (λ (e : Entry). nat_lt e.stamp c.args.stamp) x.list ≡ true)
    c.args.kept.now.bench c.speak.new.self.bench c.args.word.now c.in_ok-bytes.ensures.bench
    (λ n. c.requires.later)

pub act-requires-clause-taken : goal.act-requires-clause-taken
act-requires-clause-taken c = tt

pub act-requires-clause-short : goal.act-requires-clause-short
act-requires-clause-short c =
    spoke (λ (x : BenchState). length x.list < 2 ^ 32) c.args.kept.now.bench c.speak.new.self.bench c.args.word.now
    c.in_ok-bytes.ensures.bench (λ n. c.requires.short)

pub returns-clause-spoken : goal.returns-clause-spoken
returns-clause-spoken c = some_said _ _ _ _ c.in_ok-bytes.ensures.spoken c.in-Some.is c.in_ok-bytes-2.ensures

pub returns-clause-cried : goal.returns-clause-cried
returns-clause-cried c =
    cried_more c.args.kept.now c.act.new.self c.speak.new.self.bench c.args.stamp c.args.word.now
    (Cry c.in_ok-copy.field-0) _ c.in_ok-copy.field-0 c.in_ok-bytes.ensures.bench refl c.in_ok-copy.ensures
    c.in_ok-act.ensures.entry c.in_ok-act.ensures.works
