-- The named frame is looked for in the slot of its sender and kind. One that stands was said before, so it can
-- be taken, one that doesn't stand is passed over, and one never posted stops the play.
use Rattle.std.proofs.Common.{◌≡◌, true, false, arith, refl, ap, sym, ◌∙◌}
use Rattle.std.specs.Prelude.{option_copied, Some, None}
use Rattle.std.proofs.lemmas.Result.{err_from_is_err_and}
use Rattle.scenario_file.specs.Reading.{contents}
use Rattle.world_entries.specs.Entries.{event_of}
use Rattle.history_rules.specs.Legal.{TakesWell}
use Rattle.world_rules.specs.Scenarios.{setup_of, actors_in}
use Rattle.script_laws.specs.Accepted.{may_do}
use Rattle.run_scripts.specs.Making.{Making, is_cry, has_halted}
use Rattle.run_scripts.specs.Mail.{post_named}
use Rattle.run_scripts.specs.Playing.{given_in, IsMaking}
use Rattle.run_scripts.proofs.EventPlayed.{place_there, runs_on}
use Rattle.run_scripts.proofs.FrameTaken.{halted_takes, name_few, name_there, name_kind, name_slot, not_found}
use Rattle.run_scripts.proofs.FrameTaken.{passed_over, named_may, named_taken, found_event}
use Rattle.run_scripts.proofs.steps.take.Goals.{After-named, Else-halted, In-Some}
use Rattle.run_scripts.proofs.steps.take.Goals as goal

pub index-requires : goal.index-requires
index-requires c = omega (
  arith,
  place_there (given_in c.args.world.now) c.args.playing.now c.args.actor
      c.requires.playing c.requires.there,
  c.args.playing.now.kept.ok,
)

pub returns-then-halted : goal.returns-then-halted
returns-then-halted c = λ m is.
    halted_takes (given_in c.args.world.now) m c.args.playing.now c.args.actor c.args.which c.index.result.now
    c.halted.result is c.requires.there c.index.ensures c.halted.ensures c.if-halted.true

pub named-requires-clause-actor : goal.named-requires-clause-actor
named-requires-clause-actor c = name_few (contents c.args.world.now.scenario.now)
    c.args.which c.requires.world.valid c.requires.named

pub named-requires-clause-kind : goal.named-requires-clause-kind
named-requires-clause-kind c = name_kind (contents c.args.world.now.scenario.now) c.args.which c.requires.named

pub named-requires-clause-there : goal.named-requires-clause-there
named-requires-clause-there c = name_slot (given_in c.args.world.now) c.args.playing.now c.args.which
    c.requires.playing c.requires.named

-- the actor runs, in each making of the play
still_runs : (c : Else-halted) (m : Making) → IsMaking (given_in c.args.world.now) m c.args.playing.now →
    has_halted (given_in c.args.world.now) m c.args.actor ≡ false
still_runs c m is = runs_on (given_in c.args.world.now) m c.args.playing.now c.args.actor c.index.result.now
    c.halted.result is c.requires.there c.index.ensures c.halted.ensures c.if-halted.false

-- the post of the name, in each making of the play
post_is : (c : After-named) (m : Making) → IsMaking (given_in c.args.world.now) m c.args.playing.now →
    option_copied c.named.result ≡ post_named m.posts c.args.which
post_is c m is = c.named.ensures (actors_in (contents c.args.world.now.scenario.now)) m.posts m.waiting
    (name_there (contents c.args.world.now.scenario.now) c.args.which c.requires.named) is.mail

pub returns-in_err-event : goal.returns-in_err-event
returns-in_err-event c = λ m is.
    let p = err_from_is_err_and c.from_residual.result c.from_residual.ensures.1 in
    not_found (given_in c.args.world.now) m c.args.playing.now c.args.actor c.args.which
    (option_copied c.named.result) c.from_residual.result c.in_err-event.field-0.0 p.0 p.1 p.2
    (still_runs (goal.at.returns-in_err-event c).Else-halted m is)
    (post_is (goal.at.returns-in_err-event c).After-named m is)
    c.in_err-event.ensures

-- the frame found may be taken
may_take : (c : In-Some) →
    (may_do (contents c.args.world.now.scenario.now) c.args.actor (event_of c.in-Some.event) ≡ true)
    × (is_cry (event_of c.in-Some.event) ≡ false)
    × TakesWell (setup_of (contents c.args.world.now.scenario.now)) c.args.playing.now.entries
    (event_of c.in-Some.event)
may_take c =
    named_may (given_in c.args.world.now) c.args.playing.now c.args.actor c.args.which (option_copied c.named.result)
    c.in-Some.event c.requires.playing c.requires.there
    (λ m is. c.named.ensures (actors_in (contents c.args.world.now.scenario.now)) m.posts m.waiting
    (name_there (contents c.args.world.now.scenario.now) c.args.which c.requires.named) is.mail)
    (found_event _ (Some c.in-Some.event) (option_copied c.named.result) c.in_ok-event.ensures c.in-Some.is)

pub does-requires-clause-role : goal.does-requires-clause-role
does-requires-clause-role c = (may_take (goal.at.does-requires-clause-role c).In-Some).0

pub does-requires-clause-other : goal.does-requires-clause-other
does-requires-clause-other c = (may_take (goal.at.does-requires-clause-other c).In-Some).1

pub does-requires-clause-taken : goal.does-requires-clause-taken
does-requires-clause-taken c = (may_take (goal.at.does-requires-clause-taken c).In-Some).2

pub returns-in-Some : goal.returns-in-Some
returns-in-Some c = λ m is.
    named_taken (given_in c.args.world.now) c.does.result m c.does.new.playing c.args.actor c.args.which
    (option_copied c.named.result) c.in-Some.event
    (still_runs (goal.at.returns-in-Some c).Else-halted m is)
    (post_is (goal.at.returns-in-Some c).After-named m is)
    (found_event _ (Some c.in-Some.event) (option_copied c.named.result) c.in_ok-event.ensures c.in-Some.is)
    (c.does.ensures m is)

pub returns-in-None : goal.returns-in-None
returns-in-None c = λ m is.
    passed_over (given_in c.args.world.now) m c.args.playing.now c.args.actor c.args.which
    (option_copied c.named.result) is
    (still_runs (goal.at.returns-in-None c).Else-halted m is)
    (post_is (goal.at.returns-in-None c).After-named m is)
    (found_event _ None (option_copied c.named.result) c.in_ok-event.ensures c.in-None.is)
