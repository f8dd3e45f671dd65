-- The actor's bench adds the entry, its frames become posts for those they go to, and the count rises by one.
-- So benches, mail and count are again those of one making, the one after this event.
use Rattle.std.proofs.Common.{◌≡◌, arith, refl, ap, not, true, Bool, sym, ◌∙◌}
use Rattle.std.proofs.lemmas.Bool.{and_parts}
use Rattle.world_entries.specs.Entries.{event_of}
use Rattle.world_rules.specs.Scenarios.{fits_in}
use Rattle.scenario_file.specs.Reading.{contents}
use Rattle.script_laws.specs.Accepted.{is_there}
use Rattle.run_scripts.specs.Making.{most_entries}
use Rattle.run_scripts.specs.Playing.{given_in}
use Rattle.run_scripts.proofs.EventPlayed.{place_there, its_world, its_running, its_role, its_stamps, it_takes}
use Rattle.run_scripts.proofs.EventPlayed.{its_list_short, they_stand, their_slots, act_done}
use Rattle.run_scripts.proofs.acting.act.Goals.{Start}
use Rattle.run_scripts.proofs.acting.act.Goals as goal

actor_there : (c : Start) → is_there (contents c.args.world.now.scenario.now) c.args.actor ≡ true
actor_there c = (and_parts (is_there (contents c.args.world.now.scenario.now) c.args.actor)
    (fits_in (contents c.args.world.now.scenario.now) c.args.actor (event_of c.args.event)) c.requires.role).0

pub index_mut-requires : goal.index_mut-requires
index_mut-requires c =
    omega (
      arith,
      place_there (given_in c.args.world.now) c.args.playing.now c.args.actor c.requires.playing
          (actor_there (goal.at.index_mut-requires c).Start),
      c.args.playing.now.kept.ok,
    )

pub add_entry-requires-clause-scenario : goal.add_entry-requires-clause-scenario
add_entry-requires-clause-scenario c =
    its_world (given_in c.args.world.now) c.args.playing.now c.args.actor c.index_mut.result.now c.requires.playing
    (actor_there (goal.at.add_entry-requires-clause-scenario c).Start) c.index_mut.ensures.value

pub add_entry-requires-clause-running : goal.add_entry-requires-clause-running
add_entry-requires-clause-running c =
    its_running (given_in c.args.world.now) c.args.playing.now c.args.actor c.index_mut.result.now c.requires.playing
    (actor_there (goal.at.add_entry-requires-clause-running c).Start) c.index_mut.ensures.value c.requires.running

pub add_entry-requires-clause-fits : goal.add_entry-requires-clause-fits
add_entry-requires-clause-fits c =
    its_role (given_in c.args.world.now) c.args.playing.now c.args.actor (event_of c.args.event)
    c.index_mut.result.now c.requires.playing c.requires.role c.index_mut.ensures.value

pub add_entry-requires-clause-later : goal.add_entry-requires-clause-later
add_entry-requires-clause-later c =
    its_stamps (given_in c.args.world.now) c.args.playing.now c.args.actor c.index_mut.result.now c.requires.playing
    (actor_there (goal.at.add_entry-requires-clause-later c).Start) c.index_mut.ensures.value

pub add_entry-requires-clause-taken : goal.add_entry-requires-clause-taken
add_entry-requires-clause-taken c =
    it_takes (given_in c.args.world.now) c.args.playing.now c.args.actor (event_of c.args.event)
    c.index_mut.result.now c.requires.playing (actor_there (goal.at.add_entry-requires-clause-taken c).Start)
    c.index_mut.ensures.value c.requires.taken

pub add_entry-requires-clause-short : goal.add_entry-requires-clause-short
add_entry-requires-clause-short c =
    its_list_short (given_in c.args.world.now) c.args.playing.now c.args.actor c.index_mut.result.now
    c.requires.playing (actor_there (goal.at.add_entry-requires-clause-short c).Start) c.index_mut.ensures.value

pub posts_of-requires-clause-stand : goal.posts_of-requires-clause-stand
posts_of-requires-clause-stand c =
    they_stand (given_in c.args.world.now) c.args.playing.now c.args.actor c.index_mut.result.now
    c.in_ok-said.frames.items c.requires.playing (actor_there (goal.at.posts_of-requires-clause-stand c).Start)
    c.index_mut.ensures.value c.in_ok-said.ensures.stand

pub post-requires : goal.post-requires
post-requires c =
    their_slots (given_in c.args.world.now) c.args.playing.now c.args.actor c.in_ok-said.said
    c.in_ok-said.frames.items c.deref.result.now c.requires.world.valid c.requires.playing
    (actor_there (goal.at.post-requires c).Start)
    (c.deref.ensures.value ∙ c.in_ok-posts.ensures)

pub overflow_add-playing : goal.overflow_add-playing
unfolding most_entries
overflow_add-playing c = omega (arith, c.requires.room)

pub returns : goal.returns
returns c = λ m is.
    act_done (given_in c.args.world.now) m c.args.playing.now _ c.args.actor (event_of c.args.event)
    c.index_mut.result.now c.add_entry.new.kept c.in_ok-said.said c.in_ok-said.frames.items
    c.deref.result.now (not c.is_restart-is_new.result) is c.requires.role c.requires.other (c.requires.running m is)
    c.requires.room c.requires.taken c.index_mut.ensures.value
    c.in_ok-said.ensures.stamp c.in_ok-said.ensures.frames (c.deref.ensures.value ∙ c.in_ok-posts.ensures)
    c.in_ok-said.ensures.entry c.in_ok-said.ensures.works refl refl
    c.in_ok-post.ensures (ap not c.is_restart-is_new.ensures) refl refl
