-- The word becomes the master's next entry, and its frame, where its bytes spell one, is posted to those that
-- it names. So benches, mail and counts are those of the making after this cry.
use Rattle.std.proofs.Common.{◌≡◌, arith, refl, ap, sym, ◌∙◌}
use Rattle.std.proofs.lemmas.Result.{err_from_is_err_and}
use Rattle.std.specs.Prelude.{nat_lt, Some}
use Rattle.world_rules.specs.Scenarios.{setup_of}
use Rattle.std.specs.List.{list_all}
use Rattle.scenario_file.specs.Reading.{contents}
use Rattle.history_rules.specs.Events.{Cry}
use Rattle.world_rules.specs.Frames.{cried}
use Rattle.run_scripts.specs.Making.{most_entries}
use Rattle.run_scripts.specs.Playing.{given_in}
use Rattle.run_scripts.proofs.DoneAndLeft.{wants}
use Rattle.run_scripts.proofs.EventPlayed.{place_there, its_world, its_stamps, its_list_short}
use Rattle.run_scripts.proofs.WordSaid.{intruded_there, its_master, it_is_intruded, it_runs, word_there, word_accepted}
use Rattle.run_scripts.proofs.WordSaid.{word_to, to_few, cried_slots, said_there, unsaid_goes, said_goes, posts_as}
use Rattle.run_scripts.proofs.WordSaid.{cried_as}
use Rattle.run_scripts.proofs.crying.say.Goals as goal

pub index_mut-kept-requires : goal.index_mut-kept-requires
index_mut-kept-requires c =
    omega (
      arith,
      place_there (given_in c.args.world.now) c.args.playing.now c.args.master c.requires.playing
          (intruded_there (contents c.args.world.now.scenario.now) c.args.master c.requires.master),
      c.args.playing.now.kept.ok,
    )

pub cry_word-requires-clause-scenario : goal.cry_word-requires-clause-scenario
cry_word-requires-clause-scenario c = its_world (given_in c.args.world.now) c.args.playing.now c.args.master
    c.index_mut-kept.result.now c.requires.playing
    (intruded_there (contents c.args.world.now.scenario.now) c.args.master c.requires.master)
    c.index_mut-kept.ensures.value

pub cry_word-requires-clause-master : goal.cry_word-requires-clause-master
cry_word-requires-clause-master c = its_master (given_in c.args.world.now) c.args.playing.now c.args.master
    c.index_mut-kept.result.now c.requires.playing c.requires.master c.index_mut-kept.ensures.value

pub cry_word-requires-clause-intruded : goal.cry_word-requires-clause-intruded
cry_word-requires-clause-intruded c = it_is_intruded (given_in c.args.world.now) c.args.playing.now c.args.master
    c.index_mut-kept.result.now c.requires.playing c.requires.master c.index_mut-kept.ensures.value

pub cry_word-requires-clause-accepted : goal.cry_word-requires-clause-accepted
cry_word-requires-clause-accepted c = word_accepted (contents c.args.world.now.scenario.now)
    c.word_at-saying.result.now
    (word_there (contents c.args.world.now.scenario.now) c.args.world.now.words.now c.args.place
    c.word_at-saying.result.now c.requires.world.words c.requires.next.below c.word_at-saying.ensures.word)

pub cry_word-requires-clause-running : goal.cry_word-requires-clause-running
cry_word-requires-clause-running c =
    it_runs (given_in c.args.world.now) c.args.playing.now c.args.master c.index_mut-kept.result.now
    c.requires.world.valid c.requires.playing c.requires.master c.index_mut-kept.ensures.value

pub cry_word-requires-clause-later : goal.cry_word-requires-clause-later
cry_word-requires-clause-later c = its_stamps (given_in c.args.world.now) c.args.playing.now c.args.master
    c.index_mut-kept.result.now c.requires.playing
    (intruded_there (contents c.args.world.now.scenario.now) c.args.master c.requires.master)
    c.index_mut-kept.ensures.value

pub cry_word-requires-clause-short : goal.cry_word-requires-clause-short
cry_word-requires-clause-short c = its_list_short (given_in c.args.world.now) c.args.playing.now c.args.master
    c.index_mut-kept.result.now c.requires.playing
    (intruded_there (contents c.args.world.now.scenario.now) c.args.master c.requires.master)
    c.index_mut-kept.ensures.value

pub returns-in_err-bytes : goal.returns-in_err-bytes
returns-in_err-bytes c = λ m is.
    let p = err_from_is_err_and c.from_residual.result c.from_residual.ensures.1 in
    wants (given_in c.args.world.now) c.from_residual.result p.0 _ _ p.1 p.2

pub returns-in_default : goal.returns-in_default
returns-in_default c = λ m is.
    unsaid_goes (given_in c.args.world.now) m c.args.playing.now c.args.master c.args.place
    c.index_mut-kept.result.now c.word_at-saying.result.now is c.requires.master c.requires.room c.requires.next
    c.word_at-saying.ensures.word c.index_mut-kept.ensures.value
    (sym c.in_default.is ∙ c.in_ok-bytes.ensures.spoken)

pub cried_posts-requires-clause-to : goal.cried_posts-requires-clause-to
cried_posts-requires-clause-to c = ap (list_all (λ a. nat_lt a 26)) c.as_slice.ensures
    ∙ to_few (contents c.args.world.now.scenario.now) c.word_at-saying.result.now.to c.requires.world.valid
    (word_to (contents c.args.world.now.scenario.now) c.word_at-saying.result.now
    (word_there (contents c.args.world.now.scenario.now) c.args.world.now.words.now c.args.place
    c.word_at-saying.result.now c.requires.world.words c.requires.next.below c.word_at-saying.ensures.word))

pub returns-in_err-posts : goal.returns-in_err-posts
returns-in_err-posts c = λ m is.
    let p = err_from_is_err_and c.from_residual-in_err-posts.result c.from_residual-in_err-posts.ensures.1 in
    wants (given_in c.args.world.now) c.from_residual-in_err-posts.result p.0 _ _ p.1 p.2

pub post-requires : goal.post-requires
post-requires c = cried_slots (given_in c.args.world.now) c.args.playing.now c.args.master c.args.playing.now.entries
    c.word_at-saying.result.now.to (cried (Cry c.in-Some.bytes)) c.deref.result.now c.requires.world.valid
    c.requires.playing c.requires.master
    (posts_as c.as_slice.result.now c.word_at-saying.result.now.to (setup_of (contents c.args.world.now.scenario.now))
    c.args.master c.args.playing.now.entries c.as_slice-2.result.now c.in-Some.bytes c.deref.result.now
    (c.deref.ensures.value ∙ c.in_ok-posts.ensures) c.as_slice.ensures c.as_slice-2.ensures)

pub returns-in_err-post : goal.returns-in_err-post
returns-in_err-post c = λ m is.
    let p = err_from_is_err_and c.from_residual-in_err-post.result c.from_residual-in_err-post.ensures.1 in
    wants (given_in c.args.world.now) c.from_residual-in_err-post.result p.0 _ _ p.1 p.2

pub overflow_add-place : goal.overflow_add-place
overflow_add-place c = omega (arith, c.word_at-saying.ensures.next)

pub index_mut-requires : goal.index_mut-requires
index_mut-requires c = omega (
  arith,
  said_there (given_in c.args.world.now) c.args.playing.now c.args.master c.requires.playing
      c.requires.master,
  c.args.playing.now.said.ok,
)

pub overflow_add-playing : goal.overflow_add-playing
unfolding most_entries
overflow_add-playing c = omega (arith, c.requires.room)

pub returns : goal.returns
returns c = λ m is.
    said_goes (given_in c.args.world.now) m c.args.playing.now _ c.args.master c.args.place
    c.index_mut-kept.result.now c.cry_word.new.kept c.word_at-saying.result.now
    c.in-Some.bytes c.deref.result.now is
    c.requires.world.valid c.requires.world.words c.requires.master c.requires.room c.requires.next
    c.word_at-saying.ensures.word c.index_mut-kept.ensures.value
    (sym c.in-Some.is ∙ c.in_ok-bytes.ensures.spoken)
    (cried_as c.index_mut-kept.result.now c.cry_word.new.kept c.args.playing.now.entries
    c.word_at-saying.result.now.word _ (Some c.in-Some.bytes) c.in_ok-bytes.ensures.cried c.in-Some.is)
    (posts_as c.as_slice.result.now c.word_at-saying.result.now.to (setup_of (contents c.args.world.now.scenario.now))
    c.args.master c.args.playing.now.entries c.as_slice-2.result.now c.in-Some.bytes c.deref.result.now
    (c.deref.ensures.value ∙ c.in_ok-posts.ensures) c.as_slice.ensures c.as_slice-2.ensures)
    refl refl c.in_ok-post.ensures refl refl
