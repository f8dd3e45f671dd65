-- With the scenario known the course of a merge asks for the next file of its words, and where none is left its last step gives
-- the text of one of the histories that there may be, or the refusal. A file that can't be loaded ends it.
use Rattle.std.proofs.Common.{◌≡◌, ◌++◌, ◌∷◌, [], length, map, subst, arith}
use Rattle.scenario_file.specs.Reading.{contents}
use Rattle.command_ends.specs.Calls.{TextCause}
use Rattle.command_ends.proofs.Courses.{after-load, load-failed}
use Rattle.run_commands.specs.Readers.{MergeGives}
use Rattle.run_commands.specs.Course.{MergeCourse}
use Rattle.run_commands.specs.Told.{told_merges}
use Rattle.run_commands.proofs.Merging.{merge-due, merge-last, merge-now, name-there, none-there}
use Rattle.run_commands.proofs.merged.+merge_from.Goals as goal

pub returns-in_default-clause-cause : goal.returns-in_default-clause-cause
returns-in_default-clause-cause g t c = λ name first one.
    let r = g.R.Runs.readers in
    let is = contents c.args.scenario.now in
    let names = map (λ keep. keep.now) c.args.keeps.now in
    let faults = g.F.Files.faults c.args.files.now in
    let at : c.len.result ≡ length c.args.loaded.items = omega (arith, c.len.ensures, c.args.loaded.ok) in
    merge-now (MergeCourse (told_merges r) name names) (g.F.Files.held c.args.files.now) faults faults
    (first ∷ c.args.loaded.items) r is names c.args.loaded.items
    (λ step ends. merge-last (told_merges r) name names first c.args.loaded.items step is one
    (none-there (λ keep. keep.now) c.args.keeps.now c.len.result (length c.args.loaded.items) at
    c.in_default.ensures.lookup.3) ends)
    c.merge_text.result
    (subst (λ kept. MergeGives r is names kept c.merge_text.result) c.as_slice.ensures.value c.merge_text.ensures)

pub returns-in-Ok-add_content-clause-cause : goal.returns-in-Ok-add_content-clause-cause
returns-in-Ok-add_content-clause-cause g t c = λ name first one.
    let r = g.R.Runs.readers in
    let names = map (λ keep. keep.now) c.args.keeps.now in
    let next = MergeCourse (told_merges r) name names in
    let held = g.F.Files.held c.args.files.now in
    let later = g.F.Files.held c.load_kept.new.files in
    let before = g.F.Files.faults c.args.files.now in
    let between = g.F.Files.faults c.load_kept.new.files in
    let after = g.F.Files.faults c.merge_from.new.files in
    let at : c.len.result ≡ length c.args.loaded.items = omega (arith, c.len.ensures, c.args.loaded.ok) in
    let more : c.add_content.new.loaded.items ≡ c.args.loaded.items ++ c.in-Ok.content.items ∷ [] =
    c.in-Ok-add_content.ensures in
    after-load next held later before between after (first ∷ c.args.loaded.items) c.in-Some.keep.now.now
    c.in-Ok.content.items c.merge_from.result
    (merge-due (told_merges r) name names first c.args.loaded.items c.in-Some.keep.now.now
    (contents c.args.scenario.now) one
    (name-there (λ keep. keep.now) c.args.keeps.now c.len.result (length c.args.loaded.items) c.in-Some.keep.now at
    c.in-Some.ensures.lookup.0 c.in-Some.ensures.lookup.1))
    c.in-Ok.ensures.cause.0 c.in-Ok.ensures.cause.1 c.in-Ok.ensures.kept c.in-Ok.ensures.file_faults
    (subst (λ kept. TextCause next later between after (first ∷ kept) c.merge_from.result) more
    (c.merge_from.ensures.cause name first one))

pub returns-in-Err-clause-cause : goal.returns-in-Err-clause-cause
returns-in-Err-clause-cause g t c = λ name first one.
    let r = g.R.Runs.readers in
    let names = map (λ keep. keep.now) c.args.keeps.now in
    let at : c.len.result ≡ length c.args.loaded.items = omega (arith, c.len.ensures, c.args.loaded.ok) in
    load-failed (MergeCourse (told_merges r) name names) (g.F.Files.held c.args.files.now)
    (g.F.Files.faults c.args.files.now) (g.F.Files.faults c.load_kept.new.files) (first ∷ c.args.loaded.items)
    c.in-Some.keep.now.now c.in-Err.refusal
    (merge-due (told_merges r) name names first c.args.loaded.items c.in-Some.keep.now.now
    (contents c.args.scenario.now) one
    (name-there (λ keep. keep.now) c.args.keeps.now c.len.result (length c.args.loaded.items) c.in-Some.keep.now at
    c.in-Some.ensures.lookup.0 c.in-Some.ensures.lookup.1))
    c.in-Err.ensures.cause
