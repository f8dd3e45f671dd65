-- File by file what is left tells the rest.
use Rattle.std.proofs.Common.{◌∷◌, ◌∙◌, ◌-◌, List, ℕ, ap, length, sym}
use Rattle.scenario_file.specs.Reading.{contents}
use Rattle.joined_histories.proofs.Reading.{is_short, no_file_yet, none_of_cast, one_file_more}
use Rattle.joined_histories.proofs.files.read_files.Goals as goal

pub loop-bytes-init : goal.loop-bytes-init
loop-bytes-init c =
    no_file_yet (contents c.args.scenario.now) c.args.files.now c.in_ok-kept.kept c.requires.short
    (none_of_cast (contents c.args.scenario.now) c.cast.result c.actors.result c.in_ok-kept.kept c.cast.ensures
    c.actors.ensures c.in_ok-kept.ensures)

pub add_file-requires-clause-short : goal.add_file-requires-clause-short
add_file-requires-clause-short c =
    is_short (contents c.args.scenario.now) c.args.files.now c.loop-bytes.rest.now c.in-Some.after.now
    (length c.args.files.now - length c.loop-bytes.rest.now) c.as_slice.result.now c.loop-bytes.kept c.loop-bytes.invariant
    (c.in-Some.ensures.cases.0 ∙ ap (λ (b : List ℕ). b ∷ c.in-Some.after.now) (sym c.as_slice.ensures))

pub add_file-requires-clause-all : goal.add_file-requires-clause-all
add_file-requires-clause-all c = c.loop-bytes.invariant.are.stations.all

pub loop-bytes-preserved : goal.loop-bytes-preserved
loop-bytes-preserved c =
    one_file_more (contents c.args.scenario.now) c.args.files.now c.loop-bytes.rest.now c.in-Some.after.now
    c.as_slice.result.now c.loop-bytes.kept c.add_file.new.kept c.loop-bytes.invariant
    (c.in-Some.ensures.cases.0 ∙ ap (λ (b : List ℕ). b ∷ c.in-Some.after.now) (sym c.as_slice.ensures))
    c.in-Ok.ensures.adds c.in-Ok.ensures.keeps
