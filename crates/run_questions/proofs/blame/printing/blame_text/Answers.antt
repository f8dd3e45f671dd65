-- The words taken are those of the history's entries, so the pairs named are the definition's. Frames taken in
-- a legal history stand, hence each pair has a spelling that can be put.
use Rattle.std.proofs.Common.{ap, ◌∙◌}
use Rattle.std.specs.Prelude.{string_bytes}
use Rattle.scenario_file.specs.Reading.{contents}
use Rattle.run_questions.proofs.BlamedAreSpelled.{pairs_spelled}
use Rattle.run_questions.proofs.NamedAreBlamed.{pairs_are, text_put}
use Rattle.run_questions.proofs.blame.printing.blame_text.Goals as goal

pub put_named-requires : goal.put_named-requires
put_named-requires c =
    pairs_spelled (contents c.args.scenario.now) c.args.history.now c.named.result.now c.requires
    (pairs_are (contents c.args.scenario.now) c.args.history.now c.entries.result.now c.args.scenario.now.sizes.n
    c.named.result.now c.args.scenario.now.sizes.all
    c.entries.ensures (c.named.ensures _ _ c.in_ok-blame.ensures))

pub returns : goal.returns
returns c =
    ap (λ v. v.items) c.into_bytes.ensures.value
    ∙ text_put (contents c.args.scenario.now) c.args.history.now c.named.result.now (string_bytes c.new-text.result)
    (string_bytes c.put_named.new.text)
    c.new-text.ensures.bytes c.in_ok-put_named.ensures
    (pairs_are (contents c.args.scenario.now) c.args.history.now c.entries.result.now c.args.scenario.now.sizes.n
    c.named.result.now c.args.scenario.now.sizes.all
    c.entries.ensures (c.named.ensures _ _ c.in_ok-blame.ensures))
