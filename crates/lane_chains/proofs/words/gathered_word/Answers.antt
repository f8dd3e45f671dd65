-- The lanes so far have the word at their chain's place in the values; each turn loads the next lane's.
use Rattle.std.proofs.Common.{◌∙◌, ◌+◌, ◌*◌, ℕ, ap, arith, slice_index}
use Rattle.std.proofs.lemmas.List.{length-set}
use Rattle.sha2.specs.Sha256.{word_at}
use Rattle.lane_chains.proofs.BytesAsWords.{lanes_more}
use Rattle.lane_chains.proofs.words.gathered_word.Goals as goal

pub lanes-preserved : goal.lanes-preserved
lanes-preserved c = (
  length-set c.lanes.words c.lanes.j _ ∙ c.lanes.invariant.0,
  lanes_more (λ (m : ℕ). word_at c.args.values.now (32 * slice_index c.args.group.now m + 4 * c.args.k))
      c.lanes.words c.lanes.j _
      c.lanes.invariant.0 (omega arith)
      (c.load_be.ensures ∙ ap (λ (i : ℕ). word_at c.args.values.now (32 * i + 4 * c.args.k)) c.from-i.ensures)
      c.lanes.invariant.1,
)

pub returns : goal.returns
returns c j lt = c.lanes.invariant.1 j (omega arith)
