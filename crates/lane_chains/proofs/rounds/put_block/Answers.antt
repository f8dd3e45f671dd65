-- Each turn copies one word in all lanes, and those copied before stay. So the first 16 places of each lane are
-- its block's words.
use Rattle.std.proofs.Common.{◌∙◌, arith}
use Rattle.std.proofs.lemmas.List.{length-set}
use Rattle.lane_chains.proofs.RoundsOneByOne.{word_copied}
use Rattle.lane_chains.proofs.rounds.put_block.Goals as goal

pub words-init : goal.words-init
words-init c = (c.told-room, λ j i lt. absurd (omega arith))

pub words-preserved : goal.words-preserved
words-preserved c = (
  length-set c.words.room c.words.k _ ∙ c.words.invariant.0,
  word_copied c.words.room c.args.block c.words.k (omega (arith, c.words.invariant.0)) c.words.invariant.1,
)

pub returns : goal.returns
returns c = λ j k lt. c.words.invariant.1 j k (omega arith)
