-- Under the rules that stay alive nothing is claimed of the measures; under the first they take the part as any word.
use Rattle.std.proofs.Common.{true≢false, sym, ◌∙◌}
use Rattle.std.proofs.lemmas.Result.{on_ok_weaker}
use Rattle.master_knowledge.proofs.measure_words.take_measure_part.Goals as goal

pub returns-then-are_live-clause-ok : goal.returns-then-are_live-clause-ok
returns-then-are_live-clause-ok c g same first =
    absurd (true≢false (sym c.if-are_live.true ∙ c.are_live.ensures g same ∙ first))

pub returns-clause-ok : goal.returns-clause-ok
returns-clause-ok c =
    on_ok_weaker c.take.result (λ took g same first. took c.args.part.now.sig) c.take.ensures.ok
