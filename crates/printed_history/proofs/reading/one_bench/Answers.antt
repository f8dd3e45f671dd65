use Rattle.std.proofs.Common.{List, [], ◌∷◌, ◌++◌, ◌∙◌, ap}
use Rattle.world_history.specs.State.{BenchState}
use Rattle.printed_history.proofs.reading.one_bench.Goals as goal

pub returns : goal.returns
returns c =
    c.in_ok-push.ensures.items
    ∙ ap (λ (benches : List BenchState). benches ++ c.args.bench ∷ []) c.new-benches.ensures.items
