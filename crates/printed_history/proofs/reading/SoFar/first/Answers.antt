-- Nobody's keeper was called yet, and no frame was said.
use Rattle.std.proofs.Common.{refl}
use Rattle.printed_history.specs.Reading.{known_by}
use Rattle.printed_history.proofs.FirstAtHand.{all_counted, begins}
use Rattle.printed_history.proofs.reading.SoFar.first.Goals as goal

pub returns : goal.returns
returns c =
    begins (known_by c.args.scenario.now c.args.held) _ c.args.only c.actors-actors.result
    c.requires.held refl refl c.requires.ring c.requires.benches
    (all_counted (known_by c.args.scenario.now c.args.held) c.cast.result
    c.actors-actors.result c.cast.ensures c.actors-actors.ensures)
    (c.in_ok-calls.ensures.items_if_clones_equal (λ y h. h)) c.new-posted.ensures c.new-history.ensures
