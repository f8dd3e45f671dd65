use Rattle.std.proofs.Common.{◌≡◌, true, subst}
use Rattle.play_words.specs.declared.input.Input.{Input}
use Rattle.station_turns.specs.Pace.{fits_input}
use Rattle.station_turns.proofs.InputGiven.{speaker_intruded}
use Rattle.station_turns.proofs.giving.event_given.Goals as goal

pub say-requires-clause-intruded : goal.say-requires-clause-intruded
say-requires-clause-intruded c =
    speaker_intruded c.args.kept.now.bench c.in-Say.to c.in-Say.word
    (subst (λ (x : Input). fits_input c.args.kept.now.bench.world c.args.kept.now.bench.actor x ≡ true)
    c.in-Say.is c.requires.fits)
