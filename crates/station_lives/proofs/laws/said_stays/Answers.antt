use Rattle.station_lives.proofs.Living.{said_stays, said_together, words_are_said}
use Rattle.station_lives.proofs.laws.said_stays.Goals as goal

pub returns : goal.returns
returns c = record { stays = said_stays; together = said_together; words = words_are_said }
