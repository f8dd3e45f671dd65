use Rattle.station_lives.proofs.Living.{lives_say_of_the_last, lives_sign_once}
use Rattle.station_lives.proofs.laws.lives_sign_once.Goals as goal

pub returns : goal.returns
returns c = record { said = lives_say_of_the_last; leaves = lives_sign_once }
