use Rattle.joined_histories.proofs.Told.{files_are_told}
use Rattle.joined_histories.proofs.laws.files_are_told.Goals as goal

pub returns : goal.returns
returns c = files_are_told
