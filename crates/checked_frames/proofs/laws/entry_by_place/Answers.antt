use Rattle.checked_frames.proofs.EntryLaws.{entry_by_place as by_place}
use Rattle.checked_frames.proofs.laws.entry_by_place.Goals as goal

pub returns : goal.returns
returns c = λ key used shared texts place inside. by_place shared key used texts place inside
