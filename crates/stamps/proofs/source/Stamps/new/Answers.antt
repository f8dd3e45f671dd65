use Rattle.stamps.proofs.Keeping.{begins}
use Rattle.stamps.proofs.source.Stamps.new.Goals as goal

pub of_words-requires : goal.of_words-requires
of_words-requires c = begins c.args.seats c.requires.0
