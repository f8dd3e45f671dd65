use Rattle.world_entries.specs.Entries.{event_of}
use Rattle.world_history.proofs.BenchShows.{fits_told}
use Rattle.world_history.proofs.bench.Bench.fits.Goals as goal

pub returns : goal.returns
returns c = fits_told c.self.inside.seat c.self.inside.is_spent c.args.self.now (event_of c.args.event.now)
    c.fits_actor.result c.self.view_is c.fits_actor.ensures
