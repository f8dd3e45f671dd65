-- Before the stamp there is nothing, and then entry by entry its words.
use Rattle.std.proofs.Common.{◌≡◌, ℕ, ◌+◌, ◌<◌, ◌≤◌, [], List, length, take, min, sym, subst, arith}
use Rattle.printed_history.specs.Reading.{contents_in}
use Rattle.station_lives.specs.Saying.{words_since}
use Rattle.stations.specs.Station.{list_of}
use Rattle.stations.proofs.Since.{since_start, since_step}
use Rattle.stations.proofs.station.Station.say_since.Goals as goal

pub loop-place-init : goal.loop-place-init
loop-place-init c =
    since_start (contents_in c.args.self.now.so_far) (list_of c.args.self.now) c.args.stamp c.min-place.result
    c.args.batch.now c.requires.station.legal (omega (arith, c.min-place.ensures))
    (omega (arith, c.min-place.ensures, c.len-count.ensures))

pub loop-place-preserved : goal.loop-place-preserved
loop-place-preserved c =
    since_step (contents_in c.args.self.now.so_far) (list_of c.args.self.now) c.args.stamp c.loop-place.place
    c.args.batch.now c.loop-place.batch c.say_at.new.batch c.requires.station.legal
    (let first = c.loop-place.auto.place in omega (arith, first, c.min-place.ensures, c.loop-place-test.true, c.len-count.ensures))
    (omega (arith, c.loop-place-test.true, c.len-count.ensures)) c.loop-place.invariant c.in_ok-say_at.ensures
