-- The bench has a frame for each word of the entry, and each stands.
use Rattle.std.proofs.Common.{ap}
use Rattle.std.proofs.lemmas.Result.{on_ok_weaker}
use Rattle.stations.specs.Station.{list_of}
use Rattle.stations.proofs.Shown.{list_shown, place_in, some_shown, shown_stand, shown_tells}
use Rattle.stations.proofs.station.Station.say_at.Goals as goal

pub carries_at-requires : goal.carries_at-requires
carries_at-requires c =
    place_in c.list.result.now (list_of c.args.self.now) c.args.place
    (list_shown c.args.self.now c.bench-bench.result.now c.list.result.now c.requires.ready c.bench-bench.ensures
    c.list.ensures)
    c.requires.there

pub say_frames-requires-clause-stand : goal.say_frames-requires-clause-stand
say_frames-requires-clause-stand c =
    shown_stand c.args.self.now c.bench-bench.result.now c.args.place c.frames_at.result c.in-Some.frames
    c.list.result.now c.requires.ready c.bench-bench.ensures c.list.ensures c.carries_at.ensures
    (c.frames_at.ensures (ap (λ b. b.is_spent) c.bench-bench.ensures)) c.in-Some.is c.requires.there

pub unreachable-requires : goal.unreachable-requires
unreachable-requires c =
    some_shown c.args.self.now c.bench-bench.result.now c.args.place c.frames_at.result c.requires.ready
    c.bench-bench.ensures (c.frames_at.ensures (ap (λ b. b.is_spent) c.bench-bench.ensures)) c.requires.there c.in-None.is

pub returns : goal.returns
returns c =
    on_ok_weaker c.say_frames.result
    (λ tells before after e whole here.
    shown_tells c.args.self.now c.bench-bench.result.now c.args.place c.frames_at.result c.in-Some.frames before after e
    c.args.batch.now c.say_frames.new.batch c.requires.ready c.bench-bench.ensures
    (c.frames_at.ensures (ap (λ b. b.is_spent) c.bench-bench.ensures)) c.in-Some.is whole here tells)
    c.say_frames.ensures
