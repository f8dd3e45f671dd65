-- Turn by turn the station goes on; where it stops it was a life, and at the end of its input it has answered all.
use Rattle.std.proofs.Common.{[], ◌∷◌, ◌++◌, refl, sym, ◌∙◌, subst, arith}
use Rattle.std.proofs.lemmas.Result.{err_from_is_err_and}
use Rattle.std.specs.Option.{option_to_list}
use Rattle.station_files.specs.Batch.{Waiting, none_waits}
use Rattle.station_rules.specs.Answers.{Start}
use Rattle.stations.specs.declared.living.TheConstants.{MOST_LINE as most_line}
use Rattle.stations.specs.Going.{origin, IsGoing}
use Rattle.stations.proofs.Going.{next_going, asked_more, asked_begins, none_asked, all_asked, count_more, full_first}
use Rattle.stations.proofs.Going.{full_next, full_count}
use Rattle.stations.proofs.Turns.{took, halted_full}
use Rattle.stations.proofs.Released.{is_life, all_done}
use Rattle.stations.proofs.living.live.Goals as goal

pub returns-in_err-start_life-clause-lived : goal.returns-in_err-start_life-clause-lived
returns-in_err-start_life-clause-lived g c = c.start_life.ensures.lived most_line (g.L.Lines.waiting c.args.lines.now)

pub loop-turn-init : goal.loop-turn-init
loop-turn-init g c = record {
  asked = [];
  going = c.in_ok-start_life.ensures.going;
  many = omega arith;
  next = none_asked most_line (g.L.Lines.waiting c.args.lines.now);
  inputs = refl;
  keeps = c.in_ok-start_life.ensures.counted.0;
  outputs = c.in_ok-start_life.ensures.counted.1;
}

pub returns-in_err-is_ended-clause-lived : goal.returns-in_err-is_ended-clause-lived
returns-in_err-is_ended-clause-lived g c =
    let at = c.loop-turn.invariant in
    record {
      asked = Start ∷ at.asked;
      came =
          asked_begins most_line (g.L.Lines.waiting c.args.lines.now) (g.L.Lines.waiting c.loop-turn.lines) at.asked
          at.next;
      lived =
          is_life (origin c.args.station.now (g.F.KeptFile.held c.args.file.now) (g.S.Sink.told c.args.sink.now))
          (Start ∷ at.asked) c.loop-turn.station c.loop-turn.batch (g.F.KeptFile.held c.loop-turn.file)
          (g.S.Sink.told c.loop-turn.sink) at.going;
    }

pub returns-in_err-release_if-clause-lived : goal.returns-in_err-release_if-clause-lived
returns-in_err-release_if-clause-lived g c =
    let at = c.loop-turn.invariant in
    let went = c.in_ok-is_ended.ensures.went in
    record {
      asked = Start ∷ (at.asked ++ option_to_list went.asked);
      came =
          asked_begins most_line (g.L.Lines.waiting c.args.lines.now) (g.L.Lines.waiting c.take_next.new.lines)
          (at.asked ++ option_to_list went.asked)
          (asked_more most_line (g.L.Lines.waiting c.args.lines.now) (g.L.Lines.waiting c.loop-turn.lines)
          (g.L.Lines.waiting c.take_next.new.lines) at.asked (option_to_list went.asked) at.next went.next);
      lived =
          c.in_err-release_if.ensures.lived
          (origin c.args.station.now (g.F.KeptFile.held c.args.file.now) (g.S.Sink.told c.args.sink.now))
          (Start ∷ (at.asked ++ option_to_list went.asked)) c.take_next.new.station
          (took (origin c.args.station.now (g.F.KeptFile.held c.args.file.now) (g.S.Sink.told c.args.sink.now))
          (Start ∷ at.asked) most_line c.loop-turn.station c.take_next.new.station c.loop-turn.batch
          c.take_next.new.batch (g.F.KeptFile.held c.loop-turn.file) (g.S.Sink.told c.loop-turn.sink)
          (g.L.Lines.waiting c.loop-turn.lines) (g.L.Lines.waiting c.take_next.new.lines) c.in_ok-is_ended.is_ended
          at.going went);
    }

pub returns-then-is_ended-clause-lived : goal.returns-then-is_ended-clause-lived
returns-then-is_ended-clause-lived g c =
    let at = c.loop-turn.invariant in
    let went = c.in_ok-is_ended.ensures.went in
    record {
      asked = Start ∷ (at.asked ++ option_to_list went.asked);
      came =
          asked_begins most_line (g.L.Lines.waiting c.args.lines.now) (g.L.Lines.waiting c.take_next.new.lines)
          (at.asked ++ option_to_list went.asked)
          (asked_more most_line (g.L.Lines.waiting c.args.lines.now) (g.L.Lines.waiting c.loop-turn.lines)
          (g.L.Lines.waiting c.take_next.new.lines) at.asked (option_to_list went.asked) at.next went.next);
      lived =
          is_life (origin c.args.station.now (g.F.KeptFile.held c.args.file.now) (g.S.Sink.told c.args.sink.now))
          (Start ∷ (at.asked ++ option_to_list went.asked)) c.take_next.new.station c.release_if.new.batch
          (g.F.KeptFile.held c.release_if.new.file) (g.S.Sink.told c.release_if.new.sink)
          (c.in_ok-release_if.ensures.going
          (origin c.args.station.now (g.F.KeptFile.held c.args.file.now) (g.S.Sink.told c.args.sink.now))
          (Start ∷ (at.asked ++ option_to_list went.asked)) c.take_next.new.station
          (took (origin c.args.station.now (g.F.KeptFile.held c.args.file.now) (g.S.Sink.told c.args.sink.now))
          (Start ∷ at.asked) most_line c.loop-turn.station c.take_next.new.station c.loop-turn.batch
          c.take_next.new.batch (g.F.KeptFile.held c.loop-turn.file) (g.S.Sink.told c.loop-turn.sink)
          (g.L.Lines.waiting c.loop-turn.lines) (g.L.Lines.waiting c.take_next.new.lines) c.in_ok-is_ended.is_ended
          at.going went));
    }

pub returns-then-is_ended-clause-answered : goal.returns-then-is_ended-clause-answered
returns-then-is_ended-clause-answered g c =
    let at = c.loop-turn.invariant in
    let went = c.in_ok-is_ended.ensures.went in
    let done = all_done (origin c.args.station.now (g.F.KeptFile.held c.args.file.now) (g.S.Sink.told c.args.sink.now))
    (Start ∷ (at.asked ++ option_to_list went.asked)) c.take_next.new.station c.release_if.new.batch
    (g.F.KeptFile.held c.release_if.new.file) (g.S.Sink.told c.release_if.new.sink)
    (c.in_ok-release_if.ensures.going
    (origin c.args.station.now (g.F.KeptFile.held c.args.file.now) (g.S.Sink.told c.args.sink.now))
    (Start ∷ (at.asked ++ option_to_list went.asked)) c.take_next.new.station
    (took (origin c.args.station.now (g.F.KeptFile.held c.args.file.now) (g.S.Sink.told c.args.sink.now))
    (Start ∷ at.asked) most_line c.loop-turn.station c.take_next.new.station c.loop-turn.batch
    c.take_next.new.batch (g.F.KeptFile.held c.loop-turn.file) (g.S.Sink.told c.loop-turn.sink)
    (g.L.Lines.waiting c.loop-turn.lines) (g.L.Lines.waiting c.take_next.new.lines) c.in_ok-is_ended.is_ended
    at.going went))
    (c.in_ok-release_if.ensures.emptied (c.is_due.ensures c.if-is_ended.true)) in
    record {
      asked = Start ∷ (at.asked ++ option_to_list went.asked);
      all =
          all_asked most_line (g.L.Lines.waiting c.args.lines.now) (g.L.Lines.waiting c.loop-turn.lines)
          (g.L.Lines.waiting c.take_next.new.lines) at.asked (option_to_list went.asked) at.next went.next
          (went.ended c.if-is_ended.true);
      kept = done.0;
      output = done.1;
    }

pub returns-in_err-start_life-clause-full : goal.returns-in_err-start_life-clause-full
returns-in_err-start_life-clause-full g c = λ full.
    full_first most_line (g.L.Lines.waiting c.args.lines.now) c.args.station.now (g.F.KeptFile.held c.args.file.now)
    (g.S.Sink.told c.args.sink.now) c.requires.ready c.requires.held
    (let p = err_from_is_err_and c.from_residual.result c.from_residual.ensures.1 in
    c.in_err-start_life.ensures.full (halted_full c.from_residual.result _ p.0 p.1 p.2 full))

pub returns-in_err-is_ended-clause-full : goal.returns-in_err-is_ended-clause-full
returns-in_err-is_ended-clause-full g c = λ full.
    let at = c.loop-turn.invariant in
    full_next most_line (origin c.args.station.now (g.F.KeptFile.held c.args.file.now) (g.S.Sink.told c.args.sink.now))
    (g.L.Lines.waiting c.args.lines.now) (g.L.Lines.waiting c.loop-turn.lines) (g.L.Lines.waiting c.take_next.new.lines)
    at.asked c.loop-turn.station c.loop-turn.batch (g.F.KeptFile.held c.loop-turn.file)
    (g.S.Sink.told c.loop-turn.sink) at.going at.next
    (let p = err_from_is_err_and c.from_residual-in_err-is_ended.result c.from_residual-in_err-is_ended.ensures.1 in
    c.in_err-is_ended.ensures.full (halted_full c.from_residual-in_err-is_ended.result _ p.0 p.1 p.2 full))

pub returns-clause-full : goal.returns-clause-full
returns-clause-full g c = λ full.
    let at = c.loop-turn.invariant in
    full_count most_line (origin c.args.station.now (g.F.KeptFile.held c.args.file.now) (g.S.Sink.told c.args.sink.now))
    (g.L.Lines.waiting c.args.lines.now) (g.L.Lines.waiting c.loop-turn.lines) at.asked at.next
    (omega (arith, at.many, c.loop-turn-test.false))

pub loop-turn-preserved : goal.loop-turn-preserved
loop-turn-preserved g c =
    let at = c.loop-turn.invariant in
    let went = c.in_ok-is_ended.ensures.went in
    record {
      asked = at.asked ++ option_to_list went.asked;
      going =
          c.in_ok-release_if.ensures.going
          (origin c.args.station.now (g.F.KeptFile.held c.args.file.now) (g.S.Sink.told c.args.sink.now))
          (Start ∷ (at.asked ++ option_to_list went.asked)) c.take_next.new.station
          (took (origin c.args.station.now (g.F.KeptFile.held c.args.file.now) (g.S.Sink.told c.args.sink.now))
          (Start ∷ at.asked) most_line c.loop-turn.station c.take_next.new.station c.loop-turn.batch
          c.take_next.new.batch (g.F.KeptFile.held c.loop-turn.file) (g.S.Sink.told c.loop-turn.sink)
          (g.L.Lines.waiting c.loop-turn.lines) (g.L.Lines.waiting c.take_next.new.lines) c.in_ok-is_ended.is_ended
          at.going went);
      many = count_more c.loop-turn._turn at.asked went.asked at.many (went.one c.if-is_ended.false);
      next =
          asked_more most_line (g.L.Lines.waiting c.args.lines.now) (g.L.Lines.waiting c.loop-turn.lines)
          (g.L.Lines.waiting c.take_next.new.lines) at.asked (option_to_list went.asked) at.next went.next;
      inputs = c.in_ok-is_ended.ensures.counted ∙ at.inputs;
      keeps = c.in_ok-release_if.ensures.counted.0 ∙ at.keeps;
      outputs = c.in_ok-release_if.ensures.counted.1 ∙ at.outputs;
    }

pub returns-clause-lived : goal.returns-clause-lived
returns-clause-lived g c =
    let at = c.loop-turn.invariant in
    record {
      asked = Start ∷ at.asked;
      came =
          asked_begins most_line (g.L.Lines.waiting c.args.lines.now) (g.L.Lines.waiting c.loop-turn.lines) at.asked
          at.next;
      lived =
          is_life (origin c.args.station.now (g.F.KeptFile.held c.args.file.now) (g.S.Sink.told c.args.sink.now))
          (Start ∷ at.asked) c.loop-turn.station c.loop-turn.batch (g.F.KeptFile.held c.loop-turn.file)
          (g.S.Sink.told c.loop-turn.sink) at.going;
    }
