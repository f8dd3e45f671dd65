-- What came is answered, or the input is at its end.
use Rattle.std.proofs.Common.{◌≡◌, Some, false, Option, sym, ◌∙◌, ap, arith}
use Rattle.std.proofs.lemmas.Bool.{false≢true}
use Rattle.std.proofs.lemmas.Result.{err_from_is_err_and}
use Rattle.std.specs.Option.{option_map}
use Rattle.stations.specs.declared.asking.Ask.{Ask}
use Rattle.stations.specs.declared.living.TheConstants.{MOST_LINE as most_line}
use Rattle.stations.specs.Asking.{asked_by}
use Rattle.stations.proofs.Going.{goes_so, overfills_so}
use Rattle.stations.proofs.Turns.{taken_full}
use Rattle.stations.proofs.living.take_next.Goals as goal

pub returns-in_ok-take-in-Some-clause-went : goal.returns-in_ok-take-in-Some-clause-went
returns-in_ok-take-in-Some-clause-went g c =
    goes_so most_line (g.L.Lines.waiting c.args.lines.now) (g.L.Lines.waiting c.next_line.new.self) c.in_ok-came.came
    (Some (asked_by c.in-Some.ask)) c.args.station.now c.take.new.self c.args.batch.now c.take.new.batch false
    c.in_ok-came.ensures.came
    (sym (ap (λ (o : Option Ask). option_map asked_by o) c.in-Some.is) ∙ c.in_ok-ask.ensures.asked)
    c.in_ok-take-in-Some.ensures.answered (λ e. absurd (false≢true e)) (λ e. omega arith)

pub returns-in_err-take-in-Some-clause-full : goal.returns-in_err-take-in-Some-clause-full
returns-in_err-take-in-Some-clause-full g c = λ full.
    overfills_so most_line (g.L.Lines.waiting c.args.lines.now) (g.L.Lines.waiting c.next_line.new.self)
    c.in_ok-came.came (asked_by c.in-Some.ask) c.args.station.now c.in_ok-came.ensures.came
    (sym (ap (λ (o : Option Ask). option_map asked_by o) c.in-Some.is) ∙ c.in_ok-ask.ensures.asked)
    (let p = err_from_is_err_and c.from_residual-in_err-take-in-Some.result
    c.from_residual-in_err-take-in-Some.ensures.1 in
    c.in_err-take-in-Some.ensures.full (taken_full c.from_residual-in_err-take-in-Some.result _ p.0 p.1 p.2 full))
