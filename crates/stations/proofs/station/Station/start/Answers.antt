-- A station that did nothing yet enters its start; another one only tells how far it is.
use Rattle.std.proofs.Common.{◌≡◌, ℕ, Bool, true, false, List, [], length, refl, sym, ◌∙◌, ap, subst}
use Rattle.std.proofs.lemmas.Result.{on_ok_weaker}
use Rattle.printed_history.specs.Reading.{Takes, contents_in}
use Rattle.run_lines.specs.declared.event_line.EventLine.TheVariants as line
use Rattle.station_files.specs.Batch.{Waiting}
use Rattle.station_lives.proofs.Saying.{one_note}
use Rattle.station_rules.specs.Answers.{Start}
use Rattle.station_rules.specs.Coming.{entry_of_line}
use Rattle.station_rules.specs.Notes.{begun_note}
use Rattle.station_rules.proofs.Noting.{begun_is_note}
use Rattle.stations.specs.Marks.{reached_by}
use Rattle.stations.specs.Station.{list_of}
use Rattle.stations.proofs.Entering.{short_list, noted, noted_after, going_on_answer, unmoved_answer, started_answer}
use Rattle.stations.proofs.Entering.{is_ahead, entered_answers, full_after}
use Rattle.stations.proofs.Noted.{some_entry, no_entry}
use Rattle.stations.proofs.station.Station.start.Goals as goal

pub returns-then-has_begun-clause-answered : goal.returns-then-has_begun-clause-answered
returns-then-has_begun-clause-answered c =
    noted c.args.self.now Start c.args.batch.now c.tell_begun.new.batch
    (begun_note (contents_in c.args.self.now.so_far) c.args.self.now.actor (list_of c.args.self.now)) c.requires.ready
    (begun_is_note (contents_in c.args.self.now.so_far) c.args.self.now.actor (list_of c.args.self.now))
    (going_on_answer c.args.self.now
    (some_entry (length (list_of c.args.self.now)) c.has_begun.result c.has_begun.ensures c.if-has_begun.true))
    c.in_ok-tell_begun.ensures

pub take-requires-clause-short : goal.take-requires-clause-short
take-requires-clause-short c = short_list c.args.self.now c.requires.ready

pub returns-then-not-comes-clause-answered : goal.returns-then-not-comes-clause-answered
returns-then-not-comes-clause-answered c =
    let unmoved = unmoved_answer c.args.self.now c.take.new.self
    (no_entry (length (list_of c.args.self.now)) c.has_begun.result c.has_begun.ensures c.if-has_begun.false)
    (subst (λ (b : Bool). Takes (entry_of_line (contents_in c.args.self.now.so_far) c.args.self.now.actor
    (list_of c.args.self.now) line.Restart) b c.args.self.now.so_far c.take.new.self) c.if-not-comes.true
    c.in_ok-comes.ensures) in
    noted_after c.args.self.now _ Start c.args.batch.now c.tell_begun.new.batch
    (begun_note (contents_in c.args.self.now.so_far) c.args.self.now.actor (list_of c.args.self.now)) c.requires.ready
    unmoved.1 refl refl refl
    (begun_is_note (contents_in c.args.self.now.so_far) c.args.self.now.actor (list_of c.args.self.now)) unmoved.0
    c.in_ok-tell_begun.ensures

pub keep_last-requires : goal.keep_last-requires
keep_last-requires c =
    is_ahead c.answered_is_station.ensures.one c.args.self.now _ Start
    (begun_note (contents_in c.args.self.now.so_far) c.args.self.now.actor (list_of c.args.self.now))
    (started_answer c.args.self.now c.take.new.self
    (no_entry (length (list_of c.args.self.now)) c.has_begun.result c.has_begun.ensures c.if-has_begun.false)
    (subst (λ (b : Bool). Takes (entry_of_line (contents_in c.args.self.now.so_far) c.args.self.now.actor
    (list_of c.args.self.now) line.Restart) b c.args.self.now.so_far c.take.new.self) c.if-not-comes.false
    c.in_ok-comes.ensures))
    (reached_by c.how_far-since.result) c.requires.ready refl refl refl c.how_far-since.ensures

pub returns-clause-answered : goal.returns-clause-answered
returns-clause-answered c =
    let begun = begun_note (contents_in c.args.self.now.so_far) c.args.self.now.actor (list_of c.args.self.now) in
    let made = started_answer c.args.self.now c.take.new.self
    (no_entry (length (list_of c.args.self.now)) c.has_begun.result c.has_begun.ensures c.if-has_begun.false)
    (subst (λ (b : Bool). Takes (entry_of_line (contents_in c.args.self.now.so_far) c.args.self.now.actor
    (list_of c.args.self.now) line.Restart) b c.args.self.now.so_far c.take.new.self) c.if-not-comes.false
    c.in_ok-comes.ensures) in
    on_ok_weaker c.keep_last.result
    (λ entered.
    entered_answers c.args.self.now _ c.keep_last.new.self Start begun made c.args.batch.now c.tell_begun.new.batch
    c.keep_last.new.batch (ap (λ (w : Waiting). w.lines) c.in_ok-tell_begun.ensures)
    (ap (λ (w : Waiting). w.out) c.in_ok-tell_begun.ensures)
    (ap (λ (w : Waiting). w.has_words) c.in_ok-tell_begun.ensures)
    (one_note (contents_in c.args.self.now.so_far) [] begun
    (begun_is_note (contents_in c.args.self.now.so_far) c.args.self.now.actor (list_of c.args.self.now))) refl
    (entered (is_ahead c.answered_is_station.ensures.one c.args.self.now _ Start begun made
    (reached_by c.how_far-since.result) c.requires.ready refl refl refl c.how_far-since.ensures)))
    c.keep_last.ensures.entered

pub returns-clause-full : goal.returns-clause-full
returns-clause-full c = λ full.
    full_after c.args.self.now c.take.new.self Start
    (begun_note (contents_in c.args.self.now.so_far) c.args.self.now.actor (list_of c.args.self.now))
    (started_answer c.args.self.now c.take.new.self
    (no_entry (length (list_of c.args.self.now)) c.has_begun.result c.has_begun.ensures c.if-has_begun.false)
    (subst (λ (b : Bool). Takes (entry_of_line (contents_in c.args.self.now.so_far) c.args.self.now.actor
    (list_of c.args.self.now) line.Restart) b c.args.self.now.so_far c.take.new.self) c.if-not-comes.false
    c.in_ok-comes.ensures))
    (c.keep_last.ensures.full full)
