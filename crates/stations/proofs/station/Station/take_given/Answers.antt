-- An event makes an entry or a note.
use Rattle.std.proofs.Common.{◌≡◌, Bool, true, false, [], codes, refl, sym, ◌∙◌, subst}
use Rattle.std.proofs.lemmas.Result.{on_ok_weaker}
use Rattle.printed_history.specs.Reading.{Takes, contents_in}
use Rattle.station_rules.specs.Answers.{Given}
use Rattle.station_rules.specs.Coming.{entry_of_line}
use Rattle.stations.specs.Marks.{reached_by}
use Rattle.stations.specs.Station.{list_of}
use Rattle.stations.proofs.Entering.{short_list, noted, noted_after, repeated_answer, repeated_note, refused_answer}
use Rattle.stations.proofs.Entering.{refused_note, made_answer, is_ahead, given_answers, full_after}
use Rattle.stations.proofs.station.Station.take_given.Goals as goal

pub returns-then-is_repeated-clause-answered : goal.returns-then-is_repeated-clause-answered
returns-then-is_repeated-clause-answered c =
    noted c.args.self.now (Given c.args.line) c.args.batch.now c.note.new.self (codes "note repeated\n")
    c.requires.ready repeated_note
    (repeated_answer c.args.self.now c.args.line c.requires.given
    (sym (c.is_repeated.ensures (list_of c.args.self.now) c.requires.ready.taken) ∙ c.if-is_repeated.true))
    c.in_ok-note.ensures.done

pub take-requires-clause-short : goal.take-requires-clause-short
take-requires-clause-short c = short_list c.args.self.now c.requires.ready

pub returns-then-not-comes-clause-answered : goal.returns-then-not-comes-clause-answered
returns-then-not-comes-clause-answered c =
    let refused = refused_answer c.args.self.now c.args.line c.take.new.self c.requires.given
    (sym (c.is_repeated.ensures (list_of c.args.self.now) c.requires.ready.taken) ∙ c.if-is_repeated.false)
    (subst (λ (b : Bool). Takes (entry_of_line (contents_in c.args.self.now.so_far) c.args.self.now.actor
    (list_of c.args.self.now) c.args.line) b c.args.self.now.so_far c.take.new.self) c.if-not-comes.true
    c.in_ok-comes.ensures) in
    noted_after c.args.self.now _ (Given c.args.line) c.args.batch.now c.note-then-not-comes.new.self
    (codes "note refused\n") c.requires.ready refused.1 refl refl refl refused_note refused.0
    c.in_ok-note-2.ensures.done

pub keep_last-requires : goal.keep_last-requires
keep_last-requires c =
    is_ahead c.answered_is_station.ensures.one c.args.self.now _ (Given c.args.line) []
    (made_answer c.args.self.now c.args.line c.take.new.self c.requires.given
    (sym (c.is_repeated.ensures (list_of c.args.self.now) c.requires.ready.taken) ∙ c.if-is_repeated.false)
    (subst (λ (b : Bool). Takes (entry_of_line (contents_in c.args.self.now.so_far) c.args.self.now.actor
    (list_of c.args.self.now) c.args.line) b c.args.self.now.so_far c.take.new.self) c.if-not-comes.false
    c.in_ok-comes.ensures))
    (reached_by c.how_far-since.result) c.requires.ready refl refl refl c.how_far-since.ensures

pub returns-clause-answered : goal.returns-clause-answered
returns-clause-answered c =
    let made = made_answer c.args.self.now c.args.line c.take.new.self c.requires.given
    (sym (c.is_repeated.ensures (list_of c.args.self.now) c.requires.ready.taken) ∙ c.if-is_repeated.false)
    (subst (λ (b : Bool). Takes (entry_of_line (contents_in c.args.self.now.so_far) c.args.self.now.actor
    (list_of c.args.self.now) c.args.line) b c.args.self.now.so_far c.take.new.self) c.if-not-comes.false
    c.in_ok-comes.ensures) in
    on_ok_weaker c.keep_last.result
    (λ entered.
    given_answers c.args.self.now _ c.keep_last.new.self c.args.line made c.args.batch.now c.keep_last.new.batch refl
    (entered (is_ahead c.answered_is_station.ensures.one c.args.self.now _ (Given c.args.line) [] made
    (reached_by c.how_far-since.result) c.requires.ready refl refl refl c.how_far-since.ensures)))
    c.keep_last.ensures.entered

pub returns-clause-full : goal.returns-clause-full
returns-clause-full c = λ full.
    full_after c.args.self.now c.take.new.self (Given c.args.line) []
    (made_answer c.args.self.now c.args.line c.take.new.self c.requires.given
    (sym (c.is_repeated.ensures (list_of c.args.self.now) c.requires.ready.taken) ∙ c.if-is_repeated.false)
    (subst (λ (b : Bool). Takes (entry_of_line (contents_in c.args.self.now.so_far) c.args.self.now.actor
    (list_of c.args.self.now) c.args.line) b c.args.self.now.so_far c.take.new.self) c.if-not-comes.false
    c.in_ok-comes.ensures))
    (c.keep_last.ensures.full full)
