-- What was read of the file's whole lines is the list of which just these are kept. Before the file it is known whether the
-- key is the actor's.
use Rattle.std.proofs.Common.{List, Ok, Err, IfSome, refl, sym, ◌∙◌, ap, subst, arith}
use Rattle.history_rules.specs.Events.{Entry}
use Rattle.kept_lines.specs.Reading.{Refuses, kept_in}
use Rattle.scenario_file.specs.Reading.{Contents}
use Rattle.printed_history.specs.declared.reading.SoFar.{SoFar}
use Rattle.printed_history.specs.Reading.{contents_in, known_by}
use Rattle.stations.specs.declared.beginning.BeginRefusal.{BeginRefusal}
use Rattle.stations.specs.Beginning.{BeginsWith, HoldsAll, TellsKey, TellsWant}
use Rattle.outside.specs.declared.files.LoadAnswer.TheVariants as load
use Rattle.stations.specs.declared.beginning.BeginRefusal.TheVariants as refusal
use Rattle.printed_history.proofs.AtHand.{begun_own}
use Rattle.stations.proofs.Begun.{begun_so, begun_key, other_key, read_into, want_so, other_so, lines_same}
use Rattle.stations.proofs.Begun.{begun_kept, begun_ready, begun_whole, begun_read, loaded_so, loaded_wants, loaded_failed}
use Rattle.stations.proofs.Begun.{loaded_key, loaded_no_other, refused_whole, refused_wants, read_failed, read_key}
use Rattle.stations.proofs.Begun.{read_no_other, same_refusal, unloaded_lines, loaded_lines}
use Rattle.stations.proofs.Reading.{held_all}
use Rattle.stations.proofs.beginning.begin.Goals as goal

-- ---- Before the file.

pub returns-in-Err-clause-read : goal.returns-in-Err-clause-read
returns-in-Err-clause-read g c = want_so (known_by c.args.scenario.now c.args.held) c.args.actor (g.F.KeptFile.held
    c.args.file.now)

pub returns-in-Err-clause-lines : goal.returns-in-Err-clause-lines
returns-in-Err-clause-lines g c = lines_same (g.F.KeptFile.held c.args.file.now)

pub returns-in_default-clause-key : goal.returns-in_default-clause-key
returns-in_default-clause-key g c =
    other_key (known_by c.args.scenario.now c.args.held) c.args.actor c.in-Ok.found c.in_default.is c.in-Ok.ensures.own

pub returns-in_default-clause-untouched : goal.returns-in_default-clause-untouched
returns-in_default-clause-untouched g c = λ other. (refl, refl)

pub returns-in_default-clause-read : goal.returns-in_default-clause-read
returns-in_default-clause-read g c = other_so (known_by c.args.scenario.now c.args.held) c.args.actor
    (g.F.KeptFile.held c.args.file.now)

pub returns-in_default-clause-lines : goal.returns-in_default-clause-lines
returns-in_default-clause-lines g c = lines_same (g.F.KeptFile.held c.args.file.now)

-- ---- What the file has is read into what was begun.

pub reopen-requires-clause-at_hand : goal.reopen-requires-clause-at_hand
reopen-requires-clause-at_hand g c =
    (begun_so (known_by c.args.scenario.now c.args.held) c.args.actor c.in-Ok.found c.in-Some.begun c.in-Some.is
    c.in-Ok.ensures.begun).is_so_far

pub reopen-requires-clause-none : goal.reopen-requires-clause-none
reopen-requires-clause-none g c =
    (begun_so (known_by c.args.scenario.now c.args.held) c.args.actor c.in-Ok.found c.in-Some.begun c.in-Some.is
    c.in-Ok.ensures.begun).none

pub reopen-requires-clause-own : goal.reopen-requires-clause-own
reopen-requires-clause-own g c =
    begun_own (known_by c.args.scenario.now c.args.held) c.args.actor c.in-Some.begun
    (begun_so (known_by c.args.scenario.now c.args.held) c.args.actor c.in-Ok.found c.in-Some.begun c.in-Some.is
    c.in-Ok.ensures.begun)

pub returns-in-Ok-of-clause-ready : goal.returns-in-Ok-of-clause-ready
returns-in-Ok-of-clause-ready g c =
    let read = read_into (known_by c.args.scenario.now c.args.held) c.args.actor c.as_slice.result.now
    c.in-Some.begun c.in-Ok-reopen.so_far (begun_so (known_by c.args.scenario.now c.args.held) c.args.actor
    c.in-Ok.found c.in-Some.begun c.in-Some.is c.in-Ok.ensures.begun)
    c.in-Ok-reopen.ensures.list c.in-Ok-reopen.ensures.at_hand c.in-Ok-reopen.ensures.station in
    let key = begun_key (known_by c.args.scenario.now c.args.held) c.args.actor c.in-Ok.found c.in-Some.begun
    c.in-Some.is c.in-Ok.ensures.own in
    let kept = begun_kept (known_by c.args.scenario.now c.args.held) c.args.actor c.in-Ok-reopen.so_far
    c.in-Ok-recover.text.items
    c.as_slice.result.now c.in-Ok-recover.ensures.lines c.as_slice.ensures.value read.list in
    begun_ready (known_by c.args.scenario.now c.args.held) c.args.actor c.in-Ok-reopen.so_far
    c.in-Ok-recover.text.items c.in-Ok-of.station
    kept (omega (arith, c.in-Ok-recover.ensures.within_room, c.in-Ok-recover.text.ok)) read.is_so_far read.same read.own
    key read.station c.requires.there c.requires.correct c.in-Ok-of.ensures.made.0 c.in-Ok-of.ensures.made.1
    (c.in-Ok-of.ensures.made.2 ∙ omega (arith, c.len.ensures, c.in-Ok-recover.text.ok)) c.in-Ok-of.ensures.taken

pub returns-in-Ok-of-clause-same : goal.returns-in-Ok-of-clause-same
returns-in-Ok-of-clause-same g c =
    let read = read_into (known_by c.args.scenario.now c.args.held) c.args.actor c.as_slice.result.now
    c.in-Some.begun c.in-Ok-reopen.so_far (begun_so (known_by c.args.scenario.now c.args.held) c.args.actor
    c.in-Ok.found c.in-Some.begun c.in-Some.is c.in-Ok.ensures.begun)
    c.in-Ok-reopen.ensures.list c.in-Ok-reopen.ensures.at_hand c.in-Ok-reopen.ensures.station in
    (ap contents_in c.in-Ok-of.ensures.made.0 ∙ read.same, c.in-Ok-of.ensures.made.1)

pub returns-in-Ok-of-clause-key : goal.returns-in-Ok-of-clause-key
returns-in-Ok-of-clause-key g c =
    begun_key (known_by c.args.scenario.now c.args.held) c.args.actor c.in-Ok.found c.in-Some.begun c.in-Some.is
    c.in-Ok.ensures.own

pub returns-in-Ok-of-clause-read : goal.returns-in-Ok-of-clause-read
returns-in-Ok-of-clause-read g c =
    let read = read_into (known_by c.args.scenario.now c.args.held) c.args.actor c.as_slice.result.now
    c.in-Some.begun c.in-Ok-reopen.so_far (begun_so (known_by c.args.scenario.now c.args.held) c.args.actor
    c.in-Ok.found c.in-Some.begun c.in-Some.is c.in-Ok.ensures.begun)
    c.in-Ok-reopen.ensures.list c.in-Ok-reopen.ensures.at_hand c.in-Ok-reopen.ensures.station in
    begun_read (known_by c.args.scenario.now c.args.held) c.args.actor 4294967295 (g.F.KeptFile.held c.args.file.now)
    (g.F.KeptFile.held c.recover.new.self) c.in-Ok-recover.text c.as_slice.result.now c.in-Ok-of.station.so_far.history
    c.in-Ok-recover.ensures.given c.as_slice.ensures.value
    (read.list ∙ ap (λ (x : SoFar). Ok x.history) (sym c.in-Ok-of.ensures.made.0))

pub returns-in-Ok-of-clause-held : goal.returns-in-Ok-of-clause-held
returns-in-Ok-of-clause-held g c =
    let read = read_into (known_by c.args.scenario.now c.args.held) c.args.actor c.as_slice.result.now
    c.in-Some.begun c.in-Ok-reopen.so_far (begun_so (known_by c.args.scenario.now c.args.held) c.args.actor
    c.in-Ok.found c.in-Some.begun c.in-Some.is c.in-Ok.ensures.begun)
    c.in-Ok-reopen.ensures.list c.in-Ok-reopen.ensures.at_hand c.in-Ok-reopen.ensures.station in
    subst (λ (es : List Entry). HoldsAll (known_by c.args.scenario.now c.args.held) es (g.F.KeptFile.held
    c.args.file.now)
    (g.F.KeptFile.held c.recover.new.self))
    (sym (ap (λ (x : SoFar). x.history) c.in-Ok-of.ensures.made.0))
    (held_all (known_by c.args.scenario.now c.args.held) c.in-Ok-reopen.so_far.history 4294967295 (g.F.KeptFile.held
    c.args.file.now)
    (g.F.KeptFile.held c.recover.new.self) c.in-Ok-recover.text c.in-Ok-recover.ensures.given
    (begun_kept (known_by c.args.scenario.now c.args.held) c.args.actor c.in-Ok-reopen.so_far c.in-Ok-recover.text.items
    c.as_slice.result.now c.in-Ok-recover.ensures.lines c.as_slice.ensures.value read.list))

pub returns-in-Ok-of-clause-whole : goal.returns-in-Ok-of-clause-whole
returns-in-Ok-of-clause-whole g c =
    let read = read_into (known_by c.args.scenario.now c.args.held) c.args.actor c.as_slice.result.now
    c.in-Some.begun c.in-Ok-reopen.so_far (begun_so (known_by c.args.scenario.now c.args.held) c.args.actor
    c.in-Ok.found c.in-Some.begun c.in-Some.is c.in-Ok.ensures.begun)
    c.in-Ok-reopen.ensures.list c.in-Ok-reopen.ensures.at_hand c.in-Ok-reopen.ensures.station in
    begun_whole (known_by c.args.scenario.now c.args.held) c.in-Ok-reopen.so_far c.in-Ok-of.station
    (g.F.KeptFile.held c.args.file.now) (g.F.KeptFile.held c.recover.new.self)
    (held_all (known_by c.args.scenario.now c.args.held) c.in-Ok-reopen.so_far.history 4294967295
    (g.F.KeptFile.held c.args.file.now) (g.F.KeptFile.held c.recover.new.self) c.in-Ok-recover.text
    c.in-Ok-recover.ensures.given
    (begun_kept (known_by c.args.scenario.now c.args.held) c.args.actor c.in-Ok-reopen.so_far c.in-Ok-recover.text.items
    c.as_slice.result.now c.in-Ok-recover.ensures.lines c.as_slice.ensures.value read.list))
    read.same c.in-Ok-of.ensures.made.0

-- ---- Where the file isn't loaded.

pub returns-in-Err-recover-clause-key : goal.returns-in-Err-recover-clause-key
returns-in-Err-recover-clause-key g c =
    subst (λ (e : BeginRefusal). TellsKey (known_by c.args.scenario.now c.args.held) c.args.actor (Err e)) (sym
    c.not_loaded.ensures)
    (loaded_key (known_by c.args.scenario.now c.args.held) c.args.actor c.in-Err-recover.refusal
    (begun_key (known_by c.args.scenario.now c.args.held) c.args.actor c.in-Ok.found c.in-Some.begun c.in-Some.is
    c.in-Ok.ensures.own))

pub returns-in-Err-recover-clause-untouched : goal.returns-in-Err-recover-clause-untouched
returns-in-Err-recover-clause-untouched g c = λ other.
    absurd (loaded_no_other c.in-Err-recover.refusal
    (sym c.not_loaded.ensures
    ∙ same_refusal c.not_loaded.result refusal.OtherKey (Err c.not_loaded.result) refl other))

pub returns-in-Err-recover-clause-read : goal.returns-in-Err-recover-clause-read
returns-in-Err-recover-clause-read g c =
    subst (λ (e : BeginRefusal). IfSome (g.F.KeptFile.held c.args.file.now)
    (λ h. BeginsWith (known_by c.args.scenario.now c.args.held) c.args.actor h.bytes (Err e))) (sym
    c.not_loaded.ensures)
    (loaded_so (known_by c.args.scenario.now c.args.held) c.args.actor (g.F.KeptFile.held c.args.file.now)
    (g.F.KeptFile.held c.recover.new.self) c.in-Err-recover.refusal c.in-Err-recover.ensures.given)

pub returns-in-Err-recover-clause-wants : goal.returns-in-Err-recover-clause-wants
returns-in-Err-recover-clause-wants g c =
    subst TellsWant (sym c.not_loaded.ensures) (loaded_wants c.in-Err-recover.refusal)

pub returns-in-Err-recover-clause-failed : goal.returns-in-Err-recover-clause-failed
returns-in-Err-recover-clause-failed g c = λ failed.
    c.recover.ensures.failed
    (c.in-Err-recover.is
    ∙ ap Err (loaded_failed c.in-Err-recover.refusal
    (sym c.not_loaded.ensures
    ∙ same_refusal c.not_loaded.result (refusal.NotLoaded load.Failed) (Err c.not_loaded.result) refl failed)))

pub returns-in-Err-recover-clause-lines : goal.returns-in-Err-recover-clause-lines
returns-in-Err-recover-clause-lines g c =
    unloaded_lines 4294967295 (g.F.KeptFile.held c.args.file.now) (g.F.KeptFile.held c.recover.new.self)
    c.in-Err-recover.refusal c.in-Err-recover.ensures.given

-- ---- Where its lines aren't a station's.

pub returns-in-Err-reopen-clause-key : goal.returns-in-Err-reopen-clause-key
returns-in-Err-reopen-clause-key g c =
    subst (λ (e : BeginRefusal). TellsKey (known_by c.args.scenario.now c.args.held) c.args.actor (Err e)) (sym
    c.not_read.ensures)
    (read_key (known_by c.args.scenario.now c.args.held) c.args.actor c.in-Err-reopen.refusal
    (begun_key (known_by c.args.scenario.now c.args.held) c.args.actor c.in-Ok.found c.in-Some.begun c.in-Some.is
    c.in-Ok.ensures.own))

pub returns-in-Err-reopen-clause-untouched : goal.returns-in-Err-reopen-clause-untouched
returns-in-Err-reopen-clause-untouched g c = λ other.
    absurd (read_no_other c.in-Err-reopen.refusal
    (sym c.not_read.ensures
    ∙ same_refusal c.not_read.result refusal.OtherKey (Err c.not_read.result) refl other))

pub returns-in-Err-reopen-clause-wants : goal.returns-in-Err-reopen-clause-wants
returns-in-Err-reopen-clause-wants g c =
    subst TellsWant (sym c.not_read.ensures) (refused_wants c.in-Err-reopen.refusal)

pub returns-in-Err-reopen-clause-read : goal.returns-in-Err-reopen-clause-read
returns-in-Err-reopen-clause-read g c =
    subst (λ (e : BeginRefusal). IfSome (g.F.KeptFile.held c.args.file.now)
    (λ h. BeginsWith (known_by c.args.scenario.now c.args.held) c.args.actor h.bytes (Err e))) (sym c.not_read.ensures)
    (refused_whole (known_by c.args.scenario.now c.args.held) c.args.actor 4294967295 (g.F.KeptFile.held
    c.args.file.now)
    (g.F.KeptFile.held c.recover.new.self) c.in-Ok-recover.text c.as_slice.result.now c.in-Err-reopen.refusal
    c.in-Ok-recover.ensures.given c.as_slice.ensures.value
    (subst (λ (k : Contents). Refuses c.in-Err-reopen.refusal (kept_in k c.args.actor c.as_slice.result.now))
    (begun_so (known_by c.args.scenario.now c.args.held) c.args.actor c.in-Ok.found c.in-Some.begun c.in-Some.is
    c.in-Ok.ensures.begun).same
    c.in-Err-reopen.ensures.list))

pub returns-in-Err-reopen-clause-failed : goal.returns-in-Err-reopen-clause-failed
returns-in-Err-reopen-clause-failed g c = λ failed.
    absurd (read_failed c.in-Err-reopen.refusal
    (sym c.not_read.ensures
    ∙ same_refusal c.not_read.result (refusal.NotLoaded load.Failed) (Err c.not_read.result) refl failed))

pub returns-in-Err-reopen-clause-lines : goal.returns-in-Err-reopen-clause-lines
returns-in-Err-reopen-clause-lines g c =
    loaded_lines 4294967295 (g.F.KeptFile.held c.args.file.now) (g.F.KeptFile.held c.recover.new.self)
    c.in-Ok-recover.text
    c.in-Ok-recover.ensures.given

-- ---- Where memory ran out behind the file.
