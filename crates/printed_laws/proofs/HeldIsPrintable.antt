-- The entries of a legal history that the program can hold can be printed.
use Rattle.std.proofs.Common.{◌≡◌, ℕ, ◌+◌, ◌<◌, ◌^◌, Bool, true, false, List, [], ◌∷◌, ◌++◌, length, append_assoc}
use Rattle.std.proofs.Common.{sym, ◌∙◌, ap, subst, arith}
use Rattle.std.specs.List.{All}
use Rattle.std.proofs.lemmas.List.{length-append}
use Rattle.std.proofs.lemmas.List.Elements.{All-nil, All-cons, All-head, All-tail, All-weaker}
use Rattle.protocol_rules.specs.Group.{Group}
use Rattle.scenario_file.specs.Actors.{actors_of}
use Rattle.scenario_file.specs.Reading.{Contents}
use Rattle.scenario_file.specs.Valid.{IsScenario}
use Rattle.history_rules.specs.Events.{Event, Took, Tick, Command, Field, Poll, Cry, Skip, Restart, Entry}
use Rattle.history_rules.specs.Setup.{Setup}
use Rattle.history_rules.specs.Legal.{TakesWell, IsLegalEntry, IsLegal}
use Rattle.entry_texts.specs.Fits.{FitsEvent}
use Rattle.world_rules.specs.Scenarios.{group_in, setup_of}
use Rattle.world_rules.proofs.Fields.{group_is}
use Rattle.printed_run.specs.Printed.{cast_in, is_said}
use Rattle.printed_laws.specs.Lines.{IsWritable, IsPrintable}
use Rattle.printed_run.specs.Tellable.{CanBeTold}
use Rattle.printed_laws.specs.RunLaws.{HasBytes, IsHeld}

-- what can be held can be told
can_be_told : (told : Bool) (event : Event) → FitsEvent event → HasBytes event → CanBeTold told event
can_be_told true (Took stamp place frame) fits bytes = fits.1.0
can_be_told false (Took stamp place frame) fits bytes = (fits.1.1.0, bytes)
can_be_told told Tick fits bytes = tt
can_be_told told (Command op) fits bytes = fits
can_be_told told (Field area place value) fits bytes = fits
can_be_told told Poll fits bytes = tt
can_be_told told (Cry them) fits bytes = bytes
can_be_told told Skip fits bytes = tt
can_be_told told Restart fits bytes = tt

pub held_can_be_told : (w : Setup) (history entries : List Entry) → All IsHeld entries →
    All (λ e. CanBeTold (is_said w history e.event) e.event) entries
held_can_be_told w history entries held =
    All-weaker IsHeld (λ e. CanBeTold (is_said w history e.event) e.event)
    (λ e one. can_be_told (is_said w history e.event) e.event one.fits.1 one.bytes) entries held

writable : (w : Setup) (now : ℕ) (told : Bool) (event : Event) → now < 2 ^ 64 → TakesWell w now event →
    CanBeTold told event → IsWritable told event
writable w now true (Took stamp place frame) few takes can = (omega (arith, few, takes.1), can)
writable w now false (Took stamp place frame) few takes can = can.1
writable w now told Tick few takes can = tt
writable w now told (Command op) few takes can = can
writable w now told (Field area place value) few takes can = can
writable w now told Poll few takes can = tt
writable w now told (Cry bytes) few takes can = can
writable w now told Skip few takes can = tt
writable w now told Restart few takes can = tt

-- the actors of a scenario's group and plant are those of its cast
there : (c : Contents) (actor : ℕ) → actor < (setup_of c).group.n + (setup_of c).group.clients →
    actor < actors_of (cast_in c)
there c actor below =
    let its : actor < (group_in c).n + (group_in c).clients =
    subst (λ (g : Group). actor < g.n + g.clients) (group_is c) below in
    omega (arith, its)

-- there are few
pub few_actors : (c : Contents) → IsScenario c → actors_of (cast_in c) < 2 ^ 64
few_actors c is =
    let some = is.group.at_most_three_intruded in
    let away = is.group.at_most_two_away in
    let proxies = is.plant.devices in
    let screens = is.at_most_four_screens in
    omega (arith, some, away, proxies, screens)

printable : (c : Contents) (history before : List Entry) (e : Entry) → IsLegalEntry (setup_of c) before e →
    length before < 2 ^ 64 → CanBeTold (is_said (setup_of c) history e.event) e.event
    → IsPrintable (cast_in c) (is_said (setup_of c) history e.event) e
printable c history before e legal few can = record {
  wide = subst (λ (n : ℕ). n < 2 ^ 64) (sym legal.stamp) few;
  there = there c e.actor legal.actor;
  event = writable (setup_of c) (length before) (is_said (setup_of c) history e.event) e.event few legal.taken can;
}

pub all_printable : (c : Contents) (history before rest : List Entry) → IsLegal (setup_of c) history →
    length history < 2 ^ 32 → history ≡ before ++ rest
    → All (λ e. CanBeTold (is_said (setup_of c) history e.event) e.event) rest →
    All (λ e. IsPrintable (cast_in c) (is_said (setup_of c) history e.event) e) rest
all_printable c history before [] legal short whole can =
    All-nil (λ e. IsPrintable (cast_in c) (is_said (setup_of c) history e.event) e)
all_printable c history before (e ∷ rest) legal short whole can =
    let long : length history ≡ length before + length (e ∷ rest) = ap length whole ∙ length-append before (e ∷ rest) in
    let told : Entry → Type 0 = λ x. CanBeTold (is_said (setup_of c) history x.event) x.event in
    All-cons (λ x. IsPrintable (cast_in c) (is_said (setup_of c) history x.event) x) e rest
    (printable c history before e (legal.entries before e (record { after = rest; whole = whole }))
    (omega (arith, long, short)) (All-head told e rest can))
    (all_printable c history (before ++ e ∷ []) rest legal short (whole ∙ sym (append_assoc before (e ∷ []) rest))
    (All-tail told e rest can))
