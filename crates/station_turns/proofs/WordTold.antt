-- What a turn tells: to whom a word goes that was cried, and that it counts.
use Rattle.std.proofs.Common.{◌≡◌, ℕ, zero, suc, ◌+◌, Bool, true, false, cond, ◌&&◌, List, [], ◌∷◌, Option, Some}
use Rattle.std.proofs.Common.{None, refl, sym, ◌∙◌, ap, subst, inl, inr, ◌⊎◌}
use Rattle.std.specs.Prelude.{slice_get, IfSome}
use Rattle.std.specs.List.{list_all}
use Rattle.std.proofs.lemmas.Bool.{and_parts}
use Rattle.play_words.specs.declared.input.Input.{Input}
use Rattle.play_words.specs.declared.input.Input.TheVariants as input
use Rattle.play_words.specs.Accepted.{is_accepted}
use Rattle.scenario_file.specs.Reading.{Contents}
use Rattle.history_rules.specs.Events.{Event}
use Rattle.script_laws.specs.Accepted.{is_there, is_intruded}
use Rattle.world_history.specs.State.{BenchState, entry_at}
use Rattle.world_history.specs.KeptState.{halted_in}
use Rattle.station_turns.specs.declared.held.Held.{Held}
use Rattle.station_turns.specs.declared.held.Turned.{Turned}
use Rattle.station_turns.specs.Naming.{RunName, IsOf}
use Rattle.station_turns.specs.Pace.{is_skip, fits_input, fit_inputs, turns_made, inputs_used, next_input}
use Rattle.station_turns.specs.Turns.{Stationed, Enters, Turns, still_held, event_next, named, cries_frame, named_at}
use Rattle.station_turns.proofs.CountsGrow.{turn_more}
use Rattle.station_turns.proofs.SkipsOfTurn.{skips_turns}
use Rattle.station_turns.proofs.StationSeen.{of_turned}
use Rattle.station_turns.proofs.WholeTurns.{next_no_skip}
use Rattle.world_history.proofs.KeptGrows.{event_at}

-- an input that fits names actors that are there
fit_there : (c : Contents) (actor : ℕ) (x : Input) → fits_input c actor x ≡ true →
    list_all (is_there c) (named (Some x)) ≡ true
fit_there c actor (input.Say to said) fit =
    (and_parts (is_intruded c actor && is_accepted said) (list_all (is_there c) to) fit).1
fit_there c actor (input.Command op) fit = refl
fit_there c actor (input.Field area place value) fit = refl
fit_there c actor input.Poll fit = refl
fit_there c actor input.Restart fit = refl

next_there : (c : Contents) (actor : ℕ) (inputs : List Input) (k : ℕ) → fit_inputs c actor inputs ≡ true →
    list_all (is_there c) (named (slice_get inputs k)) ≡ true
next_there c actor [] k fit = refl
next_there c actor (x ∷ xs) zero fit =
    fit_there c actor x (and_parts (fits_input c actor x) (fit_inputs c actor xs) fit).0
next_there c actor (x ∷ xs) (suc k) fit =
    next_there c actor xs k (and_parts (fits_input c actor x) (fit_inputs c actor xs) fit).1

there_when : (c : Contents) (b : Bool) (to : List ℕ) → list_all (is_there c) to ≡ true →
    list_all (is_there c) (cond b to []) ≡ true
there_when c true to there = there
there_when c false to there = refl

-- so a turn's word goes to actors that are there
entered_there : (mid new : Stationed) (stamp : ℕ) (event : Event) (t : Turned) → Enters mid stamp event t new →
    list_all (is_there new.kept.bench.world) t.to ≡ true
entered_there mid new stamp event t enters =
    let c = new.kept.bench.world in
    let given = next_input mid.inputs mid.kept.bench.list in
    ap (list_all (is_there c)) enters.to
    ∙ there_when c (cries_frame event) (named given)
    (ap (λ (xs : List Input). list_all (is_there c) (named (slice_get xs (inputs_used mid.kept.bench.list))))
    (sym enters.inputs)
    ∙ next_there c new.kept.bench.actor new.inputs (inputs_used mid.kept.bench.list) enters.steady.inputs)

turned_there : (old new : Stationed) (held : Option Held) (t : Turned) → Turns old held t new →
    list_all (is_there new.kept.bench.world) t.to ≡ true
turned_there old new held t (inl cut) = ap (list_all (is_there new.kept.bench.world)) cut.nothing.1
turned_there old new held t (inr adds) = entered_there adds.mid new adds.stamp _ t adds.enters

pub there_told : (name : RunName) (old new : Stationed) (held : Option Held) (t : Turned) → Turns old held t new →
    IsOf name old → list_all (is_there name.scenario) t.to ≡ true
there_told name old new held t turns one =
    subst (λ (c : Contents). list_all (is_there c) t.to ≡ true) (of_turned name old new held t turns one).world
    (turned_there old new held t turns)

-- a turn counts, unless it ends with a skip that halts the actor
pub made_told : (old new : Stationed) (held : Option Held) (t : Turned) → Turns old held t new
    → (halted_in new.kept.bench ≡ true) ⊎ (turns_made new.kept.bench.list ≡ turns_made old.kept.bench.list + 1)
made_told old new held t (inl cut) = inl cut.draws.halted
made_told old new held t (inr adds) =
    let b = old.kept.bench in
    let m = adds.mid.kept.bench in
    let ev = event_next adds.mid.inputs m (still_held held adds.stamp) in
    inr (ap (λ (x : BenchState). turns_made x.list) adds.enters.bench
    ∙ turn_more m.list (entry_at m adds.stamp ev) (ap is_skip (event_at m adds.stamp ev)
    ∙ next_no_skip adds.mid.inputs m (still_held held adds.stamp))
    ∙ ap (λ (x : BenchState). turns_made x.list + 1) adds.draws.skipped.bench
    ∙ ap (λ (n : ℕ). n + 1) (skips_turns b adds.draws.skips))
