-- An actor that makes all its turns by itself: it takes no frame, and draws one stamp after another.
use Rattle.std.proofs.Common.{◌≡◌, ℕ, zero, suc, ◌+◌, ◌%◌, ◌<◌, ◌≤◌, Bool, true, false, cond, List, [], ◌∷◌, ◌++◌, Option}
use Rattle.std.proofs.Common.{Some, None, length, All, nat_eq, nat_lt, refl, sym, ◌∙◌, ap, subst, arith, append-nil}
use Rattle.std.proofs.Common.{append_assoc, true≢false}
use Rattle.std.specs.Prelude.{unwrap_or}
use Rattle.std.specs.List.{list_all}
use Rattle.std.specs.Option.{option_map}
use Rattle.play_words.specs.declared.input.Input.{Input}
use Rattle.scenario_file.specs.Reading.{Contents}
use Rattle.history_rules.specs.Events.{Event, Tick, Entry}
use Rattle.history_rules.specs.Keeping.{is_halted}
use Rattle.history_rules.specs.Legal.{TakesWell}
use Rattle.history_rules.specs.Setup.{Setup}
use Rattle.history_laws.specs.Own.{IsOwnHistory}
use Rattle.history_laws.proofs.EntryByEntry.{none_is_own}
use Rattle.world_rules.specs.Scenarios.{setup_of}
use Rattle.stamps.specs.Seats.{IsEachOnce}
use Rattle.plain_lists.proofs.Lists.{all_at_place}
use Rattle.world_history.specs.State.{BenchState, setup_in, entry_at}
use Rattle.world_history.proofs.KeptGrows.{stamp_at, event_at}
use Rattle.station_turns.specs.Laws.{stamps_in}
use Rattle.station_turns.specs.Pace.{fits_input, fit_inputs, is_skip, is_inside, turns_made, inputs_used, next_input}
use Rattle.station_turns.specs.Pace.{event_given, bench_after, due_next, Follows, IsPaced, begins, turns}
use Rattle.station_turns.specs.Turns.{event_next}
use Rattle.station_turns.proofs.CountsGrow.{turn_more, no_turns}
use Rattle.station_turns.proofs.InputGiven.{given_outside, given_fits, inside_fits, outside_takes}
use Rattle.station_turns.proofs.StateInOrder.{own_more, later_all}
use Rattle.station_turns.proofs.WholeTurns.{next_no_skip}
use Rattle.run_laws.proofs.StampsDrawn.{one_drawn, stamps_push, low_push}

-- the event of a turn for which no frame was taken: the one that is due, else a tick
abbrev event_alone : List Input → BenchState → Event
event_alone inputs b = event_next inputs b None

-- What is so of a tick, and of what the next input becomes, is so of it.

of_given : (P : Event → Type 0) (o : Option Event) → P Tick → ((ev : Event) → o ≡ Some ev → P ev) → P (unwrap_or o Tick)
of_given P None tick given = tick
of_given P (Some ev) tick given = given ev refl

of_alone : (P : Event → Type 0) (inputs : List Input) (b : BenchState) → P Tick
    → ((x : Input) (ev : Event) → next_input inputs b.list ≡ Some x → event_given b x ≡ Some ev → P ev) →
    P (event_alone inputs b)
unfolding due_next
of_alone P inputs b tick given =
    by (nat_eq ((turns_made b.list + 1) % 4) 0) (nat_eq ((turns_made b.list + 1) % 4) 1) (next_input inputs b.list) refl
  where
    by : (x y : Bool) (o : Option Input) → next_input inputs b.list ≡ o
        → P (unwrap_or (cond x (Some Tick)
        (cond y (option_map (λ (i : Input). unwrap_or (event_given b i) Tick) o) None)) Tick)
    by true y o is = tick
    by false true (Some i) is = of_given P (event_given b i) tick (λ ev found. given i ev is found)
    by false true None is = tick
    by false false o is = tick

fits_alone : (b : BenchState) (inputs : List Input) → fit_inputs b.world b.actor inputs ≡ true →
    (setup_in b).fits b.actor (event_alone inputs b) ≡ true
fits_alone b inputs fit =
    of_alone (λ ev. (setup_in b).fits b.actor ev ≡ true) inputs b (inside_fits b Tick refl)
    (λ x ev next is. given_fits b x ev
    (all_at_place (fits_input b.world b.actor) inputs (inputs_used b.list) x fit next) is)

takes_alone : (w : Setup) (stamp : ℕ) (inputs : List Input) (b : BenchState) → TakesWell w stamp (event_alone inputs b)
takes_alone w stamp inputs b =
    of_alone (λ ev. TakesWell w stamp ev) inputs b tt (λ x ev next is. outside_takes w stamp ev (given_outside b x ev is))

follows_alone : (o : Option Event) → Follows o (unwrap_or o Tick)
follows_alone None = refl
follows_alone (Some ev) = refl

-- The entries of an actor that has made so many turns by itself, or was halted before, where these stamps were drawn
-- before its own.
pub record IsAlone (c : Contents) (actor : ℕ) (inputs : List Input) (count : ℕ) (drawn : List ℕ) : Type 0 where
  pub list : List Entry
  pub next : ℕ
  pub paced : IsPaced c actor inputs list
  pub own : IsOwnHistory (setup_of c) actor list
  pub most : turns_made list ≤ count
  pub whole : is_halted (setup_of c) actor list ≡ false → turns_made list ≡ count
  pub low : All (λ x. x < next) (stamps_in list)
  pub once : IsEachOnce next (drawn ++ stamps_in list)

none_alone : (c : Contents) (actor next : ℕ) (inputs : List Input) (drawn : List ℕ) → IsEachOnce next drawn →
    IsAlone c actor inputs 0 drawn
none_alone c actor next inputs drawn each = record {
  list = [];
  next = next;
  paced = begins;
  own = none_is_own (setup_of c) actor;
  most = omega (arith, no_turns);
  whole = λ running. no_turns;
  low = λ k d inside. absurd (omega (arith, inside));
  once = subst (IsEachOnce next) (sym (append-nil drawn)) each;
}

-- one turn more
turn_alone : (c : Contents) (actor count : ℕ) (inputs : List Input) (drawn : List ℕ) → fit_inputs c actor inputs ≡ true
    → (was : IsAlone c actor inputs count drawn) → is_halted (setup_of c) actor was.list ≡ false →
    IsAlone c actor inputs (suc count) drawn
turn_alone c actor count inputs drawn fit was running =
    let b = bench_after c actor inputs was.list in
    let ev = event_alone inputs b in
    let e : Entry = entry_at b was.next ev in
    let list : List Entry = was.list ++ e ∷ [] in
    let before : was.list ≡ was.list ++ [] = sym (append-nil was.list) in
    let no_skip : is_skip e.event ≡ false = ap is_skip (event_at b was.next ev) ∙ next_no_skip inputs b None in
    let follows : Follows (due_next inputs (bench_after c actor inputs (was.list ++ []))) e.event =
    subst (λ (l : List Entry). Follows (due_next inputs (bench_after c actor inputs l)) e.event) before
    (subst (λ (x : Event). Follows (due_next inputs b) x) (sym (event_at b was.next ev))
    (follows_alone (due_next inputs b))) in
    let made : turns_made list ≡ turns_made was.list + 1 = turn_more was.list e no_skip in
    let stamps : stamps_in list ≡ stamps_in was.list ++ was.next ∷ [] =
    stamps_push was.list e was.next (stamp_at b was.next ev) in
    let later : list_all (λ (x : Entry). nat_lt x.stamp was.next) was.list ≡ true = later_all was.list was.next was.low in
    record {
      list = list;
      next = was.next + 1;
      paced = turns was.list [] e list was.paced (record { all = refl; few = omega arith }) no_skip follows
          (ap (λ (l : List Entry). l ++ e ∷ []) before);
      own = own_more b was.next ev was.own running (fits_alone b inputs fit) later
          (takes_alone (setup_of c) was.next inputs b);
      most = let most = was.most in omega (arith, made);
      whole = λ goes_on. let all = was.whole running in omega (arith, made, all);
      low = subst (λ (xs : List ℕ). All (λ x. x < was.next + 1) xs) (sym stamps)
          (low_push was.next (stamps_in was.list) was.low);
      once = subst (IsEachOnce (was.next + 1))
          (append_assoc drawn (stamps_in was.list) (was.next ∷ []) ∙ ap (λ (xs : List ℕ). drawn ++ xs) (sym stamps))
          (one_drawn was.next (drawn ++ stamps_in was.list) was.once);
    }

-- or none, where it is halted
next_alone : (c : Contents) (actor count : ℕ) (inputs : List Input) (drawn : List ℕ) → fit_inputs c actor inputs ≡ true
    → (was : IsAlone c actor inputs count drawn) (halted : Bool) → is_halted (setup_of c) actor was.list ≡ halted →
    IsAlone c actor inputs (suc count) drawn
next_alone c actor count inputs drawn fit was false is = turn_alone c actor count inputs drawn fit was is
next_alone c actor count inputs drawn fit was true is = record {
  list = was.list;
  next = was.next;
  paced = was.paced;
  own = was.own;
  most = let most = was.most in omega (arith, most);
  whole = λ running. absurd (true≢false (sym is ∙ running));
  low = was.low;
  once = was.once;
}

-- Whatever an actor is given that it can be given, it can make so many turns by itself.
pub alone : (c : Contents) (actor next : ℕ) (inputs : List Input) (drawn : List ℕ) → fit_inputs c actor inputs ≡ true →
    IsEachOnce next drawn → (count : ℕ) → IsAlone c actor inputs count drawn
alone c actor next inputs drawn fit each zero = none_alone c actor next inputs drawn each
alone c actor next inputs drawn fit each (suc count) =
    let was : IsAlone c actor inputs count drawn = alone c actor next inputs drawn fit each count in
    next_alone c actor count inputs drawn fit was (is_halted (setup_of c) actor was.list) refl
