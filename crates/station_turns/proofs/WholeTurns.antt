-- A whole turn: which entry is due, and that the actor is in order after it.
use Rattle.std.proofs.Common.{◌≡◌, ℕ, zero, suc, ◌+◌, ◌*◌, ◌%◌, ◌<◌, ◌≤◌, Bool, true, false, cond, ◌&&◌, List, []}
use Rattle.std.proofs.Common.{◌∷◌, ◌++◌, Option, Some, None, length, map, nat_eq, nat_lt, refl, sym, ◌∙◌, ap, subst}
use Rattle.std.proofs.Common.{arith, append-nil, append_assoc, inl, inr, ◌⊎◌}
use Rattle.std.specs.Prelude.{Result, Ok, Err, IfOk, slice_get, is_some, unwrap_or, IfSome}
use Rattle.plain_lists.specs.declared.want.Want.{Want}
use Rattle.std.specs.List.{list_all}
use Rattle.std.specs.Option.{option_map}
use Rattle.std.proofs.lemmas.Bool.{ltb-true, true≢false, false≢true}
use Rattle.std.proofs.lemmas.List.{length-append, length_push}
use Rattle.message_types.specs.declared.signed.Signed.{Signed}
use Rattle.message_types.specs.declared.body.Body.{Body}
use Rattle.play_words.specs.declared.input.Input.{Input}
use Rattle.scenario_file.specs.Reading.{Contents}
use Rattle.history_rules.specs.Events.{Event, Took, Tick, Entry}
use Rattle.history_rules.specs.Keeping.{is_halted}
use Rattle.history_rules.specs.Setup.{Setup, stands}
use Rattle.history_rules.specs.Legal.{TakesWell}
use Rattle.world_rules.specs.Scenarios.{setup_of}
use Rattle.world_history.specs.State.{BenchState, setup_in, entry_at}
use Rattle.world_history.specs.KeptState.{halted_in}
use Rattle.station_turns.specs.declared.held.Held.{Held}
use Rattle.station_turns.specs.declared.held.Turned.{Turned}
use Rattle.station_turns.specs.declared.turning.Due.{Due}
use Rattle.station_turns.specs.declared.turning.Due.TheVariants as kind
use Rattle.station_turns.specs.Pace.{is_skip, is_inside, turns_made, inputs_used, next_input, event_given}
use Rattle.station_turns.specs.Pace.{bench_after, due_as, due_next, Follows, AreFewSkips, IsPaced, turns, halts}
use Rattle.station_turns.specs.Turns.{Stationed, IsSteady, CanAdd, IsAlive, HasSkipped, DrawsLast, DrawsOne, Draws}
use Rattle.station_turns.specs.Turns.{Enters, IsCut, Adds, Turns, still_held, taking, event_next, held_back, kind_due}
use Rattle.station_turns.specs.Turns.{given_or_tick, with_skips, TakesAt}
use Rattle.station_turns.proofs.CountsGrow.{turn_more}
use Rattle.station_turns.proofs.InputGiven.{given_outside, outside_no_skip, inside_no_skip}
use Rattle.station_turns.proofs.StateInOrder.{steady_bench}
use Rattle.station_turns.proofs.SkipsOfTurn.{skip_entries, skips_list, skips_length, skips_few, skips_world, skips_turns}
use Rattle.station_turns.proofs.SkipsOfTurn.{skips_inputs}
use Rattle.world_history.proofs.KeptGrows.{event_at}

-- which event is due, by its kind

tick_due : (b : BenchState) (number : ℕ) (left : Option Input) → kind_due number left ≡ kind.Tick →
    due_as b number left ≡ Some Tick
tick_due b number left is = by (nat_eq (number % 4) 0) (nat_eq (number % 4) 1) left is
  where
    by : (x y : Bool) (o : Option Input) → cond x kind.Tick (cond (y && is_some o) kind.Input kind.Frame) ≡ kind.Tick
        → ◌≡◌ {A = Option Event} (cond x (Some Tick)
        (cond y (option_map (λ (i : Input). unwrap_or (event_given b i) Tick) o) None)) (Some Tick)
    by true y o k = refl
    by false true (Some i) k = absurd cc
    by false true None k = absurd cc
    by false false o k = absurd cc

input_due : (b : BenchState) (number : ℕ) (left : Option Input) → kind_due number left ≡ kind.Input →
    due_as b number left ≡ Some (given_or_tick b left)
input_due b number left is = by (nat_eq (number % 4) 0) (nat_eq (number % 4) 1) left is
  where
    by : (x y : Bool) (o : Option Input) → cond x kind.Tick (cond (y && is_some o) kind.Input kind.Frame) ≡ kind.Input
        → ◌≡◌ {A = Option Event} (cond x (Some Tick)
        (cond y (option_map (λ (i : Input). unwrap_or (event_given b i) Tick) o) None)) (Some (given_or_tick b o))
    by true y o k = absurd cc
    by false true (Some i) k = refl
    by false true None k = absurd cc
    by false false o k = absurd cc

frame_due : (b : BenchState) (number : ℕ) (left : Option Input) → kind_due number left ≡ kind.Frame →
    due_as b number left ≡ None
frame_due b number left is = by (nat_eq (number % 4) 0) (nat_eq (number % 4) 1) left is
  where
    by : (x y : Bool) (o : Option Input) → cond x kind.Tick (cond (y && is_some o) kind.Input kind.Frame) ≡ kind.Frame
        → ◌≡◌ {A = Option Event} (cond x (Some Tick)
        (cond y (option_map (λ (i : Input). unwrap_or (event_given b i) Tick) o) None)) None
    by true y o k = absurd cc
    by false true (Some i) k = absurd cc
    by false true None k = refl
    by false false o k = refl

-- What is known of the counts of an actor where an entry is due of this kind.
pub record IsDue (s : Stationed) (used count : ℕ) (k : Due) : Type 0 where
  pub used_is : used ≡ inputs_used s.kept.bench.list
  pub count_is : count ≡ turns_made s.kept.bench.list
  pub kind_is : k ≡ kind_due (count + 1) (slice_get s.inputs used)

kind_there : (s : Stationed) (used count : ℕ) (k : Due) → IsDue s used count k →
    kind_due (turns_made s.kept.bench.list + 1) (next_input s.inputs s.kept.bench.list) ≡ k
kind_there s used count k is =
    ap (λ (n : ℕ). kind_due (n + 1) (next_input s.inputs s.kept.bench.list)) (sym is.count_is)
    ∙ ap (λ (n : ℕ). kind_due (count + 1) (slice_get s.inputs n)) (sym is.used_is)
    ∙ sym is.kind_is

pub tick_next : (s : Stationed) (used count : ℕ) → IsDue s used count kind.Tick →
    due_next s.inputs s.kept.bench ≡ Some Tick
unfolding due_next
tick_next s used count is = tick_due s.kept.bench (turns_made s.kept.bench.list + 1)
    (next_input s.inputs s.kept.bench.list) (kind_there s used count kind.Tick is)

pub input_next : (s : Stationed) (used count : ℕ) → IsDue s used count kind.Input →
    due_next s.inputs s.kept.bench ≡ Some (given_or_tick s.kept.bench (next_input s.inputs s.kept.bench.list))
unfolding due_next
input_next s used count is = input_due s.kept.bench (turns_made s.kept.bench.list + 1)
    (next_input s.inputs s.kept.bench.list) (kind_there s used count kind.Input is)

pub frame_next : (s : Stationed) (used count : ℕ) → IsDue s used count kind.Frame →
    due_next s.inputs s.kept.bench ≡ None
unfolding due_next
frame_next s used count is = frame_due s.kept.bench (turns_made s.kept.bench.list + 1)
    (next_input s.inputs s.kept.bench.list) (kind_there s used count kind.Frame is)

-- the entry that was made is the one that is due, and the held frame comes back where it should

pub enters_as : (s new : Stationed) (stamp : ℕ) (held : Option Held) (t : Turned) (o : Option Event) →
    due_next s.inputs s.kept.bench ≡ o → Enters s stamp (unwrap_or o (taking held)) t new
    → Enters s stamp (event_next s.inputs s.kept.bench held) t new
enters_as s new stamp held t o is enters =
    subst (λ (x : Option Event). Enters s stamp (unwrap_or x (taking held)) t new) (sym is) enters

pub back_as : (s : Stationed) (held : Option Held) (t : Turned) (o : Option Event) →
    due_next s.inputs s.kept.bench ≡ o → t.held ≡ cond (is_some o) held None →
    t.held ≡ held_back s.inputs s.kept.bench held
back_as s held t o is back = back ∙ ap (λ (x : Option Event). cond (is_some x) held None) (sym is)

pub frame_enters : (s new : Stationed) (stamp : ℕ) (held : Option Held) (event : Event) (t : Turned) →
    due_next s.inputs s.kept.bench ≡ None → event ≡ taking held → Enters s stamp event t new
    → Enters s stamp (event_next s.inputs s.kept.bench held) t new
frame_enters s new stamp held event t is same enters =
    enters_as s new stamp held t None is (subst (λ (e : Event). Enters s stamp e t new) same enters)

-- what is so of an answer is so of it in other words
pub ok_so : {P Q : Turned → Type 0} (r : Result Turned Want) → IfOk r P → ((t : Turned) → P t → Q t) → IfOk r Q
ok_so (Ok t) has so = so t has
ok_so (Err e) has so = has

pub taking_inside : (held : Option Held) → is_inside (taking held) ≡ true
taking_inside None = refl
taking_inside (Some h) = refl

-- the frame that is still held can be taken
pub still_takes : (w : Setup) (stamp : ℕ) (held : Option Held) → IfSome held (λ h. stands w h.frame ≡ true) →
    TakesAt w stamp (still_held held stamp)
still_takes w stamp None well = tt
still_takes w stamp (Some h) well = by (nat_lt h.stamp stamp) refl
  where
    by : (b : Bool) → nat_lt h.stamp stamp ≡ b → TakesWell w stamp (taking (cond b (Some h) None))
    by true low = (well, ltb-true h.stamp stamp low)
    by false low = tt

-- the event that is due is none of a skip

given_no_skip : (b : BenchState) (x : Input) → is_skip (unwrap_or (event_given b x) Tick) ≡ false
given_no_skip b x = by (event_given b x) refl
  where
    by : (o : Option Event) → event_given b x ≡ o → is_skip (unwrap_or o Tick) ≡ false
    by None is = refl
    by (Some ev) is = outside_no_skip ev (given_outside b x ev is)

pub next_no_skip : (inputs : List Input) (b : BenchState) (held : Option Held) →
    is_skip (event_next inputs b held) ≡ false
unfolding due_next
next_no_skip inputs b held = by (nat_eq ((turns_made b.list + 1) % 4) 0) (nat_eq ((turns_made b.list + 1) % 4) 1)
    (next_input inputs b.list)
  where
    by : (x y : Bool) (o : Option Input)
        → is_skip (unwrap_or (cond x (Some Tick)
        (cond y (option_map (λ (i : Input). unwrap_or (event_given b i) Tick) o) None)) (taking held)) ≡ false
    by true y o = refl
    by false true (Some i) = given_no_skip b i
    by false true None = inside_no_skip (taking held) (taking_inside held)
    by false false o = inside_no_skip (taking held) (taking_inside held)

next_follows : (o : Option Event) (held : Option Held) → Follows o (unwrap_or o (taking held))
next_follows None held = taking_inside held
next_follows (Some e) held = refl

-- the actor in the middle of a turn is what its list makes it
mid_is : (old mid : Stationed) (held : Option Held) (skips more : List ℕ) → HasSkipped old held skips more mid
    → mid.kept.bench ≡ bench_after old.kept.bench.world old.kept.bench.actor old.inputs
    (old.kept.bench.list ++ skip_entries old.kept.bench skips)
mid_is old mid held skips more has =
    let b = old.kept.bench in
    let same = skips_world b skips in
    steady_bench mid more has.steady
    ∙ ap (λ (x : BenchState). bench_after x.world x.actor mid.inputs x.list) has.bench
    ∙ ap (λ (w : Contents). bench_after w (with_skips b skips).actor mid.inputs (with_skips b skips).list) same.0
    ∙ ap (λ (a : ℕ). bench_after b.world a mid.inputs (with_skips b skips).list) same.1
    ∙ ap (λ (l : List Entry). bench_after b.world b.actor mid.inputs l) (skips_list b skips)
    ∙ ap (λ (i : List Input). bench_after b.world b.actor i (b.list ++ skip_entries b skips)) has.inputs

-- the actor is in order after the turn's entry
pub alive_after : (old mid new : Stationed) (held : Option Held) (t : Turned) (stamp used count now : ℕ) →
    IsAlive old used count → halted_in old.kept.bench ≡ false → count < old.turns
    → DrawsOne old held stamp mid → Enters mid stamp (event_next mid.inputs mid.kept.bench (still_held held stamp))
    t new → now ≡ inputs_used new.kept.bench.list
    → IsAlive new now (count + 1)
alive_after old mid new held t stamp used count now alive running left draws enters used_is =
    let b = old.kept.bench in
    let m = mid.kept.bench in
    let skips = skip_entries b draws.skips in
    let ev = event_next mid.inputs m (still_held held stamp) in
    let e : Entry = entry_at m stamp ev in
    let has = draws.skipped in
    let mid_list : m.list ≡ b.list ++ skips = ap (λ (x : BenchState). x.list) has.bench ∙ skips_list b draws.skips in
    let list : new.kept.bench.list ≡ (b.list ++ skips) ++ e ∷ [] = ap (λ (x : BenchState). x.list) enters.bench
    ∙ ap (λ (l : List Entry). l ++ e ∷ []) mid_list in
    let world : new.kept.bench.world ≡ b.world = ap (λ (x : BenchState). x.world) enters.bench
    ∙ ap (λ (x : BenchState). x.world) has.bench ∙ (skips_world b draws.skips).0 in
    let actor : new.kept.bench.actor ≡ b.actor = ap (λ (x : BenchState). x.actor) enters.bench
    ∙ ap (λ (x : BenchState). x.actor) has.bench ∙ (skips_world b draws.skips).1 in
    let inputs : new.inputs ≡ old.inputs = enters.inputs ∙ has.inputs in
    let all : new.turns ≡ old.turns = enters.turns ∙ has.turns in
    let no_skip : is_skip e.event ≡ false = ap is_skip (event_at m stamp ev)
    ∙ next_no_skip mid.inputs m (still_held held stamp) in
    let follows : Follows (due_next old.inputs (bench_after b.world b.actor old.inputs (b.list ++ skips))) e.event =
    subst (λ (x : BenchState). Follows (due_next old.inputs x) e.event)
    (mid_is old mid held draws.skips (stamp ∷ []) has)
    (subst (λ (i : List Input). Follows (due_next i m) e.event) has.inputs
    (subst (λ (x : Event). Follows (due_next mid.inputs m) x) (sym (event_at m stamp ev))
    (next_follows (due_next mid.inputs m) (still_held held stamp)))) in
    let paced : IsPaced b.world b.actor old.inputs new.kept.bench.list =
    turns b.list skips e new.kept.bench.list alive.paced (skips_few b held draws.skips has.are) no_skip follows list in
    let made : turns_made new.kept.bench.list ≡ turns_made b.list + 1 =
    ap (λ (x : BenchState). turns_made x.list) enters.bench ∙ turn_more m.list e no_skip
    ∙ ap (λ (x : BenchState). turns_made x.list + 1) has.bench ∙ ap (λ (n : ℕ). n + 1) (skips_turns b draws.skips) in
    record {
      steady = enters.steady;
      paced = subst (λ (w : Contents). IsPaced w new.kept.bench.actor new.inputs new.kept.bench.list) (sym world)
          (subst (λ (a : ℕ). IsPaced b.world a new.inputs new.kept.bench.list) (sym actor)
          (subst (λ (i : List Input). IsPaced b.world b.actor i new.kept.bench.list) (sym inputs) paced));
      used_is = used_is;
      count_is = ap (λ (n : ℕ). n + 1) alive.count_is ∙ sym made;
      made = omega (arith, all, left);
      most = let most = alive.most in omega (arith, all);
      short = λ goes_on.
          let short = alive.short running in
          let few = has.are.few in
          omega (
            arith,
            ap length list,
            length_push (b.list ++ skips) e,
            length-append b.list skips,
            skips_length b draws.skips,
          );
    }

-- and where the turn ended with a skip
pub alive_cut : (old new : Stationed) (held : Option Held) (stamp used count : ℕ) → IsAlive old used count →
    DrawsLast old held stamp new → IsAlive new used count
alive_cut old new held stamp used count alive draws =
    let b = old.kept.bench in
    let stamps = draws.skips ++ stamp ∷ [] in
    let skips = skip_entries b stamps in
    let has = draws.skipped in
    let list : new.kept.bench.list ≡ b.list ++ skips = ap (λ (x : BenchState). x.list) has.bench
    ∙ skips_list b stamps in
    let world : new.kept.bench.world ≡ b.world = ap (λ (x : BenchState). x.world) has.bench
    ∙ (skips_world b stamps).0 in
    let actor : new.kept.bench.actor ≡ b.actor = ap (λ (x : BenchState). x.actor) has.bench
    ∙ (skips_world b stamps).1 in
    let all : new.turns ≡ old.turns = has.turns in
    let halted : is_halted (setup_of b.world) b.actor (b.list ++ skips) ≡ true =
    ap (λ (l : List Entry). is_halted (setup_of b.world) b.actor l) (sym list)
    ∙ ap (λ (a : ℕ). is_halted (setup_of b.world) a new.kept.bench.list) (sym actor)
    ∙ ap (λ (w : Contents). is_halted (setup_of w) new.kept.bench.actor new.kept.bench.list) (sym world)
    ∙ draws.halted in
    let paced : IsPaced b.world b.actor old.inputs new.kept.bench.list =
    halts b.list skips new.kept.bench.list alive.paced (skips_few b held stamps has.are) halted list in
    record {
      steady = has.steady;
      paced = subst (λ (w : Contents). IsPaced w new.kept.bench.actor new.inputs new.kept.bench.list) (sym world)
          (subst (λ (a : ℕ). IsPaced b.world a new.inputs new.kept.bench.list) (sym actor)
          (subst (λ (i : List Input). IsPaced b.world b.actor i new.kept.bench.list) (sym has.inputs) paced));
      used_is = alive.used_is ∙ sym (ap (λ (x : BenchState). inputs_used x.list) has.bench ∙ skips_inputs b stamps);
      count_is = alive.count_is ∙ sym (ap (λ (x : BenchState). turns_made x.list) has.bench ∙ skips_turns b stamps);
      made = let made = alive.made in omega (arith, all);
      most = let most = alive.most in omega (arith, all);
      short = λ goes_on. absurd (true≢false (sym draws.halted ∙ goes_on));
    }

-- of the draws of a turn, by whether the actor is halted after them

pub last_drawn : (old new : Stationed) (held : Option Held) (stamp : ℕ) → Draws old held stamp new →
    halted_in new.kept.bench ≡ true → DrawsLast old held stamp new
last_drawn old new held stamp (inl draws) halted = draws
last_drawn old new held stamp (inr draws) halted = absurd (true≢false (sym halted ∙ draws.can.running))

pub one_drawn : (old new : Stationed) (held : Option Held) (stamp : ℕ) → Draws old held stamp new →
    halted_in new.kept.bench ≡ false → DrawsOne old held stamp new
one_drawn old new held stamp (inl draws) running = absurd (true≢false (sym draws.halted ∙ running))
one_drawn old new held stamp (inr draws) running = draws

-- what the turn's entry is asked with
pub mid_world : (old mid : Stationed) (held : Option Held) (stamp : ℕ) → DrawsOne old held stamp mid →
    mid.kept.bench.world ≡ old.kept.bench.world
mid_world old mid held stamp draws = ap (λ (x : BenchState). x.world) draws.skipped.bench
    ∙ (skips_world old.kept.bench draws.skips).0

pub mid_used : (old mid : Stationed) (held : Option Held) (stamp used count : ℕ) → IsAlive old used count →
    DrawsOne old held stamp mid → used ≡ inputs_used mid.kept.bench.list
mid_used old mid held stamp used count alive draws =
    alive.used_is ∙ sym (ap (λ (x : BenchState). inputs_used x.list) draws.skipped.bench
    ∙ skips_inputs old.kept.bench draws.skips)

pub mid_count : (old mid : Stationed) (held : Option Held) (stamp used count : ℕ) → IsAlive old used count →
    DrawsOne old held stamp mid → count ≡ turns_made mid.kept.bench.list
mid_count old mid held stamp used count alive draws =
    alive.count_is ∙ sym (ap (λ (x : BenchState). turns_made x.list) draws.skipped.bench
    ∙ skips_turns old.kept.bench draws.skips)

pub mid_takes : (old mid : Stationed) (held : Option Held) (stamp : ℕ) → DrawsOne old held stamp mid →
    IfSome held (λ h. stands (setup_in old.kept.bench) h.frame ≡ true)
    → TakesAt (setup_in mid.kept.bench) stamp (still_held held stamp)
mid_takes old mid held stamp draws well =
    subst (λ (w : Contents). TakesAt (setup_of w) stamp (still_held held stamp))
    (sym (mid_world old mid held stamp draws)) (still_takes (setup_in old.kept.bench) stamp held well)

pub mid_stand : (old mid : Stationed) (held : Option Held) (stamp : ℕ) (cries : Bool) (frames : List (Signed Body)) →
    DrawsOne old held stamp mid
    → (cries ≡ false → list_all (stands (setup_in mid.kept.bench)) frames ≡ true) → cries ≡ false →
    list_all (stands (setup_in old.kept.bench)) frames ≡ true
mid_stand old mid held stamp cries frames draws all none =
    subst (λ (w : Contents). list_all (stands (setup_of w)) frames ≡ true)
    (mid_world old mid held stamp draws) (all none)

pub draws_work : (old new : Stationed) (held : Option Held) (stamp : ℕ) → Draws old held stamp new →
    new.kept.is_spent ≡ false
draws_work old new held stamp (inl draws) = draws.skipped.steady.works
draws_work old new held stamp (inr draws) = draws.skipped.steady.works

pub alive_counts : (s : Stationed) (used count u n : ℕ) → IsAlive s used count → u ≡ used → n ≡ count → IsAlive s u n
alive_counts s used count u n alive same many =
    subst (λ (x : ℕ). IsAlive s x n) (sym same) (subst (λ (x : ℕ). IsAlive s used x) (sym many) alive)
