-- What is seen of a station that isn't given up.
use Rattle.std.proofs.Common.{◌≡◌, ℕ, ◌+◌, ◌<◌, ◌≤◌, ◌∷◌, ◌++◌, Bool, true, false, List, [], Option, inl, inr}
use Rattle.std.proofs.Common.{refl, sym, ◌∙◌, ap, subst, arith}
use Rattle.std.specs.Prelude.{IfSome}
use Rattle.std.specs.List.{list_all, slice_index_or}
use Rattle.message_types.specs.declared.signed.Signed.{Signed}
use Rattle.message_types.specs.declared.body.Body.{Body}
use Rattle.scenario_file.specs.Reading.{Contents}
use Rattle.history_rules.specs.Setup.{stands}
use Rattle.history_laws.proofs.EntryByEntry.{none_is_own}
use Rattle.world_rules.specs.Scenarios.{setup_of, actors_in}
use Rattle.stamps.specs.Seats.{Drawer}
use Rattle.world_history.specs.State.{BenchState, setup_in}
use Rattle.history_rules.specs.Events.{Event}
use Rattle.world_history.specs.KeptState.{KeptState, halted_in, first_state}
use Rattle.play_words.specs.declared.input.Input.{Input}
use Rattle.station_turns.specs.declared.held.Held.{Held}
use Rattle.station_turns.specs.declared.held.Turned.{Turned}
use Rattle.station_turns.specs.Pace.{fit_inputs, turns_made, inputs_used, begins}
use Rattle.station_turns.specs.Turns.{Stationed, IsAlive, HasSkipped, Enters, Turns}
use Rattle.station_turns.proofs.SkipsOfTurn.{skips_world}
use Rattle.station_turns.specs.Naming.{RunName, IsOf, IsOwn}
use Rattle.station_turns.proofs.CountsGrow.{no_turns, no_inputs, no_words}

-- a station with what it says of its memory
abbrev pub seen_as : Stationed → Bool → Stationed
seen_as s given_up = record s { given_up = given_up }

-- what is inside is what is seen
pub same_seen : (s now : Stationed) (given_up : Bool) → seen_as s given_up ≡ now →
    given_up ≡ false → seen_as s false ≡ now
same_seen s now given_up is working = ap (λ (g : Bool). seen_as s g) (sym working) ∙ is

pub not_given_up : (s now : Stationed) (given_up : Bool) → seen_as s given_up ≡ now →
    given_up ≡ false → now.given_up ≡ false
not_given_up s now given_up is working = sym (ap (λ (x : Stationed). x.given_up) is) ∙ working

-- what a turn is asked with
pub asked_running : (s now : Stationed) (given_up : Bool) → seen_as s given_up ≡ now → given_up ≡ false →
    (now.given_up ≡ false → halted_in now.kept.bench ≡ false) → halted_in s.kept.bench ≡ false
asked_running s now given_up is working running =
    ap (λ (x : Stationed). halted_in x.kept.bench) is ∙ running (not_given_up s now given_up is working)

pub asked_left : (s now : Stationed) (given_up : Bool) (used count : ℕ) (name : RunName) → seen_as s given_up ≡ now →
    given_up ≡ false → IsAlive s used count → IsOf name s
    → (now.given_up ≡ false → turns_made now.kept.bench.list < name.turns) → count < s.turns
asked_left s now given_up used count name is working alive one left =
    let few = left (not_given_up s now given_up is working) in
    omega (arith, few, alive.count_is, ap (λ (x : Stationed). turns_made x.kept.bench.list) is, one.turns)

pub asked_stands : (s : Stationed) (name : RunName) (held : Option Held) → IsOf name s →
    IfSome held (λ h. stands (setup_of name.scenario) h.frame ≡ true)
    → IfSome held (λ h. stands (setup_in s.kept.bench) h.frame ≡ true)
asked_stands s name held one well = subst (λ (w : Contents). IfSome held (λ h. stands (setup_of w) h.frame ≡ true))
    (sym one.world) well

-- what stands in an actor's scenario stands in its run's
pub stand_seen : (s : Stationed) (name : RunName) (cries : Bool) (frames : List (Signed Body)) → IsOf name s
    → (cries ≡ false → list_all (stands (setup_in s.kept.bench)) frames ≡ true) → cries ≡ false →
    list_all (stands (setup_of name.scenario)) frames ≡ true
stand_seen s name cries frames one all none =
    subst (λ (w : Contents). list_all (stands (setup_of w)) frames ≡ true) one.world (all none)

-- what a turn gives
pub turned_seen : (s now new : Stationed) (given_up : Bool) (held : Option Held) (t : Turned) →
    seen_as s given_up ≡ now → given_up ≡ false → Turns (seen_as s false) held t new → Turns now held t new
turned_seen s now new given_up held t is working turns =
    subst (λ (x : Stationed). Turns x held t new) (same_seen s now given_up is working) turns

pub alive_seen : (s now : Stationed) (given_up : Bool) (used count : ℕ) → seen_as s given_up ≡ now →
    given_up ≡ false → IsAlive s used count
    → IsAlive now (inputs_used now.kept.bench.list) (turns_made now.kept.bench.list)
alive_seen s now given_up used count is working alive =
    subst (λ (x : Stationed). IsAlive x (inputs_used x.kept.bench.list) (turns_made x.kept.bench.list)) is
    (subst (λ (u : ℕ). IsAlive (seen_as s given_up) u (turns_made s.kept.bench.list)) alive.used_is
    (subst (λ (n : ℕ). IsAlive (seen_as s given_up) used n) alive.count_is
    (record {
      steady = record {
        works = alive.steady.works;
        unspent = alive.steady.unspent;
        signed = alive.steady.signed;
        there = alive.steady.there;
        number = alive.steady.number;
        alone = alive.steady.alone;
        stamps =
            alive.steady.stamps;
        own = alive.steady.own;
        inputs = alive.steady.inputs;
      };
      paced = alive.paced;
      used_is = alive.used_is;
      count_is = alive.count_is;
      made = alive.made;
      most = alive.most;
      short = alive.short;
    })))

pub of_seen : (s now : Stationed) (given_up : Bool) (name : RunName) → seen_as s given_up ≡ now →
    IsOf name s → IsOf name now
of_seen s now given_up name is one =
    subst (λ (x : Stationed). IsOf name x) is
    (record { world = one.world; inputs = one.inputs; turns = one.turns; source = one.source })

-- an actor before its first turn
pub begins_alive : (c : Contents) (actor turns : ℕ) (seat : Drawer) (inputs : List Input) → actor < actors_in c →
    seat.number ≡ actor + 1 → seat.numbers ≡ seat.number ∷ [] → seat.drawn ≡ []
    → fit_inputs c actor inputs ≡ true → turns ≤ 4000
    → IsAlive (record { kept = first_state c actor; seat = seat; inputs = inputs; turns = turns; given_up = false }) 0 0
begins_alive c actor turns seat inputs there number alone drawn fit few = record {
  steady = record {
    works = refl;
    unspent = refl;
    signed = sym (no_words inputs);
    there = there;
    number = number;
    alone = alone;
    stamps = drawn;
    own = none_is_own (setup_of c) actor;
    inputs = fit;
  };
  paced = begins;
  used_is = sym no_inputs;
  count_is = sym no_turns;
  made = omega arith;
  most = few;
  short = λ running. omega arith;
}

pub begins_station : (name : RunName) (c : Contents) (actor turns : ℕ) (seat : Drawer) (inputs : List Input)
    (k : KeptState) → k ≡ first_state c actor → actor < actors_in c → c ≡ name.scenario
    → (seat.number ≡ actor + 1) × (seat.numbers ≡ seat.number ∷ []) × (seat.drawn ≡ []) → seat.of ≡ name.source →
    inputs ≡ slice_index_or name.inputs actor [] → fit_inputs c actor inputs ≡ true
    → (turns ≡ name.turns) × (turns ≤ 4000)
    → IsAlive (record { kept = k; seat = seat; inputs = inputs; turns = turns; given_up = false }) 0 0
    × IsOf name (record { kept = k; seat = seat; inputs = inputs; turns = turns; given_up = false })
begins_station name c actor turns seat inputs k is there scenario number source given fit few = (
  subst (λ (x : KeptState). IsAlive
      (record { kept = x; seat = seat; inputs = inputs; turns = turns; given_up = false }) 0 0) (sym is)
      (begins_alive c actor turns seat inputs there number.0 number.1 number.2 fit few.1),
  subst (λ (x : KeptState). IsOf name
      (record { kept = x; seat = seat; inputs = inputs; turns = turns; given_up = false })) (sym is)
      (record { world = scenario; inputs = given; turns = few.0; source = source }),
)

-- A turn leaves a station in its run.

of_skipped : (name : RunName) (old new : Stationed) (held : Option Held) (skips more : List ℕ) →
    HasSkipped old held skips more new → IsOf name old → IsOf name new
of_skipped name old new held skips more has one =
    let same = skips_world old.kept.bench skips in
    record {
      world = ap (λ (b : BenchState). b.world) has.bench ∙ same.0 ∙ one.world;
      inputs = has.inputs ∙ one.inputs ∙ ap (λ (a : ℕ). slice_index_or name.inputs a [])
          (sym (ap (λ (b : BenchState). b.actor) has.bench ∙ same.1));
      turns = has.turns ∙ one.turns;
      source = ap (λ (d : Drawer). d.of) has.seat ∙ one.source;
    }

of_entered : (name : RunName) (mid new : Stationed) (stamp : ℕ) (event : Event) (t : Turned) →
    Enters mid stamp event t new → IsOf name mid → IsOf name new
of_entered name mid new stamp event t enters one = record {
  world = ap (λ (b : BenchState). b.world) enters.bench ∙ one.world;
  inputs = enters.inputs ∙ one.inputs ∙ ap (λ (a : ℕ). slice_index_or name.inputs a [])
      (sym (ap (λ (b : BenchState). b.actor) enters.bench));
  turns = enters.turns ∙ one.turns;
  source = ap (λ (d : Drawer). d.of) enters.seat ∙ one.source;
}

pub of_turned : (name : RunName) (old new : Stationed) (held : Option Held) (t : Turned) → Turns old held t new →
    IsOf name old → IsOf name new
of_turned name old new held t (inl cut) one =
    of_skipped name old new held (cut.draws.skips ++ t.stamp ∷ []) [] cut.draws.skipped one
of_turned name old new held t (inr adds) one =
    of_entered name adds.mid new adds.stamp _ t adds.enters
    (of_skipped name old adds.mid held adds.draws.skips (adds.stamp ∷ []) adds.draws.skipped one)

-- A turn leaves a station its actor's.

actor_skipped : (old new : Stationed) (held : Option Held) (skips more : List ℕ) → HasSkipped old held skips more new →
    new.kept.bench.actor ≡ old.kept.bench.actor
actor_skipped old new held skips more has = ap (λ (b : BenchState). b.actor) has.bench
    ∙ (skips_world old.kept.bench skips).1

pub actor_turned : (old new : Stationed) (held : Option Held) (t : Turned) → Turns old held t new →
    new.kept.bench.actor ≡ old.kept.bench.actor
actor_turned old new held t (inl cut) = actor_skipped old new held (cut.draws.skips ++ t.stamp ∷ []) [] cut.draws.skipped
actor_turned old new held t (inr adds) =
    ap (λ (b : BenchState). b.actor) adds.enters.bench
    ∙ actor_skipped old adds.mid held adds.draws.skips (adds.stamp ∷ []) adds.draws.skipped

-- whose it is
pub whose_seen : (s now : Stationed) (given_up : Bool) → seen_as s given_up ≡ now →
    s.kept.bench.actor ≡ now.kept.bench.actor
whose_seen s now given_up is = ap (λ (x : Stationed). x.kept.bench.actor) is

pub own_before : (s now : Stationed) (given_up : Bool) (used count : ℕ) (name : RunName) → seen_as s given_up ≡ now →
    IsAlive s used count → IsOf name s → IsOwn name now.kept.bench.actor now
own_before s now given_up used count name is alive one = record {
  of = of_seen s now given_up name is one;
  whose = refl;
  seat = sym (ap (λ (x : Stationed). x.seat.number) is) ∙ alive.steady.number
      ∙ ap (λ (a : ℕ). a + 1) (whose_seen s now given_up is);
}

pub own_after : (name : RunName) (old new : Stationed) (held : Option Held) (t : Turned) (used count : ℕ) →
    Turns old held t new → IsAlive new used count → IsOf name new → IsOwn name old.kept.bench.actor new
own_after name old new held t used count turns alive one =
    let same = actor_turned old new held t turns in
    record { of = one; whose = same; seat = alive.steady.number ∙ ap (λ (a : ℕ). a + 1) same }

-- what a station tells while it isn't given up

works_inside : (s now : Stationed) (given_up : Bool) → seen_as s given_up ≡ now →
    now.given_up ≡ false → given_up ≡ false
works_inside s now given_up is working = ap (λ (x : Stationed). x.given_up) is ∙ working

pub count_seen : (s now : Stationed) (given_up : Bool) (used count : ℕ) (name : RunName) → seen_as s given_up ≡ now →
    (given_up ≡ false → IsAlive s used count × IsOf name s) → now.given_up ≡ false
    → count ≡ turns_made now.kept.bench.list
count_seen s now given_up used count name is lives working =
    (lives (works_inside s now given_up is working)).0.count_is
    ∙ ap (λ (x : Stationed). turns_made x.kept.bench.list) is

pub most_seen : (s now : Stationed) (given_up : Bool) (used count : ℕ) (name : RunName) → seen_as s given_up ≡ now →
    (given_up ≡ false → IsAlive s used count × IsOf name s) → now.given_up ≡ false
    → count ≤ name.turns
most_seen s now given_up used count name is lives working =
    let now_lives = lives (works_inside s now given_up is working) in
    let made = now_lives.0.made in
    omega (arith, now_lives.1.turns)

pub halt_seen : (s now : Stationed) (given_up : Bool) (used count : ℕ) (name : RunName) (halted : Bool) →
    seen_as s given_up ≡ now → (given_up ≡ false → IsAlive s used count × IsOf name s)
    → (s.kept.is_spent ≡ false → halted ≡ halted_in s.kept.bench) → now.given_up ≡ false →
    halted ≡ halted_in now.kept.bench
halt_seen s now given_up used count name halted is lives tells working =
    tells (lives (works_inside s now given_up is working)).0.steady.works
    ∙ ap (λ (x : Stationed). halted_in x.kept.bench) is

pub there_seen : (s now : Stationed) (given_up : Bool) (used count : ℕ) (name : RunName) → seen_as s given_up ≡ now →
    (given_up ≡ false → IsAlive s used count × IsOf name s) → now.given_up ≡ false
    → now.kept.bench.actor < actors_in name.scenario
there_seen s now given_up used count name is lives working =
    let live = lives (works_inside s now given_up is working) in
    subst (λ (a : ℕ). a < actors_in name.scenario) (whose_seen s now given_up is)
    (subst (λ (w : Contents). s.kept.bench.actor < actors_in w) live.1.world live.0.steady.there)

pub lives_seen : (s now : Stationed) (given_up : Bool) (used count : ℕ) (name : RunName) → seen_as s given_up ≡ now →
    (given_up ≡ false → IsAlive s used count × IsOf name s) → now.given_up ≡ false
    → IsAlive now (inputs_used now.kept.bench.list) (turns_made now.kept.bench.list) × IsOf name now
lives_seen s now given_up used count name is lives working =
    let off = works_inside s now given_up is working in
    (alive_seen s now given_up used count is off (lives off).0, of_seen s now given_up name is (lives off).1)
