-- The actors at hand, and their benches.
use Rattle.std.proofs.Common.{◌≡◌, ℕ, ◌<◌, true, ◌&&◌, List, [], ◌∷◌, ◌++◌, Option, Some, None, length, map, get_or, set}
use Rattle.std.proofs.Common.{nat_eq, refl, sym, ◌∙◌, ap, arith}
use Rattle.std.proofs.lemmas.Bool.{and_parts, eq-eqb}
use Rattle.std.proofs.lemmas.List.Folds.{list_all-append}
use Rattle.std.specs.List.{list_all}
use Rattle.scenario_file.specs.declared.held.HeldKeys.{HeldKeys}
use Rattle.scenario_file.specs.declared.scenario.Scenario.{Scenario}
use Rattle.scenario_file.specs.Reading.{Contents, contents, with_held}
use Rattle.scenario_file.specs.Valid.{IsScenario}
use Rattle.history_rules.specs.Events.{Entry}
use Rattle.quorum_sets.proofs.Numbered.{numbered_set, length-numbered}
use Rattle.world_history.specs.State.{BenchState}
use Rattle.world_history.specs.Benches.{bench_in, benches_of}
use Rattle.world_history.proofs.HistoryReplays.{bench_at}
use Rattle.world_rules.specs.Scenarios.{actors_in}
use Rattle.printed_history.specs.declared.reading.SoFar.{SoFar}
use Rattle.printed_history.specs.Reading.{contents_in, is_among, is_at_hand, place_of, those_of, IsBegun, IsSoFar}

-- Who knows the scenario by the keys that are held knows a scenario.
pub seeded_scenario : (s : Scenario) (held : Option HeldKeys) → IsScenario (with_held (contents s) held) →
    IsScenario (contents s)
seeded_scenario s held is = record {
  group = is.group;
  seed = is.seed;
  some_levels = is.some_levels;
  at_most_three_levels = is.at_most_three_levels;
  heights = is.heights;
  some_frames = is.some_frames;
  at_most_two_frames = is.at_most_two_frames;
  intruded = is.intruded;
  intruded_rise = is.intruded_rise;
  some_screens = is.some_screens;
  at_most_four_screens = is.at_most_four_screens;
  plant = is.plant;
  devices = is.devices;
  points = is.points;
  alarms = is.alarms;
  interlocks = is.interlocks;
  points_differ = is.points_differ;
  alarms_differ = is.alarms_differ;
  interlocks_differ = is.interlocks_differ;
  failing = is.failing;
  failing_calls = is.failing_calls;
  intruded_keep_all = is.intruded_keep_all;
  held = λ keys is. absurd (cc);
}

-- the only one
pub the_one : (actor one : ℕ) → nat_eq actor one ≡ true → actor ≡ one
the_one actor one own = grind (arith, own)

-- ---- Their benches.

-- there is a bench at an actor's place
pub place_within : (c : Contents) (history : List Entry) (only : Option ℕ) (actor : ℕ) (benches : List BenchState) →
    actor < actors_in c → benches ≡ map (bench_in c history) (those_of c only) → place_of only actor < length benches
place_within c history None actor benches there are =
    let size : length benches ≡ actors_in c = ap length are ∙ length-numbered (bench_in c history) (actors_in c) in
    omega arith
place_within c history (Some one) actor benches there are =
    let size : length benches ≡ 1 = ap length are in
    omega arith

-- and it is the actor's
pub bench_placed : (c : Contents) (history : List Entry) (only : Option ℕ) (actor place : ℕ) (benches : List BenchState)
    (b : BenchState) → actor < actors_in c → is_among only actor ≡ true →
    benches ≡ map (bench_in c history) (those_of c only) → place ≡ place_of only actor → b ≡ get_or benches place b →
    b ≡ bench_in c history actor
bench_placed c history None actor place benches b there own are here at =
    bench_at c history actor benches b there are (at ∙ ap (λ (p : ℕ). get_or benches p b) here)
bench_placed c history (Some one) actor place benches b there own are here at =
    at ∙ (λ i. get_or (are i) (here i) b) ∙ ap (bench_in c history) (sym (the_one actor one own))

-- with another bench at that place alone they are those of another history
pub benches_set : (c : Contents) (before after : List Entry) (only : Option ℕ) (actor place : ℕ)
    (old new : List BenchState) (grown : BenchState) → actor < actors_in c → is_among only actor ≡ true →
    old ≡ map (bench_in c before) (those_of c only) → place ≡ place_of only actor → grown ≡ bench_in c after actor →
    new ≡ set old place grown →
    ((other : ℕ) → (other ≡ actor → ⊥) → bench_in c before other ≡ bench_in c after other) →
    new ≡ map (bench_in c after) (those_of c only)
benches_set c before after None actor place old new grown there own are here made put others =
    put ∙ (λ j. set (are j) (here j) (made j))
    ∙ numbered_set (bench_in c before) (bench_in c after) (actors_in c) actor there others
benches_set c before after (Some one) actor place old new grown there own are here made put others =
    put ∙ (λ j. set (are j) (here j) (made j)) ∙ ap (λ (a : ℕ). bench_in c after a ∷ []) (the_one actor one own)

-- What stands at a place is the bench of an actor at hand.
pub record IsItsBench (r : SoFar) (actor place : ℕ) (b : BenchState) : Type 0 where
  pub own : is_at_hand r actor ≡ true
  pub here : place ≡ place_of r.only actor
  pub found : b ≡ get_or r.benches.items place b

pub its_bench : (r : SoFar) (actor place : ℕ) (b : BenchState) → IsSoFar r → actor < actors_in (contents_in r) →
    IsItsBench r actor place b → b ≡ bench_in (contents_in r) r.history actor
its_bench r actor place b is there its =
    bench_placed (contents_in r) r.history r.only actor place r.benches.items b there its.own is.are_benches its.here
    its.found

-- where all are at hand, each has its bench
pub whole_benches : (c : Contents) (r : SoFar) → IsSoFar r → contents_in r ≡ c → r.only ≡ None →
    r.benches.items ≡ benches_of c r.history
whole_benches c r is same all =
    is.are_benches ∙ (λ i. map (bench_in (same i) r.history) (those_of (same i) (all i)))

-- ---- Before the first entry.

-- the one actor that was begun is at hand
pub begun_own : (c : Contents) (actor : ℕ) (r : SoFar) → IsBegun c (Some actor) r → is_at_hand r actor ≡ true
begun_own c actor r begun = ap (λ (only : Option ℕ). is_among only actor) begun.at_hand ∙ eq-eqb actor actor refl

-- and so are all where none was chosen
pub all_own : (actor : ℕ) (r : SoFar) → r.only ≡ None → is_at_hand r actor ≡ true
all_own actor r all = ap (λ (only : Option ℕ). is_among only actor) all

-- ---- Their entries.

pub theirs_more : (only : Option ℕ) (list : List Entry) (e : Entry) →
    list_all (λ x. is_among only x.actor) list ≡ true → is_among only e.actor ≡ true →
    list_all (λ x. is_among only x.actor) (list ++ e ∷ []) ≡ true
theirs_more only list e all own =
    list_all-append (λ (x : Entry). is_among only x.actor) list (e ∷ [])
    ∙ ap (λ b. b && (is_among only e.actor && true)) all
    ∙ ap (λ b. b && true) own

pub last_theirs : (only : Option ℕ) (list before : List Entry) (e : Entry) →
    list_all (λ x. is_among only x.actor) list ≡ true → list ≡ before ++ e ∷ [] → is_among only e.actor ≡ true
last_theirs only list before e all is =
    let split : (list_all (λ (x : Entry). is_among only x.actor) before && (is_among only e.actor && true)) ≡ true =
    sym (list_all-append (λ (x : Entry). is_among only x.actor) before (e ∷ []))
    ∙ ap (list_all (λ (x : Entry). is_among only x.actor)) (sym is) ∙ all in
    let behind = and_parts (list_all (λ (x : Entry). is_among only x.actor) before) (is_among only e.actor && true)
    split in
    (and_parts (is_among only e.actor) true behind.1).0
