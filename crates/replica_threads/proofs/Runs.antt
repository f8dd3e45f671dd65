-- What a run comes to, once all seats are together.
use Rattle.std.proofs.Common.{◌≡◌, ℕ, ◌+◌, ◌<◌, false, List, ◌∷◌, Some, None, length, map, get_or, All, inl, inr, sym}
use Rattle.std.proofs.Common.{◌∙◌, ap, subst, arith}
use Rattle.std.specs.Prelude.{slice_get}
use Rattle.std.specs.List.{flat_map}
use Rattle.std.specs.List.Sorted.{IsPermutation, IsNonDecreasingBy}
use Rattle.std.specs.Option.{option_map}
use Rattle.std.proofs.lemmas.List.{length-map}
use Rattle.std.proofs.lemmas.List.Folds.{flat_map-map}
use Rattle.std.proofs.lemmas.List.Sorted.{All-permutation, length_permutation}
use Rattle.std.proofs.lemmas.Option.{slice_get_cases, slice_get-map}
use Rattle.plain_lists.proofs.Members.{some_same, none_some}
use Rattle.protocol_rules.specs.Group.{Group}
use Rattle.history_rules.specs.Legal.{IsLegal}
use Rattle.history_laws.specs.Own.{IsOwnHistory}
use Rattle.world_rules.specs.Scenarios.{setup_of, actors_in}
use Rattle.world_rules.proofs.Fields.{group_is}
use Rattle.stamps.specs.Seats.{Source, Drawer, IsWhole, IsEachOnce}
use Rattle.world_history.specs.State.{BenchState}
use Rattle.world_history.specs.KeptState.{KeptState}
use Rattle.world_history.specs.Benches.{lists_of, IsBenchOf, AreOfAll}
use Rattle.station_turns.specs.Laws.{stamps_in, stamps_of}
use Rattle.station_turns.proofs.DrawnOnce.{drawn_once, run_is_legal}
use Rattle.station_turns.specs.Naming.{RunName}
use Rattle.replica_threads.specs.Ended.{IsActor, IsRun, IsDone, RunsStampOnce, HistoriesAreLegal}
use Rattle.replica_threads.proofs.Counted.{each_once_moved, placed, none_twice}
use Rattle.replica_threads.proofs.Joining.{AreJoined, number_of, stamps_by}

-- the element that an image at a place is of
record IsFrom {X Y : Type 0} (f : X → Y) (xs : List X) (i : ℕ) (y : Y) : Type 0 where
  x : X
  inside : i < length xs
  there : get_or xs i x ≡ x
  at : slice_get xs i ≡ Some x
  is : f x ≡ y

from_image : {X Y : Type 0} (f : X → Y) (xs : List X) (i : ℕ) (y : Y) →
    slice_get (map f xs) i ≡ Some y → IsFrom f xs i y
from_image {X} {Y} f xs i y image = elim (slice_get_cases xs i).1 [
  | inl found ↦ record {
    x = found.0;
    inside = found.1;
    there = found.3;
    at = found.2;
    is = some_same (ap (option_map f) (sym found.2) ∙ sym (slice_get-map f xs i) ∙ image);
  }
  | inr past ↦ let none : None ≡ Some y = ap (option_map f) (sym past.1) ∙ sym (slice_get-map f xs i) ∙ image in
      absurd (none_some none)
]

-- each actor is at the place of its number
pub record AreInOrder (name : RunName) (actors : List KeptState) : Type 0 where
  pub all : length actors ≡ actors_in name.scenario
  pub each : All (IsDone name) actors
  pub place : (d : KeptState) (i : ℕ) → i < length actors → (get_or actors i d).bench.actor ≡ i

-- a bench at a place is that of the place's actor
record IsThere (name : RunName) (actor : ℕ) (b : BenchState) : Type 0 where
  bench : IsBenchOf name.scenario actor b
  own : IsOwnHistory (setup_of name.scenario) actor b.list
  acts : IsActor name.scenario name.inputs name.turns actor b

is_there : (name : RunName) (actors : List KeptState) (actor : ℕ) (b : BenchState) → AreInOrder name actors →
    slice_get (map (λ k. k.bench) actors) actor ≡ Some b
    → IsThere name actor b
is_there name actors actor b order at =
    let from : IsFrom (λ (k : KeptState). k.bench) actors actor b =
    from_image (λ (k : KeptState). k.bench) actors actor b at in
    let k : KeptState = from.x in
    let done : IsDone name k = subst (IsDone name) from.there (order.each actor k from.inside) in
    let number : k.bench.actor ≡ actor = ap (λ (x : KeptState). x.bench.actor) (sym from.there)
    ∙ order.place k actor from.inside in
    subst (IsThere name actor) from.is
    (subst (λ (a : ℕ). IsThere name a k.bench) number (record { bench = done.bench; own = done.own; acts = done.acts }))

of_all : (name : RunName) (actors : List KeptState) → AreInOrder name actors →
    AreOfAll name.scenario (map (λ k. k.bench) actors)
of_all name actors order =
    let benches : List BenchState = map (λ (k : KeptState). k.bench) actors in record {
      each = λ actor b at. (is_there name actors actor b order at).bench;
      lists = record {
        all = length-map benches (λ (b : BenchState). b.list) ∙ length-map actors (λ (k : KeptState). k.bench)
            ∙ order.all
            ∙ ap (λ (g : Group). g.n + g.clients) (sym (group_is name.scenario));
        each = λ actor list at.
            let from : IsFrom (λ (b : BenchState). b.list) benches actor list =
            from_image (λ (b : BenchState). b.list) benches actor list at in
            subst (IsOwnHistory (setup_of name.scenario) actor) from.is
            (is_there name actors actor from.x order from.at).own;
      };
    }

-- the stamps of the actors' lists, actor by actor
stamps_are : (actors : List KeptState) → stamps_of (lists_of (map (λ k. k.bench) actors)) ≡ flat_map stamps_by actors
stamps_are actors =
    flat_map-map stamps_in (λ (b : BenchState). b.list) (map (λ (k : KeptState). k.bench) actors)
    ∙ flat_map-map (λ (b : BenchState). stamps_in b.list) (λ (k : KeptState). k.bench) actors

run_in_order : (name : RunName) (drawn : ℕ) (actors : List KeptState) → AreInOrder name actors →
    IsEachOnce drawn (flat_map stamps_by actors)
    → IsRun name.scenario name.inputs name.turns (map (λ k. k.bench) actors)
run_in_order name drawn actors order once = record {
  of_all = of_all name actors order;
  each = λ actor b at. (is_there name actors actor b order at).acts;
  drawn = drawn;
  once = subst (IsEachOnce drawn) (sym (stamps_are actors)) once;
}

-- all seats are in the first one
whole_first : (name : RunName) (source : Source) (first : Drawer) (many : ℕ) (actors : List KeptState) →
    AreJoined name source (many + 1) first actors → length actors ≡ many
    → IsWhole first
whole_first name source first many actors joined all =
    let every : length (0 ∷ map number_of actors) ≡ many + 1 = let size = length-map actors number_of in
    omega (arith, size, all) in
    ap length joined.numbers ∙ every ∙ sym joined.made_is

-- Once the stamps are closed, the actors in the order of their numbers are what the run comes to.
pub run_closed : (name : RunName) (source : Source) (first : Drawer) (drawn many : ℕ)
    (actors sorted : List KeptState) → AreJoined name source (many + 1) first actors
    → length actors ≡ many → many ≡ actors_in name.scenario → (IsWhole first → IsEachOnce drawn first.drawn) →
    (IsWhole first → IsEachOnce first.made first.numbers)
    → IsPermutation actors sorted → IsNonDecreasingBy (λ k. k.bench.actor) sorted →
    IsRun name.scenario name.inputs name.turns (map (λ k. k.bench) sorted)
run_closed name source first drawn many actors sorted joined all each_has draws numbers same rising =
    let whole : IsWhole first = whole_first name source first many actors joined all in
    let size : length sorted ≡ actors_in name.scenario = length_permutation actors sorted same ∙ all ∙ each_has in
    let each : All (IsDone name) sorted = All-permutation (IsDone name) actors sorted same joined.each in
    let once : IsEachOnce first.made (0 ∷ map number_of actors) =
    subst (IsEachOnce first.made) joined.numbers (numbers whole) in
    let places : (d : KeptState) (i : ℕ) → i < length sorted → (get_or sorted i d).bench.actor ≡ i =
    λ d i inside.
    placed (λ (k : KeptState). k.bench.actor) (actors_in name.scenario) sorted d size rising
    (none_twice (λ (k : KeptState). k.bench.actor) first.made 0 actors sorted same once)
    (λ j e below. (each j e below).there) i (omega (arith, inside, size)) in
    run_in_order name drawn sorted (record { all = size; each = each; place = places })
    (each_once_moved drawn stamps_by actors sorted same (subst (IsEachOnce drawn) joined.drawn (draws whole)))

pub all_work : (name : RunName) (actors sorted : List KeptState) → All (IsDone name) actors →
    IsPermutation actors sorted → All (λ k. k.is_spent ≡ false) sorted
all_work name actors sorted each same =
    λ i d inside. (All-permutation (IsDone name) actors sorted same each i d inside).works

pub runs_stamp_once : RunsStampOnce
runs_stamp_once c inputs turns benches run = drawn_once run.drawn (lists_of benches) run.once

pub histories_are_legal : HistoriesAreLegal
histories_are_legal c inputs turns history of =
    let run = of.run in
    subst (IsLegal (setup_of c)) (sym of.merged)
    (run_is_legal (setup_of c) run.drawn (lists_of of.benches) run.of_all.lists run.once)
