-- A run in which the actors make their turns one after another, each all of its own, and nothing is taken.
use Rattle.std.proofs.Common.{◌≡◌, ℕ, zero, suc, ◌+◌, ◌<◌, ◌≤◌, true, false, List, [], ◌∷◌, ◌++◌, Some, length, map}
use Rattle.std.proofs.Common.{refl, sym, ◌∙◌, ap, subst, arith}
use Rattle.std.specs.Prelude.{slice_get}
use Rattle.std.specs.List.{slice_index_or}
use Rattle.std.proofs.lemmas.List.{length-map, length_push}
use Rattle.plain_lists.proofs.Members.{some_same, none_some}
use Rattle.play_words.specs.declared.input.Input.{Input}
use Rattle.protocol_rules.specs.Group.{Group}
use Rattle.scenario_file.specs.Reading.{Contents}
use Rattle.history_rules.specs.Counts.{merged}
use Rattle.history_rules.specs.Events.{Entry}
use Rattle.history_laws.specs.Own.{IsOwnHistory}
use Rattle.world_rules.specs.Scenarios.{setup_of, actors_in}
use Rattle.world_rules.proofs.Fields.{group_is}
use Rattle.stamps.specs.Seats.{IsEachOnce}
use Rattle.world_history.specs.State.{BenchState}
use Rattle.world_history.specs.Benches.{lists_of, IsBenchOf, AreOfAll}
use Rattle.station_turns.specs.Laws.{stamps_of}
use Rattle.station_turns.specs.Pace.{bench_after}
use Rattle.replica_threads.specs.Courses.{AreFit}
use Rattle.replica_threads.specs.Ended.{IsActor, IsRun}
use Rattle.replica_threads.proofs.Fitting.{given_are_fit}
use Rattle.run_laws.specs.Laws.{RunsExist, ScriptsHaveRuns}
use Rattle.run_laws.proofs.StampsDrawn.{none_drawn, stamps_of_push}
use Rattle.run_laws.proofs.TurnsAlone.{IsAlone, alone}

-- what holds of each element at its place holds with one more at the end
each_push : {X : Type 0} (P : ℕ → X → Type 0) (xs : List X) (y : X) →
    ((k : ℕ) (x : X) → slice_get xs k ≡ Some x → P k x) → P (length xs) y
    → (k : ℕ) (x : X) → slice_get (xs ++ y ∷ []) k ≡ Some x → P k x
each_push P [] y each last zero x at = subst (P 0) (some_same at) last
each_push P [] y each last (suc k) x at = absurd (none_some at)
each_push P (z ∷ zs) y each last zero x at = each 0 x at
each_push P (z ∷ zs) y each last (suc k) x at =
    each_push (λ i. P (suc i)) zs y (λ i w there. each (suc i) w there) last k x at

-- the element that an image at a place is of
image_of : {X Y : Type 0} (f : X → Y) (xs : List X) (k : ℕ) (y : Y) → slice_get (map f xs) k ≡ Some y →
    (x : X) × (slice_get xs k ≡ Some x) × (f x ≡ y)
image_of f [] k y at = absurd (none_some at)
image_of f (x ∷ xs) zero y at = (x, refl, some_same at)
image_of f (x ∷ xs) (suc k) y at = image_of f xs k y at

-- a bench of the actor, which made its turns
record HasMade (c : Contents) (inputs : List (List Input)) (count actor : ℕ) (b : BenchState) : Type 0 where
  bench : IsBenchOf c actor b
  own : IsOwnHistory (setup_of c) actor b.list
  acts : IsActor c inputs count actor b

-- benches of the first so many actors
record HaveMade (c : Contents) (inputs : List (List Input)) (count actors : ℕ) : Type 0 where
  benches : List BenchState
  all : length benches ≡ actors
  each : (actor : ℕ) (b : BenchState) → slice_get benches actor ≡ Some b → HasMade c inputs count actor b
  drawn : ℕ
  once : IsEachOnce drawn (stamps_of (lists_of benches))

made_by : (c : Contents) (inputs : List (List Input)) (count actor : ℕ) (drawn : List ℕ)
    (a : IsAlone c actor (slice_index_or inputs actor []) count drawn) →
    HasMade c inputs count actor (bench_after c actor (slice_index_or inputs actor []) a.list)
made_by c inputs count actor drawn a = record {
  bench = record { world = refl; actor_is = refl; works = refl };
  own = a.own;
  acts = record { paced = a.paced; most = a.most; whole = a.whole };
}

-- the next actor draws the stamps behind those of all before it
one_more : (c : Contents) (inputs : List (List Input)) (count actors : ℕ) → AreFit c inputs → actors < actors_in c →
    HaveMade c inputs count actors → HaveMade c inputs count (suc actors)
one_more c inputs count actors fit below have =
    let own : List Input = slice_index_or inputs actors [] in
    let a : IsAlone c actors own count (stamps_of (lists_of have.benches)) =
    alone c actors have.drawn own (stamps_of (lists_of have.benches)) (fit.each actors below) have.once count in
    let b = bench_after c actors own a.list in
    record {
      benches = have.benches ++ b ∷ [];
      all = length_push have.benches b ∙ omega (arith, have.all);
      each = each_push (HasMade c inputs count) have.benches b have.each
          (subst (λ (n : ℕ). HasMade c inputs count n b) (sym have.all)
          (made_by c inputs count actors (stamps_of (lists_of have.benches)) a));
      drawn = a.next;
      once = subst (IsEachOnce a.next) (sym (stamps_of_push have.benches b)) a.once;
    }

so_many : (c : Contents) (inputs : List (List Input)) (count : ℕ) → AreFit c inputs → (actors : ℕ) →
    actors ≤ actors_in c → HaveMade c inputs count actors
so_many c inputs count fit zero few = record {
  benches = [];
  all = refl;
  each = λ actor b at. absurd (none_some at);
  drawn = 0;
  once = none_drawn;
}
so_many c inputs count fit (suc actors) few =
    one_more c inputs count actors fit (omega (arith, few))
    (so_many c inputs count fit actors (omega (arith, few)))

-- all of them are a run
all_are : (c : Contents) (inputs : List (List Input)) (count : ℕ) → (have : HaveMade c inputs count (actors_in c)) →
    IsRun c inputs count have.benches
all_are c inputs count have = record {
  of_all = record {
    each = λ actor b at. (have.each actor b at).bench;
    lists = record {
      all = length-map have.benches (λ (b : BenchState). b.list) ∙ have.all
          ∙ ap (λ (g : Group). g.n + g.clients) (sym (group_is c));
      each = λ actor list at.
          let from = image_of (λ (b : BenchState). b.list) have.benches actor list at in
          subst (IsOwnHistory (setup_of c) actor) from.2 (have.each actor from.0 from.1).own;
    };
  };
  each = λ actor b at. (have.each actor b at).acts;
  drawn = have.drawn;
  once = have.once;
}

pub runs_exist : RunsExist
runs_exist c inputs count fit =
    let have : HaveMade c inputs count (actors_in c) = so_many c inputs count fit (actors_in c) (omega arith) in (
      merged (lists_of have.benches),
      record { benches = have.benches; run = all_are c inputs count have; merged = refl },
    )

pub scripts_have_runs : ScriptsHaveRuns
scripts_have_runs c lines sayings count lines_are sayings_are =
    runs_exist c _ count (given_are_fit c lines sayings lines_are sayings_are)
