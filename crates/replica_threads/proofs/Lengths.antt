-- How many entries a run can have.
use Rattle.std.proofs.Common.{◌≡◌, ℕ, ◌+◌, ◌*◌, ◌^◌, ◌<◌, ◌≤◌, true, false, List, [], ◌∷◌, ◌++◌}
use Rattle.std.proofs.Common.{Some, length, refl, sym, ◌∙◌, ap, append_assoc, append-nil, arith}
use Rattle.std.specs.Prelude.{slice_get}
use Rattle.std.specs.List.{flat_map, list_all, slice_index_or}
use Rattle.std.specs.Option.{option_map}
use Rattle.std.proofs.lemmas.Bool.{true≢false, and_parts}
use Rattle.std.proofs.lemmas.List.{length-append, length-map, length_push}
use Rattle.std.proofs.lemmas.Option.{slice_get-map}
use Rattle.protocol_rules.specs.Group.{Group}
use Rattle.play_words.specs.declared.input.Input.{Input}
use Rattle.scenario_file.specs.Reading.{Contents}
use Rattle.scenario_file.specs.Valid.{IsScenario}
use Rattle.history_rules.specs.Events.{Entry}
use Rattle.history_rules.specs.Keeping.{is_halted}
use Rattle.history_rules.specs.Counts.{stamped, merged}
use Rattle.history_rules.specs.Legal.{Stands}
use Rattle.history_laws.specs.Own.{IsOwnHistory, HasEachStampOnce}
use Rattle.world_rules.specs.Scenarios.{setup_of, actors_in}
use Rattle.world_rules.proofs.Fields.{group_is}
use Rattle.world_history.specs.State.{BenchState}
use Rattle.world_history.proofs.Addressed.{few_actors}
use Rattle.world_history.specs.Benches.{lists_of}
use Rattle.station_turns.specs.Pace.{is_skip, turns_made, IsPaced, begins, turns, halts}
use Rattle.station_turns.proofs.CountsGrow.{turn_more, turn_same}
use Rattle.replica_threads.specs.Ended.{IsActor, IsRun}
use Rattle.replica_threads.proofs.Numbers.{one_each, few_in_all}

-- skips are no turns
skips_same : (before skips : List Entry) → list_all (λ e. is_skip e.event) skips ≡ true →
    turns_made (before ++ skips) ≡ turns_made before
skips_same before [] all = ap turns_made (append-nil before)
skips_same before (e ∷ skips) all =
    let parts = and_parts (is_skip e.event) (list_all (λ (x : Entry). is_skip x.event) skips) all in
    ap turns_made (sym (append_assoc before (e ∷ []) skips))
    ∙ skips_same (before ++ e ∷ []) skips parts.1
    ∙ turn_same before e parts.0

-- the actor wasn't halted by any of its entries but the last
abbrev Runs : Contents → ℕ → List Entry → Type 0
Runs c actor list = (before : List Entry) (e : Entry) → Stands list before e →
    is_halted (setup_of c) actor before ≡ false

-- so it is of the entries before some others
runs_before : (c : Contents) (actor : ℕ) (before rest list : List Entry) → list ≡ before ++ rest →
    Runs c actor list → Runs c actor before
runs_before c actor before rest list is runs = λ first e at.
    runs first e (record {
      after = at.after ++ rest;
      whole = is ∙ ap (λ (es : List Entry). es ++ rest) at.whole
          ∙ append_assoc first (e ∷ at.after) rest;
    })

runs_at : (c : Contents) (actor : ℕ) (before rest list : List Entry) (e : Entry) → list ≡ before ++ e ∷ rest →
    Runs c actor list → is_halted (setup_of c) actor before ≡ false
runs_at c actor before rest list e is runs = runs before e (record { after = rest; whole = is })

-- before skips and one entry more
runs_to : (c : Contents) (actor : ℕ) (before skips list : List Entry) (e : Entry) → list ≡ (before ++ skips)
    ++ e ∷ [] → Runs c actor list → is_halted (setup_of c) actor before ≡ false
runs_to c actor before [] list e is runs =
    runs_at c actor before [] list e (is ∙ ap (λ (es : List Entry). es ++ e ∷ []) (append-nil before)) runs
runs_to c actor before (s ∷ skips) list e is runs =
    runs_at c actor before (skips ++ e ∷ []) list s (is ∙ append_assoc before (s ∷ skips) (e ∷ [])) runs

turn_length : (before skips list : List Entry) (e : Entry) → list ≡ (before ++ skips) ++ e ∷ [] →
    length list ≡ length before + length skips + 1
turn_length before skips list e is = ap length is ∙ length_push (before ++ skips) e
    ∙ ap (λ (n : ℕ). n + 1) (length-append before skips)

turn_count : (before skips list : List Entry) (e : Entry) → list_all (λ x. is_skip x.event) skips ≡ true →
    is_skip e.event ≡ false → list ≡ (before ++ skips) ++ e ∷ []
    → turns_made list ≡ turns_made before + 1
turn_count before skips list e all other is = ap turns_made is ∙ turn_more (before ++ skips) e other
    ∙ ap (λ (n : ℕ). n + 1) (skips_same before skips all)

-- a list that goes turn by turn, while the actor runs
running_length : (c : Contents) (actor : ℕ) (inputs : List Input) {list : List Entry} → IsPaced c actor inputs list →
    Runs c actor list → is_halted (setup_of c) actor list ≡ false
    → length list ≤ 17 * turns_made list
running_length c actor inputs begins runs running = omega arith
running_length c actor inputs (turns before skips e list paced few other follows is) runs running =
    let rest = running_length c actor inputs paced
    (runs_before c actor before (skips ++ e ∷ []) list (is ∙ append_assoc before skips (e ∷ [])) runs)
    (runs_to c actor before skips list e is runs) in
    omega (arith, rest, few.few, turn_length before skips list e is, turn_count before skips list e few.all other is)
running_length c actor inputs (halts before skips list paced few halted is) runs running =
    absurd (true≢false (sym halted ∙ ap (is_halted (setup_of c) actor) (sym is) ∙ running))

-- and once it is halted
pub paced_length : (c : Contents) (actor : ℕ) (inputs : List Input) {list : List Entry} →
    IsPaced c actor inputs list → Runs c actor list
    → length list ≤ 17 * turns_made list + 16
paced_length c actor inputs begins runs = omega arith
paced_length c actor inputs (turns before skips e list paced few other follows is) runs =
    let rest =
    running_length c actor inputs paced
    (runs_before c actor before (skips ++ e ∷ []) list (is ∙ append_assoc before skips (e ∷ [])) runs)
    (runs_to c actor before skips list e is runs) in
    omega (arith, rest, few.few, turn_length before skips list e is, turn_count before skips list e few.all other is)
paced_length c actor inputs (halts before [] list paced few halted is) runs =
    let same : list ≡ before = is ∙ append-nil before in
    let rest = paced_length c actor inputs paced (runs_before c actor before [] list is runs) in
    omega (arith, rest, ap length same, ap turns_made same)
paced_length c actor inputs (halts before (s ∷ skips) list paced few halted is) runs =
    let rest = running_length c actor inputs paced (runs_before c actor before (s ∷ skips) list is runs)
    (runs_at c actor before skips list s is runs) in
    omega (
      arith,
      rest,
      few.few,
      ap length is,
      length-append before (s ∷ skips),
      ap turns_made is,
      skips_same before (s ∷ skips) few.all,
    )

-- the list of a run's actor
actor_length : (c : Contents) (inputs : List (List Input)) (most actor : ℕ) (b : BenchState) →
    IsActor c inputs most actor b → IsOwnHistory (setup_of c) actor b.list → most ≤ 4000
    → length b.list ≤ 68016
actor_length c inputs most actor b is own few =
    let long = paced_length c actor (slice_index_or inputs actor []) is.paced
    (λ before e at. (own.entries before e at).running) in
    omega (arith, long, is.most, few)

list_at : (benches : List BenchState) (actor : ℕ) (b : BenchState) → slice_get benches actor ≡ Some b →
    slice_get (lists_of benches) actor ≡ Some b.list
list_at benches actor b at = slice_get-map (λ (x : BenchState). x.list) benches actor
    ∙ ap (option_map (λ (x : BenchState). x.list)) at

-- lists as one, before they are in the order of their stamps
abbrev joined : List BenchState → List Entry
joined benches = flat_map (λ (list : List Entry). list) (lists_of benches)

joined_of : (benches : List BenchState) → joined benches ≡ flat_map (λ b. b.list) benches
joined_of [] = refl
joined_of (b ∷ benches) = ap (λ (es : List Entry). b.list ++ es) (joined_of benches)

merged_length : (lists : List (List Entry)) → HasEachStampOnce lists →
    length (merged lists) ≡ length (flat_map (λ list. list) lists)
merged_length lists once = one_each (stamped lists) (length (flat_map (λ (list : List Entry). list) lists)) once

-- the history of a run is short
pub run_is_short : (c : Contents) (inputs : List (List Input)) (most : ℕ) (benches : List BenchState) → IsScenario c →
    most ≤ 4000 → IsRun c inputs most benches
    → HasEachStampOnce (lists_of benches) → length (merged (lists_of benches)) < 2 ^ 32
run_is_short c inputs most benches valid few run once =
    let each : length (flat_map (λ (b : BenchState). b.list) benches) ≤ 68016 * length benches =
    few_in_all (λ (b : BenchState). b.list) benches
    (λ actor b at. actor_length c inputs most actor b (run.each actor b at)
    (run.of_all.lists.each actor b.list (list_at benches actor b at)) few) in
    let many : length benches ≡ actors_in c =
    sym (length-map benches (λ (b : BenchState). b.list)) ∙ run.of_all.lists.all
    ∙ ap (λ (g : Group). g.n + g.clients) (group_is c) in
    omega (arith, merged_length (lists_of benches) once, ap length (joined_of benches), each, many, few_actors c valid)
