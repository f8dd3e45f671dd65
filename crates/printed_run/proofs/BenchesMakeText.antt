-- The benches of a history at hand: whose they are, and that what they show makes the text.
use Rattle.std.proofs.Common.{◌≡◌, ℕ, ◌<◌, List, length, get_or, sym, ◌∙◌, ap, arith}
use Rattle.std.proofs.lemmas.List.{length-map, get_or-map}
use Rattle.std.proofs.lemmas.List.Folds.{flat_map-map}
use Rattle.std.specs.List.{All, flat_map}
use Rattle.quorum_sets.specs.Masters.{numbers_below}
use Rattle.scenario_file.specs.Reading.{Contents}
use Rattle.history_rules.specs.Events.{Entry}
use Rattle.world_history.specs.State.{BenchState}
use Rattle.world_history.specs.Benches.{bench_in, unsigned, AreBenches}
use Rattle.world_rules.specs.Scenarios.{actors_in}
use Rattle.printed_run.specs.Printed.{actors_text, bench_lines, IsOf}
use Rattle.quorum_sets.proofs.Numbered.{numbered_at, length-numbered}

-- there are as many as actors
pub as_many : (c : Contents) (history : List Entry) (benches : List BenchState) → AreBenches c history benches →
    length benches ≡ actors_in c
as_many c history benches are = sym (length-map benches unsigned) ∙ ap length are
    ∙ length-numbered (bench_in c history) (actors_in c)

-- each is its actor's, but for words that it signed
pub bench_at : (c : Contents) (history : List Entry) (benches : List BenchState) (k : ℕ) (d : BenchState) →
    AreBenches c history benches → k < length benches
    → unsigned (get_or benches k d) ≡ bench_in c history k
bench_at c history benches k d are low =
    let many = as_many c history benches are in
    sym (get_or-map unsigned benches k d (unsigned d) low)
    ∙ ap (λ (bs : List BenchState). get_or bs k (unsigned d)) are
    ∙ numbered_at (bench_in c history) (actors_in c) k (unsigned d) (omega arith)

pub all_are : (c : Contents) (history : List Entry) (benches : List BenchState) → AreBenches c history benches →
    All (IsOf c) benches
all_are c history benches are = λ k d low.
    let same = bench_at c history benches k d are low in
    (ap (λ (b : BenchState). b.world) same, ap (λ (b : BenchState). b.is_spent) same)

-- what all benches show is what the history's own lists make
pub states_text : (c : Contents) (history : List Entry) (benches : List BenchState) → AreBenches c history benches →
    flat_map (bench_lines c) benches ≡ actors_text c history
states_text c history benches are =
    sym (flat_map-map (bench_lines c) unsigned benches)
    ∙ ap (flat_map (bench_lines c)) are
    ∙ flat_map-map (bench_lines c) (bench_in c history) (numbers_below (actors_in c))
