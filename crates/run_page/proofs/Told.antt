-- A history told entry by entry: the details so far, and that the benches are those of the entries so far. At each entry the
-- actor's bench is as it was before it and then as it is after it, so what is told of the entry is the definition's.
use Rattle.std.proofs.Common.{◌≡◌, ℕ, ◌+◌, ◌<◌, ◌≤◌, false, List, [], ◌∷◌, ◌++◌, length, take, drop, get_or, set}
use Rattle.std.proofs.Common.{refl, sym, ◌∙◌, ap, subst, arith}
use Rattle.std.proofs.lemmas.List.{append-nil, append_assoc, drop_all, get_or-set_same, take_more}
use Rattle.std.specs.List.{flat_map}
use Rattle.plain_lists.proofs.Lists.{left_more}
use Rattle.message_types.specs.declared.signed.Signed.{Signed}
use Rattle.message_types.specs.declared.body.Body.{Body}
use Rattle.quorum_sets.proofs.Numbered.{length-numbered}
use Rattle.scenario_file.specs.declared.actors.Cast.{Cast}
use Rattle.scenario_file.specs.Actors.{actors_of}
use Rattle.scenario_file.specs.Reading.{Contents, cast_of}
use Rattle.scenario_file.specs.Valid.{IsScenario}
use Rattle.history_rules.specs.Events.{Entry}
use Rattle.world_rules.specs.Scenarios.{actors_in}
use Rattle.world_history.specs.State.{BenchState, with_entry}
use Rattle.world_history.specs.Benches.{bench_in, benches_of}
use Rattle.world_history.proofs.Addressed.{few_actors}
use Rattle.world_history.proofs.HistoryReplays.{Comes, bench_at, bench_there, benches_grow}
use Rattle.run_page.specs.declared.came.Came.{Came}
use Rattle.run_page.specs.Details.{came, came_text, details_at, details_from, details_in, words_text}

-- ---- One entry.

-- its words, and behind them how far the actor came
pub details_put : (cast : Cast) (old now : BenchState) (e : Entry) (before after : Came) (text middle new : List ℕ) →
    before ≡ came old → after ≡ came now → middle ≡ text ++ words_text cast e
    → new ≡ middle ++ came_text e.stamp before after → new ≡ text ++ details_at cast old now e
details_put cast old now e before after text middle new was is words far =
    far ∙ (λ j. words j ++ came_text e.stamp (was j) (is j))
    ∙ append_assoc text (words_text cast e) (came_text e.stamp (came old) (came now))

-- the line of the frame that a cry spells, or none
pub cried_put : (tell : Signed Body → List ℕ) (text new : List ℕ) (frame : Signed Body) (all : List (Signed Body)) →
    frame ∷ [] ≡ all → new ≡ text ++ tell frame → new ≡ text ++ flat_map tell all
cried_put tell text new frame all is put =
    put ∙ ap (λ (t : List ℕ). text ++ t) (sym (append-nil (tell frame)))
    ∙ ap (λ (frames : List (Signed Body)). text ++ flat_map tell frames) is

pub none_cried : (tell : Signed Body → List ℕ) (text new : List ℕ) (all : List (Signed Body)) → [] ≡ all → new ≡ text →
    new ≡ text ++ flat_map tell all
none_cried tell text new all is put =
    put ∙ sym (append-nil text) ∙ ap (λ (frames : List (Signed Body)). text ++ flat_map tell frames) is

-- ---- Entry by entry.

-- the bench of an entry's actor before it, where the benches are those of the entries before
was_at : (c : Contents) (history : List Entry) (i : ℕ) (e : Entry) (benches : List BenchState) (b : BenchState) →
    Comes c history i e → benches ≡ benches_of c (take i history) → b ≡ get_or benches e.actor b
    → b ≡ bench_in c (take i history) e.actor
was_at c history i e benches b comes are at =
    let there : e.actor < length benches = bench_there c history i e benches comes are in
    let many : length benches ≡ actors_in c =
    ap length are ∙ length-numbered (bench_in c (take i history)) (actors_in c) in
    bench_at c (take i history) e.actor benches b (omega arith) are at

pub bench_works : (c : Contents) (history : List Entry) (i : ℕ) (e : Entry) (benches : List BenchState)
    (b : BenchState) → Comes c history i e → benches ≡ benches_of c (take i history) → b ≡ get_or benches e.actor b
    → b.is_spent ≡ false
bench_works c history i e benches b comes are at =
    ap (λ (x : BenchState). x.is_spent) (was_at c history i e benches b comes are at)

-- the details of one entry more
pub details_more : (c : Contents) (history : List Entry) (i : ℕ) (e : Entry) (cast : Cast) (old new : List BenchState)
    (b grown : BenchState) (text more : List ℕ) → Comes c history i e → cast ≡ cast_of c.settings c.plant
    → old ≡ benches_of c (take i history) → b ≡ get_or old e.actor b → grown ≡ with_entry b e.stamp e.event
    → new ≡ set old e.actor grown → text ++ details_from c (take i history) (drop i history) ≡ details_in c history
    → more ≡ text ++ details_at cast b grown e
    → more ++ details_from c (take (i + 1) history) (drop (i + 1) history) ≡ details_in c history
details_more c history i e cast old new b grown text more comes who are at has put so_far longer =
    let there : e.actor < length old = bench_there c history i e old comes are in
    let many : length old ≡ actors_in c =
    ap length are ∙ length-numbered (bench_in c (take i history)) (actors_in c) in
    let was : b ≡ bench_in c (take i history) e.actor = was_at c history i e old b comes are at in
    let next : take (i + 1) history ≡ take i history ++ e ∷ [] = take_more history i e comes.below
    ∙ ap (λ (x : Entry). take i history ++ x ∷ []) (sym comes.is) in
    let grew : new ≡ benches_of c (take (i + 1) history) =
    benches_grow c history i e e.event old new b grown comes refl are at has put in
    let at_new : grown ≡ get_or new e.actor grown =
    sym (ap (λ (bs : List BenchState). get_or bs e.actor grown) put
    ∙ get_or-set_same old e.actor grown grown there) in
    let is_now : grown ≡ bench_in c (take i history ++ e ∷ []) e.actor =
    bench_at c (take (i + 1) history) e.actor new grown (omega arith) grew at_new
    ∙ ap (λ (es : List Entry). bench_in c es e.actor) next in
    let rest : List ℕ = details_from c (take (i + 1) history) (drop (i + 1) history) in
    let step : details_from c (take i history) (drop i history) ≡ details_at cast b grown e ++ rest =
    ap (details_from c (take i history)) (left_more history i e comes.below comes.is)
    ∙ (λ j. details_at (sym who j) (sym was j) (sym is_now j) e ++ details_from c (sym next j) (drop (i + 1) history)) in
    ap (λ (t : List ℕ). t ++ rest) longer ∙ append_assoc text (details_at cast b grown e) rest
    ∙ ap (λ (t : List ℕ). text ++ t) (sym step) ∙ so_far

pub none_told : (c : Contents) (history : List Entry) (text : List ℕ) → text ≡ [] →
    text ++ details_from c (take 0 history) (drop 0 history) ≡ details_in c history
unfolding details_in
none_told c history text none = ap (λ (t : List ℕ). t ++ details_from c [] history) none

pub all_told : (c : Contents) (history : List Entry) (i : ℕ) (text : List ℕ) → length history ≤ i →
    text ++ details_from c (take i history) (drop i history) ≡ details_in c history → text ≡ details_in c history
all_told c history i text all is =
    sym (append-nil text)
    ∙ ap (λ (es : List Entry). text ++ details_from c (take i history) es) (sym (drop_all i history all)) ∙ is

-- ---- The cast.

pub few_cast : (c : Contents) (cast : Cast) → IsScenario c → cast ≡ cast_of c.settings c.plant → actors_of cast ≤ 26
few_cast c cast is same =
    let few : actors_in c ≤ 26 = few_actors c is in
    subst (λ (x : Cast). actors_of x ≤ 26) (sym same) (omega arith)
