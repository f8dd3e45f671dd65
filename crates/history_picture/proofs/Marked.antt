-- A history gone over entry by entry: the marks so far, and that the benches are those of the entries so far. At each entry
-- the actor's bench is as it was before it and then as it is after it, so the entry's mark is the definition's.
use Rattle.std.proofs.Common.{◌≡◌, ℕ, ◌+◌, ◌<◌, ◌≤◌, false, List, [], ◌∷◌, ◌++◌, Option, length, map, take, drop, get_or, set}
use Rattle.std.proofs.Common.{refl, sym, ◌∙◌, ap, subst, arith}
use Rattle.std.proofs.lemmas.List.{append-nil, append_assoc, drop_all, get_or-set_same, take_more}
use Rattle.plain_lists.proofs.Lists.{left_more, map_map}
use Rattle.quorum_sets.specs.Masters.{numbers_below}
use Rattle.quorum_sets.proofs.Numbered.{length-numbered}
use Rattle.scenario_file.specs.declared.actors.Cast.{Cast}
use Rattle.scenario_file.specs.Actors.{actors_of}
use Rattle.scenario_file.specs.Reading.{Contents, cast_of}
use Rattle.scenario_file.specs.Valid.{IsScenario}
use Rattle.history_rules.specs.Events.{Entry}
use Rattle.world_rules.specs.Scenarios.{actors_in}
use Rattle.world_history.specs.State.{BenchState, with_entry}
use Rattle.world_history.specs.Benches.{bench_in, benches_of}
use Rattle.world_history.proofs.Addressed.{few_actors}
use Rattle.world_history.proofs.HistoryReplays.{Comes, bench_at, bench_there, benches_grow}
use Rattle.history_picture.specs.declared.happened.Came.{Came}
use Rattle.lane_pictures.specs.declared.picture.Lane.{Lane}
use Rattle.lane_pictures.specs.declared.picture.Mark.{Mark}
use Rattle.lane_pictures.specs.declared.picture.Role.{Role}
use Rattle.lane_pictures.specs.declared.picture.What.{What}
use Rattle.history_picture.specs.Marks.{came, lane_of, lanes_in, last_stamp, mark_at, mark_by, marks_from, marks_in, role_in, what_of}

-- ---- One entry.

pub marked : (old now : BenchState) (e : Entry) (role : Role) (since : Option ℕ) (what : What) (before after : Came) (mark : Mark)
    (marks more : List Mark) → since ≡ last_stamp old.list → before ≡ came old → after ≡ came now →
    mark ≡ mark_by role since what before after e → more ≡ marks ++ mark ∷ []
    → more ≡ marks ++ mark_at role what old now e ∷ []
marked old now e role since what before after mark marks more last was is made put =
    put ∙ ap (λ (m : Mark). marks ++ m ∷ []) (made ∙ (λ j. mark_by role (last j) what (was j) (is j) e))

-- ---- Entry by entry.

-- the bench of an entry's actor before it, where the benches are those of the entries before
was_at : (c : Contents) (history : List Entry) (i : ℕ) (e : Entry) (benches : List BenchState) (b : BenchState) →
    Comes c history i e → benches ≡ benches_of c (take i history) → b ≡ get_or benches e.actor b
    → b ≡ bench_in c (take i history) e.actor
was_at c history i e benches b comes are at =
    let there : e.actor < length benches = bench_there c history i e benches comes are in
    let many : length benches ≡ actors_in c =
    ap length are ∙ length-numbered (bench_in c (take i history)) (actors_in c) in
    bench_at c (take i history) e.actor benches b (omega arith) are at

pub bench_works : (c : Contents) (history : List Entry) (i : ℕ) (e : Entry) (benches : List BenchState)
    (b : BenchState) → Comes c history i e → benches ≡ benches_of c (take i history) → b ≡ get_or benches e.actor b
    → b.is_spent ≡ false
bench_works c history i e benches b comes are at =
    ap (λ (x : BenchState). x.is_spent) (was_at c history i e benches b comes are at)

-- the mark of one entry more
pub marks_more : (c : Contents) (history : List Entry) (i : ℕ) (e : Entry) (role : Role) (what : What) (old new : List BenchState)
    (b grown : BenchState) (marks more : List Mark) → Comes c history i e → role ≡ role_in c e.actor
    → what ≡ what_of history e.event
    → old ≡ benches_of c (take i history) → b ≡ get_or old e.actor b → grown ≡ with_entry b e.stamp e.event
    → new ≡ set old e.actor grown → marks ++ marks_from c history (take i history) (drop i history) ≡ marks_in c history
    → more ≡ marks ++ mark_at role what b grown e ∷ []
    → more ++ marks_from c history (take (i + 1) history) (drop (i + 1) history) ≡ marks_in c history
marks_more c history i e role what old new b grown marks more comes who told are at has put so_far longer =
    let there : e.actor < length old = bench_there c history i e old comes are in
    let many : length old ≡ actors_in c =
    ap length are ∙ length-numbered (bench_in c (take i history)) (actors_in c) in
    let was : b ≡ bench_in c (take i history) e.actor = was_at c history i e old b comes are at in
    let next : take (i + 1) history ≡ take i history ++ e ∷ [] = take_more history i e comes.below
    ∙ ap (λ (x : Entry). take i history ++ x ∷ []) (sym comes.is) in
    let grew : new ≡ benches_of c (take (i + 1) history) =
    benches_grow c history i e e.event old new b grown comes refl are at has put in
    let at_new : grown ≡ get_or new e.actor grown =
    sym (ap (λ (bs : List BenchState). get_or bs e.actor grown) put
    ∙ get_or-set_same old e.actor grown grown there) in
    let is_now : grown ≡ bench_in c (take i history ++ e ∷ []) e.actor =
    bench_at c (take (i + 1) history) e.actor new grown (omega arith) grew at_new
    ∙ ap (λ (es : List Entry). bench_in c es e.actor) next in
    let rest : List Mark = marks_from c history (take (i + 1) history) (drop (i + 1) history) in
    let step : marks_from c history (take i history) (drop i history) ≡ mark_at role what b grown e ∷ rest =
    ap (marks_from c history (take i history)) (left_more history i e comes.below comes.is)
    ∙ (λ j. mark_at (sym who j) (sym told j) (sym was j) (sym is_now j) e
    ∷ marks_from c history (sym next j) (drop (i + 1) history)) in
    ap (λ (ms : List Mark). ms ++ rest) longer ∙ append_assoc marks (mark_at role what b grown e ∷ []) rest
    ∙ ap (λ (ms : List Mark). marks ++ ms) (sym step) ∙ so_far

pub none_marked : (c : Contents) (history : List Entry) (marks : List Mark) → marks ≡ [] →
    marks ++ marks_from c history (take 0 history) (drop 0 history) ≡ marks_in c history
unfolding marks_in
none_marked c history marks none = ap (λ (ms : List Mark). ms ++ marks_from c history [] history) none

pub all_marked : (c : Contents) (history : List Entry) (i : ℕ) (marks : List Mark) → length history ≤ i →
    marks ++ marks_from c history (take i history) (drop i history) ≡ marks_in c history → marks ≡ marks_in c history
all_marked c history i marks all is =
    sym (append-nil marks)
    ∙ ap (λ (es : List Entry). marks ++ marks_from c history (take i history) es) (sym (drop_all i history all)) ∙ is

-- ---- Lanes.

pub lanes_are : (c : Contents) (history : List Entry) (benches : List BenchState) (lanes : List Lane) →
    benches ≡ benches_of c history → lanes ≡ map (lane_of c) benches → lanes ≡ lanes_in c history
lanes_are c history benches lanes are made =
    made ∙ ap (map (lane_of c)) are ∙ map_map (lane_of c) (bench_in c history) (numbers_below (actors_in c))

-- ---- The cast.

pub few_cast : (c : Contents) (cast : Cast) → IsScenario c → cast ≡ cast_of c.settings c.plant → actors_of cast ≤ 26
few_cast c cast is same =
    let few : actors_in c ≤ 26 = few_actors c is in
    subst (λ (x : Cast). actors_of x ≤ 26) (sym same) (omega arith)
