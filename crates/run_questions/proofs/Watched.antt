-- A history watched entry by entry: what happened so far, and that the benches are those of the entries so far. At each
-- entry the actor's bench is as it was before it and then as it is after it, so what happened there is the definition's.
use Rattle.std.proofs.Common.{◌≡◌, ℕ, ◌+◌, ◌<◌, ◌≤◌, Bool, true, false, cond, ◌&&◌, not, List, [], ◌∷◌, ◌++◌, Option}
use Rattle.std.proofs.Common.{length, map, take, drop, filter, get_or, set, nat_lt, refl, sym, ◌∙◌, ap, subst, arith}
use Rattle.std.specs.List.{filter_map}
use Rattle.std.specs.Option.{option_to_list}
use Rattle.std.proofs.lemmas.Bool.{lt-ltb}
use Rattle.std.proofs.lemmas.List.{append-nil, append_assoc, map-append, map_more, drop_all, get_or-set_same, take_more}
use Rattle.std.proofs.lemmas.List.Elements.{filter-append}
use Rattle.plain_lists.proofs.Lists.{left_more}
use Rattle.quorum_sets.specs.Masters.{numbers_below, has_master}
use Rattle.quorum_sets.proofs.Numbered.{below_none_at, below_one_more, length-numbered}
use Rattle.protocol_rules.specs.Group.{Group}
use Rattle.scenario_file.specs.declared.actors.Cast.{Cast}
use Rattle.scenario_file.specs.Actors.{actors_of}
use Rattle.scenario_file.specs.Reading.{Contents, cast_of}
use Rattle.scenario_file.specs.Valid.{IsScenario}
use Rattle.history_rules.specs.Events.{Entry}
use Rattle.history_rules.specs.Setup.{is_correct_master}
use Rattle.world_rules.specs.Scenarios.{setup_of, masters_in, actors_in}
use Rattle.world_rules.proofs.Fields.{group_is, setup_goes_by}
use Rattle.world_history.specs.State.{BenchState, board_shown, executions_shown, view_shown, with_entry}
use Rattle.world_history.specs.Benches.{bench_in, benches_of}
use Rattle.world_history.proofs.Addressed.{few_actors}
use Rattle.world_history.proofs.HistoryReplays.{Comes, bench_at, bench_there, benches_grow}
use Rattle.delay_times.specs.declared.happening.Happening.{Happening}
use Rattle.delay_times.specs.declared.happening.What.{What}
use Rattle.run_questions.specs.DelaysText.{happened_at, happened_from, happened_in, happening_at, whats_since}
use Rattle.run_questions.specs.TrendAnswers.{correct_masters}
use Rattle.run_questions.proofs.VotesGathered.{shown_more}

-- ---- What happened at one entry.

-- of one word more what it tells
pub spoken_more : {X : Type 0} (h : What → Happening) (f : X → Option What) (xs : List X) (i : ℕ) (x : X)
    (found : Option What) (base old new : List Happening) → i < length xs → x ≡ get_or xs i x →
    old ≡ base ++ map h (filter_map f (take i xs)) → found ≡ f x → new ≡ old ++ map h (option_to_list found)
    → new ≡ base ++ map h (filter_map f (take (i + 1) xs))
spoken_more h f xs i x found base old new below is so_far same put =
    put ∙ ap (λ (o : Option What). old ++ map h (option_to_list o)) same
    ∙ ap (λ (hs : List Happening). hs ++ map h (option_to_list (f x))) so_far
    ∙ append_assoc base (map h (filter_map f (take i xs))) (map h (option_to_list (f x)))
    ∙ ap (λ (hs : List Happening). base ++ hs)
    (sym (map-append h (filter_map f (take i xs)) (option_to_list (f x)))
    ∙ ap (map h) (sym (shown_more f xs i x below is)))

-- the same of a list all of whose members tell something
pub told_more : {X : Type 0} (h : What → Happening) (g : X → What) (xs : List X) (i : ℕ) (d : X)
    (base old new : List Happening) → i < length xs → old ≡ base ++ map h (map g (take i xs))
    → new ≡ old ++ map h (g (get_or xs i d) ∷ []) → new ≡ base ++ map h (map g (take (i + 1) xs))
told_more {X} h g xs i d base old new below so_far put =
    put ∙ ap (λ (hs : List Happening). hs ++ map h (g (get_or xs i d) ∷ [])) so_far
    ∙ append_assoc base (map h (map g (take i xs))) (map h (g (get_or xs i d) ∷ []))
    ∙ ap (λ (hs : List Happening). base ++ hs) (sym (map-append h (map g (take i xs)) (g (get_or xs i d) ∷ []))
    ∙ ap (map h) (sym (map_more g xs i d below)))

-- one part more behind those appended so far
one_more : (h : What → Happening) (xs ys : List What) (base old new : List Happening) → old ≡ base ++ map h xs →
    new ≡ old ++ map h ys → new ≡ base ++ map h (xs ++ ys)
one_more h xs ys base old new so_far put =
    put ∙ ap (λ (hs : List Happening). hs ++ map h ys) so_far ∙ append_assoc base (map h xs) (map h ys)
    ∙ ap (λ (hs : List Happening). base ++ hs) (sym (map-append h xs ys))

-- five parts appended in turn, which come to a whole
pub parts_appended : (h : What → Happening) (a b c d e whole : List What)
    (base one two three four new : List Happening) → one ≡ base ++ map h a → two ≡ one ++ map h b →
    three ≡ two ++ map h c → four ≡ three ++ map h d → new ≡ four ++ map h e → a ++ b ++ c ++ d ++ e ≡ whole
    → new ≡ base ++ map h whole
parts_appended h a b c d e whole base one two three four new first second third fourth last is =
    one_more h (a ++ b ++ c ++ d) e base four new
    (one_more h (a ++ b ++ c) d base three four
    (one_more h (a ++ b) c base two three (one_more h a b base one two first second) third) fourth) last
    ∙ ap (λ (ws : List What). base ++ map h ws) is

-- what happened since an actor had come so far is what happened between its two benches
pub between_benches : (old now : BenchState) (e : Entry) (executed shown view : ℕ) (happened more : List Happening) →
    executed ≡ length (executions_shown old) → shown ≡ length (board_shown old) → view ≡ view_shown old
    → more ≡ happened ++ map (happening_at e.stamp e.actor) (whats_since executed shown view now e)
    → more ≡ happened ++ happened_at old now e
between_benches old now e executed shown view happened more executions notices seen is =
    is ∙ (λ j. happened ++ map (happening_at e.stamp e.actor)
    (whats_since (executions j) (notices j) (seen j) now e))

-- ---- The correct masters.

pub masters_more : (c : Contents) (n m : ℕ) (old new found : List ℕ) → n ≡ masters_in c → m < n →
    old ≡ filter (is_correct_master (setup_of c)) (numbers_below m)
    → found ≡ cond (has_master c.settings.intruded m) [] (m ∷ []) → new ≡ old ++ found
    → new ≡ filter (is_correct_master (setup_of c)) (numbers_below (m + 1))
masters_more c n m old new found size low so_far is put =
    let passes : is_correct_master (setup_of c) m ≡ not (has_master c.settings.intruded m) =
    ap (λ (g : Group). nat_lt m g.n && not ((setup_of c).intruded m)) (group_is c)
    ∙ ap (λ (b : Bool). b && not ((setup_of c).intruded m)) (lt-ltb m (masters_in c) (omega (arith, size, low)))
    ∙ ap not ((setup_goes_by c).intruded m) in
    put ∙ (λ i. so_far i ++ (is ∙ by (has_master c.settings.intruded m) (is_correct_master (setup_of c) m) passes) i)
    ∙ sym (filter-append (is_correct_master (setup_of c)) (numbers_below m) (m ∷ []))
    ∙ ap (filter (is_correct_master (setup_of c))) (sym (below_one_more m))
  where
    by : (a b : Bool) → b ≡ not a → cond a [] (m ∷ []) ≡ cond b (m ∷ []) []
    by true b e = ap (λ x. cond x (m ∷ []) []) (sym e)
    by false b e = ap (λ x. cond x (m ∷ []) []) (sym e)

pub masters_begun : (c : Contents) (masters : List ℕ) → masters ≡ [] →
    masters ≡ filter (is_correct_master (setup_of c)) (numbers_below 0)
masters_begun c masters none = none ∙ ap (filter (is_correct_master (setup_of c))) (sym below_none_at)

pub all_masters : (c : Contents) (n m : ℕ) (masters : List ℕ) → n ≡ masters_in c → m ≤ n → n ≤ m →
    masters ≡ filter (is_correct_master (setup_of c)) (numbers_below m) → masters ≡ correct_masters (setup_of c)
all_masters c n m masters size most least are =
    let same : m ≡ masters_in c = omega (arith, size, most, least) in
    are ∙ ap (λ (k : ℕ). filter (is_correct_master (setup_of c)) (numbers_below k)) same
    ∙ ap (λ (g : Group). filter (is_correct_master (setup_of c)) (numbers_below g.n)) (sym (group_is c))

-- ---- Entry by entry.

-- the bench of an entry's actor before it, where the benches are those of the entries before
was_at : (c : Contents) (history : List Entry) (i : ℕ) (e : Entry) (benches : List BenchState) (b : BenchState) →
    Comes c history i e → benches ≡ benches_of c (take i history) → b ≡ get_or benches e.actor b
    → b ≡ bench_in c (take i history) e.actor
was_at c history i e benches b comes are at =
    let there : e.actor < length benches = bench_there c history i e benches comes are in
    let many : length benches ≡ actors_in c =
    ap length are ∙ length-numbered (bench_in c (take i history)) (actors_in c) in
    bench_at c (take i history) e.actor benches b (omega arith) are at

pub bench_works : (c : Contents) (history : List Entry) (i : ℕ) (e : Entry) (benches : List BenchState)
    (b : BenchState) → Comes c history i e → benches ≡ benches_of c (take i history) → b ≡ get_or benches e.actor b
    → b.is_spent ≡ false
bench_works c history i e benches b comes are at =
    ap (λ (x : BenchState). x.is_spent) (was_at c history i e benches b comes are at)

-- what happened at one entry more
pub happened_more : (c : Contents) (history : List Entry) (i : ℕ) (e : Entry) (old new : List BenchState)
    (b grown : BenchState) (happened more : List Happening) → Comes c history i e
    → old ≡ benches_of c (take i history) → b ≡ get_or old e.actor b → grown ≡ with_entry b e.stamp e.event
    → new ≡ set old e.actor grown
    → happened ++ happened_from c (take i history) (drop i history) ≡ happened_in c history
    → more ≡ happened ++ happened_at b grown e
    → more ++ happened_from c (take (i + 1) history) (drop (i + 1) history) ≡ happened_in c history
happened_more c history i e old new b grown happened more comes are at has put so_far longer =
    let there : e.actor < length old = bench_there c history i e old comes are in
    let many : length old ≡ actors_in c =
    ap length are ∙ length-numbered (bench_in c (take i history)) (actors_in c) in
    let was : b ≡ bench_in c (take i history) e.actor = was_at c history i e old b comes are at in
    let next : take (i + 1) history ≡ take i history ++ e ∷ [] = take_more history i e comes.below
    ∙ ap (λ (x : Entry). take i history ++ x ∷ []) (sym comes.is) in
    let grew : new ≡ benches_of c (take (i + 1) history) =
    benches_grow c history i e e.event old new b grown comes refl are at has put in
    let at_new : grown ≡ get_or new e.actor grown =
    sym (ap (λ (bs : List BenchState). get_or bs e.actor grown) put
    ∙ get_or-set_same old e.actor grown grown there) in
    let is_now : grown ≡ bench_in c (take i history ++ e ∷ []) e.actor =
    bench_at c (take (i + 1) history) e.actor new grown (omega arith) grew at_new
    ∙ ap (λ (es : List Entry). bench_in c es e.actor) next in
    let rest : List Happening = happened_from c (take (i + 1) history) (drop (i + 1) history) in
    let step : happened_from c (take i history) (drop i history) ≡ happened_at b grown e ++ rest =
    ap (happened_from c (take i history)) (left_more history i e comes.below comes.is)
    ∙ (λ j. happened_at (sym was j) (sym is_now j) e ++ happened_from c (sym next j) (drop (i + 1) history)) in
    ap (λ (hs : List Happening). hs ++ rest) longer ∙ append_assoc happened (happened_at b grown e) rest
    ∙ ap (λ (hs : List Happening). happened ++ hs) (sym step) ∙ so_far

pub none_happened : (c : Contents) (history : List Entry) (happened : List Happening) → happened ≡ [] →
    happened ++ happened_from c (take 0 history) (drop 0 history) ≡ happened_in c history
unfolding happened_in
none_happened c history happened none =
    ap (λ (hs : List Happening). hs ++ happened_from c [] history) none

pub all_happened : (c : Contents) (history : List Entry) (i : ℕ) (happened : List Happening) → length history ≤ i →
    happened ++ happened_from c (take i history) (drop i history) ≡ happened_in c history → happened ≡ happened_in c history
all_happened c history i happened all is =
    sym (append-nil happened)
    ∙ ap (λ (es : List Entry). happened ++ happened_from c (take i history) es) (sym (drop_all i history all)) ∙ is

-- ---- The cast.

pub few_cast : (c : Contents) (cast : Cast) → IsScenario c → cast ≡ cast_of c.settings c.plant → actors_of cast ≤ 26
few_cast c cast is same =
    let few : actors_in c ≤ 26 = few_actors c is in
    subst (λ (x : Cast). actors_of x ≤ 26) (sym same) (omega arith)
