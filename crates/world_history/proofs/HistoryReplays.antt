-- A history replayed entry by entry: each actor's bench is ready for the actor's next entry, and makes just that entry.
use Rattle.std.proofs.Common.{◌≡◌, ℕ, ◌+◌, ◌<◌, ◌≤◌, true, false, List, [], ◌∷◌, ◌++◌, length, map, take, drop}
use Rattle.std.proofs.Common.{get_or, set, nat_lt, refl, sym, ◌∙◌, ap, subst, arith}
use Rattle.std.proofs.lemmas.List.{append-nil, length-append, length-map, take-append-drop, take_all}
use Rattle.std.specs.List.{list_all}
use Rattle.message_types.specs.declared.body.Body.{Body}
use Rattle.quorum_sets.specs.Masters.{numbers_below}
use Rattle.protocol_rules.specs.Group.{Group}
use Rattle.scenario_file.specs.declared.actors.Cast.{Cast}
use Rattle.scenario_file.specs.Actors.{actors_of}
use Rattle.scenario_file.specs.Reading.{Contents, cast_of}
use Rattle.history_rules.specs.Events.{Event, Entry}
use Rattle.history_rules.specs.Setup.{own}
use Rattle.history_rules.specs.Legal.{says_in, TakesWell, Stands, IsLegal}
use Rattle.agreement.proofs.KnownAsItGrows.{own-append, own_first, own_other, own_none}
use Rattle.intruder_words.proofs.Walks.{take-next}
use Rattle.history_laws.specs.Own.{IsOwnEntry}
use Rattle.history_laws.proofs.OwnEntries.{own_of_legal, own_stands}
use Rattle.world_rules.specs.Scenarios.{setup_of, actors_in}
use Rattle.world_rules.proofs.Fields.{group_is}
use Rattle.view_change.proofs.Best.{below_mapped}
use Rattle.world_entries.specs.declared.entry.Entry.{Entry as KeptEntry}
use Rattle.world_entries.specs.Entries.{entry_of}
use Rattle.world_history.specs.State.{BenchState, setup_in, entry_at, with_entry}
use Rattle.world_history.specs.Benches.{bench_in, benches_of}
use Rattle.quorum_sets.proofs.Numbered.{numbered_set, numbered_at, length-numbered, map_more, map_start}
use Rattle.plain_lists.proofs.Lists.{left_more, mapped_at}
use Rattle.history_rules.proofs.Entries.{own_fewer}

-- a bench of this list
abbrev pub bench_with : Contents → ℕ → List Entry → BenchState
bench_with c actor list = record { world = c; actor = actor; list = list; signed = 0; is_spent = false }

-- an actor below the number of all
pub actor_below : (c : Contents) (cast : Cast) (actors actor : ℕ) → cast ≡ cast_of c.settings c.plant →
    actors ≡ actors_of cast → actor < actors
    → actor < actors_in c
actor_below c cast actors actor is all below =
    let many : actors ≡ actors_of (cast_of c.settings c.plant) = all ∙ ap actors_of is in
    omega arith

pub none_begun : (c : Contents) (benches : List BenchState) → benches ≡ [] →
    benches ≡ map (bench_in c []) (numbers_below 0)
none_begun c benches none = none ∙ sym (map_start (bench_in c []))

-- one bench more before its first event
pub one_begun : (c : Contents) (n : ℕ) (old new : List BenchState) (b : BenchState) →
    old ≡ map (bench_in c []) (numbers_below n)
    → b ≡ record { world = c; actor = n; list = []; signed = 0; is_spent = false } → new ≡ old ++ b ∷ []
    → new ≡ map (bench_in c []) (numbers_below (n + 1))
one_begun c n old new b are is grown =
    let begun : b ≡ bench_in c [] n = is ∙ ap (bench_with c n) (sym (own_none n)) in
    grown ∙ (λ i. are i ++ begun i ∷ []) ∙ sym (map_more (bench_in c []) n)

pub all_begun : (c : Contents) (cast : Cast) (actors actor : ℕ) (benches : List BenchState) →
    cast ≡ cast_of c.settings c.plant → actors ≡ actors_of cast
    → actor ≤ actors → actors ≤ actor → benches ≡ map (bench_in c []) (numbers_below actor) → benches ≡ benches_of c []
all_begun c cast actors actor benches is all most least are =
    let many : actors ≡ actors_of (cast_of c.settings c.plant) = all ∙ ap actors_of is in
    let same : actor ≡ actors_in c = omega arith in
    are ∙ ap (λ (n : ℕ). map (bench_in c []) (numbers_below n)) same

-- The entry comes at this place of a legal history.
pub record Comes (c : Contents) (history : List Entry) (i : ℕ) (e : Entry) : Type 0 where
  pub legal : IsLegal (setup_of c) history
  pub below : i < length history
  pub is : e ≡ get_or history i e

-- as it is kept
pub next_comes : (c : Contents) (history : List Entry) (kept : List KeptEntry) (i : ℕ) (e : KeptEntry) →
    map entry_of kept ≡ history → IsLegal (setup_of c) history
    → i < length kept → e ≡ get_or kept i e → Comes c history i (entry_of e)
next_comes c history kept i e all legal below is = record {
  legal = legal;
  below = subst (λ (es : List Entry). i < length es) all (below_mapped entry_of kept i below);
  is = subst (λ (es : List Entry). entry_of e ≡ get_or es i (entry_of e)) all (mapped_at entry_of kept i e below is);
}

pub all_replayed : (c : Contents) (history : List Entry) (kept : List KeptEntry) (i : ℕ) (benches : List BenchState) →
    map entry_of kept ≡ history
    → length kept ≤ i → benches ≡ benches_of c (take i history) → benches ≡ benches_of c history
all_replayed c history kept i benches all past are =
    let size : length history ≡ length kept = ap length (sym all) ∙ length-map kept entry_of in
    are ∙ ap (benches_of c) (take_all i history (omega arith))

stands_there : (c : Contents) (history : List Entry) (i : ℕ) (e : Entry) → Comes c history i e →
    Stands history (take i history) e
stands_there c history i e comes = record {
  after = drop (i + 1) history;
  whole = sym (take-append-drop i history) ∙ ap (λ (xs : List Entry). take i history ++ xs)
      (left_more history i e comes.below comes.is);
}

actor_there : (c : Contents) (history : List Entry) (i : ℕ) (e : Entry) → Comes c history i e → e.actor < actors_in c
actor_there c history i e comes =
    subst (λ (g : Group). e.actor < g.n + g.clients) (group_is c)
    (comes.legal.entries (take i history) e (stands_there c history i e comes)).actor

-- it comes among its actor's own entries
own_comes : (c : Contents) (history : List Entry) (i : ℕ) (e : Entry) → Comes c history i e
    → IsOwnEntry (setup_of c) e.actor (own (take i history) e.actor) e
own_comes c history i e comes =
    (own_of_legal (setup_of c) history e.actor comes.legal).entries (own (take i history) e.actor) e
    (own_stands (stands_there c history i e comes))

-- the actor has a bench
pub bench_there : (c : Contents) (history : List Entry) (i : ℕ) (e : Entry) (benches : List BenchState) →
    Comes c history i e
    → benches ≡ benches_of c (take i history) → e.actor < length benches
bench_there c history i e benches comes are =
    let there : e.actor < actors_in c = actor_there c history i e comes in
    let size : length benches ≡ actors_in c =
    ap length are ∙ length-numbered (bench_in c (take i history)) (actors_in c) in
    omega arith

pub bench_at : (c : Contents) (before : List Entry) (actor : ℕ) (benches : List BenchState) (b : BenchState) →
    actor < actors_in c
    → benches ≡ benches_of c before → b ≡ get_or benches actor b → b ≡ bench_in c before actor
bench_at c before actor benches b there are at =
    at ∙ ap (λ (bs : List BenchState). get_or bs actor b) are
    ∙ numbered_at (bench_in c before) (actors_in c) actor b there

-- A bench can have an event next, with so many entries as a limit.
pub record IsReady (limit : ℕ) (b : BenchState) (stamp : ℕ) (event : Event) : Type 0 where
  pub fits : (setup_in b).fits b.actor event ≡ true
  pub later : list_all (λ e. nat_lt e.stamp stamp) b.list ≡ true
  pub taken : TakesWell (setup_in b) stamp event
  pub short : length b.list < limit

-- The bench of an entry's actor is ready for it, where the actor has no more entries than the limit.
pub bench_ready_of_few : (c : Contents) (history : List Entry) (i limit : ℕ) (e : Entry) (event : Event)
    (benches : List BenchState) (b : BenchState)
    → Comes c history i e → length (own history e.actor) ≤ limit → event ≡ e.event →
    benches ≡ benches_of c (take i history) → b ≡ get_or benches e.actor b
    → IsReady limit b e.stamp event
bench_ready_of_few c history i limit e event benches b comes few copied are at =
    let there : e.actor < actors_in c = actor_there c history i e comes in
    let may : IsOwnEntry (setup_of c) e.actor (own (take i history) e.actor) e = own_comes c history i e comes in
    let its = own_stands (stands_there c history i e comes) in
    let whole : length (own history e.actor) ≡ length (own (take i history) e.actor) + length (e ∷ its.after) =
    ap length its.whole ∙ length-append (own (take i history) e.actor) (e ∷ its.after) in
    let ready : IsReady limit (bench_in c (take i history) e.actor) e.stamp e.event =
    record { fits = may.role; later = may.later; taken = may.taken; short = omega arith } in
    subst (λ (x : Event). IsReady limit b e.stamp x) (sym copied)
    (subst (λ (x : BenchState). IsReady limit x e.stamp e.event)
    (sym (bench_at c (take i history) e.actor benches b there are at)) ready)

-- So it is where the whole history has fewer.
pub bench_ready : (c : Contents) (history : List Entry) (i limit : ℕ) (e : Entry) (event : Event)
    (benches : List BenchState) (b : BenchState)
    → Comes c history i e → length history < limit → event ≡ e.event → benches ≡ benches_of c (take i history) →
    b ≡ get_or benches e.actor b
    → IsReady limit b e.stamp event
bench_ready c history i limit e event benches b comes short copied are at =
    let fewer : length (own history e.actor) ≤ length history = own_fewer history e.actor in
    bench_ready_of_few c history i limit e event benches b comes (omega arith) copied are at

-- the actor's bench makes the entry
bench_grows : (c : Contents) (before : List Entry) (e : Entry) →
    e.said ≡ says_in (setup_of c) e.actor (own before e.actor) e.event
    → with_entry (bench_in c before e.actor) e.stamp e.event ≡ bench_in c (before ++ e ∷ []) e.actor
unfolding entry_at
bench_grows c before e said =
    let one : own (e ∷ []) e.actor ≡ e ∷ [] = own_first e [] e.actor refl
    ∙ ap (λ (xs : List Entry). e ∷ xs) (own_none e.actor) in
    let longer : own (before ++ e ∷ []) e.actor ≡ own before e.actor ++ e ∷ [] = own-append before (e ∷ []) e.actor
    ∙ ap (λ (xs : List Entry). own before e.actor ++ xs) one in
    ap (λ (words : List Body). bench_with c e.actor
    (own before e.actor ++ (record { stamp = e.stamp; actor = e.actor; event = e.event; said = words }) ∷ []))
    (sym said)
    ∙ ap (bench_with c e.actor) (sym longer)

-- all others stay
pub bench_stays : (c : Contents) (before : List Entry) (e : Entry) (actor : ℕ) → (actor ≡ e.actor → ⊥) →
    bench_in c before actor ≡ bench_in c (before ++ e ∷ []) actor
bench_stays c before e actor other =
    let none : own (e ∷ []) actor ≡ [] = own_other e [] actor (λ same. other (sym same)) ∙ own_none actor in
    let same : own (before ++ e ∷ []) actor ≡ own before actor =
    own-append before (e ∷ []) actor ∙ ap (λ (xs : List Entry). own before actor ++ xs) none
    ∙ append-nil (own before actor) in
    ap (bench_with c actor) (sym same)

-- Once the actor's bench has the entry, the benches are those of one entry more.
pub benches_grow : (c : Contents) (history : List Entry) (i : ℕ) (e : Entry) (event : Event)
    (old new : List BenchState) (b grown : BenchState)
    → Comes c history i e → event ≡ e.event → old ≡ benches_of c (take i history) → b ≡ get_or old e.actor b
    → grown ≡ with_entry b e.stamp event → new ≡ set old e.actor grown → new ≡ benches_of c (take (i + 1) history)
benches_grow c history i e event old new b grown comes copied are at has put =
    let before : List Entry = take i history in
    let there : e.actor < actors_in c = actor_there c history i e comes in
    let made : grown ≡ bench_in c (before ++ e ∷ []) e.actor =
    has ∙ (λ j. with_entry (bench_at c before e.actor old b there are at j) e.stamp (copied j))
    ∙ bench_grows c before e (own_comes c history i e comes).said in
    let next : take (i + 1) history ≡ before ++ e ∷ [] = take-next history i e comes.below comes.is in
    put ∙ (λ j. set (are j) e.actor (made j))
    ∙ numbered_set (bench_in c before) (bench_in c (before ++ e ∷ [])) (actors_in c)
    e.actor there (bench_stays c before e)
    ∙ ap (benches_of c) (sym next)
