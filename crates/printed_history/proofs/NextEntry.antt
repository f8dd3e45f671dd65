-- A history with the next entry, and what is at hand of it.
use Rattle.std.proofs.Common.{◌≡◌, ℕ, ◌+◌, ◌*◌, ◌<◌, ◌≤◌, Bool, true, false, cond, ◌&&◌, not, List, [], ◌∷◌, ◌++◌}
use Rattle.std.proofs.Common.{Option, Some, None, Result, length, map, get_or, set, nat_eq, nat_le, nat_lt, refl, sym}
use Rattle.std.proofs.Common.{◌∙◌, ap, subst, arith, inl, inr}
use Rattle.std.proofs.lemmas.Bool.{and_parts, lt-ltb, le-ltb, not-true}
use Rattle.std.proofs.lemmas.List.{append-nil, length-append}
use Rattle.std.proofs.lemmas.List.Concat.{flat_map-append}
use Rattle.std.proofs.lemmas.Option.{slice_get_cases, get_or_from_slice_get, slice_get_within}
use Rattle.std.specs.List.{list_all, list_any}
use Rattle.std.specs.Prelude.{slice_get}
use Rattle.std.specs.Result.{IfOk}
use Rattle.plain_lists.specs.declared.want.Want.{Want}
use Rattle.message_types.specs.declared.signed.Signed.{Signed}
use Rattle.message_types.specs.declared.body.Body.{Body}
use Rattle.quorum_sets.specs.Masters.{numbers_below}
use Rattle.protocol_rules.specs.Group.{Group}
use Rattle.scenario_file.specs.Reading.{Contents, contents}
use Rattle.script_grammar.specs.declared.kinds.Kind.{Kind}
use Rattle.agreement.proofs.KnownAsItGrows.{own-append, own_first, own_other, own_none}
use Rattle.history_rules.specs.Events.{Event, Entry}
use Rattle.history_rules.specs.Setup.{Setup, own}
use Rattle.history_rules.specs.Keeping.{keeper_calls, calls_at, is_halted}
use Rattle.history_rules.specs.Legal.{says, TakesWell, IsLegalEntry, IsLegal}
use Rattle.history_laws.specs.Own.{IsOwnEntry}
use Rattle.history_laws.proofs.OwnEntries.{own_of_legal, own_stands}
use Rattle.history_laws.proofs.EntryByEntry.{one_more_is_legal}
use Rattle.world_rules.specs.Frames.{frames_of, frames_at_stamp}
use Rattle.world_rules.specs.Scenarios.{setup_of, actors_in}
use Rattle.world_rules.proofs.Fields.{group_is, setup_goes_by}
use Rattle.world_history.specs.Signed.{ring_in}
use Rattle.world_history.specs.State.{BenchState, setup_in, entry_at, with_entry}
use Rattle.world_history.specs.Benches.{bench_in}
use Rattle.run_lines.specs.declared.entry_line.EntryLine.{EntryLine}
use Rattle.printed_history.specs.declared.reading.SoFar.{SoFar}
use Rattle.printed_history.specs.Histories.{is_running, are_kinds, entry_with, entry_by, entry_of_event, entry_from}
use Rattle.printed_history.specs.Histories.{event_from, standing_event}
use Rattle.printed_history.specs.Reading.{calls_by, standing_frame, frame_in, contents_in, world_in, is_among}
use Rattle.printed_history.specs.Reading.{place_of, those_of, IsAtHand, IsSoFar, HasMore, Comes}
use Rattle.printed_history.proofs.AtHand.{place_within, benches_set, IsItsBench, its_bench, theirs_more}
use Rattle.printed_history.proofs.FramesFound.{frames_more}
use Rattle.quorum_sets.proofs.Numbered.{numbered_set, numbered_at, length-numbered}
use Rattle.agreement.proofs.Places.{stands_last}
use Rattle.history_rules.proofs.Entries.{own_fewer}
use Rattle.world_history.proofs.HistoryReplays.{bench_stays, bench_with}
use Rattle.history_rules.proofs.Frames.{calls_few}

-- the entry that the actor's event makes
abbrev pub next_of : Setup → List Entry → ℕ → Event → Entry
next_of w before actor event = entry_with before actor event (says w before actor event)

-- The event may come next.
pub record MayCome (w : Setup) (before : List Entry) (actor : ℕ) (event : Event) : Type 0 where
  pub running : is_running w before actor ≡ true
  pub fits : w.fits actor event ≡ true
  pub taken : TakesWell w (length before) event

pub next_legal : (w : Setup) (before : List Entry) (actor : ℕ) (event : Event) → MayCome w before actor event →
    IsLegalEntry w before (next_of w before actor event)
next_legal w before actor event may =
    let both = and_parts (nat_lt actor (w.group.n + w.group.clients)) (not (is_halted w actor (own before actor)))
    may.running in
    record {
      stamp = refl;
      actor = grind (arith, both.0);
      running = not-true (is_halted w actor (own before actor)) both.1;
      role = may.fits;
      taken = may.taken;
      said = refl;
    }

-- the actor is one of the scenario's
pub actor_there : (c : Contents) (before : List Entry) (actor : ℕ) → is_running (setup_of c) before actor ≡ true →
    actor < actors_in c
actor_there c before actor runs =
    let both = and_parts (nat_lt actor ((setup_of c).group.n + (setup_of c).group.clients))
    (not (is_halted (setup_of c) actor (own before actor))) runs in
    subst (λ (g : Group). actor < g.n + g.clients) (group_is c) (grind (arith, both.0))

-- the actor has a bench, and its keeper's calls are counted
pub bench_there : (r : SoFar) (actor place : ℕ) → IsSoFar r → is_running (world_in r) r.history actor ≡ true →
    place ≡ place_of r.only actor → place < length r.benches.items
bench_there r actor place is runs here =
    subst (λ (p : ℕ). p < length r.benches.items) (sym here)
    (place_within (contents_in r) r.history r.only actor r.benches.items
    (actor_there (contents_in r) r.history actor runs) is.are_benches)

pub calls_there : (r : SoFar) (actor : ℕ) → IsSoFar r → is_running (world_in r) r.history actor ≡ true →
    actor < length r.calls.items
calls_there r actor is runs =
    let there = actor_there (contents_in r) r.history actor runs in
    let size : length r.calls.items ≡ actors_in (contents_in r) = ap length is.are_calls
    ∙ length-numbered (calls_by r.history) (actors_in (contents_in r)) in
    omega arith

next_owned : (w : Setup) (before : List Entry) (actor : ℕ) (event : Event) → IsLegal w before →
    MayCome w before actor event
    → IsOwnEntry w actor (own before actor) (next_of w before actor event)
next_owned w before actor event legal may =
    let e : Entry = next_of w before actor event in
    (own_of_legal w (before ++ e ∷ []) actor
    (one_more_is_legal w before e legal (next_legal w before actor event may))).entries (own before actor) e
    (own_stands (stands_last before e))

-- The bench of an actor can have the event next, with so many entries as a limit.
pub record CanAct (limit stamp : ℕ) (c : Contents) (event : Event) (b : BenchState) : Type 0 where
  pub fits : (setup_in b).fits b.actor event ≡ true
  pub later : list_all (λ e. nat_lt e.stamp stamp) b.list ≡ true
  pub taken : TakesWell (setup_in b) stamp event
  pub short : length b.list < limit
  pub works : b.is_spent ≡ false
  pub world : ring_in c ≡ ring_in b.world

can_act_next : (r : SoFar) (actor place limit : ℕ) (event : Event) (b : BenchState) → IsSoFar r →
    length r.history < limit → MayCome (world_in r) r.history actor event → IsItsBench r actor place b →
    CanAct limit (length r.history) (contents_in r) event b
can_act_next r actor place limit event b is few may its =
    let c : Contents = contents_in r in
    let owned = next_owned (setup_of c) r.history actor event is.is_legal may in
    let fewer = own_fewer r.history actor in
    let at_first : CanAct limit (length r.history) c event (bench_in c r.history actor) =
    record {
      fits = may.fits;
      later = owned.later;
      taken = may.taken;
      short = omega arith;
      works = refl;
      world = refl;
    } in
    subst (λ (x : BenchState). CanAct limit (length r.history) c event x)
    (sym (its_bench r actor place b is (actor_there c r.history actor may.running) its)) at_first

pub can_act : (r : SoFar) (actor place limit stamp : ℕ) (event : Event) (b : BenchState) → IsSoFar r →
    length r.history < limit → MayCome (world_in r) r.history actor event → IsItsBench r actor place b →
    stamp ≡ length r.history → CanAct limit stamp (contents_in r) event b
can_act r actor place limit stamp event b is few may its now =
    subst (λ (s : ℕ). CanAct limit s (contents_in r) event b) (sym now)
    (can_act_next r actor place limit event b is few may its)

-- the actor's bench makes the entry
bench_grows : (c : Contents) (before : List Entry) (actor : ℕ) (event : Event)
    → with_entry (bench_in c before actor) (length before) event ≡ bench_in c
    (before ++ next_of (setup_of c) before actor event ∷ []) actor
unfolding entry_at
bench_grows c before actor event =
    let e : Entry = next_of (setup_of c) before actor event in
    let one : own (e ∷ []) actor ≡ e ∷ [] = own_first e [] actor refl
    ∙ ap (λ (xs : List Entry). e ∷ xs) (own_none actor) in
    let longer : own (before ++ e ∷ []) actor ≡ own before actor ++ e ∷ [] = own-append before (e ∷ []) actor
    ∙ ap (λ (xs : List Entry). own before actor ++ xs) one in
    ap (bench_with c actor) (sym longer)

-- so the benches are those of one entry more
benches_next : (c : Contents) (before : List Entry) (only : Option ℕ) (actor place : ℕ) (event : Event)
    (old new : List BenchState) (b grown : BenchState) → actor < actors_in c → is_among only actor ≡ true →
    old ≡ map (bench_in c before) (those_of c only) → place ≡ place_of only actor → b ≡ bench_in c before actor →
    grown ≡ with_entry b (length before) event → new ≡ set old place grown
    → new ≡ map (bench_in c (before ++ next_of (setup_of c) before actor event ∷ [])) (those_of c only)
benches_next c before only actor place event old new b grown there own are here is has put =
    let made : grown ≡ bench_in c (before ++ next_of (setup_of c) before actor event ∷ []) actor =
    has ∙ ap (λ (x : BenchState). with_entry x (length before) event) is ∙ bench_grows c before actor event in
    benches_set c before (before ++ next_of (setup_of c) before actor event ∷ []) only actor place old new grown there
    own are here made put (bench_stays c before (next_of (setup_of c) before actor event))

-- its entry is the next
pub its_entry : (r : SoFar) (actor place : ℕ) (event : Event) (b : BenchState) → IsSoFar r →
    is_running (world_in r) r.history actor ≡ true → IsItsBench r actor place b →
    entry_at b (length r.history) event ≡ next_of (world_in r) r.history actor event
unfolding entry_at
its_entry r actor place event b is runs its =
    ap (λ (x : BenchState). entry_at x (length r.history) event)
    (its_bench r actor place b is (actor_there (contents_in r) r.history actor runs) its)

-- so a history's calls can be counted
pub calls_counted : (r : SoFar) (actor d limit : ℕ) → IsSoFar r → is_running (world_in r) r.history actor ≡ true →
    length r.history < limit
    → get_or r.calls.items actor d ≤ 2 * limit
calls_counted r actor d limit is runs few =
    let c : Contents = contents_in r in
    let its : get_or r.calls.items actor d ≡ calls_by r.history actor =
    ap (λ (ns : List ℕ). get_or ns actor d) is.are_calls ∙ numbered_at (calls_by r.history) (actors_in c) actor d
    (actor_there c r.history actor runs) in
    let most = calls_few (own r.history actor) in
    let fewer = own_fewer r.history actor in
    omega arith

-- the actor's keeper has the calls of one entry more
calls_more : (before : List Entry) (e : Entry) (old : List ℕ) (actors d : ℕ) → e.actor < actors →
    old ≡ map (calls_by before) (numbers_below actors)
    → set old e.actor (get_or old e.actor d + length (calls_at e)) ≡ map (calls_by (before ++ e ∷ []))
    (numbers_below actors)
calls_more before e old actors d low were =
    (λ i. set (were i) e.actor (get_or (were i) e.actor d + length (calls_at e)))
    ∙ ap (λ (n : ℕ). set (map (calls_by before) (numbers_below actors)) e.actor n)
    (ap (λ (n : ℕ). n + length (calls_at e)) (numbered_at (calls_by before) actors e.actor d low) ∙ sym grown)
    ∙ numbered_set (calls_by before) (calls_by (before ++ e ∷ [])) actors e.actor low others
  where
    grown : calls_by (before ++ e ∷ []) e.actor ≡ calls_by before e.actor + length (calls_at e)
    grown =
        ap (λ (es : List Entry). length (keeper_calls es)) (own-append before (e ∷ []) e.actor
        ∙ ap (λ (es : List Entry). own before e.actor ++ es)
        (own_first e [] e.actor refl ∙ ap (λ (es : List Entry). e ∷ es) (own_none e.actor)))
        ∙ ap length (flat_map-append calls_at (own before e.actor) (e ∷ []))
        ∙ length-append (keeper_calls (own before e.actor)) (calls_at e ++ [])
        ∙ ap (λ (n : ℕ). calls_by before e.actor + n) (ap length (append-nil (calls_at e)))

    others : (a : ℕ) → (a ≡ e.actor → ⊥) → calls_by before a ≡ calls_by (before ++ e ∷ []) a
    others a apart = sym (
        ap (λ (es : List Entry). length (keeper_calls es))
        (own-append before (e ∷ []) a ∙ ap (λ (es : List Entry). own before a ++ es)
        (own_other e [] a (λ (same : e.actor ≡ a). apart (sym same)) ∙ own_none a) ∙ append-nil (own before a)))

-- What changed at an event of an actor whose bench was `b`.
pub record HasActed (old new : SoFar) (actor place : ℕ) (event : Event) (b grown : BenchState) (e : Entry)
    (posted : List (Signed Body)) (d stamp : ℕ) : Type 0 where
  pub now : stamp ≡ length old.history
  pub same : contents_in new ≡ contents_in old
  pub at_hand : new.only ≡ old.only
  pub ring : new.ring ≡ old.ring
  pub was : IsItsBench old actor place b
  pub acted : grown ≡ with_entry b stamp event
  pub made : e ≡ entry_at b stamp event
  pub benches : new.benches.items ≡ set old.benches.items place grown
  pub calls : new.calls.items ≡ set old.calls.items actor (get_or old.calls.items actor d + length (calls_at e))
  pub posts : new.posted ≡ old.posted ++ posted ∷ []
  pub frames : (p : ℕ) → slice_get posted p ≡ standing_frame (setup_in b)
      (slice_get (frames_of (setup_in b) b.list (entry_at b stamp event)) p)
  pub history : new.history ≡ old.history ++ e ∷ []

pub has_more : (old new : SoFar) (actor place : ℕ) (event : Event) (b grown : BenchState) (e : Entry)
    (posted : List (Signed Body)) (d stamp : ℕ)
    → IsSoFar old → MayCome (world_in old) old.history actor event →
    HasActed old new actor place event b grown e posted d stamp
    → HasMore old new (next_of (world_in old) old.history actor event)
has_more old new actor place event b grown e posted d stamp is may acted = record {
  same = acted.same;
  at_hand = acted.at_hand;
  is_so_far = subst (λ (x : Contents). IsAtHand x new) (sym acted.same) hand;
  longer = longer;
}
  where
    c : Contents
    c = contents_in old

    before : List Entry
    before = old.history

    next : Entry
    next = next_of (setup_of c) before actor event

    there : actor < actors_in c
    there = actor_there c before actor may.running

    one : e ≡ next
    one = acted.made ∙ ap (λ (s : ℕ). entry_at b s event) acted.now
        ∙ its_entry old actor place event b is may.running acted.was

    longer : new.history ≡ before ++ next ∷ []
    longer = acted.history ∙ ap (λ (x : Entry). before ++ x ∷ []) one

    is_bench : b ≡ bench_in c before actor
    is_bench = its_bench old actor place b is there acted.was

    benches : new.benches.items ≡ map (bench_in c new.history) (those_of c new.only)
    benches =
        benches_next c before old.only actor place event old.benches.items new.benches.items b grown there acted.was.own
        is.are_benches acted.was.here is_bench (acted.acted ∙ ap (λ (s : ℕ). with_entry b s event) acted.now)
        acted.benches
        ∙ (λ i. map (bench_in c (sym longer i)) (those_of c (sym acted.at_hand i)))

    theirs : list_all (λ x. is_among new.only x.actor) new.history ≡ true
    theirs =
        (λ i. list_all (λ (x : Entry). is_among (acted.at_hand i) x.actor) (longer i))
        ∙ theirs_more old.only before next is.are_theirs acted.was.own

    calls : new.calls.items ≡ map (calls_by new.history) (numbers_below (actors_in c))
    calls =
        acted.calls
        ∙ ap (λ (x : Entry). set old.calls.items actor (get_or old.calls.items actor d + length (calls_at x))) one
        ∙ calls_more before next old.calls.items (actors_in c) d there is.are_calls
        ∙ ap (λ (es : List Entry). map (calls_by es) (numbers_below (actors_in c))) (sym longer)

    many : length new.posted ≡ length new.history
    many =
        ap length acted.posts ∙ length-append old.posted (posted ∷ []) ∙ ap (λ (n : ℕ). n + 1) is.as_many
        ∙ sym (ap length longer ∙ length-append before (next ∷ []))

    its_frames : (p : ℕ) → slice_get posted p ≡ standing_frame (setup_of c)
        (slice_get (frames_of (setup_of c) (own before actor) next) p)
    its_frames p =
        acted.frames p
        ∙ ap (λ (s : ℕ). standing_frame (setup_in b)
        (slice_get (frames_of (setup_in b) b.list (entry_at b s event)) p)) acted.now
        ∙ (λ i. standing_frame (setup_in (is_bench i))
        (slice_get (frames_of (setup_in (is_bench i)) (is_bench i).list
        (its_entry old actor place event b is may.running acted.was i)) p))

    frames : (s p : ℕ) → frame_in new.posted s p ≡ standing_frame (setup_of c)
        (slice_get (frames_at_stamp (setup_of c) new.history s) p)
    frames s p =
        ap (λ (ps : List (List (Signed Body))). frame_in ps s p) acted.posts
        ∙ frames_more (setup_of c) before next old.posted posted is.as_many is.are_frames its_frames s p
        ∙ ap (λ (es : List Entry). standing_frame (setup_of c) (slice_get (frames_at_stamp (setup_of c) es s) p))
        (sym longer)

    hand : IsAtHand c new
    hand = record {
      scenario = is.scenario;
      is_legal = subst (IsLegal (setup_of c)) (sym longer)
          (one_more_is_legal (setup_of c) before next is.is_legal (next_legal (setup_of c) before actor event may));
      are_theirs = theirs;
      is_ring = acted.ring ∙ is.is_ring;
      are_benches = benches;
      are_calls = calls;
      as_many = many;
      are_frames = frames;
    }

-- the kinds of what is said, by the entry that was made
pub kinds_told : (r : SoFar) (actor place stamp : ℕ) (event : Event) (b : BenchState) (e : Entry) (said : List Body)
    (kinds : List Kind) (are : Bool) → IsSoFar r
    → is_running (world_in r) r.history actor ≡ true → IsItsBench r actor place b → stamp ≡ length r.history →
    e ≡ entry_at b stamp event → said ≡ e.said
    → are_kinds kinds said ≡ are → are_kinds kinds (says (world_in r) r.history actor event) ≡ are
kinds_told r actor place stamp event b e said kinds are is runs its now made told so =
    let same : e ≡ next_of (world_in r) r.history actor event = made ∙ ap (λ (s : ℕ). entry_at b s event) now
    ∙ its_entry r actor place event b is runs its in
    ap (are_kinds kinds) (sym (told ∙ ap (λ (x : Entry). x.said) same)) ∙ so

-- an entry with these kinds comes
pub came : (w : Setup) (actor : ℕ) (event : Event) (kinds : List Kind) (old new : SoFar) → w.fits actor event ≡ true
    → are_kinds kinds (says w old.history actor event) ≡ true → HasMore old new (next_of w old.history actor event)
    → Comes (entry_of_event w old.history actor kinds (Some event)) true old new
came w actor event kinds old new fits told more =
    let some : entry_of_event w old.history actor kinds (Some event) ≡ Some (next_of w old.history actor event) =
    ap (λ b. cond (b && are_kinds kinds (says w old.history actor event))
    (Some (next_of w old.history actor event)) None) fits
    ∙ ap (λ b. cond b (Some (next_of w old.history actor event)) None) told in
    subst (λ (o : Option Entry). Comes o true old new) (sym some) (refl, more)

-- one with others doesn't
pub other_kinds : (w : Setup) (actor : ℕ) (event : Event) (kinds : List Kind) (old new : SoFar) →
    w.fits actor event ≡ true
    → are_kinds kinds (says w old.history actor event) ≡ false →
    Comes (entry_of_event w old.history actor kinds (Some event)) false old new
other_kinds w actor event kinds old new fits told =
    let none : entry_of_event w old.history actor kinds (Some event) ≡ None =
    ap (λ b. cond (b && are_kinds kinds (says w old.history actor event))
    (Some (next_of w old.history actor event)) None) fits
    ∙ ap (λ b. cond b (Some (next_of w old.history actor event)) None) told in
    subst (λ (o : Option Entry). Comes o false old new) (sym none) refl

pub no_role : (w : Setup) (actor : ℕ) (event : Event) (kinds : List Kind) (old new : SoFar) → w.fits actor event ≡ false
    → Comes (entry_of_event w old.history actor kinds (Some event)) false old new
no_role w actor event kinds old new fits =
    let none : entry_of_event w old.history actor kinds (Some event) ≡ None =
    ap (λ b. cond (b && are_kinds kinds (says w old.history actor event)) (Some (next_of w old.history actor event))
    None) fits in
    subst (λ (o : Option Entry). Comes o false old new) (sym none) refl

-- the entry of a line by its actor
pub no_actor : (w : Setup) (l : EntryLine) (old new : SoFar) → l.actor ≡ None →
    Comes (entry_from w old.history l) false old new
unfolding entry_from
no_actor w l old new is = subst (λ (o : Option ℕ). Comes (entry_by w old.history l o) false old new) (sym is) refl

pub no_turn : (w : Setup) (l : EntryLine) (actor : ℕ) (old new : SoFar) → l.actor ≡ Some actor →
    (nat_eq l.stamp (length old.history) && is_running w old.history actor) ≡ false
    → Comes (entry_from w old.history l) false old new
unfolding entry_from
no_turn w l actor old new is not_now =
    let none : entry_by w old.history l (Some actor) ≡ None =
    ap (λ b. cond b (entry_of_event w old.history actor l.kinds (standing_event w (event_from w old.history l.event)))
    None) not_now in
    subst (λ (o : Option Entry). Comes o false old new) (sym (ap (entry_by w old.history l) is ∙ none)) refl

-- a line in its turn tells the entry of its event
pub turn_is : (w : Setup) (before : List Entry) (l : EntryLine) (actor : ℕ) (kinds : List Kind) →
    l.actor ≡ Some actor → (nat_eq l.stamp (length before) && is_running w before actor) ≡ true
    → kinds ≡ l.kinds → entry_of_event w before actor kinds (standing_event w (event_from w before l.event))
    ≡ entry_from w before l
unfolding entry_from
turn_is w before l actor kinds is now same =
    ap (λ (ks : List Kind). entry_of_event w before actor ks (standing_event w (event_from w before l.event))) same
    ∙ sym (ap (λ b. cond b (entry_of_event w before actor l.kinds (standing_event w (event_from w before l.event)))
    None) now)
    ∙ sym (ap (entry_by w before l) is)

pub runs_in_turn : (w : Setup) (before : List Entry) (stamp actor : ℕ) →
    (nat_eq stamp (length before) && is_running w before actor) ≡ true → is_running w before actor ≡ true
runs_in_turn w before stamp actor now = (and_parts (nat_eq stamp (length before)) (is_running w before actor) now).1

-- the same of what an attempt comes to
pub adds_in_turn : (w : Setup) (l : EntryLine) (actor : ℕ) (kinds : List Kind) (old new : SoFar)
    (told : Result Bool Want) → l.actor ≡ Some actor
    → (nat_eq l.stamp (length old.history) && is_running w old.history actor) ≡ true → kinds ≡ l.kinds
    → IfOk told (λ comes. Comes
    (entry_of_event w old.history actor kinds (standing_event w (event_from w old.history l.event))) comes old new)
    → IfOk told (λ comes. Comes (entry_from w old.history l) comes old new)
adds_in_turn w l actor kinds old new told is now same was =
    subst (λ (o : Option Entry). IfOk told (λ comes. Comes o comes old new))
    (turn_is w old.history l actor kinds is now same) was

-- no event, so no entry
pub no_event : (w : Setup) (actor : ℕ) (kinds : List Kind) (o : Option Event) (old new : SoFar) → None ≡ o →
    Comes (entry_of_event w old.history actor kinds o) false old new
no_event w actor kinds o old new is =
    subst (λ (x : Option Event). Comes (entry_of_event w old.history actor kinds x) false old new) is refl

-- an event that isn't one of the actor's role
pub no_role_there : (w : Setup) (actor : ℕ) (event : Event) (kinds : List Kind) (o : Option Event) (old new : SoFar) →
    Some event ≡ o → w.fits actor event ≡ false
    → Comes (entry_of_event w old.history actor kinds o) false old new
no_role_there w actor event kinds o old new is fits =
    subst (λ (x : Option Event). Comes (entry_of_event w old.history actor kinds x) false old new) is
    (no_role w actor event kinds old new fits)

pub adds_event : (w : Setup) (actor : ℕ) (event : Event) (kinds : List Kind) (o : Option Event) (old new : SoFar)
    (told : Result Bool Want) → Some event ≡ o
    → IfOk told (λ comes. Comes (entry_of_event w old.history actor kinds (Some event)) comes old new) →
    IfOk told (λ comes. Comes (entry_of_event w old.history actor kinds o) comes old new)
adds_event w actor event kinds o old new told is was =
    subst (λ (x : Option Event). IfOk told
    (λ comes. Comes (entry_of_event w old.history actor kinds x) comes old new)) is was

-- what an actor's bench says of an event's role
pub fits_there : (r : SoFar) (actor place : ℕ) (event : Event) (b : BenchState) → IsSoFar r →
    is_running (world_in r) r.history actor ≡ true → IsItsBench r actor place b
    → (setup_in b).fits b.actor event ≡ (world_in r).fits actor event
fits_there r actor place event b is runs its =
    ap (λ (x : BenchState). (setup_in x).fits x.actor event)
    (its_bench r actor place b is (actor_there (contents_in r) r.history actor runs) its)

-- keepers fail alike, whatever keys are held
pub same_failing : (r : SoFar) (actor : ℕ) →
    (setup_of (contents r.scenario.now)).failing actor ≡ (world_in r).failing actor
same_failing r actor =
    (setup_goes_by (contents r.scenario.now)).failing actor ∙ sym ((setup_goes_by (contents_in r)).failing actor)

-- whether an actor runs, by the calls that are counted
pub runs_by : (r : SoFar) (actor calls : ℕ) (fails : Bool) → IsSoFar r → slice_get r.calls.items actor ≡ Some calls
    → fails ≡ list_any (λ x. nat_le 1 x && nat_le x calls) ((world_in r).failing actor) →
    not fails ≡ is_running (world_in r) r.history actor
runs_by r actor calls fails is at told =
    let c : Contents = contents_in r in
    let size : length r.calls.items ≡ actors_in c = ap length is.are_calls
    ∙ length-numbered (calls_by r.history) (actors_in c) in
    let within : actor < length r.calls.items = slice_get_within r.calls.items actor calls at in
    let low : actor < actors_in c = omega arith in
    let there : actor < (setup_of c).group.n + (setup_of c).group.clients =
    subst (λ (g : Group). actor < g.n + g.clients) (sym (group_is c)) low in
    let its : calls ≡ calls_by r.history actor =
    sym (get_or_from_slice_get r.calls.items actor calls calls at)
    ∙ ap (λ (ns : List ℕ). get_or ns actor calls) is.are_calls ∙ numbered_at (calls_by r.history)
    (actors_in c) actor calls low in
    ap not (told ∙ ap (λ (n : ℕ). list_any (λ x. nat_le 1 x && nat_le x n) ((world_in r).failing actor)) its)
    ∙ ap (λ b. b && not (is_halted (setup_of c) actor (own r.history actor)))
    (sym (lt-ltb actor ((setup_of c).group.n + (setup_of c).group.clients) there))

pub none_runs : (r : SoFar) (actor : ℕ) → IsSoFar r → slice_get r.calls.items actor ≡ None →
    false ≡ is_running (world_in r) r.history actor
none_runs r actor is none = elim (slice_get_cases r.calls.items actor).1 [
  | inl inside ↦ let at = inside.2 in absurd (cc)
  | inr past ↦
      let c : Contents = contents_in r in
      let size : length r.calls.items ≡ actors_in c = ap length is.are_calls
      ∙ length-numbered (calls_by r.history) (actors_in c) in
      let beyond = past.0 in
      let high : actors_in c ≤ actor = omega arith in
      let away : (setup_of c).group.n + (setup_of c).group.clients ≤ actor =
      subst (λ (g : Group). g.n + g.clients ≤ actor) (sym (group_is c)) high in
      sym (ap (λ b. b && not (is_halted (setup_of c) actor (own r.history actor)))
      (le-ltb actor ((setup_of c).group.n + (setup_of c).group.clients) away))
]
