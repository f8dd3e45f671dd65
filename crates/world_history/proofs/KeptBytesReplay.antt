-- What is made anew of kept bytes is what was there: each text says its entry's stamp and event, and the entry says
-- just what the rules make its actor say there.
use Rattle.std.proofs.Common.{◌≡◌, ℕ, zero, suc, ◌+◌, ◌<◌, ◌≤◌, List, [], ◌∷◌, ◌++◌, take, length, get_or, true, refl}
use Rattle.std.proofs.Common.{sym, ◌∙◌, ap, subst, arith}
use Rattle.std.specs.Prelude.{Some, slice_get, nat_lt}
use Rattle.std.specs.Option.{option_map}
use Rattle.std.specs.declared.vec.Vec.{Vec}
use Rattle.std.specs.declared.alloc.Global.{Global}
use Rattle.std.specs.List.{list_all}
use Rattle.std.proofs.lemmas.List.{length-map, length-take, take_all}
use Rattle.std.proofs.lemmas.Option.{slice_get-map, slice_get_read}
use Rattle.outside.specs.Keepers.{lists_of}
use Rattle.message_types.specs.declared.body.Body.{Body}
use Rattle.message_types.specs.declared.signed.Signed.{Signed}
use Rattle.scenario_file.specs.Reading.{Contents}
use Rattle.history_rules.specs.Events.{Event, Took, Tick, Command, Field, Poll, Cry, Skip, Restart, Entry}
use Rattle.history_rules.specs.Setup.{stands}
use Rattle.history_rules.specs.Legal.{Stands, TakesWell, says_in}
use Rattle.world_rules.specs.Scenarios.{setup_of}
use Rattle.history_laws.specs.BenchLists.{AddsEntry}
use Rattle.world_history.specs.Signed.{ring_in}
use Rattle.bench_rules.specs.Lists.{frames_after}
use Rattle.world_history.proofs.StandingFrames.{stands_by_ring}
use Rattle.entry_texts.specs.Texts.{entry_text, kept_text}
use Rattle.entry_texts.specs.Fits.{FitsEntry, TakenStands}
use Rattle.entry_texts.specs.KeptEntries.{IsKept}
use Rattle.entry_texts.proofs.TextLaws.{entry-inj}
use Rattle.world_history.specs.State.{BenchState, setup_in, entry_at, with_entry}
use Rattle.world_history.specs.Lists.{texts_of, IsKeptList, AreKept, ComesNext, replayed, frames_of_last}
use Rattle.world_history.proofs.LastEntry.{frames_grown, frames_nothing}

taken_stands : (c : Contents) (now : ℕ) (event : Event) → TakesWell (setup_of c) now event →
    TakenStands (ring_in c) event
taken_stands c now (Took s p f) taken = sym (stands_by_ring c f) ∙ taken.0
taken_stands c now Tick taken = tt
taken_stands c now (Command o) taken = tt
taken_stands c now (Field a p v) taken = tt
taken_stands c now Poll taken = tt
taken_stands c now (Cry bytes) taken = tt
taken_stands c now Skip taken = tt
taken_stands c now Restart taken = tt

pub next_kept : (b : BenchState) (bytes : List ℕ) → ComesNext b bytes → IsKept bytes
next_kept b bytes next = record {
  stamp = next.entry.stamp;
  event = next.entry.event;
  fits = next.fits;
  ring = ring_in b.world;
  stands = taken_stands b.world next.entry.stamp next.entry.event next.adds.taken;
  is = next.are;
}

-- the entry that was read is the one that was kept
pub same_entry : (bytes : List ℕ) (stamp : ℕ) (event : Event) (e : Entry) → bytes ≡ entry_text stamp event →
    FitsEntry stamp event
    → FitsEntry e.stamp e.event → bytes ≡ kept_text e → (e.stamp ≡ stamp) × (e.event ≡ event)
same_entry bytes stamp event e read fits wide kept =
    let same = entry-inj e.stamp stamp e.event event [] [] wide fits (ap (λ t. t ++ []) (sym kept ∙ read)) in
    (same.0, same.1)

-- an entry that the actor could add is the one that its event makes
pub adds_is : (b : BenchState) (e : Entry) → AddsEntry (setup_in b) b.actor b.list e → entry_at b e.stamp e.event ≡ e
unfolding entry_at
adds_is b e adds = ap made (sym adds.by) ∙ ap saying (sym adds.said)
  where
    made : ℕ → Entry
    made actor = record {
      stamp = e.stamp;
      actor = actor;
      event = e.event;
      said =
          says_in (setup_in b) b.actor b.list e.event;
    }

    saying : List Body → Entry
    saying said = record { stamp = e.stamp; actor = e.actor; event = e.event; said = said }

pub read_is : (b : BenchState) (bytes : List ℕ) (stamp : ℕ) (event : Event) (e : Entry) →
    bytes ≡ entry_text stamp event → FitsEntry stamp event
    → FitsEntry e.stamp e.event → AddsEntry (setup_in b) b.actor b.list e → bytes ≡ kept_text e →
    entry_at b stamp event ≡ e
read_is b bytes stamp event e read fits wide adds kept =
    let same = same_entry bytes stamp event e read fits wide kept in
    ap (λ s. entry_at b s event) (sym same.0) ∙ ap (entry_at b e.stamp) (sym same.1) ∙ adds_is b e adds

pub replayed_one : (b new : BenchState) (bytes : List ℕ) (stamp : ℕ) (event : Event) (e : Entry) →
    new ≡ with_entry b stamp event
    → entry_at b stamp event ≡ e → new ≡ record b { list = b.list ++ e ∷ [] }
replayed_one b new bytes stamp event e added is = added ∙ ap (λ x. record b { list = b.list ++ x ∷ [] }) is

-- An entry of a list by its place.
pub record IsPlace (list : List Entry) (i : ℕ) : Type 0 where
  pub entry : Entry
  pub stands : Stands list (take i list) entry
  pub more : take (i + 1) list ≡ take i list ++ entry ∷ []
  pub text : slice_get (texts_of list) i ≡ Some (kept_text entry)

behind : (x : Entry) (list : List Entry) (i : ℕ) → IsPlace list i → IsPlace (x ∷ list) (suc i)
behind x list i p = record {
  entry = p.entry;
  stands = record { after = p.stands.after; whole = ap (λ (xs : List Entry). x ∷ xs) p.stands.whole };
  more = let one : suc i + 1 ≡ suc (i + 1) = omega arith in ap (λ n. take n (x ∷ list)) one
      ∙ ap (λ (xs : List Entry). x ∷ xs) p.more;
  text = p.text;
}

pub place_of : (list : List Entry) (i : ℕ) → i < length list → IsPlace list i
place_of [] i low = absurd (omega arith)
place_of (x ∷ list) zero low = record {
  entry = x;
  stands = record { after = list; whole = refl };
  more = let one : 0 + 1 ≡ suc zero = omega arith in ap (λ n. take n (x ∷ list)) one;
  text = refl;
}
place_of (x ∷ list) (suc i) low = behind x list i (place_of list i (omega arith))

some_same : {X : Type 0} {x y : X} → Some x ≡ Some y → x ≡ y
some_same e = cc

-- the bytes at a place are those of the entry there
pub bytes_at : (list : List Entry) (i : ℕ) (kept : List (List ℕ)) (bytes : List ℕ) (p : IsPlace list i) →
    kept ≡ texts_of list → slice_get kept i ≡ Some bytes
    → bytes ≡ kept_text p.entry
bytes_at list i kept bytes p are here = some_same (sym here ∙ ap (λ (ts : List (List ℕ)). slice_get ts i) are ∙ p.text)

pub as_long : (list : List Entry) (kept : List (List ℕ)) → kept ≡ texts_of list → length kept ≡ length list
as_long list kept are = ap length are ∙ length-map list kept_text

pub comes_next : (c : Contents) (actor i : ℕ) (list : List Entry) (kept : List (List ℕ)) (bytes : List ℕ)
    (b : BenchState) → IsKeptList c actor list
    → kept ≡ texts_of list → i < length kept → slice_get kept i ≡ Some bytes → length (take i list) ≤ i →
    b ≡ replayed c actor (take i list) → ComesNext b bytes
comes_next c actor i list kept bytes b can are low here few is =
    let long = as_long list kept are in
    let p : IsPlace list i = place_of list i (omega arith) in
    let short = can.short in
    subst (λ (s : BenchState). ComesNext s bytes) (sym is) (record {
      entry = p.entry;
      fits = can.fits (take i list) p.entry p.stands;
      adds = can.entries.entries (take i list) p.entry p.stands;
      short = omega arith;
      are = bytes_at list i kept bytes p are here;
    })

-- what a step gives of any entry that could come next
abbrev pub GivesBench : BenchState → List ℕ → BenchState → Type 0
GivesBench b bytes new =
    (e : Entry) → FitsEntry e.stamp e.event → AddsEntry (setup_in b) b.actor b.list e → bytes ≡ kept_text e →
    new ≡ record b { list = b.list ++ e ∷ [] }

abbrev pub GivesFrames : BenchState → List ℕ → List (Signed Body) → Type 0
GivesFrames b bytes frames =
    (e : Entry) → FitsEntry e.stamp e.event → AddsEntry (setup_in b) b.actor b.list e → bytes ≡ kept_text e →
    frames ≡ frames_after (setup_in b) b.actor b.list e

pub one_more_bench : (c : Contents) (actor i : ℕ) (list : List Entry) (kept : List (List ℕ)) (bytes : List ℕ)
    (b new : BenchState) → IsKeptList c actor list
    → kept ≡ texts_of list → i < length kept → slice_get kept i ≡ Some bytes → b ≡ replayed c actor (take i list) →
    GivesBench b bytes new
    → new ≡ replayed c actor (take (i + 1) list)
one_more_bench c actor i list kept bytes b new can are low here is gives =
    let long = as_long list kept are in
    let p : IsPlace list i = place_of list i (omega arith) in
    (subst (λ (s : BenchState). GivesBench s bytes new) is gives) p.entry (can.fits (take i list) p.entry p.stands)
    (can.entries.entries (take i list) p.entry p.stands) (bytes_at list i kept bytes p are here)
    ∙ ap (replayed c actor) (sym p.more)

pub one_more_frames : (c : Contents) (actor i : ℕ) (list : List Entry) (kept : List (List ℕ)) (bytes : List ℕ)
    (b : BenchState) (frames : List (Signed Body))
    → IsKeptList c actor list → kept ≡ texts_of list → i < length kept → slice_get kept i ≡ Some bytes →
    b ≡ replayed c actor (take i list)
    → GivesFrames b bytes frames → frames ≡ frames_of_last (setup_of c) actor (take (i + 1) list)
one_more_frames c actor i list kept bytes b frames can are low here is gives =
    let long = as_long list kept are in
    let p : IsPlace list i = place_of list i (omega arith) in
    (subst (λ (s : BenchState). GivesFrames s bytes frames) is gives) p.entry (can.fits (take i list) p.entry p.stands)
    (can.entries.entries (take i list) p.entry p.stands) (bytes_at list i kept bytes p are here)
    ∙ sym (frames_grown (setup_of c) actor (take i list) p.entry)
    ∙ ap (frames_of_last (setup_of c) actor) (sym p.more)

-- A loop over what is kept. The actor did what the entries so far say: this holds whatever list it is whose bytes are
-- kept.
abbrev pub DidSoFar : Contents → ℕ → ℕ → List (List ℕ) → BenchState → Type 0
DidSoFar c actor i kept b = (list : List Entry) → IsKeptList c actor list → kept ≡ texts_of list →
    b ≡ replayed c actor (take i list)

abbrev pub FramesSoFar : Contents → ℕ → ℕ → List (List ℕ) → List (Signed Body) → Type 0
FramesSoFar c actor i kept frames =
    (list : List Entry) → IsKeptList c actor list → kept ≡ texts_of list →
    frames ≡ frames_of_last (setup_of c) actor (take i list)

-- the bytes at a place of what is kept
pub item_at : (kept : List (Vec ℕ Global)) (i : ℕ) (item : Vec ℕ Global) (bytes : List ℕ) → i < length kept →
    item ≡ get_or kept i item → bytes ≡ item.items
    → slice_get (lists_of kept) i ≡ Some bytes
item_at kept i item bytes low here is =
    slice_get-map (λ (v : Vec ℕ Global). v.items) kept i
    ∙ ap (option_map (λ (v : Vec ℕ Global). v.items)) (slice_get_read kept (length kept) i item refl low here)
    ∙ ap (λ (bs : List ℕ). Some bs) (sym is)

pub low_in : (kept : List (Vec ℕ Global)) (i : ℕ) → i < length kept → i < length (lists_of kept)
low_in kept i low = let long = length-map kept (λ (v : Vec ℕ Global). v.items) in omega arith

pub high_in : (kept : List (Vec ℕ Global)) (i : ℕ) → length kept ≤ i → length (lists_of kept) ≤ i
high_in kept i high = let long = length-map kept (λ (v : Vec ℕ Global). v.items) in omega arith

pub next_comes : (c : Contents) (actor i : ℕ) (kept : List (List ℕ)) (bytes : List ℕ) (b : BenchState) →
    AreKept c actor kept → i < length kept
    → slice_get kept i ≡ Some bytes → DidSoFar c actor i kept b → ComesNext b bytes
next_comes c actor i kept bytes b are low here did =
    let few : length (take i are.list) ≤ i = omega (arith, length-take i are.list) in
    comes_next c actor i are.list kept bytes b are.can are.are low here few (did are.list are.can are.are)

pub did_next : (c : Contents) (actor i : ℕ) (kept : List (List ℕ)) (bytes : List ℕ) (b new : BenchState) →
    i < length kept
    → slice_get kept i ≡ Some bytes → DidSoFar c actor i kept b → GivesBench b bytes new →
    DidSoFar c actor (i + 1) kept new
did_next c actor i kept bytes b new low here did gives =
    λ list can are. one_more_bench c actor i list kept bytes b new can are low here (did list can are) gives

pub frames_next : (c : Contents) (actor i : ℕ) (kept : List (List ℕ)) (bytes : List ℕ) (b : BenchState)
    (frames : List (Signed Body)) → i < length kept
    → slice_get kept i ≡ Some bytes → DidSoFar c actor i kept b → GivesFrames b bytes frames →
    FramesSoFar c actor (i + 1) kept frames
frames_next c actor i kept bytes b frames low here did gives =
    λ list can are. one_more_frames c actor i list kept bytes b frames can are low here (did list can are) gives

pub did_nothing : (c : Contents) (actor : ℕ) (kept : List (List ℕ)) (b : BenchState) → b ≡ replayed c actor [] →
    DidSoFar c actor 0 kept b
did_nothing c actor kept b begun = λ list can are. begun

pub frames_none : (c : Contents) (actor : ℕ) (kept : List (List ℕ)) (frames : List (Signed Body)) → frames ≡ [] →
    FramesSoFar c actor 0 kept frames
frames_none c actor kept frames none = λ list can are. none ∙ sym (frames_nothing (setup_of c) actor)

-- the frames of each step stand by the scenario's keys
pub stand_next : (c : Contents) (actor i : ℕ) (kept : List (List ℕ)) (b : BenchState) (frames : List (Signed Body)) →
    AreKept c actor kept
    → DidSoFar c actor i kept b → list_all (stands (setup_in b)) frames ≡ true →
    list_all (stands (setup_of c)) frames ≡ true
stand_next c actor i kept b frames are did stand =
    subst (λ (x : BenchState). list_all (stands (setup_in x)) frames ≡ true) (did are.list are.can are.are) stand

-- after the last of them it is all
whole_list : (list : List Entry) (kept : List (List ℕ)) (i : ℕ) → kept ≡ texts_of list →
    length kept ≤ i → take i list ≡ list
whole_list list kept i are all = let long = as_long list kept are in take_all i list (omega arith)

pub did_all : (c : Contents) (actor i : ℕ) (kept : List (List ℕ)) (b : BenchState) → length kept ≤ i →
    DidSoFar c actor i kept b
    → (list : List Entry) → IsKeptList c actor list → kept ≡ texts_of list → b ≡ replayed c actor list
did_all c actor i kept b all did list can are =
    did list can are ∙ ap (replayed c actor) (whole_list list kept i are all)

pub frames_all : (c : Contents) (actor i : ℕ) (kept : List (List ℕ)) (frames : List (Signed Body)) → length kept ≤ i →
    FramesSoFar c actor i kept frames
    → (list : List Entry) → IsKeptList c actor list → kept ≡ texts_of list →
    frames ≡ frames_of_last (setup_of c) actor list
frames_all c actor i kept frames all so list can are = so list can are ∙ ap (frames_of_last (setup_of c) actor)
    (whole_list list kept i are all)

-- The event that was read can come next.
pub record CanAct (b : BenchState) (stamp : ℕ) (event : Event) : Type 0 where
  pub fits : (setup_in b).fits b.actor event ≡ true
  pub later : list_all (λ (e : Entry). nat_lt e.stamp stamp) b.list ≡ true
  pub taken : TakesWell (setup_in b) stamp event

pub can_act : (b : BenchState) (bytes : List ℕ) (stamp : ℕ) (event : Event) → ComesNext b bytes →
    bytes ≡ entry_text stamp event → FitsEntry stamp event
    → CanAct b stamp event
can_act b bytes stamp event next read fits =
    let same = same_entry bytes stamp event next.entry read fits next.fits next.are in
    record {
      fits = subst (λ (ev : Event). (setup_in b).fits b.actor ev ≡ true) same.1 next.adds.role;
      later = subst (λ (s : ℕ). list_all (λ (e : Entry). nat_lt e.stamp s) b.list ≡ true) same.0 next.adds.later;
      taken = subst (λ (s : ℕ). TakesWell (setup_in b) s event) same.0
          (subst (λ (ev : Event). TakesWell (setup_in b) next.entry.stamp ev) same.1 next.adds.taken);
    }
