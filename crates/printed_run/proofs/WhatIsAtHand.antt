-- What is at hand of a history tells what was said at a stamp.
use Rattle.std.proofs.Common.{◌≡◌, ℕ, suc, ◌+◌, ◌<◌, Bool, true, false, ◌&&◌, nat_lt, List, [], ◌∷◌, Option, Some}
use Rattle.std.proofs.Common.{length, map, take, drop, get_or, option_and_then, refl, sym, ◌∙◌, ap, subst}
use Rattle.std.proofs.lemmas.Bool.{lt-ltb}
use Rattle.std.proofs.lemmas.Option.{slice_get-get_or, slice_get_within}
use Rattle.std.specs.List.{slice_get, list_all}
use Rattle.message_types.specs.declared.signed.Signed.{Signed}
use Rattle.message_types.specs.declared.body.Body.{Body}
use Rattle.protocol_rules.specs.Group.{Group}
use Rattle.scenario_file.specs.Reading.{Contents}
use Rattle.scenario_file.specs.Valid.{IsScenario}
use Rattle.history_rules.specs.Events.{Entry}
use Rattle.history_rules.specs.Setup.{own}
use Rattle.history_rules.specs.Legal.{IsLegal}
use Rattle.world_entries.specs.declared.entry.Entry.{Entry as KeptEntry}
use Rattle.world_entries.specs.Entries.{entry_of}
use Rattle.world_rules.specs.Frames.{cried, frames_at_stamp}
use Rattle.world_rules.specs.Scenarios.{setup_of, actors_in}
use Rattle.world_rules.proofs.Fields.{group_is}
use Rattle.world_history.specs.Seats.{frames_of_each}
use Rattle.world_history.specs.State.{BenchState, setup_in}
use Rattle.world_history.specs.Benches.{bench_in, unsigned, AreBenches}
use Rattle.printed_run.specs.Places.{places_from, IsAtHand}
use Rattle.printed_run.specs.Printed.{is_frame}
use Rattle.printed_run.proofs.SaidThere.{kept_there}
use Rattle.printed_run.proofs.BenchesMakeText.{as_many, bench_at}
use Rattle.printed_run.proofs.FramesOfEntries.{stands_at, frames_by_bench, place_of, place_inside, length-each, length-places}

-- the entry's actor has a bench
actor_benched : (c : Contents) (history : List Entry) (benches : List BenchState) (stamp : ℕ) (e : Entry) →
    IsLegal (setup_of c) history
    → AreBenches c history benches → slice_get history stamp ≡ Some e → e.actor < length benches
actor_benched c history benches stamp e legal are is =
    let entry = legal.entries (take stamp history) e record {
      after = drop (suc stamp) history;
      whole =
          stands_at history stamp e is;
    } in
    let low : e.actor < actors_in c = subst (λ (g : Group). e.actor < g.n + g.clients) (group_is c) entry.actor in
    subst (λ (n : ℕ). e.actor < n) (sym (as_many c history benches are)) low

pub actor_there : (c : Contents) (history : List Entry) (benches : List BenchState) (places : List ℕ) (stamp : ℕ)
    (e : Entry) → IsAtHand c history benches places
    → slice_get history stamp ≡ Some e → e.actor < length benches
actor_there c history benches places stamp e hand is =
    actor_benched c history benches stamp e hand.is_legal hand.are_benches is

pub place_there : (c : Contents) (history : List Entry) (benches : List BenchState) (places : List ℕ) (stamp : ℕ)
    (e : Entry) → IsAtHand c history benches places
    → slice_get history stamp ≡ Some e → stamp < length places
place_there c history benches places stamp e hand is =
    subst (λ (n : ℕ). stamp < n) (sym (ap length hand.are_places ∙ length-places [] history))
    (slice_get_within history stamp e is)

all_by_place : (n : ℕ) (xs : List KeptEntry) → ((i : ℕ) (e : KeptEntry) → slice_get xs i ≡ Some e → e.actor < n) →
    list_all (λ e. nat_lt e.actor n) xs ≡ true
all_by_place n [] each = refl
all_by_place n (x ∷ xs) each =
    ap (λ (b : Bool). b && list_all (λ (e : KeptEntry). nat_lt e.actor n) xs) (lt-ltb x.actor n (each 0 x refl))
    ∙ all_by_place n xs (λ i e is. each (suc i) e is)

-- so has each entry's
pub all_benched : (c : Contents) (history : List Entry) (benches : List BenchState) (xs : List KeptEntry) →
    IsLegal (setup_of c) history → AreBenches c history benches
    → map entry_of xs ≡ history → list_all (λ e. nat_lt e.actor (length benches)) xs ≡ true
all_benched c history benches xs legal are whole =
    all_by_place (length benches) xs (λ i e is. actor_benched c history benches i (entry_of e) legal are
    (subst (λ (es : List Entry). slice_get es i ≡ Some (entry_of e)) whole (kept_there xs i e is)))

-- the frames that the bench of an entry's actor has of it, where it cries nothing
pub frames_posted : (c : Contents) (history : List Entry) (benches : List BenchState) (places : List ℕ)
    (stamp own_place d : ℕ) (e : Entry) (b other : BenchState)
    (posted : Option (List (Signed Body))) → IsAtHand c history benches places → slice_get history stamp ≡ Some e →
    cried e.event ≡ []
    → b ≡ get_or benches e.actor other → own_place ≡ get_or places stamp d
    → (b.is_spent ≡ false → posted ≡ slice_get (frames_of_each (setup_in b) b.actor [] b.list) own_place)
    → posted ≡ Some (frames_at_stamp (setup_of c) history stamp)
frames_posted c history benches places stamp own_place d e b other posted hand is silent at place shows =
    let w = setup_of c in
    let same : unsigned b ≡ bench_in c history e.actor =
    ap unsigned at ∙ bench_at c history benches e.actor other hand.are_benches
    (actor_there c history benches places stamp e hand is) in
    let frames : List (List (Signed Body)) = frames_of_each w e.actor [] (own history e.actor) in
    let here : own_place ≡ length (own (take stamp history) e.actor) =
    place ∙ ap (λ (ps : List ℕ). get_or ps stamp d) hand.are_places ∙ place_of history stamp e d is in
    let inside : length (own (take stamp history) e.actor) < length frames =
    subst (λ (n : ℕ). length (own (take stamp history) e.actor) < n)
    (sym (length-each w e.actor [] (own history e.actor))) (place_inside history stamp e is) in
    shows (ap (λ (x : BenchState). x.is_spent) same)
    ∙ ap (λ (x : BenchState). slice_get (frames_of_each (setup_of x.world) x.actor [] x.list) own_place) same
    ∙ ap (λ (n : ℕ). slice_get frames n) here
    ∙ slice_get-get_or frames (length (own (take stamp history) e.actor)) [] inside
    ∙ ap (λ (fs : List (Signed Body)). Some fs) (frames_by_bench w history stamp e [] is silent)

-- whether the frame is the one at the place there
pub frame_posted : (c : Contents) (history : List Entry) (benches : List BenchState) (places : List ℕ)
    (stamp own_place d at_place : ℕ) (e : Entry) (b other : BenchState)
    (posted : Option (List (Signed Body))) (frame : Signed Body) (told : Bool) → IsAtHand c history benches places →
    slice_get history stamp ≡ Some e → cried e.event ≡ []
    → b ≡ get_or benches e.actor other → own_place ≡ get_or places stamp d
    → (b.is_spent ≡ false → posted ≡ slice_get (frames_of_each (setup_in b) b.actor [] b.list) own_place)
    → told ≡ is_frame frame (option_and_then (λ fs. slice_get fs at_place) posted)
    → told ≡ is_frame frame (slice_get (frames_at_stamp (setup_of c) history stamp) at_place)
frame_posted c history benches places stamp own_place d at_place e b other posted frame told hand is
    silent at place shows tells =
    tells ∙ ap (λ (o : Option (List (Signed Body))). is_frame frame
    (option_and_then (λ (fs : List (Signed Body)). slice_get fs at_place) o))
    (frames_posted c history benches places stamp own_place d e b other posted hand is silent at place shows)

-- a history is at hand by its kept entries
pub at_hand : (c : Contents) (history : List Entry) (benches : List BenchState) (xs : List KeptEntry)
    (places : List ℕ) → IsScenario c → IsLegal (setup_of c) history
    → AreBenches c history benches → map entry_of xs ≡ history → places ≡ places_from [] (map entry_of xs) →
    IsAtHand c (map entry_of xs) benches places
at_hand c history benches xs places valid legal are whole placed = record {
  scenario = valid;
  is_legal = subst (λ (es : List Entry). IsLegal (setup_of c) es) (sym whole) legal;
  are_benches = subst (λ (es : List Entry). AreBenches c es benches) (sym whole) are;
  are_places = placed;
}
