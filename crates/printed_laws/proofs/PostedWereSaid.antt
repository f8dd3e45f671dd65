-- The frames that are posted at an event were said where they are posted from.
use Rattle.std.proofs.Common.{◌≡◌, inl, inr, ℕ, zero, suc, ◌+◌, ◌-◌, ◌<◌, ◌^◌, Bool, true, false, cond}
use Rattle.std.proofs.Common.{◌&&◌, List, [], ◌∷◌, ◌++◌, Option, Some, None, Result, Ok, Err, length, map, take, drop}
use Rattle.std.proofs.Common.{nat_eq, nat_lt, append-nil, refl, sym, ◌∙◌, ap, arith, eqb-true}
use Rattle.std.specs.Prelude.{slice_get}
use Rattle.std.proofs.lemmas.Bool.{ltb-true}
use Rattle.plain_lists.proofs.Members.{none_in, in_cons_cases, none_some, some_same, slice_get-more, in_filter_from}
use Rattle.plain_lists.specs.Lists.{IsIn}
use Rattle.message_types.specs.declared.signed.Signed.{Signed}
use Rattle.message_types.specs.declared.body.Body.{Body}
use Rattle.message_forms.specs.declared.refusal.FormRefusal.{FormRefusal}
use Rattle.message_forms.specs.Forms.{frame_at}
use Rattle.scenario_file.specs.Reading.{Contents}
use Rattle.history_rules.specs.Events.{Event, Cry, Entry, is_restart}
use Rattle.history_rules.specs.Setup.{Setup, stands, signed_from, leaves_used, own}
use Rattle.history_rules.specs.Keeping.{is_halted}
use Rattle.history_rules.specs.Legal.{Stands, IsLegal, says_in}
use Rattle.history_laws.proofs.Forged.{in_of_stands}
use Rattle.history_laws.proofs.OwnEntries.{place_in_whole}
use Rattle.world_rules.specs.Frames.{cried, frames_of, frames_at_stamp}
use Rattle.world_rules.specs.Scenarios.{setup_of}
use Rattle.bench_rules.specs.Lists.{frames_after}
use Rattle.history_laws.proofs.BenchLists.{intruded_say_nothing}
use Rattle.world_history.specs.State.{BenchState, entry_at, frames_said}
use Rattle.world_history.specs.Lists.{last_of, before_last, frames_at, frames_of_last}
use Rattle.run_scripts.specs.declared.mail.Held.{Held}
use Rattle.run_scripts.specs.declared.mail.Post.{Post}
use Rattle.run_scripts.specs.Mail.{held_at, post_to, posts_from}
use Rattle.run_scripts.specs.Making.{Given, bench_at, last_stamp, posts_at}
use Rattle.printed_laws.proofs.SaidThere.{IsPosted, posted_on, frames_there}

-- what is held is the frame, at this stamp and place, which is a number of 32 bits
held_is : (w : Setup) (stamp place : ℕ) (f : Signed Body) (h : Held) → held_at w stamp place f ≡ Some h →
    (record { stamp = stamp; place = place; frame = f } ≡ h) × (place < 2 ^ 32)
unfolding held_at
held_is w stamp place f h is = at (nat_lt place (2 ^ 32)) (stands w f) refl is
  where
    at : (low stand : Bool) → nat_lt place (2 ^ 32) ≡ low →
        cond (low && stand) (Some record { stamp = stamp; place = place; frame = f }) None ≡ Some h
        → (record { stamp = stamp; place = place; frame = f } ≡ h) × (place < 2 ^ 32)
    at true true low same = (some_same same, ltb-true place (2 ^ 32) low)
    at true false low same = absurd (none_some same)
    at false stand low same = absurd (none_some same)

-- the held frame stands at its place of the frames that are posted
abbrev IsPlaced : ℕ → ℕ → List (Signed Body) → Held → Type 0
IsPlaced stamp first frames h = (i : ℕ) × (h.stamp ≡ stamp) × (h.place ≡ first + i)
    × (slice_get frames i ≡ Some h.frame) × (h.place < 2 ^ 32)

post_placed : (w : Setup) (from stamp first : ℕ) (frames : List (Signed Body)) (p : Post) (h : Held) →
    IsIn p (posts_from w from stamp first frames) → p.held ≡ Some h → IsPlaced stamp first frames h
post_placed w from stamp first [] p h among is = absurd (none_in among)
post_placed w from stamp first (f ∷ rest) p h among is = elim (in_cons_cases among) [
  | inl same ↦
      let is_held = held_is w stamp first f h (sym (ap (λ (x : Post). x.held) same) ∙ is) in
      let held = is_held.0 in
      let place : h.place ≡ first = sym (ap (λ (x : Held). x.place) held) in (
        0,
        sym (ap (λ (x : Held). x.stamp) held),
        omega (arith, place),
        ap (λ (x : Held). Some x.frame) held,
        omega (arith, place, is_held.1),
      )
  | inr later ↦
      let found = post_placed w from stamp (suc first) rest p h later is in
      let place : h.place ≡ suc first + found.0 = found.2 in
      (suc found.0, found.1, omega (arith, place), found.3, found.4)
]

-- frames that begin those of the entry with a stamp were said there
placed_posted : (w : Setup) (history : List Entry) (stamp : ℕ) (frames others : List (Signed Body)) (h : Held) →
    frames_at_stamp w history stamp ≡ frames ++ others → IsPlaced stamp 0 frames h
    → IsPosted w history h.stamp h.place h.frame
placed_posted w history stamp frames others h are placed =
    let place : h.place ≡ placed.0 = placed.2 ∙ omega arith in (
      (λ i. slice_get (frames_at_stamp w history (placed.1 i)) (place i))
          ∙ ap (λ (fs : List (Signed Body)). slice_get fs placed.0) are
          ∙ slice_get-more frames others placed.0 placed.3,
      placed.4,
    )

posts_posted : (w : Setup) (history : List Entry) (from stamp : ℕ) (frames others : List (Signed Body)) (p : Post)
    (h : Held) → frames_at_stamp w history stamp ≡ frames ++ others
    → IsIn p (posts_from w from stamp 0 frames) → p.held ≡ Some h → IsPosted w history h.stamp h.place h.frame
posts_posted w history from stamp frames others p h are among is = placed_posted w history stamp frames others h are
    (post_placed w from stamp 0 frames p h among is)

-- at an event that isn't a restart
said_now : (c : Contents) (history : List Entry) (b : BenchState) (event : Event) (p : Post) (h : Held) →
    b.world ≡ c → b.list ≡ own history b.actor
    → IsIn p (posts_from (setup_of c) b.actor (length history) 0 (frames_said b (length history) event)) →
    p.held ≡ Some h
    → IsPosted (setup_of c) (history ++ entry_at b (length history) event ∷ []) h.stamp h.place h.frame
unfolding entry_at
said_now c history b event p h world list among is =
    let e : Entry = entry_at b (length history) event in
    let are : frames_at_stamp (setup_of c) (history ++ e ∷ []) (length history) ≡ frames_said b (length history) event
    ++ cried event =
    frames_there (setup_of c) history [] e ∙ (λ i. frames_of (setup_of (sym world i)) (sym list i) e) in
    posts_posted (setup_of c) (history ++ e ∷ []) b.actor (length history) (frames_said b (length history) event)
    (cried event) p h are among is

-- at a restart: the frames of the actor's last entry
cut_there : {X : Type 0} (xs : List X) (i : ℕ) (x : X) → slice_get xs i ≡ Some x → xs ≡ take i xs ++ x ∷ drop (suc i) xs
cut_there [] i x is = absurd (none_some is)
cut_there {X} (y ∷ xs) zero x is = ap (λ (z : X). z ∷ xs) (some_same is)
cut_there {X} (y ∷ xs) (suc i) x is = ap (λ (zs : List X). y ∷ zs) (cut_there xs i x is)

own_place : (history before : List Entry) (actor : ℕ) (x : Entry) → Stands (own history actor) before x →
    (front : List Entry) × Stands history front x × (own front actor ≡ before) × (x.actor ≡ actor)
unfolding own
own_place history before actor x place =
    let found = place_in_whole (λ (e : Entry). nat_eq e.actor actor) history before x place in (
      found.0,
      found.1,
      found.2,
      eqb-true x.actor actor (in_filter_from (λ (e : Entry). nat_eq e.actor actor) history (in_of_stands place)).1,
    )

last_frames : (w : Setup) (history : List Entry) (actor : ℕ) (x : Entry) → IsLegal w history →
    last_of (own history actor) ≡ Some x
    → frames_at_stamp w history x.stamp ≡ frames_after w actor (before_last (own history actor)) x ++ cried x.event
last_frames w history actor x legal last =
    let list : List Entry = own history actor in
    let place : Stands list (before_last list) x =
    record { after = drop (suc (length list - 1)) list; whole = cut_there list (length list - 1) x last } in
    let found = own_place history (before_last list) actor x place in
    let stamp : x.stamp ≡ length found.0 = (legal.entries found.0 x found.1).stamp in
    (λ i. frames_at_stamp w (found.1.whole i) (stamp i))
    ∙ frames_there w found.0 found.1.after x
    ∙ ap (λ (a : ℕ). frames_of w (own found.0 a) x) found.3
    ∙ ap (λ (es : List Entry). frames_of w es x) found.2
    ∙ ap (λ (a : ℕ). signed_from w a (leaves_used w (before_last list)) x.said 0 x.said ++ cried x.event) found.3

said_last : (w : Setup) (history : List Entry) (actor now : ℕ) (o : Option Entry) (p : Post) (h : Held) →
    IsLegal w history → last_of (own history actor) ≡ o
    → IsIn p (posts_from w actor (last_stamp now o) 0 (frames_at w actor (before_last (own history actor)) o)) →
    p.held ≡ Some h → IsPosted w history h.stamp h.place h.frame
said_last w history actor now None p h legal last among is = absurd (none_in among)
said_last w history actor now (Some x) p h legal last among is =
    posts_posted w history actor x.stamp (frames_after w actor (before_last (own history actor)) x) (cried x.event)
    p h (last_frames w history actor x legal last) among is

-- whatever the event
pub post_posted : (g : Given) (history : List Entry) (actor : ℕ) (event : Event) (p : Post) (h : Held) →
    IsLegal (setup_of g.scenario) history → IsIn p (posts_at g history actor event) → p.held ≡ Some h
    → IsPosted (setup_of g.scenario) (history ++ entry_at (bench_at g history actor) (length history) event ∷ [])
    h.stamp h.place h.frame
unfolding posts_at bench_at frames_of_last
post_posted g history actor event p h legal among is =
    at (is_halted w actor (own history actor ++ entry_at b (length history) event ∷ [])) (is_restart event) among
  where
    w : Setup
    w = setup_of g.scenario

    b : BenchState
    b = bench_at g history actor

    at : (halted again : Bool)
        → IsIn p (posts_from w actor
        (cond again (last_stamp (length history) (last_of (own history actor))) (length history)) 0
        (cond halted [] (cond again
        (frames_at w actor (before_last (own history actor)) (last_of (own history actor)))
        (frames_said b (length history) event))))
        → IsPosted w (history ++ entry_at b (length history) event ∷ []) h.stamp h.place h.frame
    at true again k = absurd (none_in k)
    at false true k =
        posted_on w history (entry_at b (length history) event ∷ [])
        (history ++ entry_at b (length history) event ∷ []) h.stamp h.place h.frame refl
        (said_last w history actor (length history) (last_of (own history actor)) p h legal refl k is)
    at false false k = said_now g.scenario history b event p h refl refl k is

-- the frame of a cry
cry_at : (w : Setup) (to : List ℕ) (from stamp : ℕ) (read : Result (Signed Body) FormRefusal) (p : Post) (h : Held)
    → IsIn p (map (post_to to w from stamp 0) (elim read [ Ok f ↦ f ∷ [] | Err fault ↦ [] ])) → p.held ≡ Some h →
    IsPlaced stamp 0 (elim read [ Ok f ↦ f ∷ [] | Err fault ↦ [] ]) h
cry_at w to from stamp (Ok f) p h among is = elim (in_cons_cases among) [
  | inl same ↦
      let is_held = held_is w stamp 0 f h (sym (ap (λ (x : Post). x.held) same) ∙ is) in
      let held = is_held.0 in
      let place : h.place ≡ 0 = sym (ap (λ (x : Held). x.place) held) in
      (0, sym (ap (λ (x : Held). x.stamp) held), place, ap (λ (x : Held). Some x.frame) held, omega (arith, place))
  | inr none ↦ absurd (none_in none)
]
cry_at w to from stamp (Err fault) p h among is = absurd (none_in among)

pub cry_posted : (c : Contents) (history : List Entry) (b : BenchState) (to bytes : List ℕ) (p : Post) (h : Held) →
    b.world ≡ c → b.actor < (setup_of c).group.n
    → (setup_of c).intruded b.actor ≡ true →
    IsIn p (map (post_to to (setup_of c) b.actor (length history) 0) (cried (Cry bytes))) → p.held ≡ Some h
    → IsPosted (setup_of c) (history ++ entry_at b (length history) (Cry bytes) ∷ []) h.stamp h.place h.frame
unfolding entry_at
cry_posted c history b to bytes p h world low intruded among is =
    let e : Entry = entry_at b (length history) (Cry bytes) in
    let silent : e.said ≡ [] = ap (λ (x : Contents). says_in (setup_of x) b.actor b.list (Cry bytes)) world
    ∙ intruded_say_nothing (setup_of c) b.actor b.list (Cry bytes) low intruded in
    let are : frames_at_stamp (setup_of c) (history ++ e ∷ []) (length history) ≡ cried (Cry bytes) ++ [] =
    frames_there (setup_of c) history [] e
    ∙ ap (λ (said : List Body). signed_from (setup_of c) b.actor (leaves_used (setup_of c) (own history b.actor))
    said 0 said ++ cried (Cry bytes)) silent
    ∙ sym (append-nil (cried (Cry bytes))) in
    placed_posted (setup_of c) (history ++ e ∷ []) (length history) (cried (Cry bytes)) [] h are
    (cry_at (setup_of c) to b.actor (length history) (frame_at bytes) p h among is)
