-- What holds of each history in the making stays so.
use Rattle.std.proofs.Common.{◌≡◌, ℕ, suc, ◌+◌, ◌^◌, ◌<◌, ◌≤◌, Bool, true, false, cond, ◌&&◌, List, [], ◌∷◌}
use Rattle.std.proofs.Common.{Option, Some, None, filter, length, map, nat_eq, nat_lt, refl, ◌∙◌}
use Rattle.std.proofs.Common.{ap, arith}
use Rattle.std.specs.Prelude.{slice_get}
use Rattle.std.specs.List.{list_all}
use Rattle.std.proofs.lemmas.Bool.{and_parts, and_from, lt-ltb, ltb-true}
use Rattle.plain_lists.proofs.Members.{in_filter_from}
use Rattle.message_types.specs.declared.signed.Signed.{Signed}
use Rattle.message_types.specs.declared.body.Body.{Body}
use Rattle.scenario_file.specs.Reading.{Contents}
use Rattle.history_rules.specs.Events.{Event, Entry, is_restart}
use Rattle.history_rules.specs.Setup.{Setup, stands, own}
use Rattle.history_rules.specs.Legal.{IsLegal}
use Rattle.std.proofs.lemmas.List.{length-append}
use Rattle.world_rules.specs.Frames.{addressees}
use Rattle.world_rules.specs.Scenarios.{setup_of}
use Rattle.world_history.specs.Lists.{last_of}
use Rattle.run_scripts.specs.declared.mail.Held.{Held}
use Rattle.run_scripts.specs.declared.mail.Post.{Post}
use Rattle.run_scripts.specs.declared.mail.Delivery.{Delivery}
use Rattle.script_laws.specs.Accepted.{is_there}
use Rattle.run_scripts.specs.Mail.{held_at, post_to, posts_from, sent, sent_held}
use Rattle.run_scripts.specs.Making.{last_stamp, stamp_said}
use Rattle.run_scripts.specs.Making.{after}
use Rattle.run_scripts.specs.Playing.{is_held_well, is_posted_well, is_due}
use Rattle.world_history.proofs.Addressed.{addressees_there}
use Rattle.history_rules.proofs.Entries.{all_from}
use Rattle.plain_lists.proofs.Lists.{all_weaker, all_at_place}
use Rattle.agreement.proofs.Places.{stands_in}

-- the entries of a legal history bear stamps below its length
pub stamps_below : (w : Setup) (history : List Entry) (actor : ℕ) → IsLegal w history →
    list_all (λ b. nat_lt b.stamp (length history)) (own history actor) ≡ true
unfolding own
stamps_below w history actor legal =
    all_from (λ b. nat_lt b.stamp (length history)) (filter (λ (x : Entry). nat_eq x.actor actor) history) (λ b h.
    let place = stands_in history (in_filter_from (λ (x : Entry). nat_eq x.actor actor) history h).0 in
    let its : b.stamp ≡ length place.0 = (legal.entries place.0 b place.1).stamp in
    let long : length history ≡ length place.0 + length (b ∷ place.1.after) = ap length place.1.whole
    ∙ length-append place.0 (b ∷ place.1.after) in
    lt-ltb b.stamp (length history) (omega arith))

-- what stood and was said before a stamp, was before a later one
pub held_later : (w : Setup) (now later : ℕ) (h : Held) → now ≤ later → is_held_well w now h ≡ true →
    is_held_well w later h ≡ true
held_later w now later h order well =
    let parts = and_parts (nat_lt h.stamp now) (stands w h.frame) well in
    and_from (nat_lt h.stamp later) (stands w h.frame)
    (lt-ltb h.stamp later (omega (arith, ltb-true h.stamp now parts.0))) parts.1

posted_later : (w : Setup) (now later : ℕ) (o : Option Held) → now ≤ later → is_posted_well w now o ≡ true →
    is_posted_well w later o ≡ true
posted_later w now later None order well = refl
posted_later w now later (Some h) order well = held_later w now later h order well

pub all_posted_later : (w : Setup) (now later : ℕ) (posts : List Post) → now ≤ later
    → list_all (λ (p : Post). is_posted_well w now p.held) posts ≡ true →
    list_all (λ (p : Post). is_posted_well w later p.held) posts ≡ true
all_posted_later w now later posts order =
    all_weaker (λ (p : Post). is_posted_well w now p.held) (λ (p : Post). is_posted_well w later p.held) posts
    (λ p. posted_later w now later p.held order)

due_later : (c : Contents) (now later : ℕ) (d : Delivery) → now ≤ later → is_due c now d ≡ true →
    is_due c later d ≡ true
due_later c now later d order due =
    let parts = and_parts (is_there c d.to) (is_held_well (setup_of c) now d.held) due in
    and_from (is_there c d.to) (is_held_well (setup_of c) later d.held) parts.0
    (held_later (setup_of c) now later d.held order parts.1)

pub all_due_later : (c : Contents) (now later : ℕ) (waiting : List Delivery) → now ≤ later →
    list_all (is_due c now) waiting ≡ true → list_all (is_due c later) waiting ≡ true
all_due_later c now later waiting order = all_weaker (is_due c now) (is_due c later) waiting
    (λ d. due_later c now later d order)

-- a frame that is held stands and was said before what comes after its stamp
held_is_well : (w : Setup) (stamp place now : ℕ) (f : Signed Body) → stamp < now →
    is_posted_well w now (held_at w stamp place f) ≡ true
unfolding held_at
held_is_well w stamp place now f before = at (nat_lt place (2 ^ 32)) (stands w f) refl
  where
    at : (a b : Bool) → stands w f ≡ b →
        is_posted_well w now (cond (a && b) (Some record { stamp = stamp; place = place; frame = f }) None) ≡ true
    at true true is = and_from (nat_lt stamp now) (stands w f) (lt-ltb stamp now before) is
    at true false is = refl
    at false b is = refl

-- so are all that are posted of one entry
pub posts_are_well : (w : Setup) (from stamp place now : ℕ) (frames : List (Signed Body)) → stamp < now
    → list_all (λ (p : Post). is_posted_well w now p.held) (posts_from w from stamp place frames) ≡ true
posts_are_well w from stamp place now [] before = refl
posts_are_well w from stamp place now (f ∷ rest) before =
    and_from (is_posted_well w now (held_at w stamp place f)) _ (held_is_well w stamp place now f before)
    (posts_are_well w from stamp (suc place) now rest before)

all_due_to : (c : Contents) (now from : ℕ) (to : List ℕ) (h : Held) → list_all (is_there c) to ≡ true →
    is_held_well (setup_of c) now h ≡ true
    → list_all (is_due c now) (map (λ a. record { to = a; from = from; held = h }) to) ≡ true
all_due_to c now from [] h there well = refl
all_due_to c now from (a ∷ to) h there well =
    let parts = and_parts (is_there c a) (list_all (is_there c) to) there in
    and_from (is_there c a && is_held_well (setup_of c) now h) _
    (and_from (is_there c a) (is_held_well (setup_of c) now h) parts.0 well)
    (all_due_to c now from to h parts.1 well)

pub sent_is_due : (c : Contents) (now from : ℕ) (to : List ℕ) (o : Option Held) →
    ((h : Held) → o ≡ Some h → list_all (is_there c) to ≡ true)
    → is_posted_well (setup_of c) now o ≡ true → list_all (is_due c now) (sent_held from to o) ≡ true
sent_is_due c now from to None there well = refl
sent_is_due c now from to (Some h) there well = all_due_to c now from to h (there h refl) well

-- what is held is a frame that stands
held_stands : (w : Setup) (stamp place : ℕ) (f : Signed Body) (h : Held) → held_at w stamp place f ≡ Some h →
    stands w f ≡ true
unfolding held_at
held_stands w stamp place f h is = at (nat_lt place (2 ^ 32)) (stands w f) refl is
  where
    at : (a b : Bool) → stands w f ≡ b → cond (a && b) (Some record { stamp = stamp; place = place; frame = f })
        None ≡ Some h → stands w f ≡ true
    at true true stand same = stand
    at true false stand same = absurd cc
    at false b stand same = absurd cc

pub posts_are_due : (c : Contents) (from stamp place now : ℕ) (frames : List (Signed Body)) → stamp < now
    → list_all (λ p. list_all (is_due c now) (sent p)) (posts_from (setup_of c) from stamp place frames) ≡ true
posts_are_due c from stamp place now [] before = refl
posts_are_due c from stamp place now (f ∷ rest) before =
    and_from (list_all (is_due c now)
    (sent_held from (addressees (setup_of c).group from f.body) (held_at (setup_of c) stamp place f))) _
    (sent_is_due c now from (addressees (setup_of c).group from f.body) (held_at (setup_of c) stamp place f)
    (λ h is. addressees_there c from f (held_stands (setup_of c) stamp place f h is))
    (held_is_well (setup_of c) stamp place now f before))
    (posts_are_due c from stamp (suc place) now rest before)

pub cried_are_well : (to : List ℕ) (w : Setup) (from stamp now : ℕ) (frames : List (Signed Body)) → stamp < now
    → list_all (λ (p : Post). is_posted_well w now p.held) (map (post_to to w from stamp 0) frames) ≡ true
cried_are_well to w from stamp now [] before = refl
cried_are_well to w from stamp now (f ∷ rest) before =
    and_from (is_posted_well w now (held_at w stamp 0 f)) _ (held_is_well w stamp 0 now f before)
    (cried_are_well to w from stamp now rest before)

pub cried_are_due : (to : List ℕ) (c : Contents) (from stamp now : ℕ) (frames : List (Signed Body)) → stamp < now →
    list_all (is_there c) to ≡ true
    → list_all (λ p. list_all (is_due c now) (sent p)) (map (post_to to (setup_of c) from stamp 0) frames) ≡ true
cried_are_due to c from stamp now [] before there = refl
cried_are_due to c from stamp now (f ∷ rest) before there =
    and_from (list_all (is_due c now) (sent_held from to (held_at (setup_of c) stamp 0 f))) _
    (sent_is_due c now from to (held_at (setup_of c) stamp 0 f) (λ h is. there)
    (held_is_well (setup_of c) stamp 0 now f before))
    (cried_are_due to c from stamp now rest before there)

-- the stamp of frames that are posted at an event isn't above the event's
last_not_above : (now : ℕ) (list : List Entry) (i : ℕ) (o : Option Entry) →
    list_all (λ (b : Entry). nat_lt b.stamp now) list ≡ true → slice_get list i ≡ o → last_stamp now o ≤ now
last_not_above now list i None all is = omega arith
last_not_above now list i (Some e) all is =
    omega (arith, ltb-true e.stamp now (all_at_place (λ (b : Entry). nat_lt b.stamp now) list i e all is))

pub stamp_not_above : (now : ℕ) (list : List Entry) (event : Event) →
    list_all (λ (b : Entry). nat_lt b.stamp now) list ≡ true → stamp_said list now event ≤ now
stamp_not_above now list event all = at (is_restart event)
  where
    at : (b : Bool) → cond b (last_stamp now (last_of list)) now ≤ now
    at true = last_not_above now list _ (last_of list) all refl
    at false = omega arith
