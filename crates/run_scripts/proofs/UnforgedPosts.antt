-- Frames that are posted in a play, and where they come from.
use Rattle.std.proofs.Common.{◌≡◌, ℕ, suc, ◌^◌, Bool, true, false, cond, ◌&&◌, List, [], ◌∷◌, ◌++◌, Option, Some}
use Rattle.std.proofs.Common.{None, map, filter, nat_eq, nat_lt, refl, sym, ◌∙◌, ap, inl, inr, ◌⊎◌, eqb-true, ◌-◌}
use Rattle.std.specs.Prelude.{slice_get}
use Rattle.std.specs.List.{flat_map}
use Rattle.plain_lists.specs.Lists.{IsIn, here, there}
use Rattle.plain_lists.proofs.Members.{none_in, in_cons_cases, in_map_from, in_flat_map_from, in_filter_from, none_some, some_same}
use Rattle.message_types.specs.declared.signed.Signed.{Signed}
use Rattle.message_types.specs.declared.body.Body.{Body}
use Rattle.history_rules.specs.Events.{Event, Entry, is_restart}
use Rattle.history_rules.specs.Setup.{Setup, stands, own, leaves_used}
use Rattle.history_rules.specs.Keeping.{is_halted}
use Rattle.agreement.proofs.KnownAsItGrows.{signed_from_in}
use Rattle.words_in_place.proofs.Limits.{slice_in}
use Rattle.world_history.specs.State.{BenchState, setup_in, entry_at, frames_said}
use Rattle.world_history.specs.Lists.{last_of, before_last, frames_at, frames_of_last}
use Rattle.world_history.specs.KeptState.{frames_kept}
use Rattle.play_words.specs.declared.words.Ref.{Ref}
use Rattle.run_scripts.specs.declared.mail.Held.{Held}
use Rattle.run_scripts.specs.declared.mail.Post.{Post}
use Rattle.run_scripts.specs.declared.mail.Delivery.{Delivery}
use Rattle.run_scripts.specs.Mail.{held_at, post_to, posts_from, sent, sent_held, posted_by, post_named}

-- what is held is the frame
held_frame : (w : Setup) (stamp place : ℕ) (f : Signed Body) (h : Held) → held_at w stamp place f ≡ Some h → h.frame ≡ f
unfolding held_at
held_frame w stamp place f h is = at (nat_lt place (2 ^ 32) && stands w f) is
  where
    at : (b : Bool) → cond b (Some record { stamp = stamp; place = place; frame = f }) None ≡ Some h → h.frame ≡ f
    at true same = ap (λ (x : Held). x.frame) (sym (some_same same))
    at false same = absurd (none_some same)

pub post_from : (w : Setup) (from stamp place : ℕ) (frames : List (Signed Body)) (p : Post) (h : Held) →
    IsIn p (posts_from w from stamp place frames) → p.held ≡ Some h
    → (f : Signed Body) × IsIn f frames × (h.frame ≡ f)
post_from w from stamp place [] p h among is = absurd (none_in among)
post_from w from stamp place (f ∷ rest) p h among is = elim (in_cons_cases among) [
  | inl same ↦ (f, here rest, held_frame w stamp place f h (sym (ap (λ (x : Post). x.held) same) ∙ is))
  | inr later ↦ let found = post_from w from stamp (suc place) rest p h later is in
      (found.0, there f rest found.1, found.2)
]

pub cry_post_from : (to : List ℕ) (w : Setup) (from stamp : ℕ) (frames : List (Signed Body)) (p : Post) (h : Held) →
    IsIn p (map (post_to to w from stamp 0) frames) → p.held ≡ Some h
    → (f : Signed Body) × IsIn f frames × (h.frame ≡ f)
cry_post_from to w from stamp frames p h among is =
    let found = in_map_from (post_to to w from stamp 0) frames among in
    (found.0, found.1, held_frame w stamp 0 found.0 h (sym (ap (λ (x : Post). x.held) found.2) ∙ is))

abbrev delivery : ℕ → Held → ℕ → Delivery
delivery from x a = record { to = a; from = from; held = x }

sent_of : (from : ℕ) (to : List ℕ) (o : Option Held) (d : Delivery) → IsIn d (sent_held from to o) → o ≡ Some d.held
sent_of from to None d h = absurd (none_in h)
sent_of from to (Some x) d h =
    let found = in_map_from (delivery from x) to h in
    ap (λ (y : Held). Some y) (sym (ap (λ (z : Delivery). z.held) found.2))

pub sent_from : (posts : List Post) (d : Delivery) → IsIn d (flat_map sent posts) →
    (p : Post) × IsIn p posts × (p.held ≡ Some d.held)
sent_from posts d h =
    let found = in_flat_map_from sent posts h in
    (found.0, found.1, sent_of found.0.from found.0.to found.0.held d found.2)

-- the one that is named was posted
pub named_from : (posts : List Post) (r : Ref) (h : Held) → post_named posts r ≡ Some (Some h) →
    (p : Post) × IsIn p posts × (p.held ≡ Some h)
unfolding post_named
named_from posts r h is = at (nat_eq r.number 0) is
  where
    at : (b : Bool) → cond b None (slice_get (posted_by r.actor r.kind posts) (r.number - 1)) ≡ Some (Some h) →
        (p : Post) × IsIn p posts × (p.held ≡ Some h)
    at true none = absurd (none_some none)
    at false some =
        let found = in_map_from (λ (p : Post). p.held)
        (filter (λ (p : Post). nat_eq p.from r.actor && nat_eq p.kind r.kind) posts)
        (slice_in (posted_by r.actor r.kind posts) (r.number - 1) some) in (
          found.0,
          (in_filter_from (λ (p : Post). nat_eq p.from r.actor && nat_eq p.kind r.kind) posts found.1).0,
          sym found.2,
        )

-- The frames that are posted at an event are of bodies said at it, or at the entry before.
abbrev pub ComesFrom : BenchState → Entry → Signed Body → Type 0
ComesFrom b e f = (x : Entry) × (IsIn x b.list ⊎ (x ≡ e)) × (f.signer ≡ b.actor) × IsIn f.body x.said

last_from : (b : BenchState) (e : Entry) (f : Signed Body) (o : Option Entry) → last_of b.list ≡ o →
    IsIn f (frames_at (setup_in b) b.actor (before_last b.list) o) → ComesFrom b e f
last_from b e f None is h = absurd (none_in h)
last_from b e f (Some x) is h =
    let found = signed_from_in (setup_in b) b.actor (leaves_used (setup_in b) (before_last b.list))
    0 x.said x.said f h in
    (x, inl (slice_in b.list _ is), found.0, found.1)

said_from : (b : BenchState) (stamp : ℕ) (event : Event) (f : Signed Body) → IsIn f (frames_said b stamp event) →
    ComesFrom b (entry_at b stamp event) f
said_from b stamp event f h =
    let e : Entry = entry_at b stamp event in
    let found = signed_from_in (setup_in b) b.actor (leaves_used (setup_in b) b.list) 0 e.said e.said f h in
    (e, inr refl, found.0, found.1)

pub kept_from : (b : BenchState) (stamp : ℕ) (event : Event) (f : Signed Body) → IsIn f (frames_kept b stamp event) →
    ComesFrom b (entry_at b stamp event) f
unfolding frames_of_last
kept_from b stamp event f h = at (is_halted (setup_in b) b.actor (b.list ++ entry_at b stamp event ∷ []))
    (is_restart event) h
  where
    at : (halted again : Bool) →
        IsIn f (cond halted [] (cond again (frames_of_last (setup_in b) b.actor b.list) (frames_said b stamp event)))
        → ComesFrom b (entry_at b stamp event) f
    at true again k = absurd (none_in k)
    at false true k = last_from b (entry_at b stamp event) f (last_of b.list) refl k
    at false false k = said_from b stamp event f k

pub own_from : (history : List Entry) (actor : ℕ) (x : Entry) → IsIn x (own history actor) →
    IsIn x history × (x.actor ≡ actor)
unfolding own
own_from history actor x h =
    let found = in_filter_from (λ (e : Entry). nat_eq e.actor actor) history h in
    (found.0, eqb-true x.actor actor found.1)
