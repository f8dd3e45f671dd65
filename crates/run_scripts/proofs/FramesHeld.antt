-- What an actor's frame is held as.
use Rattle.std.proofs.Common.{◌≡◌, ℕ, ◌^◌, ◌<◌, Bool, true, false, cond, ◌&&◌, List, Option, Some, None}
use Rattle.std.proofs.Common.{nat_lt, refl, sym, ◌∙◌, ap, arith}
use Rattle.std.proofs.lemmas.Bool.{lt-ltb, le-ltb}
use Rattle.message_types.specs.declared.signed.Signed.{Signed}
use Rattle.message_types.specs.declared.body.Body.{Body}
use Rattle.checked_frames.specs.Standing as ring
use Rattle.scenario_file.specs.Reading.{Contents}
use Rattle.message_types.specs.Kinds.{kind_number}
use Rattle.run_scripts.specs.declared.mail.Post.{Post}
use Rattle.history_rules.specs.Setup.{Setup, stands}
use Rattle.world_rules.specs.Scenarios.{setup_of}
use Rattle.world_history.specs.Signed.{ring_in}
use Rattle.world_history.proofs.StandingFrames.{stands_by_ring}
use Rattle.run_scripts.specs.declared.mail.Held.{Held}
use Rattle.run_scripts.specs.Mail.{held_at, post_to}

made : Bool → Bool → ℕ → ℕ → Signed Body → Option Held
made here well stamp place f = cond (here && well) (Some (record { stamp = stamp; place = place; frame = f })) None

pub held_some : (w : Setup) (stamp place p : ℕ) (f x : Signed Body) → p ≡ place → place < 2 ^ 32 →
    x ≡ f → stands w f ≡ true
    → ◌≡◌ {A = Option Held} (Some (record { stamp = stamp; place = p; frame = x })) (held_at w stamp place f)
unfolding held_at made
held_some w stamp place p f x same below frame stand =
    ap (λ (n : ℕ). Some (record { stamp = stamp; place = n; frame = x })) same
    ∙ ap (λ (y : Signed Body). Some (record { stamp = stamp; place = place; frame = y })) frame
    ∙ sym (ap (λ b. made b (stands w f) stamp place f) (lt-ltb place (2 ^ 32) below)
    ∙ ap (λ b. made true b stamp place f) stand)

pub held_none : (w : Setup) (stamp place : ℕ) (f : Signed Body) → (place < 2 ^ 32 → ⊥) →
    ◌≡◌ {A = Option Held} None (held_at w stamp place f)
unfolding held_at made
held_none w stamp place f past =
    sym (ap (λ b. made b (stands w f) stamp place f) (le-ltb place (2 ^ 32) (omega (arith, past))))

fallen : (w : Setup) (stamp place : ℕ) (f : Signed Body) (here : Bool) → stands w f ≡ false →
    made here (stands w f) stamp place f ≡ None
unfolding made
fallen w stamp place f true falls = ap (λ b. made true b stamp place f) falls
fallen w stamp place f false falls = refl

pub held_fallen : (w : Setup) (stamp place : ℕ) (f : Signed Body) → stands w f ≡ false →
    ◌≡◌ {A = Option Held} None (held_at w stamp place f)
unfolding held_at made
held_fallen w stamp place f falls = sym (fallen w stamp place f (nat_lt place (2 ^ 32)) falls)

-- a frame that stands does so in the ring of the scenario's actors
pub stands_somewhere : (c : Contents) (f : Signed Body) → stands (setup_of c) f ≡ true → ring.StandsSomewhere f
stands_somewhere c f stand = record { ring = ring_in c; is_standing = sym (stands_by_ring c f) ∙ stand }

pub post_made : (tos : List ℕ) (w : Setup) (from stamp place kind : ℕ) (to : List ℕ) (held : Option Held)
    (f : Signed Body) → kind ≡ kind_number f.body → to ≡ tos
    → held ≡ held_at w stamp place f → ◌≡◌ {A = Post} (record { from = from; kind = kind; to = to; held = held })
    (post_to tos w from stamp place f)
post_made tos w from stamp place kind to held f one two three =
    ap (λ (n : ℕ). record { from = from; kind = n; to = to; held = held }) one
    ∙ ap (λ (t : List ℕ). record { from = from; kind = kind_number f.body; to = t; held = held }) two
    ∙ ap (λ (h : Option Held). record { from = from; kind = kind_number f.body; to = tos; held = h }) three
