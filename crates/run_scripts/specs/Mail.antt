-- Frames on their way: what is posted of an entry, and to whom. (This project's own.)
use Rattle.std.specs.Prelude.{ℕ, suc, ◌^◌, ◌-◌, Bool, ◌&&◌, List, [], ◌∷◌, ◌++◌, Option, Some, None, map, filter}
use Rattle.std.specs.Prelude.{nat_eq, nat_lt, slice_get, if◌then◌else◌}
use Rattle.std.specs.List.{flat_map}
use Rattle.message_types.specs.declared.signed.Signed.{Signed}
use Rattle.message_types.specs.declared.body.Body.{Body}
use Rattle.history_rules.specs.Events.{Event, Took}
use Rattle.history_rules.specs.Setup.{Setup, stands}
use Rattle.world_rules.specs.Frames.{addressees}
use Rattle.message_types.specs.Kinds.{kind_number}
use Rattle.play_words.specs.declared.words.Ref.{Ref}
use Rattle.run_scripts.specs.declared.mail.Held.{Held}
use Rattle.run_scripts.specs.declared.mail.Post.{Post}
use Rattle.run_scripts.specs.declared.mail.Delivery.{Delivery}

-- The frame as an event can take it: none where it doesn't stand. An event's place is a number of 32 bits.
unfoldable pub held_at : Setup → ℕ → ℕ → Signed Body → Option Held
held_at w stamp place f = if nat_lt place (2 ^ 32)
    && stands w f then Some (record { stamp = stamp; place = place; frame = f }) else None

-- a frame that an actor said as body `place` of its entry with that stamp, posted to these
abbrev pub post_to : List ℕ → Setup → ℕ → ℕ → ℕ → Signed Body → Post
post_to to w from stamp place f =
    record { from = from; kind = kind_number f.body; to = to; held = held_at w stamp place f }

-- a correct actor's frames of one entry, each posted to the addressees of its body
abbrev pub posts_from : Setup → ℕ → ℕ → ℕ → List (Signed Body) → List Post
posts_from w from stamp place [] = []
posts_from w from stamp place (f ∷ rest) = post_to (addressees w.group from f.body) w from stamp place f
    ∷ posts_from w from stamp (suc place) rest

-- the deliveries of a posted frame: one to each whom it is posted to, none of a frame that can't be taken
abbrev pub sent_held : ℕ → List ℕ → Option Held → List Delivery
sent_held from to None = []
sent_held from to (Some h) = map (λ a. record { to = a; from = from; held = h }) to

-- the deliveries of a posted frame
abbrev pub sent : Post → List Delivery
sent p = sent_held p.from p.to p.held

-- the frames of a kind that an actor posted, in order
abbrev pub posted_by : ℕ → ℕ → List Post → List (Option Held)
posted_by actor kind posts = map (λ p. p.held) (filter (λ p. nat_eq p.from actor && nat_eq p.kind kind) posts)

-- the one that is meant, counted from 1
unfoldable pub post_named : List Post → Ref → Option (Option Held)
post_named posts r = if nat_eq r.number 0 then None else slice_get (posted_by r.actor r.kind posts) (r.number - 1)

-- the event that takes a frame
abbrev pub taking : Held → Event
taking h = Took h.stamp h.place h.frame
