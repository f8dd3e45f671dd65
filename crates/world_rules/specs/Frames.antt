-- The frames of an entry, who they go to, and what an intruded master knows. (Addressees after Prime and Spire: a
-- master's words go to all others, a client's to its doors; the rest is this project's own.)
use Rattle.std.specs.Prelude.{ℕ, ◌+◌, Bool, not, List, [], ◌∷◌, ◌++◌, Option, Some, None, Ok, Err, take, nat_eq}
use Rattle.std.specs.Prelude.{slice_get}
use Rattle.std.specs.List.{flat_map}
use Rattle.message_types.specs.declared.signed.Signed.{Signed}
use Rattle.message_types.specs.declared.body.Body.{Body}
use Rattle.message_types.specs.declared.body.Body.TheVariants as body
use Rattle.message_types.specs.Parts.{parts}
use Rattle.message_forms.specs.Forms.{frame_at}
use Rattle.quorum_sets.specs.Masters.{voters}
use Rattle.protocol_rules.specs.Group.{Group, is_door}
use Rattle.protocol_rules.specs.Master.{taken_frames}
use Rattle.history_rules.specs.Events.{Event, Cry, Entry, frame_taken}
use Rattle.history_rules.specs.Setup.{Setup, signed_from, leaves_used, own}

-- the frame that a cry's bytes spell, if they spell one
abbrev pub cried : Event → List (Signed Body)
cried (Cry bytes) = elim (frame_at bytes) [ Ok f ↦ f ∷ [] | Err fault ↦ [] ]
cried _ = []

-- the frames of an actor's entry, `before` being its entries before it: of a correct actor its words, signed, of an
-- intruded master what it cried
abbrev pub frames_of : Setup → List Entry → Entry → List (Signed Body)
frames_of w before e = signed_from w e.actor (leaves_used w before) e.said 0 e.said ++ cried e.event

-- the frames of the entry with a stamp
unfoldable pub frames_at_stamp : Setup → List Entry → ℕ → List (Signed Body)
frames_at_stamp w history stamp =
    elim (slice_get history stamp) [ None ↦ [] | Some e ↦ frames_of w (own (take stamp history) e.actor) e ]

-- An update goes to its client's doors, a voucher to its client, all else to all other masters.
abbrev pub addressees : Group → ℕ → Body → List ℕ
addressees g actor word = elim word [
  | body.Update b ↦ voters (is_door g b.client) g.n
  | body.Voucher b ↦ (g.n + b.client) ∷ []
  | _ ↦ voters (λ m. not (nat_eq m actor)) g.n
]

-- All that an intruded master knows after its own entries, in order: the parts of the frames that it took, and those of
-- each cry that spells a frame, at once, under the signers that the frame bears, in place or not.
unfoldable pub overheard : List Entry → List (Signed Body)
overheard own = flat_map (λ e. flat_map parts (taken_frames (frame_taken e.event) ++ cried e.event)) own
