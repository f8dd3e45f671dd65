-- What an audit looks for: words that their signers never said, and different texts with one digest. (This project's
-- own:
-- the two stand in place of what can't be proved of signatures and of SHA-256.)
use Rattle.std.specs.Prelude.{◌≡◌, ℕ, ◌≤◌, true, List, [], ◌∷◌, ◌++◌, length, map}
use Rattle.std.specs.List.{flat_map}
use Rattle.plain_lists.specs.Lists.{IsIn}
use Rattle.sha2.specs.Sha256.{sha256}
use Rattle.message_types.specs.declared.signed.Signed.{Signed}
use Rattle.message_types.specs.declared.body.Body.{Body}
use Rattle.message_types.specs.declared.body.Body.TheVariants as body
use Rattle.message_types.specs.Texts.{update_text, rows_text}
use Rattle.message_types.specs.Parts.{parts}
use Rattle.quorum_sets.specs.Masters.{voters}
use Rattle.protocol_rules.specs.Group.{Group}
use Rattle.protocol_rules.specs.Master.{taken_frames}
use Rattle.protocol_rules.specs.Matrix.{rows_of_frames}
use Rattle.protocol_rules.specs.Plans.{plan_of}
use Rattle.history_rules.specs.Events.{Entry, frame_taken}
use Rattle.history_rules.specs.Setup.{Setup, is_correct}
use Rattle.history_rules.specs.Legal.{Stands}

-- the actor said the body at an entry of this history
pub record HasSaid (history : List Entry) (actor : ℕ) (b : Body) : Type 0 where
  pub before : List Entry
  pub entry : Entry
  pub place : Stands history before entry
  pub by : entry.actor ≡ actor
  pub among : IsIn b entry.said

-- the parts of the frame that an entry took
abbrev pub parts_taken : Entry → List (Signed Body)
parts_taken e = flat_map parts (taken_frames (frame_taken e.event))

-- No word is forged: what a taken frame bears in a correct actor's name, that actor said at an entry before.
pub record NothingForged (w : Setup) (history : List Entry) : Type 0 where
  pub said : (before : List Entry) (e : Entry) → Stands history before e → (p : Signed Body) → IsIn p (parts_taken e)
      → is_correct w p.signer ≡ true → HasSaid before p.signer p.body

-- the bodies of an entry: of the parts of the frame taken, and those said
abbrev pub bodies_of : Entry → List Body
bodies_of e = map (λ p. p.body) (parts_taken e) ++ e.said

-- the rows that a body holds
abbrev pub rows_held : Group → Body → List (List (List ℕ))
rows_held g word = elim word [
  | body.PrePrepare b ↦ rows_of_frames g b.frames ∷ []
  | body.Report b ↦ map (λ c. c.rows) b.certificates
  | body.GiveOrdered b ↦ b.rows ∷ []
  | body.NewView b ↦ (plan_of g (map (λ r. r.body) b.reports)).rows
  | _ ↦ []
]

-- the texts that are told apart by digests: of updates, and of rows
abbrev pub texts_of : Group → Body → List (List ℕ)
texts_of g word = (elim word [ body.Update b ↦ update_text b ∷ [] | _ ↦ [] ]) ++ map rows_text (rows_held g word)

abbrev pub history_texts : Group → List Entry → List (List ℕ)
history_texts g history = flat_map (λ e. flat_map (texts_of g) (bodies_of e)) history

-- No two different texts of the history have one digest.
pub record NoSharedDigest (g : Group) (history : List Entry) : Type 0 where
  pub alike : (a b : List ℕ) → IsIn a (history_texts g history) → IsIn b (history_texts g history) →
      sha256 a ≡ sha256 b → a ≡ b

-- At most f masters are intruded.
pub record FewIntruded (w : Setup) : Type 0 where
  pub few : length (voters w.intruded w.group.n) ≤ w.group.f
