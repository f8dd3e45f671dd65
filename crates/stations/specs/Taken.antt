-- The digests of the frames that a station took. (SHA-256 of FIPS 180-4; that a frame is known again by its digest is this
-- project's own.)
use Rattle.std.specs.Prelude.{◌≡◌, ℕ, Bool, true, false, ◌||◌, List}
use Rattle.std.specs.List.{list_any}
use Rattle.std.specs.Str.{bytes_eq}
use Rattle.sha2.specs.Sha256.{sha256}
use Rattle.indexmap.specs.IndexSet.{contains}
use Rattle.message_types.specs.declared.signed.Signed.{Signed}
use Rattle.message_types.specs.declared.body.Body.{Body}
use Rattle.message_types.specs.Texts.{frame_text}
use Rattle.history_rules.specs.Events.{Event, Took, Entry}
use Rattle.stations.specs.declared.taken.Taken.{Taken}

-- the event took a frame of this digest
abbrev pub takes_digest : List ℕ → Event → Bool
takes_digest digest (Took stamp place frame) = bytes_eq (sha256 (frame_text frame)) digest
takes_digest digest _ = false

-- what is kept are the digests of the frames that the entries took, and no others
abbrev pub AreTaken : List Entry → Taken → Type 0
AreTaken list taken =
    (digest : List ℕ) → contains bytes_eq taken.digests digest ≡ list_any (λ e. takes_digest digest e.event) list

-- the digest of one frame more
abbrev pub HasFrame : Taken → Signed Body → Taken → Type 0
HasFrame old frame new =
    (digest : List ℕ) → contains bytes_eq new.digests digest
    ≡ (bytes_eq (sha256 (frame_text frame)) digest || contains bytes_eq old.digests digest)
