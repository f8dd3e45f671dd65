-- What holds of texts of parts beyond the calls. (This project's own.)
use Rattle.std.specs.Prelude.{◌≡◌, ◌<◌, ◌≤◌, ◌+◌, ◌^◌, ℕ, Bool, List, [], ◌∷◌, length, filter, Ok}
use Rattle.std.specs.List.{AllByRecursion, list_any}
use Rattle.std.specs.Str.{bytes_eq}
use Rattle.sha2.specs.Sha256.{sha256}
use Rattle.quorum_sets.specs.Masters.{numbers_below}
use Rattle.quorum_sets.specs.Quorum.{IsGroup, group_size}
use Rattle.scenario_file.specs.Reading.{Contents}
use Rattle.parity_parts.specs.declared.part.Part.{Part}
use Rattle.parity_parts.specs.declared.limits.TheConstants.{MOST_TEXT_BYTES}
use Rattle.parity_parts.specs.Parts.{AreBytes, part_bytes}
use Rattle.parity_parts.specs.Rebuilding.{CanBePart, wrong_masters}
use Rattle.run_lines.specs.Runs.{pieces}
use Rattle.part_lines.specs.declared.told.Told.{Told}
use Rattle.part_lines.specs.Texts.{part_words, spaced, parts_text, rebuilt_lines}
use Rattle.part_lines.specs.Reading.{told_in}
use Rattle.part_lines.specs.Rebuilding.{told_for, rebuilt_in}

-- parts whose masters rise, from a number on
abbrev pub RiseFrom : ℕ → List Part → Type 0
RiseFrom least [] = Unit {0}
RiseFrom least (part ∷ parts) = (least ≤ part.master) × RiseFrom (part.master + 1) parts

-- a part of a group's text, in bytes
abbrev pub IsWritten : ℕ → ℕ → Part → Type 0
IsWritten n f part = CanBePart n f part × AreBytes part.bytes

-- A digest and parts that are printed are read again.
abbrev pub PrintedPartsAreRead : Type 0
PrintedPartsAreRead =
    (n f : ℕ) (digest : List ℕ) (parts : List Part) → n < 2 ^ 32 → length digest ≡ 32 → AreBytes digest
    → RiseFrom 0 parts → AllByRecursion (IsWritten n f) parts
    → told_in n f (parts_text digest parts) ≡ Ok (record { digest = digest; parts = parts })

-- a master's part of a text
abbrev pub own_part : ℕ → List ℕ → ℕ → Part
own_part f text master = record { master = master; length = length text; bytes = part_bytes f master text }

-- the line is that of a master's part of this text
abbrev pub is_own_line : ℕ → ℕ → List ℕ → List ℕ → Bool
is_own_line n f text line =
    list_any (λ master. bytes_eq line (spaced (part_words (own_part f text master)))) (numbers_below n)

-- of the lines of a text of parts at least f + 1 are those of masters' parts of this text
abbrev pub HasEnoughLines : Contents → List ℕ → List ℕ → Type 0
HasEnoughLines c text bytes =
    c.settings.f < length (filter (is_own_line (group_size c.settings.f c.settings.k) c.settings.f text) (pieces bytes))

-- What is printed is a text of the digest, and exactly the masters whose parts aren't that text's.
pub record IsRebuilt (c : Contents) (bytes : List ℕ) (told : Told) : Type 0 where
  pub text : List ℕ
  pub digest : sha256 text ≡ told.digest
  pub printed : rebuilt_in c bytes ≡ Ok (rebuilt_lines text (wrong_masters c.settings.f text told.parts))

-- From a text of parts that is in its form and has the digest of some text, and at least f + 1 lines of that text's
-- parts, a text of the digest is rebuilt, whatever the other lines are.
abbrev pub EnoughLinesRebuild : Type 0
EnoughLinesRebuild =
    (c : Contents) (bytes text : List ℕ) (told : Told) → IsGroup c.settings.f c.settings.k
    → told_for c bytes ≡ Ok told → AreBytes text → 1 ≤ length text → length text ≤ MOST_TEXT_BYTES
    → sha256 text ≡ told.digest
    → HasEnoughLines c text bytes → IsRebuilt c bytes told
