-- A text rebuilt from parts of which some may be wrong: the first set of f + 1 parts of one length whose joined text
-- has the digest gives it. That a digest tells which parts are right is this project's own way; the code itself could
-- correct fewer.
use Rattle.std.specs.Prelude.{◌≤◌, ◌<◌, ◌≡◌, ℕ, Bool, zero, suc, List, [], ◌∷◌, ◌++◌, Option, Some, None, ◌&&◌, not}
use Rattle.std.specs.Prelude.{map}
use Rattle.std.specs.Prelude.{nat_eq, if◌then◌else◌, filter, length, Result, Ok, Err}
use Rattle.std.specs.List.{list_all, list_any}
use Rattle.std.specs.Str.{bytes_eq}
use Rattle.sha2.specs.Sha256.{sha256}
use Rattle.quorum_sets.specs.Masters.{voters}
use Rattle.quorum_sets.specs.declared.limits.TheConstants.{MOST_MASTERS}
use Rattle.parity_parts.specs.declared.limits.TheConstants.{MOST_TEXT_BYTES}
use Rattle.parity_parts.specs.Parts.{Fits, first_length, is_part_of, joined}
use Rattle.parity_parts.specs.declared.part.Part.{Part}
use Rattle.parity_parts.specs.declared.rebuilding.Rebuilt.{Rebuilt}
use Rattle.parity_parts.specs.declared.rebuilding.RebuildAnswer.{RebuildAnswer}
use Rattle.parity_parts.specs.declared.rebuilding.RebuildAnswer.TheVariants.{NoText, Want}

-- the part is of a text that is not empty and not too long, and its master is one of n
abbrev pub CanBePart : ℕ → ℕ → Part → Type 0
CanBePart n f part = (1 ≤ part.length) × (part.length ≤ MOST_TEXT_BYTES) × Fits n f part.length part

-- The sets of so many of the parts, each in the parts' order, by the order of their first parts, then their second
-- ones, and so on.
abbrev pub sets : ℕ → List Part → List (List Part)
sets zero parts = [] ∷ []
sets (suc count) [] = []
sets (suc count) (part ∷ parts) = map (λ set. part ∷ set) (sets count parts) ++ sets (suc count) parts

-- each set behind the parts that are chosen already
abbrev pub behind_chosen : List Part → List (List Part) → List (List Part)
behind_chosen chosen = map (λ set. chosen ++ set)

abbrev pub have_one_length : List Part → Bool
have_one_length set = list_all (λ part. nat_eq part.length (first_length set)) set

-- the joined text of a set, where it has the digest
abbrev pub text_of : ℕ → List ℕ → List Part → Option (List ℕ)
text_of f digest set =
    if have_one_length set && bytes_eq (sha256 (joined f set)) digest then Some (joined f set) else None

abbrev pub else_by : Option (List ℕ) → Option (List ℕ) → Option (List ℕ)
else_by None other = other
else_by (Some text) other = Some text

-- the text of the first set that has one
abbrev pub first_text : ℕ → List ℕ → List (List Part) → Option (List ℕ)
first_text f digest [] = None
first_text f digest (set ∷ sets) = else_by (text_of f digest set) (first_text f digest sets)

-- the text of the first set of f + 1 parts that has one
abbrev pub rebuilt : ℕ → List ℕ → List Part → Option (List ℕ)
rebuilt f digest parts = first_text f digest (sets (suc f) parts)

-- the masters whose part isn't that of the text
abbrev pub wrong_masters : ℕ → List ℕ → List Part → List ℕ
wrong_masters f text parts =
    voters (λ m. list_any (λ part. nat_eq part.master m && not (is_part_of f text part)) parts) MOST_MASTERS

-- what is answered: the text, or that there is none
abbrev pub IsRebuilt : Option (List ℕ) → Result Rebuilt RebuildAnswer → Type 0
IsRebuilt text (Ok rebuilt) = text ≡ Some rebuilt.text
IsRebuilt text (Err NoText) = text ≡ None
IsRebuilt text (Err Want) = Unit {0}

-- at least f + 1 of the parts are their masters' of this text
abbrev pub HasEnoughOf : ℕ → List ℕ → List Part → Type 0
HasEnoughOf f whole parts = f < length (filter (is_part_of f whole) parts)
