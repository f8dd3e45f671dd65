-- A frame as scripts name it: `ACTOR.KIND.NUMBER`, its signer, its kind and which it is of those, from 1. (This
-- project's own.)
use Rattle.std.specs.Prelude.{ℕ, nat_le, ◌==◌, Bool, true, false, ◌&&◌, if◌then◌else◌, List, [], ◌∷◌, map, length}
use Rattle.std.specs.Prelude.{Option, Some, None, Result, Ok, Err}
use Rattle.std.specs.List.{slice_split, before_first}
use Rattle.message_types.specs.declared.limits.TheConstants.{MOST_LISTED}
use Rattle.play_words.specs.declared.words.Ref.{Ref}
use Rattle.scenario_file.specs.declared.actors.Cast.{Cast}
use Rattle.script_grammar.specs.declared.frames.Allowed.{Allowed}
use Rattle.script_grammar.specs.declared.frames.Allowed.TheVariants as allowed
use Rattle.script_grammar.specs.declared.kinds.Kind.{Kind}
use Rattle.script_grammar.specs.declared.kinds.Kind.TheVariants as kind
use Rattle.script_grammar.specs.Faults.{Answer, bad, said, both, each}
use Rattle.script_grammar.specs.Kinds.{kind_named, kind_number}
use Rattle.script_grammar.specs.Names.{actor_in, names_rise}
use Rattle.script_grammar.specs.Numbers.{number_in}

abbrev pub is_update : Kind → Bool
is_update kind.Update = true
is_update _ = false

abbrev pub is_summary : Kind → Bool
is_summary kind.PoSummary = true
is_summary _ = false

abbrev pub is_report : Kind → Bool
is_report kind.Report = true
is_report _ = false

-- a digest is that of a request's update or of a preprepare's rows
abbrev pub has_digest : Kind → Bool
has_digest kind.PoRequest = true
has_digest kind.PrePrepare = true
has_digest _ = false

abbrev pub allows : Allowed → Kind → Bool
allows allowed.Any k = true
allows allowed.Updates k = is_update k
allows allowed.Summaries k = is_summary k
allows allowed.Reports k = is_report k
allows allowed.Digested k = has_digest k

abbrev pub allowed_number : Allowed → Option Kind → Answer ℕ
allowed_number among None = bad
allowed_number among (Some k) = if allows among k then Ok (kind_number k) else bad

-- the number of a kind that may stand here
unfoldable pub kind_in : Allowed → List ℕ → Answer ℕ
kind_in among name = allowed_number among (kind_named name)

abbrev pub ref_of : ℕ × (ℕ × ℕ) → Ref
ref_of p = record { actor = p.0; kind = p.1.0; number = p.1.1 }

abbrev pub frame_of : Cast → Allowed → List (List ℕ) → Answer Ref
frame_of cast among (name ∷ kind ∷ number ∷ []) =
    said ref_of (both (actor_in cast name) (both (kind_in among kind) (number_in 1 18446744073709551615 number)))
frame_of cast among _ = bad

-- a frame of a kind that may stand here
unfoldable pub frame_in : Cast → Allowed → List ℕ → Answer Ref
frame_in cast among text = frame_of cast among (slice_split (λ b. b == 46) text)

-- the name in a frame's text
abbrev pub signer_in : List ℕ → List ℕ
signer_in text = before_first (λ b. b == 46) text

-- a list of frames within its limit, whose signers rise
unfoldable pub frames_in : Cast → Allowed → List (List ℕ) → Answer (List Ref)
frames_in cast among texts = if nat_le (length texts) MOST_LISTED && names_rise (map signer_in texts) then each
    (frame_in cast among) texts else bad
