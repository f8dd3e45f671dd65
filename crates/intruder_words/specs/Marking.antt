-- The marks among the frames known.
use Rattle.std.specs.Prelude.{ℕ, Bool, ◌&&◌, List, Option, Some, None, nat_eq, if◌then◌else◌}
use Rattle.std.specs.List.{list_any, filter_map}
use Rattle.message_types.specs.declared.signed.Signed.{Signed}
use Rattle.message_types.specs.declared.ordering.Mark.{Mark}
use Rattle.message_types.specs.declared.body.Body.{Body}
use Rattle.message_types.specs.declared.body.Body.TheVariants as body
use Rattle.quorum_sets.specs.Quorum.{has_quorum}
use Rattle.protocol_rules.specs.Group.{Group}
use Rattle.intruder_words.specs.declared.marks.Marked.{Marked}

-- the number that a frame marks, and for whom
abbrev pub marked_in : Signed Body → Option Marked
marked_in f = elim f.body [ body.Mark b ↦ Some record { s = b.s; master = f.signer } | _ ↦ None ]

abbrev pub all_marked : List (Signed Body) → List Marked
all_marked known = filter_map marked_in known

abbrev pub is_marked_by : ℕ → ℕ → Marked → Bool
is_marked_by s master mark = nat_eq mark.master master && nat_eq mark.s s

-- a quorum marked the number
abbrev pub is_marked : Group → List Marked → ℕ → Bool
is_marked g marks s = has_quorum g.n g.q (λ master. list_any (is_marked_by s master) marks)

-- the number of a mark, where a quorum marked it
abbrev pub shown_by : Group → List Marked → Marked → Option ℕ
shown_by g marks mark = if is_marked g marks mark.s then Some mark.s else None

-- the frame as the master's mark of the number
abbrev pub mark_of : ℕ → ℕ → Signed Body → Option (Signed Mark)
mark_of s master f = elim f.body [
  | body.Mark b ↦ if nat_eq f.signer master && nat_eq b.s s then Some record {
    signer = f.signer;
    body = b;
    sig = f.sig;
  } else None
  | _ ↦ None
]
