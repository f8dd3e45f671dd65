-- Summaries, after Prime: of each master the one that tells most, and how far q masters have each originator's
-- requests certified. (That eligibility takes q rows is this project's own.)
use Rattle.std.specs.Prelude.{ℕ, Bool, List, [], ◌∷◌, Option, Some, None, map, max, nat_eq, nat_lt}
use Rattle.std.specs.Prelude.{sum, if◌then◌else◌}
use Rattle.std.specs.List.{list_any, find, filter_map, slice_index}
use Rattle.message_types.specs.declared.signed.Signed.{Signed}
use Rattle.message_types.specs.declared.preordering.PoSummary.{PoSummary}
use Rattle.message_types.specs.declared.body.Body.{Body}
use Rattle.message_types.specs.declared.body.Body.TheVariants as body
use Rattle.quorum_sets.specs.Masters.{numbers_below}
use Rattle.protocol_rules.specs.Words.{best_by, greatest_reached}
use Rattle.protocol_rules.specs.Group.{Group}

-- the frame is a summary of master j
abbrev pub summary_of : ℕ → Signed Body → Option (Signed PoSummary)
summary_of j f = elim f.body [
  | body.PoSummary b ↦ if nat_eq f.signer j then Some record { signer = f.signer; body = b; sig = f.sig } else None
  | _ ↦ None
]

-- one summary tells more than another where the sum of its numbers is greater
abbrev pub tells_more : Signed PoSummary → Signed PoSummary → Bool
tells_more a b = nat_lt (sum b.body.numbers) (sum a.body.numbers)

-- master j's known summary that tells most, the first known among equals
unfoldable pub latest : List (Signed Body) → ℕ → Option (Signed PoSummary)
latest known j = best_by tells_more (filter_map (summary_of j) known)

-- all masters' latest summaries
abbrev pub latest_frames : Group → List (Signed Body) → List (Signed PoSummary)
latest_frames g known = filter_map (latest known) (numbers_below g.n)

-- a master's row of the rows that summaries make: the numbers of the first that it signed, an empty row where there is
-- none
abbrev pub row_of : List (Signed PoSummary) → ℕ → List ℕ
row_of frames master = elim (find (λ f. nat_eq f.signer master) frames) [ None ↦ [] | Some f ↦ f.body.numbers ]

-- rows from summaries: each master's row at its place
unfoldable pub rows_of_frames : Group → List (Signed PoSummary) → List (List ℕ)
rows_of_frames g frames = map (λ j. row_of frames j) (numbers_below g.n)

-- the j-th numbers of the rows, an empty row counting 0
abbrev pub column : List (List ℕ) → ℕ → List ℕ
column rows j = map (λ row. slice_index row j) rows

-- the q-th greatest of the rows' j-th numbers
unfoldable pub eligible : Group → List (List ℕ) → ℕ → ℕ
eligible g rows j = greatest_reached g.q (column rows j)

-- over several rows each place takes the greatest, so that it never falls
abbrev pub reach : Group → List (List (List ℕ)) → ℕ → ℕ
reach g [] j = 0
reach g (rows ∷ rest) j = max (eligible g rows j) (reach g rest j)

-- the rows make more eligible, in some place, than `offered` has
abbrev pub exceeds : Group → List (List ℕ) → (ℕ → ℕ) → Bool
exceeds g rows offered = list_any (λ j. nat_lt (offered j) (eligible g rows j)) (numbers_below g.n)
