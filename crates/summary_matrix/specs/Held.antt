-- What a matrix holds, and when it is the matrix of the words that its master knows.
use Rattle.std.specs.Prelude.{◌≡◌, ℕ, ◌<◌, Bool, true, false, List, [], ◌∷◌, Option, Some, None, map, slice_index}
use Rattle.std.specs.Prelude.{if◌then◌else◌}
use Rattle.std.specs.List.{filter_map, slice_index_or}
use Rattle.message_types.specs.declared.signed.Signed.{Signed}
use Rattle.message_types.specs.declared.preordering.PoSummary.{PoSummary}
use Rattle.message_types.specs.declared.body.Body.{Body}
use Rattle.message_types.specs.declared.body.Body.TheVariants as body
use Rattle.quorum_sets.specs.Masters.{numbers_below}
use Rattle.protocol_rules.specs.Parts as part
use Rattle.quorum_sets.specs.declared.limits.TheConstants.{MOST_MASTERS}
use Rattle.protocol_rules.specs.Group.{Group}
use Rattle.protocol_rules.specs.Matrix.{latest, latest_frames, exceeds, tells_more, column}
use Rattle.protocol_rules.specs.Words.{greatest_reached}
use Rattle.protocol_rules.specs.Master.{latest_rows}

-- the group (whose clients don't matter here), and at each master's place its latest summary
pub record Summaries : Type 0 where
  pub group : Group
  pub latest : List (Option (Signed PoSummary))

abbrev pub held : Summaries → ℕ → Option (Signed PoSummary)
held m j = slice_index_or m.latest j None

-- The matrix of a group where these words are known: it holds each master's latest summary among them.
pub record IsMatrixOf (g : Group) (m : Summaries) (known : List (Signed Body)) : Type 0 where
  pub masters : m.group.n ≡ g.n
  pub intruded : m.group.f ≡ g.f
  pub quorum : m.group.q ≡ g.q
  pub summaries : (j : ℕ) → j < g.n → held m j ≡ latest known j

-- The matrix learns a word: whatever was known, it is the matrix where this is known too.
abbrev pub Learns : Summaries → Summaries → Signed Body → Type 0
Learns old new f = (g : Group) → part.Grows (IsMatrixOf g old) (IsMatrixOf g new) (f ∷ [])

-- what holds of all that may be known where this is the matrix
abbrev pub Where : Summaries → (Group → List (Signed Body) → Type 0) → Type 0
Where m Holds = (g : Group) (known : List (Signed Body)) → IsMatrixOf g m known → Holds g known

-- the numbers tell, for each of the masters that a group may have, what f gives
abbrev pub TellsEach : List ℕ → (ℕ → ℕ) → Type 0
TellsEach numbers f = (j : ℕ) → j < MOST_MASTERS → slice_index numbers j ≡ f j

-- the first n numbers are those of a list
abbrev pub TellsBelow : ℕ → List ℕ → List ℕ → Type 0
TellsBelow n numbers list = (j : ℕ) → j < n → slice_index numbers j ≡ slice_index list j

-- What a leader offers next after `offered`: all latest summaries, where they make more eligible.
unfoldable pub proposal_of : Group → List (Signed Body) → (ℕ → ℕ) → Option (List (Signed PoSummary))
proposal_of g known offered = if exceeds g (latest_rows g known) offered then Some (latest_frames g known) else None

-- the frame is a summary
abbrev pub is_summary : Signed Body → Bool
is_summary f = elim f.body [ body.PoSummary b ↦ true | _ ↦ false ]

-- a summary takes the place of the one held, if any
abbrev pub takes_over : Signed PoSummary → Option (Signed PoSummary) → Bool
takes_over f None = true
takes_over f (Some best) = tells_more f best

-- the numbers of a summary as a row
abbrev pub row_of : Option (Signed PoSummary) → List ℕ
row_of None = []
row_of (Some f) = f.body.numbers

-- the first n rows, and the frames of the first n masters, of what is held at each place
abbrev pub rows_at : ℕ → List (Option (Signed PoSummary)) → List (List ℕ)
rows_at n latest = map (λ j. row_of (slice_index_or latest j None)) (numbers_below n)

abbrev pub frames_at : ℕ → List (Option (Signed PoSummary)) → List (Signed PoSummary)
frames_at n latest = filter_map (λ j. slice_index_or latest j None) (numbers_below n)

-- the numbers tell, by master, how far so many of the first n rows of what is held reach
abbrev pub HasFigures : ℕ → ℕ → List (Option (Signed PoSummary)) → List ℕ → Type 0
HasFigures n least latest numbers = TellsEach numbers (λ j. greatest_reached least (column (rows_at n latest) j))
