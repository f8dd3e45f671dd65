-- What a correct master says is in its place, where all that it knows is; so its own frames can join what it knows, and
-- no other master has cause to refuse them for a place. (The limits of places are this project's own.)
use Rattle.std.specs.Prelude.{◌≡◌, ℕ, ◌+◌, ◌^◌, ◌<◌, ◌≤◌, Bool, true, List, [], ◌∷◌, ◌++◌, Option, Some, length}
use Rattle.std.specs.Prelude.{filter, map, take, nat_eq, if◌then◌else◌}
use Rattle.std.specs.List.{list_all, flat_map}
use Rattle.plain_lists.specs.Lists.{IsIn}
use Rattle.message_types.specs.declared.signed.Signed.{Signed}
use Rattle.message_types.specs.declared.updates.Update.{Update}
use Rattle.message_types.specs.declared.vouchers.Order.{Order}
use Rattle.message_types.specs.declared.views.Plan.{Plan}
use Rattle.message_types.specs.declared.body.Body.{Body}
use Rattle.message_types.specs.Parts.{parts, inside}
use Rattle.protocol_rules.specs.Group.{Group, most_number}
use Rattle.protocol_rules.specs.Places.{in_place, are_rows, is_number}
use Rattle.protocol_rules.specs.Facts.{facts_of, rows_known}
use Rattle.protocol_rules.specs.Order.{ordered, offered, plan_known}
use Rattle.protocol_rules.specs.Master.{Heard, learned, taken_frames, known_at, answers}
use Rattle.history_rules.specs.Events.{Entry}
use Rattle.history_rules.specs.Setup.{Setup, is_correct_master}
use Rattle.history_rules.specs.Legal.{IsLegal, heard}
use Rattle.agreement.specs.Laws.{HasSizes}

-- with each word all frames inside it are known
abbrev pub IsClosed : List (Signed Body) → Type 0
IsClosed known = (p r : Signed Body) → IsIn p known → IsIn r (inside p.body) → IsIn r known

-- What a master knows at an event is closed: frames are taken, and said, with their parts.
abbrev pub KnownIsClosed : Type 0
KnownIsClosed = (before : List Heard) (took : Option (Signed Body)) → IsClosed (known_at before took)

abbrev pub PartsAreClosed : Type 0
PartsAreClosed = (frames : List (Signed Body)) → IsClosed (flat_map parts frames)

-- all words known are in their places
abbrev pub KnowsPlaced : Group → List (Signed Body) → Type 0
KnowsPlaced g known = IsClosed known × (list_all (in_place g) known ≡ true)

-- The rows known are rows of the group: one for each master, each empty or of one number for each master.
abbrev pub RowsAreInPlace : Type 0
RowsAreInPlace = (g : Group) (known : List (Signed Body)) → KnowsPlaced g known →
    list_all (are_rows g) (rows_known (facts_of g known)) ≡ true

-- So are the rows ordered as any number.
abbrev pub OrderedAreInPlace : Type 0
OrderedAreInPlace =
    (g : Group) (known : List (Signed Body)) → KnowsPlaced g known
    → (s : ℕ) (rows : List (List ℕ)) → ordered g (facts_of g known) s ≡ Some rows → are_rows g rows ≡ true

-- So are the rows that any view offers, and they are offered as a number within the limits, however far the window
-- goes.
abbrev pub OfferedAreInPlace : Type 0
OfferedAreInPlace =
    (g : Group) (known : List (Signed Body)) → KnowsPlaced g known
    → (v s : ℕ) (rows : List (List ℕ)) → offered (facts_of g known) v s ≡ Some rows →
    (are_rows g rows ≡ true) × (is_number s ≡ true)

-- So are the rows of any view's plan, and no plan goes beyond the greatest number.
abbrev pub PlansAreInPlace : Type 0
PlansAreInPlace =
    (g : Group) (known : List (Signed Body)) → KnowsPlaced g known
    → (v : ℕ) (plan : Plan) → plan_known (facts_of g known) v ≡ Some plan → (list_all (are_rows g) plan.rows ≡ true)
    × (plan.base + length plan.rows ≤ most_number)

-- how many ticks a master has had
abbrev pub ticks_heard : List Heard → ℕ
ticks_heard before = length (filter (λ e. e.is_tick) before)

-- A master of the group that has had at most 2^32 ticks, the present one included, and knows only what is in place.
pub record MaySpeak (g : Group) (me : ℕ) (before : List Heard) (took : Option (Signed Body))
    (at_tick : Bool) : Type 0 where
  pub sizes : HasSizes g
  pub master : me < g.n
  pub ticks : ticks_heard before + (if at_tick then 1 else 0) ≤ 2 ^ 32
  pub placed : list_all (in_place g) (known_at before took) ≡ true

-- Each word that the rules make such a master say is in its place in the master's name. (A signature has no part in
-- it.)
abbrev pub AnswersAreInPlace : Type 0
AnswersAreInPlace =
    (g : Group) (orders : List Update → ℕ → List Order) (me : ℕ) (before : List Heard)
    (took : Option (Signed Body)) (at_tick : Bool)
    → MaySpeak g me before took at_tick
    → list_all (λ b. in_place g record { signer = me; body = b; sig = [] })
    (answers g orders me before took at_tick) ≡ true

-- the frames are the master's own, of the first so many words that the rules make it say
pub record IsSaid (g : Group) (orders : List Update → ℕ → List Order) (me : ℕ) (before : List Heard)
    (took : Option (Signed Body)) (at_tick : Bool) (count : ℕ) (frames : List (Signed Body)) : Type 0 where
  pub own : list_all (λ f. nat_eq f.signer me) frames ≡ true
  pub words : map (λ f. f.body) frames ≡ take count (answers g orders me before took at_tick)

-- Each part of such frames is in its place: the frames themselves, and those inside them, which the master knew.
abbrev pub OwnPartsAreInPlace : Type 0
OwnPartsAreInPlace =
    (g : Group) (orders : List Update → ℕ → List Order) (me : ℕ) (before : List Heard)
    (took : Option (Signed Body)) (at_tick : Bool)
    → MaySpeak g me before took at_tick
    → (count : ℕ) (frames : List (Signed Body)) → IsSaid g orders me before took at_tick count frames →
    list_all (in_place g) (flat_map parts frames) ≡ true

-- So at the master's next event, once it has said them, all that it knows is in place again, where the frame taken
-- there has all its parts in place.
abbrev pub KnownStaysInPlace : Type 0
KnownStaysInPlace =
    (g : Group) (orders : List Update → ℕ → List Order) (me : ℕ) (before : List Heard)
    (took : Option (Signed Body)) (at_tick : Bool)
    → MaySpeak g me before took at_tick
    → (count : ℕ) (frames : List (Signed Body)) → IsSaid g orders me before took at_tick count frames
    → (next : Option (Signed Body)) → list_all (in_place g) (flat_map parts (taken_frames next)) ≡ true
    → list_all (in_place g) (known_at (before ++ record { took = took; is_tick = at_tick; said = frames } ∷ []) next)
    ≡ true

-- In every legal history, whoever is intruded and whatever is forged: all that a correct master has learned, the frames
-- that it said with their parts included, is in place as long as it has had at most 2^32 ticks. So no master that keeps
-- to the rules has cause to refuse such a frame for a place.
abbrev pub LearnedIsInPlace : Type 0
LearnedIsInPlace =
    (w : Setup) (history : List Entry) (i : ℕ) → IsLegal w history → HasSizes w.group → is_correct_master w i ≡ true
    → ticks_heard (heard w history i) ≤ 2 ^ 32 →
    list_all (in_place w.group) (flat_map learned (heard w history i)) ≡ true
