-- Rules that stay alive: how long a master waits for its leader, how patient it is, and its votes. A wait is the age of the
-- oldest thing that is eligible and not ordered, so that load alone is no reason to vote; patience doubles as the views go
-- round, so that in the end a correct leader keeps its view; and a master goes along with votes of which one at least is a
-- correct connected master's. (After Prime's turnaround times and PBFT's growing timeouts and joining of votes; the
-- figures, and that all is counted in a master's own ticks, are this project's own.)
use Rattle.std.specs.Prelude.{ℕ, ◌+◌, ◌-◌, ◌*◌, ◌/◌, ◌%◌, ◌^◌, Bool, ◌&&◌, ◌||◌, not, List, [], ◌∷◌, Option, Some, None}
use Rattle.std.specs.Prelude.{length, filter, map, max, min, reverse, nat_eq, nat_lt, slice_index, if◌then◌else◌}
use Rattle.std.specs.List.{list_any, filter_map}
use Rattle.message_types.specs.declared.signed.Signed.{Signed}
use Rattle.message_types.specs.declared.body.Body.{Body}
use Rattle.message_types.specs.declared.body.Body.TheVariants as body
use Rattle.quorum_sets.specs.Masters.{numbers_below}
use Rattle.protocol_rules.specs.Words.{greatest_of, in_order, numbers_from}
use Rattle.protocol_rules.specs.Group.{Group, most_view}
use Rattle.protocol_rules.specs.Measures.{suspects_said}
use Rattle.protocol_rules.specs.declared.limits.TheConstants.{BEAT, FIRST_PATIENCE, FORGIVEN_STEP, MOST_DOUBLINGS}

-- Of one event: whether it was a tick; the view at it; and by the latest summaries how far each master's requests were
-- eligible, and how far f + 1 masters had them certified.
pub record Moment : Type 0 where
  pub is_tick : Bool
  pub view : ℕ
  pub eligible : List ℕ
  pub shown : List ℕ

-- how many ticks there were
abbrev pub ticks_in : List Moment → ℕ
ticks_in moments = length (filter (λ m. m.is_tick) moments)

-- the elements as long as they pass, and those from the first on that does
abbrev pub while_such : {X : Type 0} → (X → Bool) → List X → List X
while_such such [] = []
while_such such (x ∷ rest) = if such x then x ∷ while_such such rest else []

abbrev pub from_first : {X : Type 0} → (X → Bool) → List X → List X
from_first such [] = []
from_first such (x ∷ rest) = if such x then x ∷ rest else from_first such rest

-- the last moments that are of one view, first moment first
abbrev pub stretch : ℕ → List Moment → List Moment
stretch v moments = reverse (while_such (λ m. nat_eq m.view v) (reverse moments))

-- something was eligible at the moment that isn't among what is ordered
abbrev pub lacks : Group → (ℕ → ℕ) → Moment → Bool
lacks g ordered m = list_any (λ j. nat_lt (ordered j) (slice_index m.eligible j)) (numbers_below g.n)

-- The wait in view v, in ticks: those from the first moment of the view on at which something was eligible that still isn't
-- ordered. 0 where nothing is lacking.
unfoldable pub wait : Group → ℕ → (ℕ → ℕ) → List Moment → ℕ
wait g v ordered moments = ticks_in (from_first (lacks g ordered) (stretch v moments))

-- The wait above which a master votes against the leader of view v, where it has had so many ticks: 32 ticks, doubled each
-- time that the views went round, of which one view is forgiven each 1,024 ticks. So what drove views up once doesn't let
-- leaders be slow for ever.
abbrev pub patience : Group → ℕ → ℕ → ℕ
patience g v now = FIRST_PATIENCE * 2 ^ min ((v - now / FORGIVEN_STEP) / g.n) MOST_DOUBLINGS

-- one more than the greatest view that the master voted against, 0 where it voted against none
abbrev pub vote_of : ℕ → Signed Body → Option ℕ
vote_of master f = elim f.body [ body.Suspect b ↦ if nat_eq f.signer master then Some (b.v + 1) else None | _ ↦ None ]

abbrev pub voted_to : List (Signed Body) → ℕ → ℕ
voted_to known master = greatest_of (filter_map (vote_of master) known)

-- how far more than `count` masters voted, each against a view as high as that or higher
abbrev pub voted_by_more : Group → List (Signed Body) → ℕ → ℕ
voted_by_more g known count = slice_index (reverse (in_order (map (voted_to known) (numbers_below g.n)))) count

-- The views below this are voted against: every view that was left, and as far as f + k + 1 masters voted, of whom one is
-- correct and connected; where patience is at its end the present view too.
abbrev pub votes_to : Group → List (Signed Body) → ℕ → Bool → ℕ
votes_to g known v is_impatient = max (voted_by_more g known (g.f + g.k)) (if is_impatient then v + 1 else v)

-- the ticks at which what isn't answered is said again
abbrev pub is_beat : ℕ → Bool
is_beat now = nat_eq (now % BEAT) 0

-- A vote against view w is due: none was said, or while patience is at its end one that the present view hangs on is said
-- again, at each 16th tick.
abbrev pub is_vote_due : List Body → ℕ → ℕ → Bool → ℕ → Bool
is_vote_due said now v is_impatient w =
    not (list_any (suspects_said w) said) || is_impatient && is_beat now && (nat_eq w v || nat_eq (w + 1) v)

-- the votes due, by rising view
abbrev pub votes_due : Group → List (Signed Body) → List Body → ℕ → ℕ → ℕ → Bool → List Body
votes_due g known said v waiting now at_tick =
    let is_impatient = at_tick && nat_lt (patience g v now) waiting in
    map (λ w. body.Suspect record { v = w })
    (filter (is_vote_due said now v is_impatient) (numbers_from 0 (min (votes_to g known v is_impatient) most_view)))
