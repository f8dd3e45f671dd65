-- The views in turn: when each began, when a later one did, how many correct masters voted against its leader, and how
-- long no correct master executed anything. (This project's own; views and votes are Prime's.)
use Rattle.std.specs.Prelude.{ℕ, ◌+◌, ◌-◌, Bool, true, false, ◌&&◌, List, [], ◌∷◌, Option, Some, None, filter, length}
use Rattle.std.specs.Prelude.{map, max, nat_eq, nat_le, nat_lt, slice_get, take, unwrap_or, if◌then◌else◌}
use Rattle.std.specs.List.{filter_map, list_any}
use Rattle.std.specs.Option.{option_map}
use Rattle.quorum_sets.specs.Masters.{numbers_below}
use Rattle.protocol_rules.specs.Words.{greatest_of}
use Rattle.delay_times.specs.declared.happening.Happening.{Happening}
use Rattle.delay_times.specs.declared.happening.What.{What}
use Rattle.delay_times.specs.declared.happening.What.TheVariants as what
use Rattle.delay_times.specs.declared.reigns.Begun.{Begun}
use Rattle.delay_times.specs.declared.reigns.Reign.{Reign}

-- the view that a correct master came into
abbrev pub entered : What → Option ℕ
entered (what.Entered view) = Some view
entered _ = None

-- the latest view that one came into, 0 at first
abbrev pub latest_view : List Happening → ℕ
latest_view hs = greatest_of (filter_map (λ h. entered h.what) hs)

-- the view that began there: later than all that one came into before
abbrev pub begun_if : ℕ → ℕ → Option ℕ → Option Begun
begun_if latest stamp None = None
begun_if latest stamp (Some view) = if nat_lt latest view then Some (record { view = view; stamp = stamp }) else None

abbrev pub begun_after : ℕ → Happening → Option Begun
begun_after latest h = begun_if latest h.stamp (entered h.what)

abbrev pub begun_from : ℕ → Option Happening → Option Begun
begun_from latest None = None
begun_from latest (Some h) = begun_after latest h

-- the view that began at a place of what happened
abbrev pub begun_at : List Happening → ℕ → Option Begun
begun_at hs place = begun_from (latest_view (take place hs)) (slice_get hs place)

-- the latest view, once one more began, if one did
abbrev pub latest_after : ℕ → Option Begun → ℕ
latest_after latest None = latest
latest_after latest (Some b) = b.view

-- the views that began: 0, then each that was later than all before it
unfoldable pub views_begun : List Happening → List Begun
views_begun hs = record { view = 0; stamp = 0 } ∷ filter_map (begun_at hs) (numbers_below (length hs))

abbrev pub is_vote_of : ℕ → What → Bool
is_vote_of view (what.Voted against) = nat_eq against view
is_vote_of view _ = false

-- the master's vote against the leader of the view
abbrev pub is_vote : ℕ → ℕ → Happening → Bool
is_vote view master h = nat_eq h.actor master && is_vote_of view h.what

-- how many of the masters voted against it
abbrev pub votes_against : List Happening → ℕ → List ℕ → ℕ
votes_against hs view masters = length (filter (λ master. list_any (is_vote view master) hs) masters)

abbrev pub is_execution : What → Bool
is_execution (what.Executed client t) = true
is_execution _ = false

-- the stamp of an execution at an entry from one stamp up to another
abbrev pub executed_between : ℕ → ℕ → Happening → Option ℕ
executed_between from to h =
    if is_execution h.what && (nat_le from h.stamp && nat_lt h.stamp to) then Some h.stamp else None

-- the longest distance from one of these stamps to the next, beginning and end among them
abbrev pub longest_gap : ℕ → List ℕ → ℕ → ℕ
longest_gap from [] to = to - from
longest_gap from (stamp ∷ rest) to = max (stamp - from) (longest_gap stamp rest to)

-- the longest stretch of entries at which nothing was executed
unfoldable pub longest_idle : List Happening → ℕ → ℕ → ℕ
longest_idle hs from to = longest_gap from (filter_map (executed_between from to) hs) to

abbrev pub reign_of : List Happening → List ℕ → ℕ → Begun → Option ℕ → Reign
reign_of hs masters entries begun to = record {
  view = begun.view;
  from = begun.stamp;
  to = to;
  votes = votes_against hs begun.view masters;
  idle = longest_idle hs begun.stamp (unwrap_or to entries);
}

abbrev pub stamp_at : List Begun → ℕ → Option ℕ
stamp_at begun place = option_map (λ b. b.stamp) (slice_get begun place)

-- the view at a place of those that began, up to the next one
abbrev pub reign_at : List Happening → List ℕ → ℕ → List Begun → ℕ → Option Reign
reign_at hs masters entries begun place =
    option_map (λ b. reign_of hs masters entries b (stamp_at begun (place + 1))) (slice_get begun place)

abbrev pub reigns_of : List Happening → List ℕ → ℕ → List Begun → List Reign
reigns_of hs masters entries begun =
    filter_map (reign_at hs masters entries begun) (numbers_below (length begun))

-- all views in turn, the last up to the end of so many entries
unfoldable pub reigns_in : List ℕ → List Happening → ℕ → List Reign
reigns_in masters hs entries = reigns_of hs masters entries (views_begun hs)
