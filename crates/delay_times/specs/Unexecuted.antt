-- The updates that not all correct masters executed. (This project's own.)
use Rattle.std.specs.Prelude.{ℕ, List, [], ◌∷◌, drop, filter, length, nat_lt, if◌then◌else◌}
use Rattle.std.specs.List.{flat_map, list_any}
use Rattle.delay_times.specs.declared.happening.Happening.{Happening}
use Rattle.delay_times.specs.declared.happening.Name.{Name}
use Rattle.delay_times.specs.declared.unexecuted.Unexecuted.{Unexecuted}
use Rattle.delay_times.specs.declared.sayings.Saying.{Saying}
use Rattle.delay_times.specs.Happenings.{ends}
use Rattle.delay_times.specs.Sayings.{sayings_in}

-- how many of the masters executed the update, of what happened since the saying
abbrev pub executed_by : List Happening → Name → List ℕ → ℕ
executed_by since u masters = length (filter (λ master. list_any (ends u master) since) masters)

-- the update, where so many did and these are fewer than all
abbrev pub unexecuted_where : List ℕ → Saying → ℕ → List Unexecuted
unexecuted_where masters x executed =
    if nat_lt executed (length masters) then record { name = x.name; said = x.stamp; executed = executed } ∷ []
    else []

abbrev pub unexecuted_if : List Happening → (masters : List ℕ) → Saying → List Unexecuted
unexecuted_if hs masters x = unexecuted_where masters x (executed_by (drop x.place hs) x.name masters)

-- all of them, in the order in which they were said
unfoldable pub unexecuted_in : (masters : List ℕ) → List Happening → List Unexecuted
unexecuted_in masters hs = flat_map (unexecuted_if hs masters) (sayings_in hs)
