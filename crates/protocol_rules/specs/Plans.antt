-- What a new view takes over from the views before, after PBFT: the plan of a list of reports.
use Rattle.std.specs.Prelude.{ℕ, ◌+◌, ◌-◌, Bool, List, [], Option, Some, None, filter, map, nat_eq, nat_lt, ◌&&◌}
use Rattle.std.specs.Prelude.{◌||◌}
use Rattle.std.specs.List.{flat_map}
use Rattle.std.specs.Ordering.{is_lt, nat_cmp}
use Rattle.std.specs.Cmp.Lexicographic.{slice_cmp}
use Rattle.message_types.specs.declared.ordering.Certificate.{Certificate}
use Rattle.message_types.specs.declared.views.Report.{Report}
use Rattle.message_types.specs.declared.views.Plan.{Plan}
use Rattle.message_types.specs.Digests.{digest_of_rows}
use Rattle.quorum_sets.specs.Masters.{numbers_below}
use Rattle.protocol_rules.specs.Words.{best_by, greatest_of, numbers_from}
use Rattle.protocol_rules.specs.Group.{Group}

-- the order of digests: by their first differing byte
abbrev pub digest_below : List ℕ → List ℕ → Bool
digest_below a b = is_lt (slice_cmp nat_cmp a b)

-- a certificate is taken before another of a lower view, and in one view before one of a greater digest
abbrev pub goes_before : Certificate → Certificate → Bool
goes_before a b = nat_lt b.v a.v || (nat_eq a.v b.v && digest_below (digest_of_rows a.rows) (digest_of_rows b.rows))

abbrev pub certificates_of : List Report → List Certificate
certificates_of reports = flat_map (λ r. r.certificates) reports

-- the certificate that the reports bring for a number: of the highest view, in one view of the least digest, else the
-- first
unfoldable pub chosen : List Report → ℕ → Option Certificate
chosen reports s = best_by goes_before (filter (λ c. nat_eq c.s s) (certificates_of reports))

abbrev pub no_rows : Group → List (List ℕ)
no_rows g = map (λ j. []) (numbers_below g.n)

-- the chosen certificate's rows, or empty ones
abbrev pub planned : Group → List Report → ℕ → List (List ℕ)
planned g reports s = elim (chosen reports s) [ Some c ↦ c.rows | None ↦ no_rows g ]

abbrev pub base_of : List Report → ℕ
base_of reports = greatest_of (map (λ r. r.base) reports)

-- the greatest number of any certificate
abbrev pub last_of : List Report → ℕ
last_of reports = greatest_of (map (λ c. c.s) (certificates_of reports))

-- From the greatest base of the reports on: the rows of each number up to the greatest that has a certificate.
unfoldable pub plan_of : Group → List Report → Plan
plan_of g reports = record {
  base = base_of reports;
  rows = map (planned g reports) (numbers_from (base_of reports + 1) (last_of reports - base_of reports));
}

-- the plan of view 0
abbrev pub first_plan : Plan
first_plan = record { base = 0; rows = [] }
