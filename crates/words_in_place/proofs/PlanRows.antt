-- The rows of a new view's plan have a spelling where those of the reports' certificates have one.
use Rattle.std.proofs.Common.{◌≡◌, ℕ, ◌+◌, ◌-◌, ◌≤◌, Bool, true, List, [], Option, Some, None, map, filter, nat_eq}
use Rattle.std.proofs.Common.{refl, ◌∙◌, ap}
use Rattle.std.specs.List.{list_all}
use Rattle.plain_lists.proofs.Members.{all_at, in_map_from, in_filter_from}
use Rattle.message_types.specs.declared.ordering.Certificate.{Certificate}
use Rattle.message_types.specs.declared.views.Report.{Report}
use Rattle.message_types.specs.Spelling.{rows_fit}
use Rattle.protocol_rules.specs.Words.{numbers_from}
use Rattle.protocol_rules.specs.Group.{Group}
use Rattle.protocol_rules.specs.Plans.{plan_of, planned, chosen, certificates_of, no_rows, goes_before, base_of}
use Rattle.protocol_rules.specs.Plans.{last_of}
use Rattle.protocol_rules.proofs.SummaryRows.{rows_made_fit}
use Rattle.history_rules.proofs.Entries.{all_from}
use Rattle.agreement.proofs.FramesInside.{best_in}

-- the certificate's rows have a spelling
abbrev pub is_spelled : Certificate → Bool
is_spelled c = rows_fit c.rows

planned_fit : (g : Group) (reports : List Report) (s : ℕ) → g.n ≤ 14 →
    list_all is_spelled (certificates_of reports) ≡ true → rows_fit (planned g reports s) ≡ true
unfolding chosen
planned_fit g reports s few spelled = by (chosen reports s) refl
  where
    by : (o : Option Certificate) → chosen reports s ≡ o →
        rows_fit (elim o [ Some c ↦ c.rows | None ↦ no_rows g ]) ≡ true
    by None e = rows_made_fit g.n (λ j. []) few (λ m. refl)
    by (Some c) e = all_at is_spelled
        (in_filter_from (λ c. nat_eq c.s s) (certificates_of reports)
        (best_in goes_before (filter (λ c. nat_eq c.s s) (certificates_of reports)) e)).0 spelled

pub plan_fits : (g : Group) (reports : List Report) → g.n ≤ 14 →
    list_all is_spelled (certificates_of reports) ≡ true → list_all rows_fit (plan_of g reports).rows ≡ true
unfolding plan_of
plan_fits g reports few spelled =
    all_from rows_fit (map (planned g reports)
    (numbers_from (base_of reports + 1) (last_of reports - base_of reports))) (λ rows h.
    let found = in_map_from (planned g reports)
    (numbers_from (base_of reports + 1) (last_of reports - base_of reports)) h in
    ap rows_fit found.2 ∙ planned_fit g reports found.0 few spelled)
