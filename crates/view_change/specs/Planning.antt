-- What the making of a plan goes by, one certificate after another.
use Rattle.std.specs.Prelude.{ℕ, Bool, List, Option, Some, None, nat_eq, if◌then◌else◌}
use Rattle.std.specs.List.{list_all}
use Rattle.message_types.specs.declared.ordering.Certificate.{Certificate}
use Rattle.message_types.specs.declared.views.Report.{Report}
use Rattle.message_types.specs.Spelling.{rows_fit}
use Rattle.protocol_rules.specs.Plans.{goes_before, certificates_of}

-- a certificate's rows have a spelling, and so a digest
abbrev pub is_spelled : Certificate → Bool
is_spelled c = rows_fit c.rows

-- the rows of all certificates that the reports bring have a spelling
abbrev pub are_spelled : List Report → Bool
are_spelled reports = list_all is_spelled (certificates_of reports)

abbrev pub is_for : ℕ → Certificate → Bool
is_for s c = nat_eq c.s s

-- the better of the best so far and one certificate more, where it is for number s
abbrev pub best_with : ℕ → Option Certificate → Certificate → Option Certificate
best_with s None c = if is_for s c then Some c else None
best_with s (Some best) c = if is_for s c then (if goes_before c best then Some c else Some best) else Some best
