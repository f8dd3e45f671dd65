-- An actor that is there has a count of its keeper's calls, and runs as long as none of them fails. One that
-- isn't there has no count and never runs.
use Rattle.std.proofs.Common.{◌&&◌, List, ℕ, nat_le, sym, ◌∙◌, ap}
use Rattle.std.specs.List.{list_any}
use Rattle.std.specs.Prelude.{slice_get}
use Rattle.printed_history.proofs.NextEntry.{same_failing, runs_by, none_runs}
use Rattle.printed_history.proofs.Places.{found_at, missing_at}
use Rattle.printed_history.proofs.reading.SoFar.is_running.Goals as goal

pub returns-in-Some : goal.returns-in-Some
returns-in-Some c =
    runs_by c.args.self.now c.args.actor c.in-Some.calls.now c.fails.result c.requires
    (ap (λ (xs : List ℕ). slice_get xs c.args.actor) (sym c.deref.ensures.value)
    ∙ found_at c.deref.result.now c.args.actor c.in-Some.calls.now c.in-Some.ensures.lookup.0
    c.in-Some.ensures.lookup.1)
    (c.fails.ensures
    ∙ ap (λ (failing : List ℕ). list_any (λ x. nat_le 1 x && nat_le x c.in-Some.calls.now) failing)
    (same_failing c.args.self.now c.args.actor))

pub returns-in-None : goal.returns-in-None
returns-in-None c =
    none_runs c.args.self.now c.args.actor c.requires
    (ap (λ (xs : List ℕ). slice_get xs c.args.actor) (sym c.deref.ensures.value)
    ∙ missing_at c.deref.result.now c.args.actor c.in-None.ensures.lookup.0)
