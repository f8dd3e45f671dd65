-- What is found at a place is what the list has there.
use Rattle.std.proofs.Common.{List, Bool, sym, ◌∙◌, ap}
use Rattle.std.specs.Prelude.{slice_get}
use Rattle.joined_histories.proofs.Next.{found_at, missing_at}
use Rattle.joined_histories.proofs.files.has_given.Goals as goal

pub returns-in-Some : goal.returns-in-Some
returns-in-Some c =
    sym (ap (λ (xs : List Bool). slice_get xs c.args.actor) (sym c.deref.ensures.value)
    ∙ found_at c.deref.result.now c.args.actor c.in-Some.gave.now c.in-Some.ensures.lookup.0
    c.in-Some.ensures.lookup.1)

pub returns-in-None : goal.returns-in-None
returns-in-None c =
    sym (ap (λ (xs : List Bool). slice_get xs c.args.actor) (sym c.deref.ensures.value)
    ∙ missing_at c.deref.result.now c.args.actor c.in-None.ensures.lookup.0)
