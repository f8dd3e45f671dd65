-- Raised five levels, one leaf or more leave a node at the top, so the branch without a root can't be reached.
use Rattle.std.proofs.Common.{◌≤◌, length, ◌∙◌, ap, sym, subst, List, ℕ}
use Rattle.std.specs.Prelude.{slice_get}
use Rattle.std.specs.Option.{option_copied}
use Rattle.checked_frames.specs.Groups.{raised}
use Rattle.checked_frames.proofs.PathLaws.{raised_some}
use Rattle.checked_frames.proofs.SigningLaws.{first_is_there}
use Rattle.checked_frames.proofs.signing.tree_over.Goals as goal

pub unreachable-requires : goal.unreachable-requires
unreachable-requires c =
    let some = subst (λ (xs : List (List ℕ)). 1 ≤ length xs) (sym c.in_ok-top.ensures.top)
    (raised_some 5 c.args.leaves c.requires) in
    first_is_there c.in_ok-top.top some (sym (ap option_copied c.in_default.is) ∙ c.get.ensures)
