-- The set is the masters with a mark: one was in it exactly where its mark stood, and a mark more puts its master in.
use Rattle.std.proofs.Common.{◌≡◌, true, false, get_or, set as slice_set, sym, ◌∙◌, ap, subst}
use Rattle.quorum_sets.specs.Masters.{has_master, voters, with_master}
use Rattle.quorum_sets.proofs.MastersLemmas.{voters-marked, has_master-voters_below}
use Rattle.std.proofs.Common.{not}
use Rattle.quorum_sets.proofs.voters.VoterSet.add.Goals as goal

pub returns-clause-answer : goal.returns-clause-answer
returns-clause-answer c =
    ap not (sym (has_master-voters_below (λ m. get_or c.self.inside.marked m false) 14 c.args.master c.requires)
    ∙ ap (λ ms. has_master ms c.args.master) c.self.view_is)

pub returns-clause-added : goal.returns-clause-added
returns-clause-added c = subst (λ ms. voters (λ x. get_or (slice_set c.self.inside.marked c.args.master true) x false)
    14 ≡ with_master ms c.args.master) c.self.view_is
    (voters-marked c.self.inside.marked c.args.master c.self.told c.requires)
