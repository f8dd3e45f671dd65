-- A set is the list of the masters marked, so one that can be there is a member just where its mark is set, and
-- one past the last place is no member.
use Rattle.std.proofs.Common.{false, get_or, sym, ◌∙◌, ap}
use Rattle.quorum_sets.specs.Masters.{has_master}
use Rattle.quorum_sets.proofs.MastersLemmas.{has_master-voters, has_master-voters_below}
use Rattle.std.proofs.Common.{nat_lt}
use Rattle.std.proofs.lemmas.Bool.{and_right, le-ltb}
use Rattle.quorum_sets.proofs.voters.VoterSet.has.Goals as goal

pub returns-then-master-lt-MOST_MASTERS : goal.returns-then-master-lt-MOST_MASTERS
returns-then-master-lt-MOST_MASTERS c =
    sym (has_master-voters_below (λ m. get_or c.self.inside.marked m false)
    14 c.args.master c.if-master-lt-MOST_MASTERS.true) ∙ ap (λ ms. has_master ms c.args.master) c.self.view_is

pub returns-else-master-lt-MOST_MASTERS : goal.returns-else-master-lt-MOST_MASTERS
returns-else-master-lt-MOST_MASTERS c =
    le-ltb c.args.master 14 c.if-master-lt-MOST_MASTERS.false
    ∙ sym (has_master-voters (λ m. get_or c.self.inside.marked m false) 14 c.args.master
    ∙ and_right (get_or c.self.inside.marked c.args.master false) (nat_lt c.args.master 14)
    (le-ltb c.args.master 14 c.if-master-lt-MOST_MASTERS.false))
    ∙ ap (λ ms. has_master ms c.args.master) c.self.view_is
