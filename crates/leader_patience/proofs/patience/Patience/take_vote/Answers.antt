-- A vote takes its signer's place where it goes further than what the signer voted before.
use Rattle.std.proofs.Common.{◌+◌, ◌<◌, ◌≤◌, ℕ, max, sym, ap, subst, arith}
use Rattle.leader_patience.specs.PatienceState.{PatienceState}
use Rattle.leader_patience.proofs.Votes.{viewed, took_vote, place_set}
use Rattle.quorum_sets.proofs.Numbered.{masters_few}
use Rattle.leader_patience.proofs.patience.Patience.take_vote.Goals as goal

pub returns : goal.returns
returns c = λ sig g known said is.
    let few : c.self.inside.sizes.n ≤ 14 = masters_few c.self.inside.sizes in
    let within : c.args.signer < c.self.inside.sizes.n =
    subst (λ (n : ℕ). c.args.signer < n) (sym (ap (λ (k : PatienceState). k.group.n) c.self.view_is))
    c.requires.signer in
    took_vote g _ known said c.args.signer c.args.word sig _
    (λ j lt. place_set c.self.inside.voted c.args.signer j c.max.result
    (λ x. max x (c.args.word.v + 1)) (omega arith) c.max.ensures)
    (viewed c.self.view_is is)
