-- A vote of a master of the group is taken; a word of another kind, or of nobody in the group, tells nothing.
use Rattle.std.proofs.Common.{ap, rules}
use Rattle.leader_patience.specs.PatienceState.{PatienceState}
use Rattle.leader_patience.proofs.Votes.{passed, stranger_passed, at_vote}
use Rattle.leader_patience.proofs.patience.Patience.take.Goals as goal

pub returns-then-signer-self : goal.returns-then-signer-self
returns-then-signer-self c = λ sig g known said is.
    stranger_passed g c.args.self.now known said record {
      signer = c.args.signer;
      body = c.args.body.now;
      sig = sig;
    } c.self.inside.sizes.n (ap (λ (k : PatienceState). k.group.n) c.self.view_is) c.if-signer-self.true is

pub returns-in-Suspect : goal.returns-in-Suspect
returns-in-Suspect c = λ sig g known said is.
    at_vote known c.args.signer sig c.args.body.now c.in-Suspect.word c.in-Suspect.is
    (c.take_vote.ensures sig g known said is)

pub returns-in_default : goal.returns-in_default
returns-in_default c = λ sig g known said is.
    passed g c.args.self.now known said record { signer = c.args.signer; body = c.args.body.now; sig = sig }
    (λ master lt. search rules) is
