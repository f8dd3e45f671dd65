-- Nothing is due against a view below the first that is looked at; from there on each view adds its own vote.
use Rattle.std.proofs.Common.{◌≡◌, ◌∙◌, ℕ, ap, arith}
use Rattle.std.specs.List.{filter_map}
use Rattle.quorum_sets.specs.Masters.{numbers_below}
use Rattle.leader_patience.specs.PatienceState.{PatienceState, vote_at}
use Rattle.leader_patience.proofs.Due.{none_due, listed_more}
use Rattle.leader_patience.proofs.patience.Patience.list.Goals as goal

pub loop-against-init : goal.loop-against-init
loop-against-init c =
    let own : c.self.inside.own ≡ c.args.self.now.own = ap (λ (k : PatienceState). k.own) c.self.view_is in
    c.new-bodies.ensures.items
    ∙ none_due c.args.self.now c.args.view c.args.now c.min-start.result c.args.is_impatient (omega arith) (omega arith)

pub loop-against-preserved : goal.loop-against-preserved
loop-against-preserved c =
    listed_more (vote_at c.args.self.now c.args.view c.args.now c.args.is_impatient) c.loop-against.bodies.items
    c.extend_option.new.list.items c.loop-against.against c.vote.result c.vote.ensures c.loop-against.invariant
    c.in_ok-extend_option.ensures.ok

pub returns : goal.returns
returns c =
    let ended : c.loop-against.against ≡ c.args.end = omega arith in
    c.loop-against.invariant
    ∙ ap (λ (e : ℕ). filter_map (vote_at c.args.self.now c.args.view c.args.now c.args.is_impatient) (numbers_below e)) ended
