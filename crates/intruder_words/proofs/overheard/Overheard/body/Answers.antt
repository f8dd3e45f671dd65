-- A word's body doesn't go by how many clients there are, so that it may be made for none. All frames known
-- have a spelling, hence the body made of them fits one.
use Rattle.std.proofs.Common.{◌∙◌, ap}
use Rattle.std.proofs.lemmas.Result.{IfOk-weaker}
use Rattle.protocol_rules.specs.Group.{group_of}
use Rattle.intruder_words.specs.Speaking.{are_spelled, body_of}
use Rattle.intruder_words.proofs.Whole.{fits-some}
use Rattle.intruder_words.proofs.Anyone.{any_clients}
use Rattle.quorum_sets.proofs.Numbered.{masters_few}
use Rattle.intruder_words.proofs.overheard.Overheard.body.Goals as goal

pub body_of-requires : goal.body_of-requires
body_of-requires c = ap are_spelled c.deref.ensures.value ∙ c.self.invariant

pub returns-clause-body : goal.returns-clause-body
returns-clause-body c = IfOk-weaker c.body_of.result _ _
    (λ word is clients. is ∙ any_clients c.args.sizes.now 0 clients c.deref.result.now c.args.word.now
    ∙ ap (λ known. body_of (group_of c.args.sizes.now clients) known c.args.word.now)
    (c.deref.ensures.value ∙ c.self.view_is)) c.body_of.ensures

pub returns-clause-fits : goal.returns-clause-fits
returns-clause-fits c = IfOk-weaker c.body_of.result _ _
    (λ word is. fits-some (group_of c.args.sizes.now 0) (masters_few c.args.sizes.now) c.deref.result.now
    (ap are_spelled c.deref.ensures.value ∙ c.self.invariant) c.args.word.now word is) c.body_of.ensures
