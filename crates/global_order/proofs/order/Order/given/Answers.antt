-- The rows are those of the digest ordered, the view is the greatest in which a quorum committed it, and the
-- commits are the first ones of the q lowest masters.
use Rattle.std.proofs.Common.{Some, ◌∙◌, ap}
use Rattle.std.specs.Option.{option_map}
use Rattle.protocol_rules.specs.Order.{commit_by}
use Rattle.global_order.specs.Index.{vote_at, commit_of}
use Rattle.global_order.specs.OrderState.{IsOrderOf}
use Rattle.global_order.specs.Held.{state_of}
use Rattle.global_order.proofs.Alike.{inside}
use Rattle.global_order.proofs.Answering.{ordered-none, ordered-some}
use Rattle.global_order.proofs.Given.{given-quorum}
use Rattle.global_order.proofs.Viewing.{gift-none, gift-some}
use Rattle.global_order.proofs.order.Order.given.Goals as goal

pub returns-in_default : goal.returns-in_default
returns-in_default c = λ g facts said is.
    let held : IsOrderOf g (state_of c.self.inside) facts said =
    inside c.self.inside c.args.self.now c.self.view_is g facts said is in
    gift-none g facts c.args.s
    (ordered-none g facts c.args.s (c.in_default.ensures ∙ held.choices.ordered.choice c.args.s))

pub returns-in_default-get : goal.returns-in_default-get
returns-in_default-get c = λ g facts said is.
    let held : IsOrderOf g (state_of c.self.inside) facts said =
    inside c.self.inside c.args.self.now c.self.view_is g facts said is in
    gift-none g facts c.args.s
    (c.in_default-get.ensures.value ∙ ordered-some g facts c.args.s c.self.inside.choices.rows c.in-Some.digest
    held.choices.rows (c.in-Some.ensures ∙ held.choices.ordered.choice c.args.s))

pub returns : goal.returns
returns c = λ g facts said is.
    let held : IsOrderOf g (state_of c.self.inside) facts said =
    inside c.self.inside c.args.self.now c.self.view_is g facts said is in
    let here = c.in-Some.ensures ∙ held.choices.ordered.choice c.args.s in
    gift-some g facts c.args.s c.in-Some.digest c.in_ok-rows.rows c.view_of-v.result c.in_ok-commits.commits
    (ap Some c.in_ok-rows.ensures ∙ c.in-Some-get.ensures.value
    ∙ ordered-some g facts c.args.s c.self.inside.choices.rows c.in-Some.digest held.choices.rows here) here
    (c.view_of-v.ensures ∙ held.views c.args.s c.in-Some.digest)
    (c.in_ok-commits.ensures
    ∙ given-quorum g facts c.self.inside.sizes.n c.self.inside.sizes.q
    (commit_by c.view_of-v.result c.args.s c.in-Some.digest)
    (λ m. option_map (commit_of c.view_of-v.result c.args.s c.in-Some.digest m)
    (vote_at c.self.inside.commits c.view_of-v.result c.args.s c.in-Some.digest m)) held.sizes
    (held.commits c.view_of-v.result c.args.s c.in-Some.digest))
