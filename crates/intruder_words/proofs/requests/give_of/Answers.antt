-- Where the request is certified its update is the one that the gift is made for, with the first request and
-- acknowledgements of its digest; where it isn't, no gift is.
use Rattle.std.proofs.Common.{sym, ◌∙◌}
use Rattle.std.proofs.lemmas.Result.{IfOk-weaker}
use Rattle.protocol_rules.specs.Group.{group_of}
use Rattle.intruder_words.proofs.Giving.{certified-gift}
use Rattle.intruder_words.proofs.requests.give_of.Goals as goal

pub give_with-requires : goal.give_with-requires
give_with-requires c = sym c.in_ok-update.ensures ∙ c.in-Some.is

pub returns-in-Some : goal.returns-in-Some
returns-in-Some c = IfOk-weaker c.give_with.result _ _
    (λ gift is. is ∙ certified-gift (group_of c.args.sizes.now 0) c.args.known.now c.args.j c.args.k _
    (sym c.in-Some.is ∙ c.in_ok-update.ensures)) c.give_with.ensures

pub returns-in-None : goal.returns-in-None
returns-in-None c = certified-gift (group_of c.args.sizes.now 0) c.args.known.now c.args.j c.args.k _
    (sym c.in-None.is ∙ c.in_ok-update.ensures)
