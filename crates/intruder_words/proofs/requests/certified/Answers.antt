use Rattle.std.proofs.Common.{◌∙◌, ap}
use Rattle.protocol_rules.specs.Group.{group_of}
use Rattle.protocol_rules.specs.Preorder.{certified}
use Rattle.intruder_words.proofs.Certified.{certified-few}
use Rattle.intruder_words.proofs.requests.certified.Goals as goal

pub returns : goal.returns
returns c =
    c.certified_among.ensures ∙ ap (λ fs. certified (group_of c.args.sizes.now 0) fs c.args.j c.args.k)
    (c.deref.ensures.value ∙ c.in_ok-few.ensures)
    ∙ certified-few (group_of c.args.sizes.now 0) c.args.known.now c.args.j c.args.k
