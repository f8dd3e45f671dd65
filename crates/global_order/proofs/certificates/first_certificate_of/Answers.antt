-- The certificate that was complete first is the one of the digest prepared first, which the slot holds beside
-- the least.
use Rattle.std.proofs.Common.{◌∙◌, ap}
use Rattle.std.specs.Option.{option_map}
use Rattle.protocol_rules.specs.Order.{certificate_of}
use Rattle.global_order.proofs.Certifying.{first-none, first-found, if_ok}
use Rattle.global_order.proofs.certificates.first_certificate_of.Goals as goal

pub returns-in_default : goal.returns-in_default
returns-in_default c = λ g facts sizes has agrees. first-none g facts c.args.v c.args.s
    (c.in_default.ensures ∙ agrees.prepared.choice (c.args.v, c.args.s))

pub returns : goal.returns
returns c = if_ok c.certificate_with.result _ _ (λ answer told g facts sizes has agrees.
    told g facts sizes has agrees.rows
    ∙ ap (option_map (certificate_of g facts c.args.s c.args.v))
    (first-found g facts c.args.v c.args.s c.in-Some.digest
    (c.in-Some.ensures ∙ agrees.prepared.choice (c.args.v, c.args.s)))) c.certificate_with.ensures
