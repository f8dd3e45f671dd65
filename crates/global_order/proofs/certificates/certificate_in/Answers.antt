-- The certificate of a view is the one of the least digest prepared there. The slot holds that digest, and none
-- where no known rows have a quorum.
use Rattle.std.proofs.Common.{◌∙◌, ap}
use Rattle.std.specs.Option.{option_map}
use Rattle.indexmap.specs.IndexMap.{get}
use Rattle.protocol_rules.specs.Order.{certificate_of}
use Rattle.global_order.specs.Index.{same_pair, least_in}
use Rattle.global_order.proofs.Certifying.{certificate-none, least-found, if_ok}
use Rattle.global_order.proofs.certificates.certificate_in.Goals as goal

pub returns-in_default : goal.returns-in_default
returns-in_default c = λ g facts sizes has agrees.
    certificate-none g facts c.args.v c.args.s
    (least_in (get same_pair c.args.choices.now.prepared (c.args.v, c.args.s)))
    (agrees.least (c.args.v, c.args.s)) c.in_default.ensures

pub returns : goal.returns
returns c = if_ok c.certificate_with.result _ _ (λ answer told g facts sizes has agrees.
    told g facts sizes has agrees.rows
    ∙ ap (option_map (certificate_of g facts c.args.s c.args.v))
    (least-found g facts c.args.v c.args.s c.in-Some.digest
    (least_in (get same_pair c.args.choices.now.prepared (c.args.v, c.args.s)))
    (agrees.least (c.args.v, c.args.s)) c.in-Some.ensures)) c.certificate_with.ensures
