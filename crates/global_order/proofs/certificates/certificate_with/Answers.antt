-- The rows are the first known ones of the digest, and the prepares the first of the q lowest masters. Where no
-- rows are known there is no certificate.
use Rattle.std.proofs.Common.{◌∙◌, Some, ap}
use Rattle.std.specs.Option.{option_map}
use Rattle.protocol_rules.specs.Order.{prepare_by}
use Rattle.global_order.specs.Index.{vote_at, prepare_of}
use Rattle.global_order.proofs.Given.{given-quorum}
use Rattle.global_order.proofs.Certifying.{certificate-lost, certificate-found}
use Rattle.global_order.proofs.certificates.certificate_with.Goals as goal

pub returns-in_default : goal.returns-in_default
returns-in_default c = λ g facts sizes has rows. certificate-lost g facts c.args.v c.args.s c.args.digest
    c.args.choices.now.rows rows c.in_default.ensures.value

pub returns : goal.returns
returns c = λ g facts sizes has rows.
    certificate-found g facts c.args.v c.args.s c.args.digest c.args.choices.now.rows c.in_ok-rows.rows
    c.in_ok-prepares.prepares
    rows (ap Some c.in_ok-rows.ensures ∙ c.in-Some.ensures.value)
    (c.in_ok-prepares.ensures
    ∙ given-quorum g facts c.args.sizes.now.n c.args.sizes.now.q (prepare_by c.args.v c.args.s c.args.digest)
    (λ m. option_map (prepare_of c.args.v c.args.s c.args.digest m)
    (vote_at c.args.votes.now c.args.v c.args.s c.args.digest m)) sizes (has c.args.v c.args.s c.args.digest))
