-- The views are gone through from the highest below the bound down: so the first certificate found is that of
-- the highest view that has one.
use Rattle.std.proofs.Common.{◌≡◌, ◌∙◌, sym, ap, arith}
use Rattle.protocol_rules.specs.Order.{last_certificate}
use Rattle.global_order.proofs.Certifying.{last-step, last-found, last-none}
use Rattle.global_order.proofs.certificates.last_certificate_of.Goals as goal

pub loop-v-preserved : goal.loop-v-preserved
loop-v-preserved c = λ g facts sizes has agrees.
    last-step g facts c.loop-v.v c.args.s c.in_ok-certificate.certificate (omega arith)
    (c.in_ok-certificate.ensures g facts sizes has agrees) (sym c.is_some.ensures ∙ c.if-is_some.false)
    ∙ c.loop-v.invariant g facts sizes has agrees

pub returns-then-is_some : goal.returns-then-is_some
returns-then-is_some c = λ g facts sizes has agrees.
    last-found g facts c.loop-v.v c.args.s c.in_ok-certificate.certificate (omega arith)
    (c.in_ok-certificate.ensures g facts sizes has agrees) (sym c.is_some.ensures ∙ c.if-is_some.true)
    ∙ c.loop-v.invariant g facts sizes has agrees

pub returns : goal.returns
returns c = λ g facts sizes has agrees.
    let ended : c.loop-v.v ≡ 0 = omega arith in
    last-none g facts c.args.s ∙ ap (λ v. last_certificate g facts v c.args.s) (sym ended)
    ∙ c.loop-v.invariant g facts sizes has agrees
