use Rattle.std.proofs.Common.{◌≡◌, ◌+◌, ◌∙◌, ℕ, ap, arith}
use Rattle.ots_keys.specs.Keys.{public_key}
use Rattle.ots_keys.proofs.StepLaws.{of_eight}
use Rattle.ots_keys.proofs.keys.publics_in_turn.Goals as goal

pub returns : goal.returns
returns c =
    let q = c.args.q in
    let none : q ≡ q + 0 = omega arith in
    of_eight _
    (c.ots_public.ensures ∙ ap (λ (n : ℕ). public_key c.args.ots c.args.id.now n c.args.seed.now) none)
    c.ots_public-2.ensures c.ots_public-3.ensures c.ots_public-4.ensures c.ots_public-5.ensures
    c.ots_public-6.ensures c.ots_public-7.ensures c.ots_public-8.ensures
