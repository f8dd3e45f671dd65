-- Each figure of the standing is the rule's, so what is made of them is.
use Rattle.std.proofs.Common.{◌+◌, ◌%◌, ◌||◌, ℕ, cond, max, nat_eq, nat_lt, ◌∙◌}
use Rattle.lacking.proofs.wanting.wanted_to.Goals as goal

pub returns : goal.returns
returns c g facts said v is_open is =
    c.max.ensures ∙ (λ i. max (c.where_so-far.ensures i) (c.where_so-next.ensures i))
    ∙ (λ i. max (cond {A = ℕ} (c.is_behind.ensures i) (c.max-others.ensures i) 0)
    (cond {A = ℕ} (c.is_next_wanted.ensures i) (c.args.standing.gapless + 1) 0))
    ∙ (λ i. max
    (cond {A = ℕ} (nat_lt 16 c.args.waiting || nat_lt (is.ordered i) (is.base i)) (max (is.some i) (is.base i)) 0)
    (cond {A = ℕ} (nat_lt 16 c.args.waiting || (nat_eq (c.args.now % 128) 0 || is.next i)) (is.ordered i + 1) 0))
