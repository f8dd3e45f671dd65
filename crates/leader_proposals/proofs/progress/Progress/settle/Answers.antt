-- All numbers up to the one settled have known rows, and the reach is theirs. The loop stops at the first
-- number without known rows, or at the end.
use Rattle.std.proofs.Common.{◌≡◌, ◌+◌, ℕ, false, None, is_some, sym, ◌∙◌, ap, subst, arith, rules}
use Rattle.leader_proposals.specs.Counting.{IsSettled, counted_in}
use Rattle.leader_proposals.specs.declared.progress.Progress.{Progress}
use Rattle.leader_proposals.proofs.Few.{none-copied}
use Rattle.leader_proposals.proofs.Growing.{counted_in-is}
use Rattle.leader_proposals.proofs.Offering.{settled-record}
use Rattle.leader_proposals.proofs.Reaching.{settled-more}
use Rattle.leader_proposals.proofs.progress.Progress.settle.Goals as goal

pub loop-settled-preserved : goal.loop-settled-preserved
loop-settled-preserved c = λ g facts ordered is sizes known before.
    settled-more g facts c.args.self.now.view c.loop-settled.settled c.args.plan.now c.args.sizes.now
    c.loop-settled.reach.numbers c.raise_by.new.reach.numbers _
    sizes.quorum known (c.counted-rows.ensures.rows g facts ordered is) (search rules) (c.raise_by.ensures 0)
    (c.loop-settled.invariant g facts ordered is sizes known before)

pub returns-then-is_none-clause-settled : goal.returns-then-is_none-clause-settled
returns-then-is_none-clause-settled c = λ g facts ordered is sizes known before.
    settled-record g facts c.args.self.now c.settled_at.result c.loop-settled.settled c.loop-settled.reach
    c.settled_at.ensures (c.loop-settled.invariant g facts ordered is sizes known before)

pub returns-clause-settled : goal.returns-clause-settled
returns-clause-settled c = λ g facts ordered is sizes known before.
    let last : c.loop-settled.settled ≡ c.max-end.result = omega arith in
    settled-record g facts c.args.self.now c.settled_at-2.result c.max-end.result c.loop-settled.reach
    c.settled_at-2.ensures
    (subst (λ (n : ℕ). IsSettled g facts c.args.self.now.view n c.loop-settled.reach.numbers) last
    (c.loop-settled.invariant g facts ordered is sizes known before))

-- it stops only where rows aren't known
pub returns-then-is_none-clause-far : goal.returns-then-is_none-clause-far
returns-then-is_none-clause-far c = λ g facts ordered is known lt.
    let at : c.settled_at.result.settled ≡ c.loop-settled.settled =
    ap (λ (p : Progress). p.settled) c.settled_at.ensures in
    let none : is_some c.counted-rows.result ≡ false = search rules in
    subst (λ (n : ℕ). counted_in g facts c.args.self.now.view (n + 1) ≡ None) (sym at)
    (counted_in-is g facts c.args.self.now.view (c.loop-settled.settled + 1) c.args.plan.now known
    ∙ sym (c.counted-rows.ensures.rows g facts ordered is) ∙ none-copied c.counted-rows.result none)

pub returns-clause-far : goal.returns-clause-far
returns-clause-far c = λ g facts ordered is known lt.
    let at : c.settled_at-2.result.settled ≡ c.max-end.result =
    ap (λ (p : Progress). p.settled) c.settled_at-2.ensures in
    absurd (omega arith)
