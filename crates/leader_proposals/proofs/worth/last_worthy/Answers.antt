-- In a view that isn't open nothing is prepared, and nothing where no prepare is due; else all up to the last number worth
-- one.
use Rattle.std.proofs.Common.{◌≡◌, Bool, true, false, true≢false}
use Rattle.std.specs.Bool.{OnFalse}
use Rattle.leader_proposals.proofs.Worthy.{closed-are, nothing-are, unoffered-none, worthy-are}
use Rattle.leader_proposals.proofs.worth.last_worthy.Goals as goal

-- what is said of a test that failed
read_false : {P : Type 0} (b : Bool) → b ≡ false → OnFalse b P → P
read_false true e said = absurd (true≢false e)
read_false false e said = said

pub returns-then-not-is_open : goal.returns-then-not-is_open
returns-then-not-is_open c g facts said is sizes told =
    closed-are g facts said c.args.view c.args.is_open c.if-not-is_open.true

pub returns-then-not-offers_within : goal.returns-then-not-offers_within
returns-then-not-offers_within c g facts said is sizes told =
    nothing-are g facts said c.args.view c.window_end-limit.result c.args.is_open
    (λ s one within. unoffered-none g facts said c.args.view c.no_prepare_up_to.result c.window_end-limit.result s
    (c.window_end-limit.ensures g facts said is) (c.no_prepare_up_to.ensures g facts said is)
    (read_false c.offers_within.result c.if-not-offers_within.true c.offers_within.ensures g facts said is) one within)

pub returns : goal.returns
returns c g facts said is sizes told =
    worthy-are g facts said c.args.view c.last_added.result c.args.is_open c.if-not-is_open.false
    (c.last_added.ensures g facts said is sizes told)
