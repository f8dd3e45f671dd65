-- A number adds something where it stands, and is planned or exceeds what those before it reach; then its rows raise that.
use Rattle.std.proofs.Common.{sym, ◌∙◌}
use Rattle.leader_proposals.proofs.Offering.{group-few}
use Rattle.leader_proposals.proofs.Worthy.{adds-found, adds-none, reaches-more}
use Rattle.leader_proposals.proofs.worth.added.Goals as goal

pub returns-in_err-rows : goal.returns-in_err-rows
returns-in_err-rows c g facts said is sizes planned above reaches =
    rw c.from_residual.ensures
    (adds-none g facts c.args.view c.args.s (sym (c.in_err-rows.ensures.rows g facts said is)))

pub returns-then-not-is_more : goal.returns-then-not-is_more
returns-then-not-is_more c g facts said is sizes planned above reaches =
    adds-found g facts c.args.view c.args.s c.args.sizes.now c.in_ok-rows.rows.now c.args.reach.now.numbers
    c.eligible-now.result.numbers c.args.is_planned c.is_more.result (group-few g c.args.sizes.now sizes) sizes above
    (sym (c.in_ok-rows.ensures.rows g facts said is)) planned reaches (c.eligible-now.ensures 0) c.is_more.ensures
    ∙ c.if-not-is_more.true

pub returns : goal.returns
returns c g facts said is sizes planned above reaches = (
  adds-found g facts c.args.view c.args.s c.args.sizes.now c.in_ok-rows.rows.now c.args.reach.now.numbers
      c.eligible-now.result.numbers c.args.is_planned c.is_more.result (group-few g c.args.sizes.now sizes) sizes above
      (sym (c.in_ok-rows.ensures.rows g facts said is)) planned reaches (c.eligible-now.ensures 0) c.is_more.ensures
      ∙ c.if-not-is_more.false,
  reaches-more g facts c.args.view c.args.s c.args.sizes.now c.in_ok-rows.rows.now c.args.reach.now.numbers
      c.eligible-now.result.numbers c.raise.new.self.numbers sizes above
      (sym (c.in_ok-rows.ensures.rows g facts said is)) reaches (c.eligible-now.ensures 0) c.raise.ensures,
)
