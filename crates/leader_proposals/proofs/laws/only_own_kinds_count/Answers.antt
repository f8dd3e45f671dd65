-- What is kept of offers, of the summary and of vouchers goes by the words of its own kind alone: where these
-- are the same, the other words said don't matter.
use Rattle.leader_proposals.proofs.Offering.{offers-others}
use Rattle.leader_proposals.proofs.Summing.{summary-others}
use Rattle.leader_proposals.proofs.Vouching.{vouchers-others}
use Rattle.leader_proposals.proofs.laws.only_own_kinds_count.Goals as goal

pub returns-clause-offers : goal.returns-clause-offers
returns-clause-offers c = offers-others

pub returns-clause-summaries : goal.returns-clause-summaries
returns-clause-summaries c = summary-others

pub returns-clause-vouchers : goal.returns-clause-vouchers
returns-clause-vouchers c = vouchers-others
