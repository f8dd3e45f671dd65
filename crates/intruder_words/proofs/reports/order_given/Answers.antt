use Rattle.intruder_words.proofs.reports.order_given.Goals as goal

pub order_by-gift-requires-clause-new : goal.order_by-gift-requires-clause-new
order_by-gift-requires-clause-new c = c.new-order.ensures 0
