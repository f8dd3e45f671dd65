use Rattle.intruder_words.proofs.reports.certificates_known.Goals as goal

pub certificates_by-found-requires-clause-new : goal.certificates_by-found-requires-clause-new
certificates_by-found-requires-clause-new c = c.new-order.ensures 0
