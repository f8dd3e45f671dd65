use Rattle.hash_signatures.proofs.verification.+leads_through.Given as goal

abbrev pub decreases-leads_through : goal.decreases-leads_through
decreases-leads_through g l = l.n
