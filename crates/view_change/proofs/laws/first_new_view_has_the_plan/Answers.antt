use Rattle.std.proofs.Common.{refl}
use Rattle.std.proofs.lemmas.Bool.{ne_eqb}
use Rattle.protocol_rules.specs.Facts.{facts_of}
use Rattle.view_change.proofs.Answering.{plan_known-is, plan_known-first}
use Rattle.view_change.proofs.laws.first_new_view_has_the_plan.Goals as goal

pub returns-clause-first : goal.returns-clause-first
returns-clause-first c = λ g known. plan_known-first (facts_of g known) 0 refl

pub returns-clause-later : goal.returns-clause-later
returns-clause-later c = λ g known v later. plan_known-is g known v (ne_eqb v 0 later)
