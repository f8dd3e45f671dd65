-- An execution that is behind the order takes the rest of the numbers ordered without a gap, and then it is
-- caught up. All other parts of the knowledge are untouched.
use Rattle.std.proofs.lemmas.Result.{on_ok_weaker}
use Rattle.protocol_rules.specs.Facts.{facts_of}
use Rattle.protocol_rules.specs.Master.{certified_requests}
use Rattle.master_knowledge.proofs.Catching.{is_behind, caught_run, knows_caught}
use Rattle.master_knowledge.proofs.knowledge.Knowledge.catch_up.Goals as goal

pub take_numbers-requires : goal.take_numbers-requires
take_numbers-requires c = is_behind c.requires.group c.requires.own c.args.self.now c.requires.taken c.requires.known
    c.requires.past c.requires.said c.requires.knows

pub returns-clause-knows : goal.returns-clause-knows
returns-clause-knows c = on_ok_weaker c.take_numbers.result (λ ran g me taken known past said k.
    knows_caught g me c.args.self.now c.take_numbers.new.run taken known past said k
    (caught_run g me c.args.self.now c.take_numbers.new.run taken known past said k
    (λ before after all is. ran g (certified_requests g known) (facts_of g known) said before after k.order
    all is))) c.take_numbers.ensures

pub returns-clause-caught : goal.returns-clause-caught
returns-clause-caught c = on_ok_weaker c.take_numbers.result (λ ran g me taken known past said k.
    caught_run g me c.args.self.now c.take_numbers.new.run taken known past said k
    (λ before after all is. ran g (certified_requests g known) (facts_of g known) said before after k.order
    all is)) c.take_numbers.ensures
