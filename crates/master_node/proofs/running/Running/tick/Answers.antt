-- A tick takes no frame, so only the own words said at earlier events are learned before it goes on. The count
-- of ticks has room for one more.
use Rattle.std.proofs.Common.{None, refl, ◌∙◌, ap}
use Rattle.std.specs.List.{list_all}
use Rattle.std.proofs.lemmas.Result.{on_ok_weaker, IfOk-weaker}
use Rattle.protocol_rules.specs.Group.{Group}
use Rattle.master_knowledge.specs.Whole.{is_whole}
use Rattle.master_node.proofs.Steps.{own_whole, ticked_so}
use Rattle.master_node.proofs.running.Running.tick.Goals as goal

pub recall_all-requires-clause-whole : goal.recall_all-requires-clause-whole
recall_all-requires-clause-whole c =
    let r = c.requires.running in
    ap (λ (h : Group). list_all (is_whole h) c.args.self.now.unheard) r.is.keeps.is_replica.knows.preorder.group
    ∙ own_whole r.charge.group r.before c.args.self.now.unheard r.is.unheard r.is.placed

pub go_on-requires : goal.go_on-requires
go_on-requires c =
    let r = c.requires.running in
    record {
      learned = record {
        charge = r.charge;
        before = r.before;
        took = None;
        is = ticked_so r.charge c.args.self.now c.recall_all.new.knowledge c.new.result r.before
            c.list-done.result.now r.is
            c.in_ok-recall_all.ensures c.requires.ticks c.new.ensures c.list-done.ensures;
      };
    }

pub returns-clause-said : goal.returns-clause-said
returns-clause-said c = IfOk-weaker c.go_on.result _ _ (λ bodies said charge before is. said charge before None refl
    (ticked_so charge c.args.self.now c.recall_all.new.knowledge c.new.result before c.list-done.result.now is
    c.in_ok-recall_all.ensures c.requires.ticks c.new.ensures c.list-done.ensures)) c.go_on.ensures.said

pub returns-clause-spoken : goal.returns-clause-spoken
returns-clause-spoken c = on_ok_weaker c.go_on.result (λ spoken charge before is. spoken charge before None refl
    (ticked_so charge c.args.self.now c.recall_all.new.knowledge c.new.result before c.list-done.result.now is
    c.in_ok-recall_all.ensures c.requires.ticks c.new.ensures c.list-done.ensures)) c.go_on.ensures.spoken
