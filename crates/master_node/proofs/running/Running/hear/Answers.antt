-- Own words said at earlier events are learned first, and then the frame, so the words known are those of the
-- rules in their order. From there on it is as at any event.
use Rattle.std.proofs.Common.{◌++◌, Some, sym, ◌∙◌, ap}
use Rattle.std.specs.List.{list_all, flat_map}
use Rattle.std.proofs.lemmas.Result.{on_ok_weaker, IfOk-weaker}
use Rattle.message_types.specs.Parts.{parts}
use Rattle.protocol_rules.specs.Group.{Group}
use Rattle.history_rules.specs.Legal.{known_of}
use Rattle.master_knowledge.specs.Whole.{is_whole}
use Rattle.master_node.specs.Charge.{taken_by}
use Rattle.master_node.specs.Running.{past_then}
use Rattle.master_node.proofs.Steps.{own_whole, heard_so}
use Rattle.master_node.proofs.running.Running.hear.Goals as goal

pub recall_all-requires-clause-whole : goal.recall_all-requires-clause-whole
recall_all-requires-clause-whole c =
    let r = c.requires.running in
    ap (λ (h : Group). list_all (is_whole h) c.args.self.now.unheard) r.is.keeps.is_replica.knows.preorder.group
    ∙ own_whole r.charge.group r.before c.args.self.now.unheard r.is.unheard r.is.placed

pub hear-requires-clause-known : goal.hear-requires-clause-known
hear-requires-clause-known c =
    let r = c.requires.running in
    record {
      group = r.charge.group;
      own = r.charge.me;
      taken = taken_by r.before;
      known = known_of r.before ++ flat_map parts c.args.self.now.unheard;
      past = past_then r.charge.group r.before r.is.keeps.answered;
      said = r.is.keeps.counted;
      knows = c.in_ok-recall_all.ensures r.charge.group r.charge.me (taken_by r.before) (known_of r.before)
          (past_then r.charge.group r.before r.is.keeps.answered) r.is.keeps.counted r.is.keeps.is_replica.knows;
    }

pub hear-requires-clause-whole : goal.hear-requires-clause-whole
hear-requires-clause-whole c =
    let r = c.requires.running in
    let k = c.in_ok-recall_all.ensures r.charge.group r.charge.me (taken_by r.before) (known_of r.before)
    (past_then r.charge.group r.before r.is.keeps.answered) r.is.keeps.counted r.is.keeps.is_replica.knows in
    ap (λ (h : Group). is_whole h c.args.frame.now)
    (k.preorder.group ∙ sym r.is.keeps.is_replica.knows.preorder.group) ∙ c.requires.whole

pub go_on-requires : goal.go_on-requires
go_on-requires c =
    let r = c.requires.running in
    record {
      learned = record {
        charge = r.charge;
        before = r.before;
        took = Some c.args.frame.now;
        is = heard_so r.charge c.args.self.now c.recall_all.new.knowledge c.hear.new.self c.new.result
            c.args.frame.now r.before c.list-done.result.now r.is
            c.in_ok-recall_all.ensures c.in_ok-hear.ensures c.requires.whole c.new.ensures c.list-done.ensures;
      };
    }

pub returns-clause-said : goal.returns-clause-said
returns-clause-said c = IfOk-weaker c.go_on.result _ _
    (λ bodies said charge before is. said charge before (Some c.args.frame.now) c.ask_in.ensures
    (heard_so charge c.args.self.now c.recall_all.new.knowledge c.hear.new.self c.new.result c.args.frame.now
    before c.list-done.result.now is
    c.in_ok-recall_all.ensures c.in_ok-hear.ensures c.requires.whole c.new.ensures c.list-done.ensures))
    c.go_on.ensures.said

pub returns-clause-spoken : goal.returns-clause-spoken
returns-clause-spoken c =
    on_ok_weaker c.go_on.result (λ spoken charge before is. spoken charge before (Some c.args.frame.now) c.ask_in.ensures
    (heard_so charge c.args.self.now c.recall_all.new.knowledge c.hear.new.self c.new.result c.args.frame.now
    before c.list-done.result.now is
    c.in_ok-recall_all.ensures c.in_ok-hear.ensures c.requires.whole c.new.ensures c.list-done.ensures))
    c.go_on.ensures.spoken
