-- A frame that came is first counted as taken, which only pre-ordering goes by, and then learned with its parts
-- like one of the master's own.
use Rattle.std.proofs.Common.{[], ◌∷◌, ◌++◌, ◌∙◌, ap}
use Rattle.std.proofs.lemmas.Result.{on_ok_weaker}
use Rattle.protocol_rules.specs.Group.{Group}
use Rattle.master_knowledge.specs.Whole.{is_whole}
use Rattle.master_knowledge.proofs.Known.{knows_taken}
use Rattle.master_knowledge.proofs.knowledge.Knowledge.hear.Goals as goal

pub recall-requires-clause-known : goal.recall-requires-clause-known
recall-requires-clause-known c = record {
  group = c.requires.known.group;
  own = c.requires.known.own;
  taken = c.requires.known.taken ++ c.args.frame.now ∷ [];
  known = c.requires.known.known;
  past = c.requires.known.past;
  said = c.requires.known.said;
  knows = knows_taken c.requires.known.group c.requires.known.own c.args.self.now c.take_update.new.preorder
      c.requires.known.taken c.requires.known.known c.requires.known.past c.requires.known.said c.args.frame.now
      c.in_ok-take_update.ensures.ok c.requires.known.knows;
}

pub recall-requires-clause-whole : goal.recall-requires-clause-whole
recall-requires-clause-whole c = ap (λ (g : Group). is_whole g c.args.frame.now) c.in_ok-take_update.ensures.group
    ∙ c.requires.whole

pub returns : goal.returns
returns c = on_ok_weaker c.recall.result (λ recalled g me taken known past said k.
    recalled g me (taken ++ c.args.frame.now ∷ []) known past said
    (knows_taken g me c.args.self.now c.take_update.new.preorder taken known past said c.args.frame.now
    c.in_ok-take_update.ensures.ok k)) c.recall.ensures
