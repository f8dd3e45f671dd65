-- What is known grows by the parts of one more frame each turn, and each frame stays in place because the group
-- never changes.
use Rattle.std.proofs.Common.{◌≡◌, ◌+◌, suc, List, ◌++◌, take, sym, ◌∙◌, ap, subst, arith, append_assoc}
use Rattle.std.specs.List.{flat_map}
use Rattle.std.proofs.lemmas.List.{append-nil}
use Rattle.plain_lists.specs.Lists.{IsIn}
use Rattle.plain_lists.proofs.Members.{all_at}
use Rattle.message_types.specs.declared.signed.Signed.{Signed}
use Rattle.message_types.specs.declared.body.Body.{Body}
use Rattle.message_types.specs.Parts.{parts}
use Rattle.protocol_rules.specs.Group.{Group}
use Rattle.master_knowledge.specs.Whole.{is_whole}
use Rattle.master_knowledge.specs.Knows.{Knows}
use Rattle.master_knowledge.proofs.Whole.{take_next}
use Rattle.master_node.proofs.Events.{flat_more}
use Rattle.history_rules.proofs.Entries.{at_place}
use Rattle.plain_lists.proofs.Lists.{take_whole}
use Rattle.master_node.proofs.learn.recall_all.Goals as goal

pub loop-frame-init : goal.loop-frame-init
loop-frame-init c g me taken known past said k =
    subst (λ (xs : List (Signed Body)). Knows g me c.args.knowledge.now taken xs past said) (sym (append-nil known)) k

pub recall-requires-clause-known : goal.recall-requires-clause-known
recall-requires-clause-known c = record {
  group = c.requires.known.group;
  own = c.requires.known.own;
  taken = c.requires.known.taken;
  known = c.requires.known.known ++ flat_map parts (take c.loop-frame.frame-index c.as_slice-frame-items.result.now);
  past = c.requires.known.past;
  said = c.requires.known.said;
  knows = c.loop-frame.invariant c.requires.known.group c.requires.known.own c.requires.known.taken
      c.requires.known.known c.requires.known.past c.requires.known.said c.requires.known.knows;
}

pub recall-requires-clause-whole : goal.recall-requires-clause-whole
recall-requires-clause-whole c =
    let k = c.loop-frame.invariant c.requires.known.group c.requires.known.own c.requires.known.taken
    c.requires.known.known c.requires.known.past c.requires.known.said c.requires.known.knows in
    ap (λ (h : Group). is_whole h c.frame-item.result) (k.preorder.group ∙ sym c.requires.known.knows.preorder.group)
    ∙ all_at (is_whole c.args.knowledge.now.preorder.group)
    (subst (λ (xs : List (Signed Body)). IsIn c.frame-item.result xs) c.as_slice-frame-items.ensures
    (at_place c.as_slice-frame-items.result.now c.loop-frame.frame-index c.frame-item.result c.loop-frame-test.true
    c.frame-item.is)) c.requires.whole

pub loop-frame-preserved : goal.loop-frame-preserved
loop-frame-preserved c g me taken known past said k =
    let next : suc c.loop-frame.frame-index ≡ c.loop-frame.frame-index + 1 = omega arith in
    let items : List (Signed Body) = c.as_slice-frame-items.result.now in
    subst (λ (xs : List (Signed Body)). Knows g me c.recall.new.self taken xs past said)
    (append_assoc known (flat_map parts (take c.loop-frame.frame-index items)) (parts c.frame-item.result)
    ∙ ap (λ (xs : List (Signed Body)). known ++ xs)
    (sym (flat_more parts (take c.loop-frame.frame-index items) c.frame-item.result)
    ∙ ap (flat_map parts) (take_next items c.loop-frame.frame-index c.frame-item.result
    c.loop-frame-test.true c.frame-item.is)
    ∙ ap (λ n. flat_map parts (take n items)) next))
    (c.in_ok-recall.ensures g me taken (known ++ flat_map parts (take c.loop-frame.frame-index items)) past said
    (c.loop-frame.invariant g me taken known past said k))

pub returns : goal.returns
returns c g me taken known past said k =
    subst (λ (xs : List (Signed Body)). Knows g me c.loop-frame.knowledge taken (known ++ flat_map parts xs) past said)
    (take_whole c.as_slice-frame-items.result.now c.loop-frame.frame-index (omega arith)
    ∙ c.as_slice-frame-items.ensures)
    (c.loop-frame.invariant g me taken known past said k)
