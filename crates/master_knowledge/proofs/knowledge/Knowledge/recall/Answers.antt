-- The parts of a frame are learned one by one, so what is known grows by the parts so far. Each part of a frame
-- that is in place is in place itself.
use Rattle.std.proofs.Common.{◌≡◌, ◌+◌, suc, true, List, [], ◌∷◌, ◌++◌, take, sym, ◌∙◌, ap, subst, arith}
use Rattle.std.proofs.Common.{append_assoc}
use Rattle.plain_lists.specs.Lists.{IsIn}
use Rattle.message_types.specs.declared.signed.Signed.{Signed}
use Rattle.message_types.specs.declared.body.Body.{Body}
use Rattle.protocol_rules.specs.Group.{Group}
use Rattle.master_knowledge.specs.Whole.{is_whole}
use Rattle.master_knowledge.specs.Knows.{Knows}
use Rattle.master_knowledge.proofs.Whole.{part_whole, take_next}
use Rattle.history_rules.proofs.Entries.{at_place}
use Rattle.plain_lists.proofs.Lists.{take_whole}
use Rattle.master_knowledge.proofs.knowledge.Knowledge.recall.Goals as goal

pub learn-requires-clause-known : goal.learn-requires-clause-known
learn-requires-clause-known c = record {
  group = c.requires.known.group;
  own = c.requires.known.own;
  taken = c.requires.known.taken;
  known = c.requires.known.known ++ take c.loop-part.part-index c.deref-part-items.result.now;
  past = c.requires.known.past;
  said = c.requires.known.said;
  knows = c.loop-part.invariant c.requires.known.group c.requires.known.own c.requires.known.taken
      c.requires.known.known c.requires.known.past c.requires.known.said c.requires.known.knows;
}

pub learn-requires-clause-whole : goal.learn-requires-clause-whole
learn-requires-clause-whole c =
    let k = c.loop-part.invariant c.requires.known.group c.requires.known.own c.requires.known.taken
    c.requires.known.known c.requires.known.past c.requires.known.said c.requires.known.knows in
    let whole : is_whole c.requires.known.group c.args.frame.now ≡ true =
    ap (λ (h : Group). is_whole h c.args.frame.now) (sym c.requires.known.knows.preorder.group)
    ∙ c.requires.whole in
    ap (λ (h : Group). is_whole h c.part-item.result) k.preorder.group
    ∙ part_whole c.requires.known.group c.args.frame.now c.part-item.result whole
    (subst (λ (xs : List (Signed Body)). IsIn c.part-item.result xs)
    (c.deref-part-items.ensures.value ∙ c.in_ok-parts.ensures)
    (at_place c.deref-part-items.result.now c.loop-part.part-index c.part-item.result
    c.loop-part-test.true c.part-item.is))

pub loop-part-preserved : goal.loop-part-preserved
loop-part-preserved c g me taken known past said k =
    let next : suc c.loop-part.part-index ≡ c.loop-part.part-index + 1 = omega arith in
    subst (λ (xs : List (Signed Body)). Knows g me c.learn.new.self taken xs past said)
    (append_assoc known (take c.loop-part.part-index c.deref-part-items.result.now) (c.part-item.result ∷ [])
    ∙ ap (λ (xs : List (Signed Body)). known ++ xs)
    (take_next c.deref-part-items.result.now c.loop-part.part-index c.part-item.result
    c.loop-part-test.true c.part-item.is)
    ∙ ap (λ n. known ++ take n c.deref-part-items.result.now) next)
    (c.in_ok-learn.ensures g me taken (known ++ take c.loop-part.part-index c.deref-part-items.result.now) past said
    (c.loop-part.invariant g me taken known past said k))

pub returns : goal.returns
returns c g me taken known past said k =
    subst (λ (xs : List (Signed Body)). Knows g me c.loop-part.self taken (known ++ xs) past said)
    (take_whole c.deref-part-items.result.now c.loop-part.part-index (omega arith) ∙ c.deref-part-items.ensures.value
    ∙ c.in_ok-parts.ensures)
    (c.loop-part.invariant g me taken known past said k)
