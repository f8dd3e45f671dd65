-- It is another master by the group's size and the master's own number, and its share is counted by what there is to be
-- had here.
use Rattle.std.proofs.Common.{sym, ◌∙◌, true≢false}
use Rattle.quorum_sets.proofs.Numbered.{masters_few}
use Rattle.protocol_rules.specs.Facts.{facts_of}
use Rattle.master_answers.proofs.Gifting.{others, other_few, share_of_other, share_of_none}
use Rattle.master_answers.proofs.gift_words.may_have.Goals as goal

pub has_room-requires-clause-asker : goal.has_room-requires-clause-asker
has_room-requires-clause-asker c = other_few c.args.knowledge.now.sizes.n c.args.me c.args.asker c.is_other.result
    c.is_other.ensures c.if-is_other.true (masters_few c.args.knowledge.now.sizes)

pub returns-then-is_other-clause-within : goal.returns-then-is_other-clause-within
returns-then-is_other-clause-within c g own taken known past said k mine shares =
    share_of_other g own known (facts_of g known) past.answered c.args.now c.args.asker c.is_other.result c.has_room.result
    (others g own c.args.knowledge.now.sizes.n c.args.me c.args.asker c.is_other.result c.is_other.ensures k.masters mine)
    c.if-is_other.true
    (c.has_room.ensures.share g known (facts_of g known) past.answered
    (c.things.ensures.all g own taken known past said k) shares)

pub returns-else-is_other-clause-within : goal.returns-else-is_other-clause-within
returns-else-is_other-clause-within c g own taken known past said k mine shares =
    share_of_none g own known (facts_of g known) past.answered c.args.now c.args.asker c.is_other.result
    (others g own c.args.knowledge.now.sizes.n c.args.me c.args.asker c.is_other.result c.is_other.ensures k.masters mine)
    c.if-is_other.false

pub returns-then-is_other-clause-room : goal.returns-then-is_other-clause-room
returns-then-is_other-clause-room c = λ room. record {
  master = other_few c.args.knowledge.now.sizes.n c.args.me c.args.asker c.is_other.result
      c.is_other.ensures c.if-is_other.true (masters_few c.args.knowledge.now.sizes);
  few = c.has_room.ensures.few room;
}

pub returns-else-is_other-clause-room : goal.returns-else-is_other-clause-room
returns-else-is_other-clause-room c = λ room. absurd (true≢false (sym room ∙ c.if-is_other.false))
