-- The texts kept are those given before and those of the parts gone over. All parts are spelled, so each is
-- when its turn comes.
use Rattle.std.proofs.Common.{◌++◌, take}
use Rattle.std.specs.List.{flat_map}
use Rattle.message_types.specs.declared.signed.Signed.{Signed}
use Rattle.message_types.specs.declared.body.Body.{Body}
use Rattle.message_types.specs.Spelling.{body_fits}
use Rattle.history_rules.specs.Audit.{texts_of}
use Rattle.history_audit.specs.Texts.{AreTexts}
use Rattle.history_audit.proofs.Loops.{flat_starts, flat_step, flat_whole}
use Rattle.plain_lists.proofs.Lists.{all_at}
use Rattle.history_audit.proofs.texts.note_parts.Goals as goal

pub loop-part-init : goal.loop-part-init
loop-part-init c = λ g n given are. flat_starts (λ ts. AreTexts ts c.args.kept.now)
    (λ (p : Signed Body). texts_of g p.body) given c.args.parts.now are

pub note_body-requires : goal.note_body-requires
note_body-requires c = all_at (λ (p : Signed Body). body_fits p.body) c.args.parts.now c.loop-part.part-index
    c.part-item.result c.requires c.loop-part-test.true c.part-item.is

pub loop-part-preserved : goal.loop-part-preserved
loop-part-preserved c = λ g n given are.
    flat_step (λ ts. AreTexts ts c.note_body.new.kept) (λ (p : Signed Body). texts_of g p.body) given c.args.parts.now
    c.loop-part.part-index c.part-item.result c.loop-part-test.true c.part-item.is
    (c.in_ok-note_body.ensures g n
    (given ++ flat_map (λ (p : Signed Body). texts_of g p.body) (take c.loop-part.part-index c.args.parts.now))
    (c.loop-part.invariant g n given are))

pub returns : goal.returns
returns c = λ g n given are. flat_whole (λ ts. AreTexts ts c.loop-part.kept) (λ (p : Signed Body). texts_of g p.body)
    given c.args.parts.now c.loop-part.part-index c.loop-part-test.false (c.loop-part.invariant g n given are)
