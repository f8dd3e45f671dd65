-- The texts kept are those given before and those of the bodies gone over. All bodies are spelled, so each is
-- when its turn comes.
use Rattle.std.proofs.Common.{◌++◌, take}
use Rattle.std.specs.List.{flat_map}
use Rattle.message_types.specs.Spelling.{body_fits}
use Rattle.history_rules.specs.Audit.{texts_of}
use Rattle.history_audit.specs.Texts.{AreTexts}
use Rattle.history_audit.proofs.Loops.{flat_starts, flat_step, flat_whole}
use Rattle.plain_lists.proofs.Lists.{all_at}
use Rattle.history_audit.proofs.texts.note_bodies.Goals as goal

pub loop-body-init : goal.loop-body-init
loop-body-init c = λ g n given are. flat_starts (λ ts. AreTexts ts c.args.kept.now) (texts_of g)
    given c.args.bodies.now are

pub note_body-requires : goal.note_body-requires
note_body-requires c = all_at body_fits c.args.bodies.now c.loop-body.body-index c.body-item.result c.requires
    c.loop-body-test.true c.body-item.is

pub loop-body-preserved : goal.loop-body-preserved
loop-body-preserved c = λ g n given are.
    flat_step (λ ts. AreTexts ts c.note_body.new.kept) (texts_of g) given c.args.bodies.now c.loop-body.body-index
    c.body-item.result c.loop-body-test.true c.body-item.is
    (c.in_ok-note_body.ensures g n (given ++ flat_map (texts_of g) (take c.loop-body.body-index c.args.bodies.now))
    (c.loop-body.invariant g n given are))

pub returns : goal.returns
returns c = λ g n given are. flat_whole (λ ts. AreTexts ts c.loop-body.kept) (texts_of g) given c.args.bodies.now
    c.loop-body.body-index c.loop-body-test.false (c.loop-body.invariant g n given are)
