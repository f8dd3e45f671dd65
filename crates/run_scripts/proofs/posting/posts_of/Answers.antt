-- The posts so far and those of the frames left are together all posts of the entry, each at the place that
-- counts those before it. All the frames left still stand.
use Rattle.std.proofs.Common.{◌≡◌, List, true, length, sym, ap, ◌∙◌, arith}
use Rattle.std.specs.List.{list_all}
use Rattle.std.specs.Vec.Iter.{into_iter_items}
use Rattle.message_types.specs.declared.signed.Signed.{Signed}
use Rattle.message_types.specs.declared.body.Body.{Body}
use Rattle.scenario_file.specs.Reading.{contents}
use Rattle.history_rules.specs.Setup.{stands}
use Rattle.world_rules.specs.Scenarios.{setup_of}
use Rattle.run_scripts.specs.Mail.{posts_from}
use Rattle.run_scripts.proofs.PostsMade.{posts_start, posts_more, posts_end, first_stands}
use Rattle.run_scripts.proofs.posting.posts_of.Goals as goal

pub loop-frame-init : goal.loop-frame-init
loop-frame-init c = (
  posts_start (setup_of (contents c.args.world.now.scenario.now)) c.args.from c.args.stamp c.in_ok-posts.posts.items
      (into_iter_items c.into_iter-frame-iterator.result) c.in_ok-posts.ensures.items,
  ap (list_all (stands (setup_of (contents c.args.world.now.scenario.now))))
      c.into_iter-frame-iterator.ensures.into_iter_gives.0 ∙ c.requires.stand,
  omega (
    arith,
    c.into_iter-frame-iterator.ensures.into_iter_gives.1,
    ap length c.into_iter-frame-iterator.ensures.into_iter_gives.0,
    c.args.frames.ok,
  ),
)

pub post_of-requires-clause-stands : goal.post_of-requires-clause-stands
post_of-requires-clause-stands c =
    (first_stands (setup_of (contents c.args.world.now.scenario.now)) c.in-Some.frame
    (into_iter_items c.loop-frame.frame-iterator) (into_iter_items c.next.new.self)
    c.in-Some.ensures.steps.0 c.loop-frame.invariant.1).0

pub loop-frame-preserved : goal.loop-frame-preserved
loop-frame-preserved c = (
  posts_more (setup_of (contents c.args.world.now.scenario.now)) c.args.from c.args.stamp c.len-place.result
      c.loop-frame.posts.items c.push.new.self.items _ c.in_ok-post_of.field-0 c.in-Some.frame
      (into_iter_items c.loop-frame.frame-iterator) (into_iter_items c.next.new.self) c.in-Some.ensures.steps.0
      (omega (arith, c.len-place.ensures, c.loop-frame.posts.ok)) c.in_ok-post_of.ensures
      c.in_ok-push.ensures.items c.loop-frame.invariant.0,
  (first_stands (setup_of (contents c.args.world.now.scenario.now)) c.in-Some.frame
      (into_iter_items c.loop-frame.frame-iterator) (into_iter_items c.next.new.self) c.in-Some.ensures.steps.0
      c.loop-frame.invariant.1).1,
  let was = c.loop-frame.invariant.2 in let gone = c.in-Some.ensures.steps.1 in let short =
      ap length c.in-Some.ensures.steps.0 in omega arith,
)

pub returns : goal.returns
returns c =
    posts_end (setup_of (contents c.args.world.now.scenario.now)) c.args.from c.args.stamp c.loop-frame.posts.items _
    (into_iter_items c.loop-frame.frame-iterator)
    (sym c.loop-frame.invariant.2 ∙ c.in-None.ensures.steps.0) c.loop-frame.invariant.0
    ∙ ap (posts_from (setup_of (contents c.args.world.now.scenario.now)) c.args.from c.args.stamp 0)
    c.into_iter-frame-iterator.ensures.into_iter_gives.0
