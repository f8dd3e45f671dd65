-- The frame at a place can go where the turn says, as the turn is well made: those that it goes to are there
-- and it has a spelling. So its letters are sent with its stamp and place.
use Rattle.std.proofs.Common.{◌≡◌, ◌<◌, ◌^◌, true, length, ap, ◌∙◌, arith}
use Rattle.std.specs.List.{list_all}
use Rattle.message_types.specs.declared.signed.Signed.{Signed}
use Rattle.message_types.specs.declared.body.Body.{Body}
use Rattle.message_types.specs.Spelling.{has_spelling}
use Rattle.scenario_file.specs.Reading.{contents}
use Rattle.replica_threads.proofs.Frames.{most_is, can_go, inboxes_there, frame_told}
use Rattle.replica_threads.proofs.posting.post_frame.Goals as goal

pub goes_to-requires-clause-can : goal.goes_to-requires-clause-can
goes_to-requires-clause-can g c =
    can_go (contents c.args.shared.now.scenario.now) c.args.turned.now c.args.place c.index-frame.result.now
    c.requires.well c.requires.there c.index-frame.ensures

pub overflow_cast-posted : goal.overflow_cast-posted
overflow_cast-posted g c = let low : c.args.place < 2 ^ 32 = omega (arith, c.requires.place, most_is) in omega arith

pub post-requires-clause-there : goal.post-requires-clause-there
post-requires-clause-there g c =
    inboxes_there (contents c.args.shared.now.scenario.now) (length c.args.shared.now.inboxes.now)
    c.in_ok-to.to c.as_slice.result.now c.requires.inboxes c.as_slice.ensures c.in_ok-to.ensures.there

pub post-requires-clause-spelled : goal.post-requires-clause-spelled
post-requires-clause-spelled g c =
    ap (λ (f : Signed Body). has_spelling f) c.in_ok-copy.ensures
    ∙ (can_go (contents c.args.shared.now.scenario.now) c.args.turned.now c.args.place c.index-frame.result.now
    c.requires.well c.requires.there c.index-frame.ensures).spelled

pub returns-clause-sent : goal.returns-clause-sent
returns-clause-sent g c =
    frame_told c.post.result (contents c.args.shared.now.scenario.now) c.args.actor c.args.turned.now c.args.place
    c.index-frame.result.now c.in_ok-copy.field-0 c.in_ok-to.to c.as_slice.result.now
    c.args.passes.now.items c.post.new.passes.items c.requires.there c.index-frame.ensures c.in_ok-copy.ensures
    c.as_slice.ensures c.in_ok-to.ensures.to c.post.ensures.sent
