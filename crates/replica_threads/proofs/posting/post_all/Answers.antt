-- A turn has no more frames than the most there may be, so all of them are posted in order, and the letters so
-- far are at the end all letters of the turn.
use Rattle.std.proofs.Common.{◌≡◌, ◌<◌, ◌≤◌, ℕ, length, get_or, min, ap, sym, ◌∙◌, arith}
use Rattle.scenario_file.specs.Reading.{contents}
use Rattle.replica_threads.specs.Letters.{most_frames}
use Rattle.replica_threads.proofs.Frames.{most_is}
use Rattle.replica_threads.proofs.Sending.{no_frames, frames_more, all_frames}
use Rattle.replica_threads.proofs.posting.post_all.Goals as goal

pub loop-place-init : goal.loop-place-init
loop-place-init g c = (
  c.requires.passes,
  no_frames (contents c.args.shared.now.scenario.now)
      c.args.actor c.args.turned.now c.args.passes.now.items,
  omega arith,
  omega arith,
)

pub post_frame-requires-clause-place : goal.post_frame-requires-clause-place
post_frame-requires-clause-place g c = omega (arith, c.loop-place-test.true, c.min-count.ensures, most_is)

pub loop-place-preserved : goal.loop-place-preserved
loop-place-preserved g c =
    let within : c.loop-place.place < length c.args.turned.now.frames.items =
    omega (arith, c.loop-place-test.true, c.min-count.ensures, c.len.ensures, c.args.turned.now.frames.ok) in (
      c.in_ok-post_frame.ensures.passes,
      frames_more (contents c.args.shared.now.scenario.now) c.args.actor c.args.turned.now c.loop-place.place
          c.args.passes.now.items c.loop-place.passes.items c.post_frame.new.passes.items within
          c.loop-place.invariant.1 c.in_ok-post_frame.ensures.sent,
      omega arith,
      omega (arith, c.loop-place-test.true, c.min-count.ensures, most_is),
    )

pub returns-clause-passes : goal.returns-clause-passes
returns-clause-passes g c = c.loop-place.invariant.0

pub returns-clause-sent : goal.returns-clause-sent
returns-clause-sent g c =
    let all : c.loop-place.place ≡ c.min-count.result =
    omega (arith, c.loop-place-test.false, c.loop-place.auto.place-end) in
    let count : c.len.result ≡ length c.args.turned.now.frames.items =
    omega (arith, c.len.ensures, c.args.turned.now.frames.ok) in
    all_frames (contents c.args.shared.now.scenario.now) c.args.actor c.args.turned.now c.loop-place.place
    c.args.passes.now.items c.loop-place.passes.items
    (all ∙ c.min-count.ensures ∙ ap (λ (n : ℕ). min n 4294967296) count
    ∙ ap (λ (n : ℕ). min (length c.args.turned.now.frames.items) n) (sym most_is)) c.loop-place.invariant.1
