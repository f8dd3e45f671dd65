-- A digest's line and the parts' lines are the whole text. As masters rise from part to part they are
-- different, and each part read is one that can be.
use Rattle.std.proofs.Common.{◌≤◌, rules}
use Rattle.part_lines.proofs.Cutting.{told_whole}
use Rattle.part_lines.proofs.Steps.{told_differ, told_can}
use Rattle.part_lines.proofs.told.read_told.Goals as goal

pub returns-in_ok-parts-in-Ok-clause-told : goal.returns-in_ok-parts-in-Ok-clause-told
returns-in_ok-parts-in-Ok-clause-told c =
    told_whole c.args.sizes.now.n c.args.sizes.now.f c.args.text.now c.in-Some.line.now c.in-Some.rest.now
    c.in-Ok.digest c.in_ok-parts-in-Ok.parts
    c.in-Some.ensures.pieces c.in-Ok.ensures c.in_ok-parts-in-Ok.ensures

pub returns-in_ok-parts-in-Ok-clause-different : goal.returns-in_ok-parts-in-Ok-clause-different
returns-in_ok-parts-in-Ok-clause-different c =
    told_differ c.args.sizes.now.n c.args.sizes.now.f c.args.text.now
    (record { digest = c.in-Ok.digest; parts = c.in_ok-parts-in-Ok.parts })
    (told_whole c.args.sizes.now.n c.args.sizes.now.f c.args.text.now c.in-Some.line.now c.in-Some.rest.now
    c.in-Ok.digest c.in_ok-parts-in-Ok.parts
    c.in-Some.ensures.pieces c.in-Ok.ensures c.in_ok-parts-in-Ok.ensures)

pub returns-in_ok-parts-in-Ok-clause-parts : goal.returns-in_ok-parts-in-Ok-clause-parts
returns-in_ok-parts-in-Ok-clause-parts c =
    let some : 1 ≤ c.args.sizes.now.n = search rules in
    told_can c.args.sizes.now.n c.args.sizes.now.f c.args.text.now
    (record { digest = c.in-Ok.digest; parts = c.in_ok-parts-in-Ok.parts }) some
    (told_whole c.args.sizes.now.n c.args.sizes.now.f c.args.text.now c.in-Some.line.now c.in-Some.rest.now
    c.in-Ok.digest c.in_ok-parts-in-Ok.parts
    c.in-Some.ensures.pieces c.in-Ok.ensures c.in_ok-parts-in-Ok.ensures)
