-- A key that is there can be written again without memory, and where none is there nothing changes.
use Rattle.preorder.proofs.Settling.{never-full, acked-nothing, acked-there}
use Rattle.preorder.proofs.firsts.note_acked.Goals as goal

pub unwrap-requires : goal.unwrap-requires
unwrap-requires c = never-full c.insert.result _ c.in-Some.first.now c.in-Some.ensures.value c.insert.ensures.absent

pub returns-in_default : goal.returns-in_default
returns-in_default c = acked-nothing c.args.firsts.now.entries c.args.j c.args.k c.in_default.ensures.value

pub returns : goal.returns
returns c =
    let put = rw c.unwrap.ensures at c.insert.ensures.updates in
    acked-there c.args.firsts.now.entries c.insert.new.self.entries c.args.j c.args.k c.in-Some.first.now
    c.in-Some.ensures.value put.0
