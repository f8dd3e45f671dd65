-- No shorter beginning of the frames known certifies the request: so the first that does gives the update that
-- was certified first, and the last beginning is the whole list.
use Rattle.std.proofs.Common.{sym, ◌∙◌, arith}
use Rattle.protocol_rules.specs.Group.{group_of}
use Rattle.intruder_words.specs.Certifying.{first_acked}
use Rattle.intruder_words.proofs.Walks.{met-start, met-next, met-here, met-end}
use Rattle.intruder_words.proofs.Certified.{certified-is}
use Rattle.intruder_words.proofs.requests.certified_among.Goals as goal

pub loop-end-init : goal.loop-end-init
loop-end-init c = certified-is (group_of c.args.sizes.now 0) c.args.known.now c.args.j c.args.k
    ∙ sym (met-start (first_acked (group_of c.args.sizes.now 0) c.args.j c.args.k) c.args.known.now)

pub returns-in-Some : goal.returns-in-Some
returns-in-Some c = sym (c.loop-end.invariant ∙ met-here (first_acked (group_of c.args.sizes.now 0) c.args.j c.args.k)
    c.args.known.now c.loop-end.end _
    (sym c.in-Some.ensures))

pub loop-end-preserved : goal.loop-end-preserved
loop-end-preserved c = c.loop-end.invariant ∙ met-next (first_acked (group_of c.args.sizes.now 0) c.args.j c.args.k)
    c.args.known.now c.loop-end.end (omega arith)
    (sym c.in_default.ensures)

pub returns : goal.returns
returns c = c.first_acked-2.ensures
    ∙ sym (c.loop-end.invariant ∙ met-end (first_acked (group_of c.args.sizes.now 0) c.args.j c.args.k)
    c.args.known.now c.loop-end.end (omega arith))
