-- The code counts the nodes as the definition does: a new one only where the scope has no chain of `and` yet.
-- So where more than 64 are reached, both refuse.
use Rattle.std.proofs.Common.{◌≡◌, ◌<◌, ◌+◌, ◌∙◌, ap, arith, is_none}
use Rattle.interlocks.specs.Desk.{Desk}
use Rattle.interlocks.specs.Reading.{one_if}
use Rattle.interlocks.proofs.ReaderLaws.{after_and-full, none_is}
use Rattle.interlocks.proofs.reader.after_and.Goals as goal

pub returns-then-nodes-gt-MOST_NODES : goal.returns-then-nodes-gt-MOST_NODES
returns-then-nodes-gt-MOST_NODES c =
    let more : c.one_if.result ≡ one_if (is_none c.args.desk.scope.all) =
    c.one_if.ensures ∙ (ap one_if (none_is _ _ c.is_none.ensures)
    ∙ ap (λ (d : Desk). one_if (is_none d.scope.all)) c.desk.view_is) in
    let nodes : c.from.result ≡ c.args.desk.nodes = c.from.ensures ∙ ap (λ (d : Desk). d.nodes) c.desk.view_is in
    let full : 64 < c.args.desk.nodes + one_if (is_none c.args.desk.scope.all) = let over =
    c.if-nodes-gt-MOST_NODES.true in omega (arith, more, nodes) in
    after_and-full c.args.desk c.args.part full
