use Rattle.std.proofs.Common.{◌≡◌, ◌-◌}
use Rattle.std.specs.Prelude.{None}
use Rattle.message_forms.specs.Grammar.{items_at}
use Rattle.message_forms.proofs.Walking.{with_front}
use Rattle.message_forms.proofs.pieces.items.Given as goal

abbrev pub invariant-loop-place : goal.invariant-loop-place
invariant-loop-place g l =
    with_front l.read (items_at g.T.Listed.item g.T.Listed.key (l.count - l._place) l.before l.reader)
    ≡ items_at g.T.Listed.item g.T.Listed.key l.count None l.fn.reader
