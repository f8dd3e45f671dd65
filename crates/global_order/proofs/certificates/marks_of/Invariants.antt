use Rattle.std.proofs.Common.{◌≡◌}
use Rattle.std.specs.Option.{option_map}
use Rattle.global_order.specs.Index.{given, mark_at, mark_of}
use Rattle.global_order.proofs.certificates.marks_of.Given as goal

-- those of the masters so far are there
abbrev pub invariant-loop-master : goal.invariant-loop-master
invariant-loop-master l = l.frames.items ≡ given (λ m. option_map (mark_of l.s m) (mark_at l.marks l.s m)) l.master
