use Rattle.std.proofs.Common.{◌≡◌}
use Rattle.std.specs.Option.{option_map}
use Rattle.global_order.specs.Index.{given, vote_at, signed_by}
use Rattle.global_order.proofs.votes.votes_of.Given as goal

-- those of the masters so far are there
abbrev pub invariant-loop-master : goal.invariant-loop-master
invariant-loop-master b l =
    l.frames.items ≡ given (λ m. option_map (signed_by l.body m) (vote_at l.votes l.v l.s l.digest m)) l.master
