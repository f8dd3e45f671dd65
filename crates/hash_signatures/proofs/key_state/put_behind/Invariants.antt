use Rattle.std.proofs.Common.{◌≡◌, ◌++◌, map, take}
use Rattle.hash_signatures.proofs.key_state.put_behind.Given as goal

abbrev pub invariant-loop-head : goal.invariant-loop-head
invariant-loop-head l = l.fields.items ≡ map (λ head. head ++ l.sig) (take l.head-index l.heads)
