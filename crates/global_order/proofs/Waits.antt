-- The quorums that wait for rows of a digest, taken out and put back.
use Rattle.std.proofs.Common.{◌≡◌, Bool, true, false, cond, List, ℕ, Some, None, refl, ◌∙◌, ap}
use Rattle.std.specs.Str.{bytes_eq}
use Rattle.std.specs.declared.alloc.Global.{Global}
use Rattle.std.specs.declared.vec.Vec.{Vec}
use Rattle.std.specs.Map.{lookup}
use Rattle.indexmap.specs.IndexMap.{get}
use Rattle.global_order.specs.declared.quorum.Quorum.{Quorum}
use Rattle.global_order.specs.Index.{KeepsWaiting, Waiting, waiting_in}
use Rattle.global_order.proofs.Booleans.{bytes-same}

pub kept-again : (digest : List ℕ) (old room mid new : Waiting) (quorums : Vec Quorum Global) →
    room.entries ≡ old.entries →
    ((d : List ℕ) → get bytes_eq mid d ≡ cond (bytes_eq digest d) None (get bytes_eq room d)) →
    ((d : List ℕ) → get bytes_eq new d ≡ cond (bytes_eq digest d) (Some quorums) (get bytes_eq mid d)) →
    quorums.items ≡ waiting_in (get bytes_eq room digest) → KeepsWaiting old new
kept-again digest old room mid new quorums same left put are d = ap waiting_in (put d) ∙ by (bytes_eq digest d) refl
    ∙ ap (λ es. waiting_in (lookup (bytes_eq d) es)) same
  where
    by : (b : Bool) → bytes_eq digest d ≡ b →
        waiting_in (cond b (Some quorums) (get bytes_eq mid d)) ≡ waiting_in (get bytes_eq room d)
    by true e = are ∙ ap (λ (x : List ℕ). waiting_in (get bytes_eq room x)) (bytes-same digest d e)
    by false e = ap waiting_in (left d ∙ ap (λ b. cond b None (get bytes_eq room d)) e)
