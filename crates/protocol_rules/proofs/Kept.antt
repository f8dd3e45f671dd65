-- Updates that are kept, in two parts.
use Rattle.std.proofs.Common.{◌≡◌, ◌+◌, Bool, true, false, cond, List, [], ◌∷◌, ◌++◌, nat_eq, refl}
use Rattle.message_types.specs.declared.updates.Update.{Update}
use Rattle.protocol_rules.specs.Execution.{kept_after, updates_of}

-- keeping updates in two parts
pub kept_after-append : (kept xs ys : List Update) → kept_after kept (xs ++ ys) ≡ kept_after (kept_after kept xs) ys
unfolding kept_after
kept_after-append kept [] ys = refl
kept_after-append kept (u ∷ xs) ys = by_turn (nat_eq u.t (updates_of u.client kept + 1))
    (kept_after-append (kept ++ u ∷ []) xs ys) (kept_after-append kept xs ys)
  where
    by_turn : (b : Bool) → kept_after (kept ++ u ∷ []) (xs ++ ys) ≡ kept_after (kept_after (kept ++ u ∷ []) xs) ys →
        kept_after kept (xs ++ ys) ≡ kept_after (kept_after kept xs) ys
        → cond b (kept_after (kept ++ u ∷ []) (xs ++ ys)) (kept_after kept (xs ++ ys)) ≡ kept_after
        (cond b (kept_after (kept ++ u ∷ []) xs) (kept_after kept xs)) ys
    by_turn true taken passed = taken
    by_turn false taken passed = passed
