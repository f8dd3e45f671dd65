-- How many entries are left of lists.
use Rattle.std.proofs.Common.{◌≡◌, ℕ, zero, suc, ◌+◌, ◌<◌, List, [], ◌∷◌, length, get_or, set, refl, arith}
use Rattle.std.specs.Prelude.{replicate}
use Rattle.history_rules.specs.Events.{Entry}
use Rattle.joint_lists.specs.Joint.{kept_by, count}
use Rattle.joint_lists.specs.Joining.{left}

-- one entry less of an actor's
pub left_less : (kept : List (List Entry)) (next : List ℕ) (actor : ℕ) → actor < length next →
    get_or next actor 0 < length (kept_by kept actor) →
    left kept (set next actor (get_or next actor 0 + 1)) + 1 ≡ left kept next
left_less [] next actor there some = absurd (omega arith)
left_less (list ∷ rest) [] actor there some = absurd (omega arith)
left_less (list ∷ rest) (n ∷ next) zero there some = omega arith
left_less (list ∷ rest) (n ∷ next) (suc actor) there some =
    let fewer = left_less rest next actor (omega arith) some in
    omega (arith, fewer)

-- at first all are
pub left_first : (kept : List (List Entry)) → left kept (replicate (length kept) 0) ≡ count kept
left_first [] = refl
left_first (list ∷ rest) =
    let others = left_first rest in
    omega (arith, others)

pub none_next : (many actor : ℕ) → ◌≡◌ {A = ℕ} (get_or (replicate many 0) actor 0) 0
none_next zero actor = refl
none_next (suc many) zero = refl
none_next (suc many) (suc actor) = none_next many actor
