-- Bodies cut to the leaves left, and the leaves that entries use.
use Rattle.std.proofs.Common.{◌≡◌, ℕ, ◌-◌, ◌<◌, Bool, true, false, List, length, take, inl, inr, sym, ◌∙◌, ap, arith}
use Rattle.std.proofs.Common.{length-take-le, ◌+◌, [], ◌∷◌, ◌++◌}
use Rattle.std.proofs.lemmas.List.{take_all}
use Rattle.std.proofs.lemmas.Bool.{cases_lt}
use Rattle.history_rules.specs.Leaves.{leaves_for, room_of}
use Rattle.history_rules.specs.Events.{Entry}
use Rattle.history_rules.specs.Setup.{Setup, leaves_used}

all_used : (shared : Bool) (leaves : ℕ) → leaves_for shared (room_of shared leaves) ≡ leaves
all_used true leaves = omega arith
all_used false leaves = omega arith

-- where a leaf is left after the bodies, none of them was cut off
pub uncut : {X : Type 0} (shared : Bool) (leaves : ℕ) (xs : List X) →
    0 < leaves - leaves_for shared (length (take (room_of shared leaves) xs)) → xs ≡ take (room_of shared leaves) xs
uncut shared leaves xs some = elim (cases_lt (room_of shared leaves) (length xs)) [
  | inl more ↦
      let many : length (take (room_of shared leaves) xs) ≡ room_of shared leaves =
      length-take-le (room_of shared leaves) xs (omega arith) in
      let used : leaves_for shared (length (take (room_of shared leaves) xs)) ≡ leaves = ap (leaves_for shared) many
      ∙ all_used shared leaves in
      absurd (omega arith)
  | inr fits ↦ sym (take_all (room_of shared leaves) xs fits)
]

-- leaves that entries use add up
pub used_then : (w : Setup) (xs ys : List Entry) → leaves_used w (xs ++ ys) ≡ leaves_used w xs + leaves_used w ys
used_then w [] ys = omega arith
used_then w (e ∷ xs) ys =
    let deeper : leaves_used w (xs ++ ys) ≡ leaves_used w xs + leaves_used w ys = used_then w xs ys in
    omega arith
