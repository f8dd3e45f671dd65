-- What stands before the signature in the fields of a group.
use Rattle.std.specs.Prelude.{◌≡◌, ℕ, List, ◌++◌, length, map}
use Rattle.quorum_sets.specs.Masters.{numbers_below}
use Rattle.checked_frames.specs.Levels.{path_through}
use Rattle.checked_frames.specs.Signing.{group_head, signed_message, field_at}

-- in the field of a place, from a tree as it is kept
abbrev pub head_through : List (List (List ℕ)) → ℕ → ℕ → List ℕ
head_through levels count place = group_head place count (path_through levels place)

-- what is to be signed for bodies with these texts, and the heads that make their fields of whatever is signed
pub record IsUnsigned (texts : List (List ℕ)) (message : List ℕ) (heads : List (List ℕ)) : Type 0 where
  pub message_is : message ≡ signed_message texts
  pub fields : (signed : List ℕ) → map (λ (head : List ℕ). head ++ signed) heads
      ≡ map (field_at texts signed) (numbers_below (length texts))
