-- The signatures of all bodies of an entry. Their texts are cut in order into groups, the last one shorter, and each
-- group is signed with the next leaf of the key (this project's own).
use Rattle.std.specs.Prelude.{ℕ, ◌+◌, ◌-◌, ◌*◌, ◌/◌, Bool, if◌then◌else◌, List, length, take, drop}
use Rattle.std.specs.List.{flat_map}
use Rattle.quorum_sets.specs.Masters.{numbers_below}
use Rattle.hash_signatures.specs.Signatures.{Key}
use Rattle.history_rules.specs.declared.limits.TheConstants.{MOST_SHARING}
use Rattle.checked_frames.specs.Signing.{group_signatures}

-- so many bodies make a whole group
abbrev pub group_size : Bool → ℕ
group_size shared = if shared then MOST_SHARING else 1

-- how many groups so many bodies make
abbrev pub groups_for : ℕ → ℕ → ℕ
groups_for most count = (count + (most - 1)) / most

-- the texts of a group
abbrev pub group_at : ℕ → List (List ℕ) → ℕ → List (List ℕ)
group_at most texts group = take most (drop (most * group) texts)

-- the signatures of the first groups, where `used` leaves were used before
unfoldable pub first_signatures : Key → ℕ → ℕ → List (List ℕ) → ℕ → List (List ℕ)
first_signatures key used most texts groups =
    flat_map (λ group. group_signatures key (used + group) (group_at most texts group)) (numbers_below groups)

-- the signatures of all texts
abbrev pub entry_signatures : Key → ℕ → ℕ → List (List ℕ) → List (List ℕ)
entry_signatures key used most texts = first_signatures key used most texts (groups_for most (length texts))
