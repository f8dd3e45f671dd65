-- How the rows of a key, as a view with a number or a number alone, are chosen: those known rows of whose digest there
-- first was a quorum. What is held is this choice's digest, and the quorums whose rows aren't known yet.
use Rattle.std.specs.Prelude.{◌≡◌, ℕ, Bool, true, false, ◌&&◌, List, Option, Some, None, if◌then◌else◌}
use Rattle.std.specs.List.{list_any}
use Rattle.std.specs.Str.{bytes_eq}
use Rattle.message_types.specs.Digests.{digest_of_rows}
use Rattle.protocol_rules.specs.Plans.{digest_below}

abbrev pub has_digest : List ℕ → List (List ℕ) → Bool
has_digest digest rows = bytes_eq (digest_of_rows rows) digest

-- rows of this digest are among these
abbrev pub is_known : List (List (List ℕ)) → List ℕ → Bool
is_known rows digest = list_any (has_digest digest) rows

-- Of each key: `first` is the digest of its chosen rows, `held` what is held as that, `backs` says which digests have a
-- quorum, `waits` which of these wait for their rows, and `has_place` whether there is a place to hold the choice.
pub record IsChosen {K : Type 0} (rows : List (List (List ℕ))) (backs : K → List ℕ → Bool) (first held : K →
    Option (List ℕ)) (waits : K → List ℕ → Bool) (has_place : K → Bool) : Type 0 where
  pub choice : (k : K) → held k ≡ first k
  pub waiting : (k : K) (d : List ℕ) → is_known rows d ≡ false → waits k d ≡ backs k d
  pub places : (k : K) (d : List ℕ) → waits k d ≡ true → has_place k ≡ true
  pub closed : (k : K) (d : List ℕ) → first k ≡ None → (backs k d && is_known rows d) ≡ false

-- the least digest of those that pass
abbrev pub IsLeast : (List ℕ → Bool) → Option (List ℕ) → Type 0
IsLeast passes None = (d : List ℕ) → passes d ≡ false
IsLeast passes (Some least) = (passes least ≡ true) × ((d : List ℕ) → passes d ≡ true → digest_below d least ≡ false)

-- the lesser of two digests, where there are two
abbrev pub lesser : Option (List ℕ) → List ℕ → Option (List ℕ)
lesser None d = Some d
lesser (Some least) d = Some (if digest_below d least then d else least)
