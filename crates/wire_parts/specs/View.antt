-- What a reader of fields has before it, and what one read does to it.
use Rattle.std.specs.Prelude.{◌≡◌, ◌<◌, ◌≤◌, ℕ, ◌+◌, List, ◌++◌, length}
use Rattle.wire_parts.specs.Fields.{u16_at}

-- the bytes that are left, and how many were read before them
pub record View : Type 0 where
  pub place : ℕ
  pub rest : List ℕ

-- the reader stood before these bytes and now stands behind them
pub record Takes (old new : View) (field : List ℕ) : Type 0 where
  pub bytes : old.rest ≡ field ++ new.rest
  pub place : new.place ≡ old.place + length field

-- a list's length stands there, and it is above `most`
abbrev pub IsAbove : List ℕ → ℕ → Type 0
IsAbove bytes most = (2 ≤ length bytes) × (most < u16_at bytes)
