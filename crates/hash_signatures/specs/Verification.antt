-- HSS: what the bytes of a public key verify (RFC 8554, section 6).
use Rattle.std.specs.Prelude.{◌≡◌, ◌≤◌, ℕ, zero, suc, ◌-◌, List, ◌++◌}
use Rattle.wire_parts.specs.Fields.{u32_bytes}
use Rattle.tree_keys.specs.PublicKeys.{TreeVerifies}

-- the LMS public key verifies the signature of the message through n signed keys: each is an LMS
-- signature of the next LMS public key and that key behind it, and the last of these keys verifies
-- the LMS signature of the message (section 6.3)
abbrev pub LeadsThrough : ℕ → List ℕ → List ℕ → List ℕ → Type 0
LeadsThrough zero public message sig = TreeVerifies public message sig
LeadsThrough (suc n) public message sig =
    (signed : List ℕ) × (next : List ℕ) × (rest : List ℕ)
    × (sig ≡ signed ++ next ++ rest) × TreeVerifies public next signed × LeadsThrough n next message rest

-- the public key is u32str(L) || LMS public key, with L from 1 to 8 (section 6.1), and the signature
-- u32str(L - 1) || signed keys || LMS signature (section 6.2). That nothing may follow is this
-- project's own rule.
pub record Verifies (public message sig : List ℕ) : Type 0 where
  pub levels : ℕ
  pub key : List ℕ
  pub rest : List ℕ
  pub low : 1 ≤ levels
  pub high : levels ≤ 8
  pub public_bytes : public ≡ u32_bytes levels ++ key
  pub sig_bytes : sig ≡ u32_bytes (levels - 1) ++ rest
  pub leads : LeadsThrough (levels - 1) key message rest
