-- What a master holds of the summaries and the vouchers that it said.
use Rattle.std.specs.Prelude.{◌≡◌, ℕ, ◌<◌, ◌&&◌, List, map, nat_le, slice_index}
use Rattle.std.specs.List.{list_any, filter_map}
use Rattle.message_types.specs.declared.signed.Signed.{Signed}
use Rattle.message_types.specs.declared.body.Body.{Body}
use Rattle.quorum_sets.specs.Masters.{numbers_below}
use Rattle.protocol_rules.specs.Parts as part
use Rattle.quorum_sets.specs.declared.limits.TheConstants.{MOST_CLIENTS}
use Rattle.protocol_rules.specs.Group.{Group}
use Rattle.protocol_rules.specs.Preorder.{vector}
use Rattle.protocol_rules.specs.Master.{summary_in, last_or, vouchers_said}

-- the number of masters, and the vector summed up last
pub record SummedUp : Type 0 where
  pub masters : ℕ
  pub numbers : List ℕ

-- the summary of a master of this group that said these words: the last vector said, zeros before the first
pub record IsSummaryOf (g : Group) (kept : SummedUp) (said : List Body) : Type 0 where
  pub masters : g.n ≡ kept.masters
  pub last : kept.numbers ≡ last_or (map (λ j. 0) (numbers_below g.n)) (filter_map summary_in said)

-- It says bodies: whatever was said, it is the summary where these are said too.
abbrev pub Says : SummedUp → SummedUp → List Body → Type 0
Says old new bodies = (g : Group) → part.Grows (IsSummaryOf g old) (IsSummaryOf g new) bodies

-- the numbers tell how far the requests of each master are certified without a gap
abbrev pub TellsVector : Group → List (Signed Body) → List ℕ → Type 0
TellsVector g known numbers = (j : ℕ) → j < g.n → slice_index numbers j ≡ vector g known j

-- the vouchers said for each client are those of its first orders, as many as counted
abbrev pub AreVouchersOf : List ℕ → List Body → Type 0
AreVouchersOf counts said = (c x : ℕ) → c < MOST_CLIENTS →
    list_any (vouchers_said c x) said ≡ (nat_le 1 x && nat_le x (slice_index counts c))
