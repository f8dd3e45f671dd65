-- The word that numbers are drawn from: what it and the knowledge of all seats keep, and what each step changes. (This
-- project's own.)
use Rattle.std.specs.Prelude.{◌≡◌, ℕ, zero, suc, ◌+◌, ◌*◌, ◌^◌, ◌<◌, ◌≤◌, List, [], ◌∷◌, ◌++◌, length, sum_by, All}
use mathlib.Core.Option.{some}
use lib.ListN.{get_elem?}
use Rattle.atomic_table.specs.Table.{Me}
use Rattle.stamps.specs.declared.rule.Known.{Known}
use Rattle.stamps.specs.Seats.{times, once_below}

-- a seat knows how many seats were made, which seats are in it, and what they drew
abbrev pub known : ℕ → List ℕ → List ℕ → Known
known made numbers drawn = record { made = made; numbers = numbers; drawn = drawn }

-- the count of the seats made, where the first seat asks, and nothing where another does
abbrev pub made_at : ℕ → ℕ → ℕ
made_at count zero = count
made_at count (suc place) = 0

-- Each number below the word was drawn once, by one of the seats. Each number below the count of seats made is that of
-- one seat. A seat drew at most 2^32 numbers for each seat in it, so the word never wraps.
pub record IsKept (seats : ℕ) (words : List ℕ) (views : List Known) : Type 0 where
  pub word : ℕ
  pub count : ℕ
  pub word_is : words ≡ word ∷ []
  pub within : count ≤ seats
  pub draws : (x : ℕ) → sum_by (λ v. times x v.drawn) views ≡ once_below word x
  pub all_draws : sum_by (λ v. length v.drawn) views ≡ word
  pub numbers : (x : ℕ) → sum_by (λ v. times x v.numbers) views ≡ once_below count x
  pub all_numbers : sum_by (λ v. length v.numbers) views ≡ count
  pub made : (place : ℕ) (v : Known) → get_elem? views place ≡ some v → v.made ≡ made_at count place
  pub few : (place : ℕ) (v : Known) → get_elem? views place ≡ some v → length v.drawn ≤ 2 ^ 32 * length v.numbers

-- the number found joins the end of the seat's draws, and is above all that stand there
abbrev pub Drew : Me ℕ Known → ℕ → Me ℕ Known → Type 0
Drew before found after =
    (after ≡ (known before.0.made before.0.numbers (before.0.drawn ++ found ∷ []), before.1))
    × All (λ x. x < found) before.0.drawn

-- the first seat counts one seat more, whose number is the count before
abbrev pub one_more : Known → Known
one_more v = known (v.made + 1) v.numbers v.drawn

-- the new seat, with that number alone
abbrev pub newcomer : Known → Known
newcomer v = known 0 (v.made ∷ []) []

-- what was in the second seat is in the first one
abbrev pub together : Known → Known → Known
together v w = known v.made (v.numbers ++ w.numbers) (v.drawn ++ w.drawn)

-- a seat that was joined to another knows nothing any more
abbrev pub spent : Known
spent = known 0 [] []
