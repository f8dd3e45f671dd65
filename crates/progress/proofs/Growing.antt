-- Patience grows as the views go round.
use Rattle.std.proofs.Common.{◌≡◌, ℕ, ◌+◌, ◌-◌, ◌*◌, ◌/◌, ◌%◌, ◌^◌, ◌<◌, ◌≤◌, ◌⊎◌, min, inl, inr, arith}
use Rattle.std.proofs.lemmas.Bool.{cases_lt}
use Rattle.std.proofs.lemmas.Nat.{mul-le}
use Rattle.std.proofs.Math.Nat.{pow-le-pow_right}
use Rattle.protocol_rules.specs.declared.limits.TheConstants.{FIRST_PATIENCE, FORGIVEN_STEP, MOST_DOUBLINGS}
use Rattle.progress.specs.Keeping.{PatienceGrows}

-- so many times n within x
times_within : (n d x : ℕ) → 1 ≤ n → n * d ≤ x → d ≤ x / n
times_within n d x one low = cases (cases_lt (x / n) d)
  where
    cases : (x / n < d) ⊎ (d ≤ x / n) → d ≤ x / n
    cases (inr high) = high
    cases (inl less) =
        let more : n * (x / n + 1) ≤ n * d = mul-le n (x / n + 1) n d (omega arith) (omega (arith, less)) in
        let parts : n * (x / n) + x % n ≡ x = omega (arith, one) in
        let rest : x % n < n = omega (arith, one) in
        let sum : n * (x / n + 1) ≡ n * (x / n) + n = next n (x / n) in
        absurd (omega (arith, more, parts, rest, sum, low))
      where
        next : (a b : ℕ) → a * (b + 1) ≡ a * b + a
        next a b = omega arith

pub patience_grows : PatienceGrows
patience_grows g v now doublings some few far =
    let times : doublings ≤ (v - now / FORGIVEN_STEP) / g.n = times_within g.n doublings (v - now / FORGIVEN_STEP) some
    (omega (arith, far)) in
    let least : doublings ≤ min ((v - now / FORGIVEN_STEP) / g.n) MOST_DOUBLINGS = omega (arith, times, few) in
    mul-le FIRST_PATIENCE (2 ^ doublings) FIRST_PATIENCE (2 ^ min ((v - now / FORGIVEN_STEP) / g.n) MOST_DOUBLINGS) (omega arith)
    (pow-le-pow_right (omega arith) least)
