-- Keys that a test finds the same are equal.
use Rattle.std.proofs.Common.{◌≡◌, ℕ, true, ◌&&◌, nat_eq}
use Rattle.std.specs.Str.{bytes_eq}
use Rattle.std.proofs.lemmas.Bool.{and_parts, eqb-true}
use Rattle.std.proofs.lemmas.Slice.Eq.{bytes_eq-Decides}
use Rattle.protocol_rules.specs.Keys.{same_pair, Vote, same_vote, Key, same_key}

pub same_pair-same : (x y : ℕ × ℕ) → same_pair x y ≡ true → x ≡ y
same_pair-same x y e =
    let parts = and_parts (nat_eq x.0 y.0) (nat_eq x.1 y.1) e in
    let first = eqb-true x.0 y.0 parts.0 in
    let second = eqb-true x.1 y.1 parts.1 in
    λ i. (first i, second i)

pub same_vote-same : (x y : Vote) → same_vote x y ≡ true → x ≡ y
same_vote-same x y e =
    let outer = and_parts ((nat_eq x.0 y.0 && nat_eq x.1 y.1) && bytes_eq x.2 y.2) (nat_eq x.3 y.3) e in
    let inner = and_parts (nat_eq x.0 y.0 && nat_eq x.1 y.1) (bytes_eq x.2 y.2) outer.0 in
    let pair = and_parts (nat_eq x.0 y.0) (nat_eq x.1 y.1) inner.0 in
    let first = eqb-true x.0 y.0 pair.0 in
    let second = eqb-true x.1 y.1 pair.1 in
    let third = (bytes_eq-Decides x.2 y.2).0 inner.1 in
    let fourth = eqb-true x.3 y.3 outer.1 in
    λ i. (first i, second i, third i, fourth i)

pub same_key-same : (x y : Key) → same_key x y ≡ true → x ≡ y
same_key-same x y e =
    let last = and_parts ((nat_eq x.0 y.0 && nat_eq x.1 y.1) && nat_eq x.2 y.2) (nat_eq x.3 y.3) e in
    let third = and_parts (nat_eq x.0 y.0 && nat_eq x.1 y.1) (nat_eq x.2 y.2) last.0 in
    let pair = and_parts (nat_eq x.0 y.0) (nat_eq x.1 y.1) third.0 in
    let a = eqb-true x.0 y.0 pair.0 in
    let b = eqb-true x.1 y.1 pair.1 in
    let c = eqb-true x.2 y.2 third.1 in
    let d = eqb-true x.3 y.3 last.1 in
    λ i. (a i, b i, c i, d i)
