-- A text of four parts, and what its cuts are.
use Rattle.std.proofs.Common.{◌≡◌, ◌<◌, ◌^◌, ℕ, List, [], ◌++◌, length, take, drop, sym, ap, ◌∙◌, append_assoc}
use Rattle.std.proofs.lemmas.List.{drop_at, take_at, take-append-drop}
use Rattle.wire_parts.specs.Fields.{u32_bytes}
use Rattle.wire_parts.specs.FieldLaws.{u32_bytes-inj}

-- the cuts of a text at n, m and k bytes are these parts
pub record AreCuts (n m k : ℕ) (text a b c d : List ℕ) : Type 0 where
  pub first : take n text ≡ a
  pub second : take m (drop n text) ≡ b
  pub third : take k (drop m (drop n text)) ≡ c
  pub fourth : drop k (drop m (drop n text)) ≡ d

pub cuts_of_parts : (n m k : ℕ) (text a b c d : List ℕ) → length a ≡ n → length b ≡ m → length c ≡ k
    → text ≡ a ++ b ++ c ++ d → AreCuts n m k text a b c d
cuts_of_parts n m k text a b c d la lb lc e =
    let right = e ∙ append_assoc (a ++ b) c d ∙ append_assoc a b (c ++ d) in
    let one = ap (drop n) right ∙ drop_at a (b ++ (c ++ d)) n la in
    let two = ap (drop m) one ∙ drop_at b (c ++ d) m lb in
    record {
      first = ap (take n) right ∙ take_at a (b ++ (c ++ d)) n la;
      second = ap (take m) one ∙ take_at b (c ++ d) m lb;
      third = ap (take k) two ∙ take_at c d k lc;
      fourth = ap (drop k) two ∙ drop_at c d k lc;
    }

-- a text is its cuts
pub parts_of_cuts : (n m k : ℕ) (text a b c d : List ℕ) → AreCuts n m k text a b c d → text ≡ a ++ b ++ c ++ d
parts_of_cuts n m k text a b c d cuts =
    let one = sym (take-append-drop n text) in
    let two = sym (take-append-drop m (drop n text)) in
    let three = sym (take-append-drop k (drop m (drop n text))) in
    one ∙ ap (λ x. x ++ drop n text) cuts.first
    ∙ ap (λ x. a ++ x) (two ∙ ap (λ x. x ++ drop m (drop n text)) cuts.second
    ∙ ap (λ x. b ++ x) (three ∙ ap (λ x. x ++ drop k (drop m (drop n text))) cuts.third ∙ ap (λ x. c ++ x) cuts.fourth))
    ∙ sym (append_assoc (a ++ b) c d ∙ append_assoc a b (c ++ d))

-- two fields of equal bytes hold one number
pub u32_bytes-same : (x y : ℕ) → x < 2 ^ 32 → y < 2 ^ 32 → u32_bytes x ≡ u32_bytes y → x ≡ y
u32_bytes-same x y hx hy e = (u32_bytes-inj x y [] [] hx hy (ap (λ z. z ++ []) e)).0
