-- Columns of a text: their values, their lengths, and where their bytes stand.
use Rattle.std.proofs.Common.{◌≡◌, ◌≢◌, ◌∙◌, ◌<◌, ◌≤◌, ◌+◌, ◌-◌, ◌*◌, ℕ, zero, suc, List, [], ◌∷◌, length, drop}
use Rattle.std.proofs.Common.{map, ◌++◌, ◌/◌, refl, sym, ap, ap₂}
use Rattle.std.proofs.Common.{arith, bit_xor, slice_index}
use Rattle.std.specs.List.{range_with_len}
use Rattle.std.proofs.lemmas.List.FromFn.{map-range_with_len_more}
use Rattle.std.proofs.lemmas.Nat.{le-div}
use Rattle.std.proofs.lemmas.List.{get_or-drop}
use Rattle.parity_parts.specs.Field.{product, value}
use Rattle.parity_parts.specs.Parts.{column}

pub column_value : (step count x : ℕ) (text rest : List ℕ) (first higher whole : ℕ) → count ≢ 0 → first ≡
    slice_index text 0
    → rest ≡ drop step text → higher ≡ value (column step (count - 1) rest) x → whole ≡ product x higher
    → bit_xor first whole ≡ value (column step count text) x
column_value step zero x text rest first higher whole some f r h w = absurd (some refl)
column_value step (suc count) x text rest first higher whole some f r h w =
    let one_less : suc count - 1 ≡ count = omega arith in
    ap₂ bit_xor f (w ∙ ap (product x) (h ∙ ap₂ (λ (n : ℕ) (t : List ℕ). value (column step n t) x) one_less r))

pub column_length : (step count : ℕ) (text : List ℕ) → length (column step count text) ≡ count
column_length step zero text = refl
column_length step (suc count) text =
    let rest : length (column step count (drop step text)) ≡ count = column_length step count (drop step text) in
    omega arith

pub one_more : (f : ℕ → ℕ) (n : ℕ) → map f (range_with_len 0 (n + 1)) ≡ map f (range_with_len 0 n) ++ f n ∷ []
one_more f n = map-range_with_len_more f 0 n n (omega arith)

pub width_some : (f size : ℕ) → 1 ≤ size → 1 ≤ (size + f) / (f + 1)
width_some f size some = le-div 1 (size + f) (f + 1) (omega arith) (omega arith)

-- where the bytes of a column stand
pub column_at : (step count c : ℕ) (text : List ℕ) → c < count → slice_index (column step count text) c ≡
    slice_index text (c * step)
column_at step zero c text below = absurd (omega arith)
column_at step (suc count) zero text below =
    let start : 0 * step ≡ 0 = omega arith in
    sym (ap (slice_index text) start)
column_at step (suc count) (suc c) text below =
    let place : suc c * step ≡ step + c * step = omega arith in
    column_at step count c (drop step text) (omega arith) ∙ get_or-drop step text (c * step) 0 ∙ sym (ap
    (slice_index text) place)
