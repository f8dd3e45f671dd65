-- Joined parts of one text are the text: at each place its bytes are the only coefficients that give the parts' bytes.
use Rattle.std.proofs.Common.{◌≡◌, ◌∙◌, ◌<◌, ◌≤◌, ◌+◌, ◌*◌, ◌/◌, ◌%◌, ℕ, zero, suc, List, [], ◌∷◌, length, drop}
use Rattle.std.proofs.Common.{map, refl, sym}
use Rattle.std.proofs.Common.{ap, ap₂, arith, slice_index}
use Rattle.std.specs.List.{AllByRecursion, range_with_len}
use Rattle.std.proofs.lemmas.List.{get_or-drop}
use Rattle.std.proofs.lemmas.List.FromFn.{fill_by_all, get_or-map-range_with_len}
use Rattle.std.proofs.lemmas.Nat.{div-add-mod', div_below, mod_below}
use Rattle.parity_parts.specs.Field.{value}
use Rattle.parity_parts.specs.Interpolation.{interpolated}
use Rattle.parity_parts.specs.Parts.{OnlySolution, Solves}
use Rattle.parity_parts.specs.Parts.{AreBytes, AreDifferent, AreSmall, Fits, IsPartOf, column, first_length, joined}
use Rattle.parity_parts.specs.Parts.{joined_byte, masters, part_byte, part_bytes, symbols, width}
use Rattle.parity_parts.specs.declared.part.Part.{Part}
use Rattle.parity_parts.proofs.Columns.{column_at, column_length, width_some}
use Rattle.parity_parts.proofs.Polynomials.{interpolated_takes, only_interpolated}

pub small_masters : (n f size : ℕ) (parts : List Part) → n ≤ 16 → AllByRecursion (Fits n f size) parts → AreSmall
    (masters parts)
small_masters n f size [] h fit = tt
small_masters n f size (p ∷ ps) h fit = let below = fit.0.0 in (omega arith, small_masters n f size ps h fit.1)

pub small_parts : (n f size : ℕ) (parts : List Part) → n ≤ 16 → AllByRecursion (Fits n f size) parts
    → AllByRecursion (λ (part : Part). part.master < 16) parts
small_parts n f size [] h fit = tt
small_parts n f size (p ∷ ps) h fit = let below = fit.0.0 in (omega arith, small_parts n f size ps h fit.1)

masters_length : (parts : List Part) → length (masters parts) ≡ length parts
masters_length [] = refl
masters_length (p ∷ ps) = let rest = masters_length ps in omega arith

-- ---- Bytes of columns.

pub drop_bytes : (n : ℕ) (xs : List ℕ) → AreBytes xs → AreBytes (drop n xs)
drop_bytes zero xs h = h
drop_bytes (suc n) [] h = tt
drop_bytes (suc n) (x ∷ xs) h = drop_bytes n xs h.1

first_byte : (xs : List ℕ) → AreBytes xs → slice_index xs 0 < 256
first_byte [] h = omega arith
first_byte (x ∷ xs) h = h.0

pub column_bytes : (step count : ℕ) (text : List ℕ) → AreBytes text → AreBytes (column step count text)
column_bytes step zero text h = tt
column_bytes step (suc count) text h =
    (first_byte text h, column_bytes step count (drop step text) (drop_bytes step text h))

-- ---- The parts' bytes at a place are the values of the column there.

own_symbols : (f : ℕ) (whole : List ℕ) (place : ℕ) (parts : List Part) → place < width f (length whole)
    → AllByRecursion (IsPartOf f whole) parts
    → symbols parts place ≡ map (value (column (width f (length whole)) (f + 1) (drop place whole))) (masters parts)
unfolding part_bytes
own_symbols f whole place [] below own = refl
own_symbols f whole place (p ∷ ps) below own =
    let w : ℕ = width f (length whole) in
    let first : slice_index p.bytes place ≡ part_byte f w p.master whole place =
    ap (λ (bytes : List ℕ). slice_index bytes place) own.0.1
    ∙ get_or-map-range_with_len (part_byte f w p.master whole) 0 w place place 0 below (omega arith) in
    ap₂ (λ (a : ℕ) (as' : List ℕ). a ∷ as') first (own_symbols f whole place ps below own.1)

-- the pieces hold the text
width_holds : (f size : ℕ) → size ≤ (f + 1) * width f size
width_holds f size =
    let parts = div-add-mod' (size + f) (f + 1) in
    let rest = mod_below (size + f) (f + 1) (omega arith) in
    omega arith

own_byte : (f : ℕ) (parts : List Part) (whole : List ℕ) → length parts ≡ f + 1 → AreDifferent (masters parts)
    → AreSmall (masters parts) → AreBytes whole → AllByRecursion (IsPartOf f whole) parts → (place : ℕ) → place <
    length whole
    → slice_index whole place ≡ joined_byte (width f (length whole)) parts place
own_byte f parts whole count differ small bytes own place below =
    let w : ℕ = width f (length whole) in
    let some : 1 ≤ w = width_some f (length whole) (omega arith) in
    let inside : place % w < w = mod_below place w some in
    let pieces = width_holds f (length whole) in
    let piece : place / w < f + 1 = div_below place w (f + 1) some (omega arith) in
    let there : place % w + place / w * w ≡ place = let whole' = div-add-mod' place w in omega arith in
    let col : List ℕ = column w (f + 1) (drop (place % w) whole) in
    let many : length col ≡ length (masters parts) =
    column_length w (f + 1) (drop (place % w) whole) ∙ sym (masters_length parts ∙ count) in
    let found : col ≡ interpolated (masters parts) (map (value col) (masters parts)) =
    only_interpolated (masters parts) col many small differ
    (column_bytes w (f + 1) (drop (place % w) whole) (drop_bytes (place % w) whole bytes)) in
    ap (slice_index whole) (sym there)
    ∙ sym (get_or-drop (place % w) whole (place / w * w) 0)
    ∙ sym (column_at w (f + 1) (place / w) (drop (place % w) whole) piece)
    ∙ ap (λ (as' : List ℕ). slice_index as' (place / w)) found
    ∙ ap (λ (ys : List ℕ). slice_index (interpolated (masters parts) ys) (place / w))
    (sym (own_symbols f whole (place % w) parts inside own))

pub first_own : (f : ℕ) (parts : List Part) (whole : List ℕ) → length parts ≡ f + 1 → AllByRecursion (IsPartOf f whole)
    parts
    → first_length parts ≡ length whole
first_own f [] whole count own = absurd (omega arith)
first_own f (p ∷ ps) whole count own = own.0.0

pub own_joined : (f : ℕ) (parts : List Part) (whole : List ℕ) → length parts ≡ f + 1 → AreDifferent (masters parts)
    → AreSmall (masters parts) → AreBytes whole → AllByRecursion (IsPartOf f whole) parts → joined f parts ≡ whole
unfolding joined
own_joined f parts whole count differ small bytes own =
    ap (λ size. map (joined_byte (width f size) parts) (range_with_len 0 size)) (first_own f parts whole count own)
    ∙ sym (fill_by_all (joined_byte (width f (length whole)) parts) whole (length whole) 0 refl
    (own_byte f parts whole count differ small bytes own))

-- a part of two bytes, of a text of four, where one master may be intruded
pub two_bytes_fit : (n f size : ℕ) (p : Part) (bytes : List ℕ) → f ≡ 1 → size ≡ 4 → p.master < n → p.length ≡ 4 →
    p.bytes ≡ bytes
    → length bytes ≡ 2 → Fits n f size p
two_bytes_fit n f size p bytes one four below long is two =
    (below, long ∙ sym four, ap length is ∙ two ∙ sym (ap₂ width one four))

-- ---- The coefficients at a place are the one solution.

symbols_length : (parts : List Part) (place : ℕ) → length (symbols parts place) ≡ length parts
symbols_length [] place = refl
symbols_length (p ∷ ps) place = let rest = symbols_length ps place in omega arith

pub solves : (parts : List Part) → AreSmall (masters parts) → AreDifferent (masters parts) →
    (place : ℕ) → Solves parts place
solves parts small differ place bytes =
    interpolated_takes (masters parts) (symbols parts place)
    (masters_length parts ∙ sym (symbols_length parts place)) small
    differ bytes

pub only_solution : (parts : List Part) → AreSmall (masters parts) → AreDifferent (masters parts) → (place : ℕ)
    → OnlySolution parts place
only_solution parts small differ place others many bytes is =
    only_interpolated (masters parts) others (many ∙ sym (masters_length parts)) small differ bytes
    ∙ ap (interpolated (masters parts)) is
