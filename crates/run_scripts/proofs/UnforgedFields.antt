-- A number as a field keeps it: of one that is too great for its field the bytes are those of a number that isn't.
use Rattle.std.proofs.Common.{◌≡◌, ℕ, zero, suc, ◌<◌, ◌^◌, ◌/◌, ◌%◌, Fits, w8, Bool, ◌&&◌, List, [], ◌∷◌, ◌++◌}
use Rattle.std.proofs.Common.{get_or, map, length, refl, sym, ◌∙◌, ap, subst, arith}
use Rattle.std.specs.Prelude.{nat_le}
use Rattle.std.specs.List.{list_all, flat_map, AllByRecursion}
use Rattle.std.specs.Int.{byte_at, bytes_high_first}
use Rattle.std.proofs.Math.Nat.{mod-lt, one-le-pow}
use Rattle.std.proofs.lemmas.List.{append-nil, length-map}
use Rattle.plain_lists.specs.Lists.{here, there, Each}
use Rattle.byteorder.specs.Endian.{big_from, big_number}
use Rattle.byteorder.specs.Numbers.{big_from-bytes}
use Rattle.wire_parts.specs.Fields.{u16_bytes, u32_bytes, u64_bytes}
use Rattle.wire_parts.specs.FieldLaws.{length-u16_bytes, length-u32_bytes, length-u64_bytes, u16_bytes-big_number}
use Rattle.wire_parts.specs.FieldLaws.{u32_bytes-big_number, u64_bytes-big_number}
use Rattle.message_types.specs.Texts.{list_text, rows_text}
use Rattle.message_types.specs.Spelling.{row_fits, rows_fit}
use Rattle.message_forms.specs.Widths.{FitsRow, FitsRows}

byte_low : (k x : ℕ) → byte_at k x < 256
byte_low zero x = mod-lt x {m = 256} (omega arith)
byte_low (suc k) x = mod-lt (x / 256 ^ suc k) {m = 256} (omega arith)

bytes_low : (n x i : ℕ) → get_or (bytes_high_first n x) i 0 < 256
bytes_low zero x i = omega arith
bytes_low (suc n) x zero = byte_low n x
bytes_low (suc n) x (suc i) = bytes_low n x i

bytes_fit : (n x i : ℕ) → Fits w8 (get_or (bytes_high_first n x) i 0)
bytes_fit n x i = let low = bytes_low n x i in omega (arith, low)

number_low : (n x : ℕ) → big_number n (bytes_high_first n x) < 256 ^ n
number_low n x =
    let is : big_number n (bytes_high_first n x) ≡ x % 256 ^ n =
    ap (big_from 0 n) (sym (append-nil (bytes_high_first n x))) ∙ big_from-bytes n x [] in
    subst (λ (y : ℕ). y < 256 ^ n) (sym is) (mod-lt x {m = 256 ^ n} (one-le-pow n 256 (omega arith)))

-- what a field of 2, 4 or 8 bytes keeps of a number
pub low16 : ℕ → ℕ
low16 x = big_number 2 (u16_bytes x)

pub low32 : ℕ → ℕ
low32 x = big_number 4 (u32_bytes x)

pub low64 : ℕ → ℕ
low64 x = big_number 8 (u64_bytes x)

fit16 : (x i : ℕ) → Fits w8 (get_or (u16_bytes x) i 0)
unfolding u16_bytes
fit16 x i = bytes_fit 2 x i

fit32 : (x i : ℕ) → Fits w8 (get_or (u32_bytes x) i 0)
unfolding u32_bytes
fit32 x i = bytes_fit 4 x i

fit64 : (x i : ℕ) → Fits w8 (get_or (u64_bytes x) i 0)
unfolding u64_bytes
fit64 x i = bytes_fit 8 x i

pub same16 : (x : ℕ) → u16_bytes (low16 x) ≡ u16_bytes x
unfolding low16
same16 x = u16_bytes-big_number (u16_bytes x) (length-u16_bytes x) (fit16 x)

pub same32 : (x : ℕ) → u32_bytes (low32 x) ≡ u32_bytes x
unfolding low32
same32 x = u32_bytes-big_number (u32_bytes x) (length-u32_bytes x) (fit32 x)

pub same64 : (x : ℕ) → u64_bytes (low64 x) ≡ u64_bytes x
unfolding low64
same64 x = u64_bytes-big_number (u64_bytes x) (length-u64_bytes x) (fit64 x)

pub small16 : (x : ℕ) → low16 x < 2 ^ 16
unfolding low16 u16_bytes
small16 x = number_low 2 x

pub small32 : (x : ℕ) → low32 x < 2 ^ 32
unfolding low32 u32_bytes
small32 x = number_low 4 x

pub small64 : (x : ℕ) → low64 x < 2 ^ 64
unfolding low64 u64_bytes
small64 x = number_low 8 x

-- lists that are mapped to what has the same text, or passes the same test
flat_same : {X : Type 0} (item : X → List ℕ) (f : X → X) → ((x : X) → item (f x) ≡ item x) → (xs : List X) →
    flat_map item (map f xs) ≡ flat_map item xs
flat_same item f same [] = refl
flat_same item f same (x ∷ xs) = ap (λ (bs : List ℕ). bs ++ flat_map item (map f xs)) (same x)
    ∙ ap (λ (bs : List ℕ). item x ++ bs) (flat_same item f same xs)

pub list_same : {X : Type 0} (item : X → List ℕ) (f : X → X) → ((x : X) → item (f x) ≡ item x) → (xs : List X) →
    list_text item (map f xs) ≡ list_text item xs
list_same item f same xs =
    ap (λ (n : ℕ). u16_bytes n ++ flat_map item (map f xs)) (length-map xs f)
    ∙ ap (λ (bs : List ℕ). u16_bytes (length xs) ++ bs) (flat_same item f same xs)

pub all_same : {X : Type 0} (p : X → Bool) (f : X → X) → ((x : X) → p (f x) ≡ p x) → (xs : List X) →
    list_all p (map f xs) ≡ list_all p xs
all_same p f same [] = refl
all_same p f same (x ∷ xs) = ap (λ (b : Bool). b && list_all p (map f xs)) (same x)
    ∙ ap (λ (b : Bool). p x && b) (all_same p f same xs)

pub all_recursively : {X : Type 0} (P : X → Type 0) (xs : List X) → Each P xs → AllByRecursion P xs
all_recursively P [] each = tt
all_recursively P (x ∷ xs) each = (each x (here xs), all_recursively P xs (λ y h. each y (there x xs h)))

-- rows
abbrev pub low_row : List ℕ → List ℕ
low_row row = map low64 row

abbrev pub low_rows : List (List ℕ) → List (List ℕ)
low_rows rows = map low_row rows

pub row_same : (row : List ℕ) → list_text u64_bytes (low_row row) ≡ list_text u64_bytes row
row_same row = list_same u64_bytes low64 same64 row

pub rows_same : (rows : List (List ℕ)) → rows_text (low_rows rows) ≡ rows_text rows
rows_same rows = ap (λ (bs : List ℕ). u16_bytes 0x00f0 ++ bs) (list_same (list_text u64_bytes) low_row row_same rows)

pub row_fit_same : (row : List ℕ) → row_fits (low_row row) ≡ row_fits row
row_fit_same row = ap (λ (n : ℕ). nat_le n 14) (length-map row low64)

pub rows_fit_same : (rows : List (List ℕ)) → rows_fit (low_rows rows) ≡ rows_fit rows
rows_fit_same rows =
    ap (λ (n : ℕ). nat_le n 14 && list_all row_fits (low_rows rows)) (length-map rows low_row)
    ∙ ap (λ (b : Bool). nat_le (length rows) 14 && b) (all_same row_fits low_row row_fit_same rows)

pub row_wide : (row : List ℕ) → FitsRow (low_row row)
row_wide [] = tt
row_wide (x ∷ row) = (small64 x, row_wide row)

pub rows_wide : (rows : List (List ℕ)) → FitsRows (low_rows rows)
rows_wide [] = tt
rows_wide (row ∷ rows) = (row_wide row, rows_wide rows)
