-- Fields read one after the other, as the bytes that they were read from.
use Rattle.std.proofs.Common.{◌≡◌, ◌<◌, ◌≤◌, ◌+◌, ◌^◌, ℕ, List, [], ◌∷◌, ◌++◌, length, take, drop, sym, ap, ◌∙◌}
use Rattle.std.proofs.Common.{arith, length-append, append_assoc, refl}
use Rattle.std.proofs.lemmas.List.{take-append-drop, append-nil, nil_from_length, drop_at}
use Rattle.wire_parts.specs.View.{View, Takes}
use Rattle.wire_parts.specs.Fields.{u8_bytes, u16_bytes, u16_at}
use Rattle.wire_parts.specs.FieldLaws.{length-u16_bytes, u16_at-u16_bytes}
use Rattle.modbus_forms.specs.Requests.{pair_text, many_text}
use Rattle.modbus_forms.specs.Frame.{header_text}

-- a field that was read stands in front
pub first_is : (bytes : List ℕ) (a b : View) (x : ℕ) → a.rest ≡ bytes → x < 2 ^ 16 →
    Takes a b (u16_bytes x) → u16_at bytes ≡ x
first_is bytes a b x is fits takes = ap u16_at (sym is ∙ takes.bytes) ∙ u16_at-u16_bytes x b.rest fits

-- and what follows it is left
pub then_is : (a b : View) (x : ℕ) → Takes a b (u16_bytes x) → drop 2 a.rest ≡ b.rest
then_is a b x takes = ap (drop 2) takes.bytes ∙ drop_at (u16_bytes x) b.rest 2 (length-u16_bytes x)

pub left_is : (a b : View) (x : ℕ) → Takes a b (u16_bytes x) → length a.rest ≡ 2 + length b.rest
left_is a b x takes = ap length takes.bytes ∙ omega (arith, length-append (u16_bytes x) b.rest, length-u16_bytes x)

pub second_is : (bytes : List ℕ) (a b c : View) (x y : ℕ) → a.rest ≡ bytes → y < 2 ^ 16
    → Takes a b (u16_bytes x) → Takes b c (u16_bytes y) → u16_at (drop 2 bytes) ≡ y
second_is bytes a b c x y is fits one two =
    first_is (drop 2 bytes) b c y (sym (ap (drop 2) (sym is) ∙ then_is a b x one)) fits two

pub pair_is : (bytes : List ℕ) (a b c : View) (x y : ℕ) → a.rest ≡ bytes → length bytes ≡ 4
    → Takes a b (u16_bytes x) → Takes b c (u16_bytes y) → bytes ≡ pair_text x y
pair_is bytes a b c x y is four one two =
    let none : c.rest ≡ [] = nil_from_length c.rest
    (omega (arith, ap length is, left_is a b x one, left_is b c y two)) in
    sym is ∙ one.bytes ∙ ap (λ r. u16_bytes x ++ r) (two.bytes ∙ ap (λ r. u16_bytes y ++ r) none
    ∙ append-nil (u16_bytes y))

-- four bytes have room for two fields
pub none_short : (bytes : List ℕ) (a b : View) (x : ℕ) → a.rest ≡ bytes → length bytes ≡ 4
    → Takes a b (u16_bytes x) → length b.rest ≡ 2
none_short bytes a b x is four one = omega (arith, ap length is, left_is a b x one)

-- a header in front of the rest
pub header_is : (bytes rest : List ℕ) (a b c d e : View) (t p s u : ℕ) → a.rest ≡ take 7 bytes → rest ≡ drop 7 bytes
    → length (take 7 bytes) ≡ 7
    → Takes a b (u16_bytes t) → Takes b c (u16_bytes p) → Takes c d (u16_bytes s) → Takes d e (u8_bytes u)
    → bytes ≡ header_text t p s u ++ rest
header_is bytes rest a b c d e t p s u is back seven one two three four =
    let none : e.rest ≡ [] = nil_from_length e.rest
    (omega (
      arith,
      ap length is,
      left_is a b t one,
      left_is b c p two,
      left_is c d s three,
      ap length four.bytes,
      length-append (u8_bytes u) e.rest,
    )) in
    let last : d.rest ≡ u8_bytes u = four.bytes ∙ ap (λ r. u8_bytes u ++ r) none in
    let head : take 7 bytes ≡ header_text t p s u = sym is ∙ one.bytes
    ∙ ap (λ r. u16_bytes t ++ r)
    (two.bytes ∙ ap (λ r. u16_bytes p ++ r) (three.bytes ∙ ap (λ r. u16_bytes s ++ r) last)) in
    sym (take-append-drop 7 bytes) ∙ ap (λ h. h ++ drop 7 bytes) head ∙ ap (λ r. header_text t p s u ++ r) (sym back)

-- place and quantity, the number of bytes, and these
pub many_is : (rest front back : List ℕ) (p q n : ℕ) (bytes : List ℕ) → rest ≡ front ++ back → front ≡ pair_text p q
    → back ≡ n ∷ bytes → n ≡ length bytes → rest ≡ many_text p q bytes
many_is rest front back p q n bytes is one two count =
    is ∙ ap (λ f. f ++ back) one ∙ ap (λ b. pair_text p q ++ b) two
    ∙ append_assoc (u16_bytes p) (u16_bytes q) (n ∷ bytes) ∙ ap (λ m. u16_bytes p ++ (u16_bytes q ++ (m ∷ bytes))) count

pub many_place : (rest : List ℕ) (p q : ℕ) (bytes : List ℕ) → rest ≡ many_text p q bytes → p < 2 ^ 16 → u16_at rest ≡ p
many_place rest p q bytes is fits = ap u16_at is ∙ u16_at-u16_bytes p (u16_bytes q ++ (length bytes ∷ bytes)) fits

pub many_quantity : (rest : List ℕ) (p q : ℕ) (bytes : List ℕ) → rest ≡ many_text p q bytes →
    q < 2 ^ 16 → u16_at (drop 2 rest) ≡ q
many_quantity rest p q bytes is fits =
    ap (λ r. u16_at (drop 2 r)) is
    ∙ ap u16_at (drop_at (u16_bytes p) (u16_bytes q ++ (length bytes ∷ bytes)) 2 (length-u16_bytes p))
    ∙ u16_at-u16_bytes q (length bytes ∷ bytes) fits
