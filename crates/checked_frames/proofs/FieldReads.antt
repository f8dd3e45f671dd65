-- The second version of a signature is read back from its bytes.
use Rattle.std.proofs.Common.{◌≡◌, ◌≤◌, ◌<◌, ◌+◌, ◌*◌, ◌/◌, ◌^◌, ℕ, List, ◌++◌, length, take, drop, sym, ap}
use Rattle.std.proofs.Common.{◌∙◌, arith, length-append, append_assoc}
use Rattle.std.proofs.lemmas.List.{take_at, drop_at}
use Rattle.byteorder.specs.Endian.{big_number}
use Rattle.byteorder.specs.Numbers.{big_number-reads_back}
use Rattle.wire_parts.specs.Fields.{u16_bytes, u32_bytes}
use Rattle.wire_parts.specs.FieldLaws.{length-u16_bytes, length-u32_bytes}
use Rattle.checked_frames.specs.Signing.{group_head, group_field, hashes_in}

pub u16_front : (x : ℕ) (rest : List ℕ) → x < 2 ^ 16 → big_number 2 (u16_bytes x ++ rest) ≡ x
unfolding u16_bytes
u16_front x rest fits = big_number-reads_back 2 x rest fits

u32_front : (x : ℕ) (rest : List ℕ) → x < 2 ^ 32 → big_number 4 (u32_bytes x ++ rest) ≡ x
unfolding u32_bytes
u32_front x rest fits = big_number-reads_back 4 x rest fits

-- what stands behind each field
record Behind (place count hashes : ℕ) (path signed sig : List ℕ) : Type 0 where
  mark : sig ≡ u32_bytes 256 ++ drop 4 sig
  place_at : drop 4 sig ≡ u16_bytes place ++ drop 6 sig
  count_at : drop 6 sig ≡ u16_bytes count ++ drop 8 sig
  hashes_at : drop 8 sig ≡ u16_bytes hashes ++ drop 10 sig
  path_at : drop 10 sig ≡ path ++ signed

behind : (place count hashes : ℕ) (path signed sig : List ℕ)
    → sig ≡ u32_bytes 256 ++ u16_bytes place ++ u16_bytes count ++ u16_bytes hashes ++ path ++ signed
    → Behind place count hashes path signed sig
behind place count hashes path signed sig e =
    let a = u32_bytes 256 in
    let b = u16_bytes place in
    let c = u16_bytes count in
    let d = u16_bytes hashes in
    let la = length-u32_bytes 256 in
    let lb = length-u16_bytes place in
    let lc = length-u16_bytes count in
    let ld = length-u16_bytes hashes in
    let lab : length (a ++ b) ≡ 6 = omega (arith, length-append a b) in
    let labc : length (a ++ b ++ c) ≡ 8 = omega (arith, length-append (a ++ b) c) in
    let labcd : length (a ++ b ++ c ++ d) ≡ 10 = omega (arith, length-append (a ++ b ++ c) d) in
    let four : sig ≡ (a ++ b ++ c ++ d) ++ (path ++ signed) = e ∙ append_assoc (a ++ b ++ c ++ d) path signed in
    let three : sig ≡ (a ++ b ++ c) ++ (d ++ (path ++ signed)) = four ∙ append_assoc (a ++ b ++ c) d (path ++ signed) in
    let two : sig ≡ (a ++ b) ++ (c ++ (d ++ (path ++ signed))) =
    three ∙ append_assoc (a ++ b) c (d ++ (path ++ signed)) in
    let one : sig ≡ a ++ (b ++ (c ++ (d ++ (path ++ signed)))) =
    two ∙ append_assoc a b (c ++ (d ++ (path ++ signed))) in
    let at_four = ap (drop 4) one ∙ drop_at a (b ++ (c ++ (d ++ (path ++ signed)))) 4 la in
    let at_six = ap (drop 6) two ∙ drop_at (a ++ b) (c ++ (d ++ (path ++ signed))) 6 lab in
    let at_eight = ap (drop 8) three ∙ drop_at (a ++ b ++ c) (d ++ (path ++ signed)) 8 labc in
    let at_ten = ap (drop 10) four ∙ drop_at (a ++ b ++ c ++ d) (path ++ signed) 10 labcd in
    record {
      mark = one ∙ ap (λ x. a ++ x) (sym at_four);
      place_at = at_four ∙ ap (λ x. b ++ x) (sym at_six);
      count_at = at_six ∙ ap (λ x. c ++ x) (sym at_eight);
      hashes_at = at_eight ∙ ap (λ x. d ++ x) (sym at_ten);
      path_at = at_ten;
    }

pub group_field-length : (place count : ℕ) (path signed : List ℕ)
    → length (group_field place count path signed) ≡ 10 + length path + length signed
unfolding group_head group_field
group_field-length place count path signed =
    let head = u32_bytes 256 ++ u16_bytes place ++ u16_bytes count ++ u16_bytes (length path / 32) in
    omega (
      arith,
      length-append (head ++ path) signed,
      length-append head path,
      length-append (u32_bytes 256 ++ u16_bytes place ++ u16_bytes count) (u16_bytes (length path / 32)),
      length-append (u32_bytes 256 ++ u16_bytes place) (u16_bytes count),
      length-append (u32_bytes 256) (u16_bytes place),
      length-u32_bytes 256,
      length-u16_bytes place,
      length-u16_bytes count,
      length-u16_bytes (length path / 32),
    )

-- the fields of a second version, read back
pub record AreRead (place count hashes : ℕ) (path signed sig : List ℕ) : Type 0 where
  pub room : 10 + 32 * hashes ≤ length sig
  pub mark : big_number 4 sig ≡ 256
  pub place_is : big_number 2 (drop 4 sig) ≡ place
  pub count_is : big_number 2 (drop 6 sig) ≡ count
  pub hashes_is : hashes_in sig ≡ hashes
  pub path_is : take (32 * hashes) (drop 10 sig) ≡ path
  pub signed_is : drop (32 * hashes) (drop 10 sig) ≡ signed

pub group_field-read : (place count hashes : ℕ) (path signed : List ℕ) → place < 2 ^ 16 → count < 2 ^ 16 →
    hashes < 2 ^ 16 → length path ≡ 32 * hashes
    → AreRead place count hashes path signed (group_field place count path signed)
unfolding group_head group_field
group_field-read place count hashes path signed place_fits count_fits hashes_fits size =
    let sig = u32_bytes 256 ++ u16_bytes place ++ u16_bytes count ++ u16_bytes (length path / 32) ++ path ++ signed in
    let number : length path / 32 ≡ hashes = omega arith in
    let at = behind place count hashes path signed sig
    (ap (λ (h : ℕ). u32_bytes 256 ++ u16_bytes place ++ u16_bytes count ++ u16_bytes h ++ path ++ signed) number) in
    let len : length sig ≡ 10 + length path + length signed = group_field-length place count path signed in
    record {
      room = omega arith;
      mark = ap (big_number 4) at.mark ∙ u32_front 256 (drop 4 sig) (omega arith);
      place_is = ap (big_number 2) at.place_at ∙ u16_front place (drop 6 sig) place_fits;
      count_is = ap (big_number 2) at.count_at ∙ u16_front count (drop 8 sig) count_fits;
      hashes_is = ap (big_number 2) at.hashes_at ∙ u16_front hashes (drop 10 sig) hashes_fits;
      path_is = ap (take (32 * hashes)) at.path_at ∙ take_at path signed (32 * hashes) size;
      signed_is = ap (drop (32 * hashes)) at.path_at ∙ drop_at path signed (32 * hashes) size;
    }
