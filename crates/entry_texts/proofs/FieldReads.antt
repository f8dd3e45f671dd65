-- What fields that were read one after the other say of the bytes that they were read from.
use Rattle.std.proofs.Common.{◌≡◌, ◌<◌, ◌+◌, ◌^◌, ℕ, ℤ, List, ◌∷◌, ◌++◌, length, refl, sym, ap, ◌∙◌, arith}
use Rattle.std.proofs.Common.{length-append}
use Rattle.std.specs.Prelude.{None}
use Rattle.std.specs.Int.{w64, cast_unsigned}
use Rattle.std.proofs.lemmas.List.{append-nil, nil_from_length}
use Rattle.wire_parts.specs.View.{View, Takes}
use Rattle.wire_parts.specs.Fields.{u8_bytes, u16_bytes, u32_bytes, u64_bytes, i64_bytes}
use Rattle.wire_parts.specs.FieldLaws.{length-u16_bytes, length-u32_bytes, length-u64_bytes, u32_bytes-inj}
use Rattle.wire_parts.specs.FieldLaws.{u64_bytes-inj}
use Rattle.point_table.specs.declared.point.Area.{Area}
use Rattle.message_forms.specs.Widths.{Is64}
use Rattle.entry_texts.specs.Texts.{area_number, counted_text, taken_text, change_text}
use Rattle.entry_texts.specs.Fits.{IsShort}
use Rattle.entry_texts.specs.Reads.{NoneSpells, ReadsPoint, ReadsAlarm, ReadsArea, ReadsTaken, ReadsChange}
use Rattle.entry_texts.proofs.TextLaws.{same_first}

-- what is left behind a field
left : (v w : View) (field : List ℕ) (size : ℕ) → Takes v w field → length field ≡ size →
    length v.rest ≡ size + length w.rest
left v w field size takes is = omega (arith, ap length takes.bytes, length-append field w.rest, is)

left8 : (v w : View) (x : ℕ) → Takes v w (u8_bytes x) → length v.rest ≡ 1 + length w.rest
left8 v w x takes = left v w (u8_bytes x) 1 takes refl

left16 : (v w : View) (x : ℕ) → Takes v w (u16_bytes x) → length v.rest ≡ 2 + length w.rest
left16 v w x takes = left v w (u16_bytes x) 2 takes (length-u16_bytes x)

left32 : (v w : View) (x : ℕ) → Takes v w (u32_bytes x) → length v.rest ≡ 4 + length w.rest
left32 v w x takes = left v w (u32_bytes x) 4 takes (length-u32_bytes x)

left64 : (v w : View) (z : ℤ) → Takes v w (i64_bytes z) → length v.rest ≡ 8 + length w.rest
left64 v w z takes = left v w (i64_bytes z) 8 takes (length-u64_bytes (cast_unsigned w64 z))

-- the last field, with nothing behind it
last_is : (v w : View) (field : List ℕ) → Takes v w field → (0 < length w.rest → ⊥) → v.rest ≡ field
last_is v w field takes none =
    takes.bytes ∙ ap (λ r. field ++ r) (nil_from_length w.rest (grind (arith, none))) ∙ append-nil field

-- bytes behind their length

pub no_count : (rest : List ℕ) → length rest < 4 → NoneSpells counted_text IsShort rest
no_count rest less = λ piece fits e. omega (
  arith,
  ap length e,
  length-append (u32_bytes (length piece)) piece,
  length-u32_bytes (length piece),
)

pub few_counted : (v w : View) (n : ℕ) → n < 2 ^ 32 → Takes v w (u32_bytes n) → length w.rest < n →
    NoneSpells counted_text IsShort v.rest
few_counted v w n fit takes less = λ piece fits e.
    let both = u32_bytes-inj n (length piece) w.rest piece fit fits (sym takes.bytes ∙ e) in
    omega (arith, both.0, ap length both.1)

pub more_counted : (v w x : View) (n : ℕ) (found : List ℕ) → n < 2 ^ 32 → Takes v w (u32_bytes n) → Takes w x found
    → length found ≡ n → 0 < length x.rest → NoneSpells counted_text IsShort v.rest
more_counted v w x n found fit takes then_takes count more = λ piece fits e.
    let both = u32_bytes-inj n (length piece) w.rest piece fit fits (sym takes.bytes ∙ e) in
    omega (arith, both.0, ap length both.1, left w x found n then_takes count)

-- a frame's text with stamp and place

pub no_stamp : (rest : List ℕ) → length rest < 8 → ReadsTaken rest None
no_stamp rest less = λ stamp place text fs fp ft e.
    omega (
      arith,
      ap length e,
      length-append (u64_bytes stamp) (u32_bytes place ++ counted_text text),
      length-u64_bytes stamp,
    )

behind_stamp : (v w : View) (n stamp place : ℕ) (text : List ℕ) → n < 2 ^ 64 → Is64 stamp → Takes v w (u64_bytes n)
    → v.rest ≡ taken_text stamp place text → w.rest ≡ u32_bytes place ++ counted_text text
behind_stamp v w n stamp place text fit fs takes e =
    (u64_bytes-inj n stamp w.rest (u32_bytes place ++ counted_text text) fit fs (sym takes.bytes ∙ e)).1

pub no_place : (v w : View) (n : ℕ) → n < 2 ^ 64 → Takes v w (u64_bytes n) → length w.rest < 4 → ReadsTaken v.rest None
no_place v w n fit takes less = λ stamp place text fs fp ft e.
    omega (
      arith,
      ap length (behind_stamp v w n stamp place text fit fs takes e),
      length-append (u32_bytes place) (counted_text text),
      length-u32_bytes place,
    )

pub no_text : (v w x : View) (n m : ℕ) → n < 2 ^ 64 → m < 2 ^ 32 → Takes v w (u64_bytes n) → Takes w x (u32_bytes m)
    → NoneSpells counted_text IsShort x.rest → ReadsTaken v.rest None
no_text v w x n m fit fit' takes then_takes none = λ stamp place text fs fp ft e.
    let there = behind_stamp v w n stamp place text fit fs takes e in
    none text ft (u32_bytes-inj m place x.rest (counted_text text) fit' fp (sym then_takes.bytes ∙ there)).1

pub taken_is : (v w x : View) (n m : ℕ) (text : List ℕ) → Takes v w (u64_bytes n) → Takes w x (u32_bytes m)
    → x.rest ≡ counted_text text → v.rest ≡ taken_text n m text
taken_is v w x n m text takes then_takes e =
    takes.bytes ∙ ap (λ r. u64_bytes n ++ r) (then_takes.bytes ∙ ap (λ r. u32_bytes m ++ r) e)

-- a change in a field

pub not_five : (rest : List ℕ) → (length rest ≡ 5 → ⊥) → ReadsChange rest None
not_five rest other = λ a place value fp fv e.
    other (omega (
      arith,
      ap length e,
      length-append (u8_bytes (area_number a)) (u16_bytes place ++ u16_bytes value),
      length-append (u16_bytes place) (u16_bytes value),
      length-u16_bytes place,
      length-u16_bytes value,
    ))

pub change_of_one : (v w : View) (n : ℕ) → Takes v w (u8_bytes n) → length w.rest < 2 → ReadsChange v.rest None
change_of_one v w n one less = not_five v.rest (λ five. omega (arith, left8 v w n one))

pub change_of_three : (v w x : View) (n p : ℕ) → Takes v w (u8_bytes n) → Takes w x (u16_bytes p) → length x.rest < 2
    → ReadsChange v.rest None
change_of_three v w x n p one two less = not_five v.rest (λ five. omega (arith, left8 v w n one, left16 w x p two))

pub change_of_more : (v w x y : View) (n p q : ℕ) → Takes v w (u8_bytes n) → Takes w x (u16_bytes p) →
    Takes x y (u16_bytes q)
    → 0 < length y.rest → ReadsChange v.rest None
change_of_more v w x y n p q one two three more =
    not_five v.rest (λ five. omega (arith, left8 v w n one, left16 w x p two, left16 x y q three))

pub change_of_none : (v w : View) (n : ℕ) → Takes v w (u8_bytes n) → ReadsArea n None → ReadsChange v.rest None
change_of_none v w n one none = λ a place value fp fv e. none a (same_first (sym one.bytes ∙ e))

pub change_is : (v w x y : View) (n p q : ℕ) (a : Area) → Takes v w (u8_bytes n) → Takes w x (u16_bytes p) →
    Takes x y (u16_bytes q)
    → (0 < length y.rest → ⊥) → n ≡ area_number a → v.rest ≡ change_text a p q
change_is v w x y n p q a one two three none is =
    one.bytes ∙ ap (λ r. n ∷ r) (two.bytes ∙ ap (λ r. u16_bytes p ++ r) (last_is x y (u16_bytes q) three none))
    ∙ ap (λ k. k ∷ (u16_bytes p ++ u16_bytes q)) is

-- a point and its value

pub not_twelve : (rest : List ℕ) → (length rest ≡ 12 → ⊥) → ReadsPoint rest None
not_twelve rest other = λ p z fp fz e.
    other (omega (
      arith,
      ap length e,
      length-append (u32_bytes p) (i64_bytes z),
      length-u32_bytes p,
      length-u64_bytes (cast_unsigned w64 z),
    ))

pub point_of_four : (v w : View) (n : ℕ) → Takes v w (u32_bytes n) → length w.rest < 8 → ReadsPoint v.rest None
point_of_four v w n one less = not_twelve v.rest (λ twelve. omega (arith, left32 v w n one))

pub point_of_more : (v w x : View) (n : ℕ) (z : ℤ) → Takes v w (u32_bytes n) →
    Takes w x (i64_bytes z) → 0 < length x.rest
    → ReadsPoint v.rest None
point_of_more v w x n z one two more = not_twelve v.rest (λ twelve. omega (arith, left32 v w n one, left64 w x z two))

-- an alarm

pub no_alarm : (rest : List ℕ) → (length rest ≡ 4 → ⊥) → ReadsAlarm rest None
no_alarm rest other = λ n fits e. other (ap length e ∙ length-u32_bytes n)

pub alarm_of_more : (v w : View) (n : ℕ) → Takes v w (u32_bytes n) → 0 < length w.rest → ReadsAlarm v.rest None
alarm_of_more v w n one more = no_alarm v.rest (λ four. omega (arith, left32 v w n one))
