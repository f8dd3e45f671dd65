-- A reading and a text agree: what has the text is read, whatever follows it, and what is read has the text. One law
-- for each piece of the grammar.
use Rattle.std.proofs.Common.{Fits, w8, length-take, eq-eqb, ◌≡◌, ◌<◌, ◌≤◌, ◌+◌, ◌^◌, ℕ, zero, suc, Bool, true, false}
use Rattle.std.proofs.Common.{List, [], ◌∷◌, ◌++◌, length, take, drop, get_or, refl, sym, ap, ◌∙◌, subst, arith}
use Rattle.std.proofs.Common.{length-append, append_assoc}
use Rattle.std.specs.Prelude.{◌&&◌, nat_eq, nat_lt, nat_le, if◌then◌else◌, Option, None, Result, Ok, Err}
use Rattle.std.specs.List.{flat_map, list_all, AllByRecursion}
use Rattle.std.proofs.lemmas.Bool.{and_parts, le-ltb, ltb-false, leb-true, eqb-true}
use Rattle.std.specs.Cmp.Derive.{both_true}
use Rattle.std.proofs.lemmas.List.{take_at, drop_at, take-append-drop, get_or-take}
use Rattle.byteorder.specs.Endian.{big_number, big_from}
use Rattle.byteorder.specs.Numbers.{big_number-reads_back}
use Rattle.wire_parts.specs.View.{View, Takes}
use Rattle.wire_parts.specs.ViewLaws.{Takes-append}
use Rattle.wire_parts.specs.Fields.{u8_bytes, u16_bytes, u32_bytes, u64_bytes}
use Rattle.wire_parts.specs.FieldLaws.{length-u16_bytes, length-u32_bytes, length-u64_bytes, u16_bytes-big_number}
use Rattle.wire_parts.specs.FieldLaws.{u32_bytes-big_number, u64_bytes-big_number}
use Rattle.message_forms.specs.declared.refusal.FormRefusal.{FormRefusal}
use Rattle.message_forms.specs.declared.refusal.FormRefusal.TheVariants as fault
use Rattle.message_forms.specs.Widths.{IsBytes}
use Rattle.message_forms.specs.Grammar.{Reading, ◌>>=◌, at, field_at, number_at, bytes_at, nothing, both, made}
use Rattle.message_forms.specs.Grammar.{checked_at, mark_here, count_at, is_above, marked, items_at, list_at}

pub IsBytes-behind : (xs ys : List ℕ) → IsBytes (xs ++ ys) → IsBytes ys
IsBytes-behind [] ys h = h
IsBytes-behind (x ∷ xs) ys h = IsBytes-behind xs ys h.1

pub IsBytes-front : (xs ys : List ℕ) → IsBytes (xs ++ ys) → IsBytes xs
IsBytes-front [] ys h = tt
IsBytes-front (x ∷ xs) ys h = (h.0, IsBytes-front xs ys h.1)

pub IsBytes-at : (bs : List ℕ) (i : ℕ) → IsBytes bs → get_or bs i 0 < 256
IsBytes-at [] i h = omega arith
IsBytes-at (b ∷ bs) zero h = h.0
IsBytes-at (b ∷ bs) (suc i) h = IsBytes-at bs i h.1

pub IsBytes-from : (bs : List ℕ) → ((i : ℕ) → get_or bs i 0 < 256) → IsBytes bs
IsBytes-from [] h = tt
IsBytes-from (b ∷ bs) h = (h 0, IsBytes-from bs (λ i. h (suc i)))

pub record Parsed {X : Type 0} (t : X → List ℕ) (p : X → Bool) (W : X → Type 0) (v : View) (z : X × View) : Type 0 where
  pub fits : p z.0 ≡ true
  pub wide : W z.0
  pub takes : Takes v z.1 (t z.0)

pub record Spells {X : Type 0} (read : View → Reading X) (text : X → List ℕ) (fits : X → Bool)
    (Wide : X → Type 0) : Type 0 where
  pub back : (x : X) (place : ℕ) (rest : List ℕ) → fits x ≡ true → Wide x
      → read (at place (text x ++ rest)) ≡ Ok (x, at (place + length (text x)) rest)
  pub sound : (v : View) (z : X × View) → IsBytes v.rest → read v ≡ Ok z → Parsed text fits Wide v z

pub bind_ok : {A B : Type 0} (r : Result A FormRefusal) (f : A → Result B FormRefusal) (y : B) → (r >>= f) ≡ Ok y
    → (x : A) × (r ≡ Ok x) × (f x ≡ Ok y)
bind_ok (Ok x) f y h = (x, refl, h)
bind_ok (Err e) f y h = absurd (cc)

pub ok_inj : {A : Type 0} {x y : A} → ◌≡◌ {A = Result A FormRefusal} (Ok x) (Ok y) → x ≡ y
ok_inj h = cc

pub guard : {A : Type 0} (b : Bool) (x y : Result A FormRefusal) (z : A) (e : FormRefusal) → y ≡ Err e
    → (if b then x else y) ≡ Ok z → (b ≡ true) × (x ≡ Ok z)
guard true x y z e is h = (refl, h)
guard false x y z e is h = absurd (cc)

-- what is left behind bytes is bytes
pub rest_bytes : (v w : View) (piece : List ℕ) → Takes v w piece → IsBytes v.rest → IsBytes w.rest
rest_bytes v w piece takes h = IsBytes-behind piece w.rest (subst IsBytes takes.bytes h)

-- fields

field_back : {X : Type 0} (value : List ℕ → X) (size place : ℕ) (piece rest : List ℕ) (x : X)
    → length piece ≡ size → value (piece ++ rest) ≡ x
    → field_at value size (at place (piece ++ rest)) ≡ Ok (x, at (place + length piece) rest)
unfolding field_at
field_back value size place piece rest x len is =
    let enough : nat_lt (length (piece ++ rest)) size ≡ false =
    le-ltb (length (piece ++ rest)) size (omega (arith, length-append piece rest)) in
    let behind : drop size (piece ++ rest) ≡ rest = drop_at piece rest size len in
    rw (enough, behind, is, len) refl

field_taken : {X : Type 0} (value : List ℕ → X) (size : ℕ) (v : View) (z : X × View) → field_at value size v ≡ Ok z
    → (size ≤ length v.rest) × ((value v.rest, at (v.place + size) (drop size v.rest)) ≡ z)
unfolding field_at
field_taken value size v z h = taken (nat_lt (length v.rest) size) refl h where
  taken : (b : Bool) → nat_lt (length v.rest) size ≡ b
      → (if b then Err (fault.Short v.place) else Ok (value v.rest, at (v.place + size) (drop size v.rest))) ≡ Ok z
      → (size ≤ length v.rest) × ((value v.rest, at (v.place + size) (drop size v.rest)) ≡ z)
  taken true is h = absurd (cc)
  taken false is h = (ltb-false (length v.rest) size is, ok_inj h)

pub Spells-field : {X : Type 0} (value : List ℕ → X) (size : ℕ) (text : X → List ℕ)
    (fits : X → Bool) (Wide : X → Type 0)
    → ((x : X) → fits x ≡ true → Wide x → (rest : List ℕ) → (length (text x) ≡ size) × (value (text x ++ rest) ≡ x))
    → ((bytes : List ℕ) → IsBytes bytes → size ≤ length bytes
    → (fits (value bytes) ≡ true) × Wide (value bytes) × (text (value bytes) ≡ take size bytes))
    → Spells (field_at value size) text fits Wide
Spells-field value size text fits Wide again there = record {
  back = λ x place rest ok wide. let a = again x ok wide rest in field_back value size place (text x) rest x a.0 a.1;
  sound = λ v z ok h.
      let t = field_taken value size v z h in
      let o = there v.rest ok t.0 in
      let whole : v.rest ≡ text (value v.rest) ++ drop size v.rest =
      sym (take-append-drop size v.rest) ∙ ap (λ front. front ++ drop size v.rest) (sym o.2) in
      let len : length (text (value v.rest)) ≡ size = omega (arith, ap length o.2, length_take size v.rest t.0) in
      subst (Parsed text fits Wide v) t.1
      (record {
        fits = o.0;
        wide = o.1;
        takes =
            record { bytes = whole; place = ap (λ n. v.place + n) (sym len) };
      });
} where
  length_take : (n : ℕ) (bytes : List ℕ) → n ≤ length bytes → length (take n bytes) ≡ n
  length_take n bytes h = omega (arith, length-take n bytes)

-- numbers

big_from-take : (i n m : ℕ) (bytes : List ℕ) → i + n ≤ m → big_from i n (take m bytes) ≡ big_from i n bytes
big_from-take i zero m bytes h = refl
big_from-take i (suc n) m bytes h =
    let first : get_or (take m bytes) i 0 ≡ get_or bytes i 0 = get_or-take m bytes i 0 (omega arith) in
    let rest = big_from-take (suc i) n m bytes (omega arith) in
    rw (first, rest) refl

IsBytes-take : (n : ℕ) (bytes : List ℕ) → IsBytes bytes → IsBytes (take n bytes)
IsBytes-take n bytes h = IsBytes-front (take n bytes) (drop n bytes) (subst IsBytes (sym (take-append-drop n bytes)) h)

byte_fits : (bytes : List ℕ) (i : ℕ) → IsBytes bytes → Fits w8 (get_or bytes i 0)
byte_fits bytes i h = let b : get_or bytes i 0 < 256 = IsBytes-at bytes i h in omega (arith, b)

pub Spells-u8 : Spells (number_at 1) u8_bytes (λ x. true) (λ x. x < 2 ^ 8)
Spells-u8 = Spells-field (big_number 1) 1 u8_bytes (λ x. true) (λ x. x < 2 ^ 8)
    (λ x ok wide rest. (refl, omega arith))
    (λ bytes ok enough. one bytes ok enough) where
      one : (bytes : List ℕ) → IsBytes bytes → 1 ≤ length bytes
          → (true ≡ true) × (big_number 1 bytes < 2 ^ 8) × (u8_bytes (big_number 1 bytes) ≡ take 1 bytes)
      one [] ok enough = absurd (omega arith)
      one (b ∷ bytes) ok enough = let b_is : big_number 1 (b ∷ bytes) ≡ b = omega arith in
          (refl, omega (arith, ok.0), ap (λ x. x ∷ []) b_is)

pub Spells-u16 : Spells (number_at 2) u16_bytes (λ x. true) (λ x. x < 2 ^ 16)
unfolding u16_bytes
Spells-u16 = Spells-field (big_number 2) 2 u16_bytes (λ x. true) (λ x. x < 2 ^ 16)
    (λ x ok wide rest. (length-u16_bytes x, big_number-reads_back 2 x rest wide))
    (λ bytes ok enough.
    let at_ : (i : ℕ) → get_or bytes i 0 < 256 = λ i. IsBytes-at bytes i ok in
    let len : length (take 2 bytes) ≡ 2 = omega (arith, length-take 2 bytes) in
    let is = u16_bytes-big_number (take 2 bytes) len (λ i. byte_fits (take 2 bytes) i (IsBytes-take 2 bytes ok)) in
    (refl, omega (arith, at_ 0, at_ 1), ap u16_bytes (sym (big_from-take 0 2 2 bytes (omega arith))) ∙ is))

pub Spells-u32 : Spells (number_at 4) u32_bytes (λ x. true) (λ x. x < 2 ^ 32)
unfolding u32_bytes
Spells-u32 = Spells-field (big_number 4) 4 u32_bytes (λ x. true) (λ x. x < 2 ^ 32)
    (λ x ok wide rest. (length-u32_bytes x, big_number-reads_back 4 x rest wide))
    (λ bytes ok enough.
    let at_ : (i : ℕ) → get_or bytes i 0 < 256 = λ i. IsBytes-at bytes i ok in
    let len : length (take 4 bytes) ≡ 4 = omega (arith, length-take 4 bytes) in
    let is = u32_bytes-big_number (take 4 bytes) len (λ i. byte_fits (take 4 bytes) i (IsBytes-take 4 bytes ok)) in (
      refl,
      omega (arith, at_ 0, at_ 1, at_ 2, at_ 3),
      ap u32_bytes (sym (big_from-take 0 4 4 bytes (omega arith))) ∙ is,
    ))

pub Spells-u64 : Spells (number_at 8) u64_bytes (λ x. true) (λ x. x < 2 ^ 64)
unfolding u64_bytes
Spells-u64 = Spells-field (big_number 8) 8 u64_bytes (λ x. true) (λ x. x < 2 ^ 64)
    (λ x ok wide rest. (length-u64_bytes x, big_number-reads_back 8 x rest wide))
    (λ bytes ok enough.
    let at_ : (i : ℕ) → get_or bytes i 0 < 256 = λ i. IsBytes-at bytes i ok in
    let len : length (take 8 bytes) ≡ 8 = omega (arith, length-take 8 bytes) in
    let is = u64_bytes-big_number (take 8 bytes) len (λ i. byte_fits (take 8 bytes) i (IsBytes-take 8 bytes ok)) in (
      refl,
      omega (arith, at_ 0, at_ 1, at_ 2, at_ 3, at_ 4, at_ 5, at_ 6, at_ 7),
      ap u64_bytes (sym (big_from-take 0 8 8 bytes (omega arith))) ∙ is,
    ))

-- so many bytes as they stand
pub Spells-bytes : (size : ℕ) → Spells (bytes_at size) (λ bytes. bytes) (λ bytes. true) (λ bytes. length bytes ≡ size)
Spells-bytes size = Spells-field (take size) size (λ bytes. bytes) (λ bytes. true) (λ bytes. length bytes ≡ size)
    (λ bytes ok wide rest. (wide, take_at bytes rest size wide))
    (λ bytes ok enough. (refl, omega (arith, length-take size bytes), refl))

pub Spells-nothing : Spells nothing (λ x. []) (λ x. true) (λ x. Unit {0})
Spells-nothing = record {
  back = λ x place rest ok wide. ap (λ p. Ok (tt, at p rest)) (omega arith);
  sound = λ v z ok h. subst (Parsed (λ x. []) (λ x. true) (λ x. Unit {0}) v) (ok_inj h)
      (record { fits = refl; wide = tt; takes = record { bytes = refl; place = omega arith } });
}

-- a test of a number
pub Spells-checked : (size : ℕ) (text : ℕ → List ℕ) (Wide : ℕ → Type 0) (test : ℕ → Bool) (refusal : ℕ → FormRefusal)
    → Spells (number_at size) text (λ x. true) Wide → Spells (checked_at size test refusal) text test Wide
unfolding checked_at
Spells-checked size text Wide test refusal number = record {
  back = λ x place rest ok wide.
      ap (λ read. read >>= λ found. if test found.0 then Ok found else Err (refusal place))
      (number.back x place rest refl wide)
      ∙ ap (λ b. if b then Ok (x, at (place + length (text x)) rest) else Err (refusal place)) ok;
  sound = λ v z ok h.
      let b = bind_ok (number_at size v) (λ found. if test found.0 then Ok found else Err (refusal v.place)) z h in
      let g = guard (test b.0.0) (Ok b.0) (Err (refusal v.place)) z (refusal v.place) refl b.2 in
      let p = number.sound v b.0 ok b.1 in
      subst (Parsed text test Wide v) (ok_inj g.1) (record { fits = g.0; wide = p.wide; takes = p.takes });
}

-- pieces joined

pub Spells-both : {A B : Type 0} {ra : View → Reading A} {rb : View → Reading B} {ta : A → List ℕ} {tb : B → List ℕ}
    {pa : A → Bool} {pb : B → Bool} {Wa : A → Type 0} {Wb : B → Type 0} → Spells ra ta pa Wa → Spells rb tb pb Wb
    → Spells (both ra rb) (λ x. ta x.0 ++ tb x.1) (λ x. pa x.0 && pb x.1) (λ x. Wa x.0 × Wb x.1)
Spells-both {ra = ra} {rb = rb} {ta = ta} {tb = tb} {pa = pa} {pb = pb} {Wa = Wa} {Wb = Wb} first second = record {
  back = λ x place rest ok wide.
      let parts = and_parts (pa x.0) (pb x.1) ok in
      let one = first.back x.0 place (tb x.1 ++ rest) parts.0 wide.0 in
      let two = second.back x.1 (place + length (ta x.0)) rest parts.1 wide.1 in
      ap (λ bytes. both ra rb (at place bytes)) (append_assoc (ta x.0) (tb x.1) rest)
      ∙ ap (λ read. read >>= λ a. rb a.1 >>= λ b. Ok ((a.0, b.0), b.1)) one
      ∙ ap (λ read. read >>= λ b. Ok ((x.0, b.0), b.1)) two
      ∙ ap (λ p. Ok (x, at p rest)) (omega (arith, length-append (ta x.0) (tb x.1)));
  sound = λ v z ok h.
      let one = bind_ok (ra v) (λ a. rb a.1 >>= λ b. Ok ((a.0, b.0), b.1)) z h in
      let two = bind_ok (rb one.0.1) (λ b. Ok ((one.0.0, b.0), b.1)) z one.2 in
      let a = first.sound v one.0 ok one.1 in
      let b = second.sound one.0.1 two.0 (rest_bytes v one.0.1 (ta one.0.0) a.takes ok) two.1 in
      subst (Parsed (λ x. ta x.0 ++ tb x.1) (λ x. pa x.0 && pb x.1) (λ x. Wa x.0 × Wb x.1) v) (ok_inj two.2)
      (record {
        fits = both_true a.fits b.fits;
        wide = (a.wide, b.wide);
        takes = Takes-append v one.0.1 two.0.1 (ta one.0.0) (tb two.0.0) a.takes b.takes;
      });
}

pub Spells-made : {A X : Type 0} {r : View → Reading A} {t : A → List ℕ} {p : A → Bool} {W : A → Type 0}
    (f : A → X) (g : X → A) → ((x : X) → f (g x) ≡ x) → ((a : A) → g (f a) ≡ a) → Spells r t p W
    → Spells (made f r) (λ x. t (g x)) (λ x. p (g x)) (λ x. W (g x))
Spells-made {r = r} {t = t} {p = p} {W = W} f g fg gf law = record {
  back = λ x place rest ok wide.
      ap (λ read. read >>= λ a. Ok (f a.0, a.1)) (law.back (g x) place rest ok wide)
      ∙ ap (λ y. Ok (y, at (place + length (t (g x))) rest)) (fg x);
  sound = λ v z ok h.
      let b = bind_ok (r v) (λ a. Ok (f a.0, a.1)) z h in
      let q = subst (λ y. Parsed t p W v (y, b.0.1)) (sym (gf b.0.0)) (law.sound v b.0 ok b.1) in
      subst (Parsed (λ x. t (g x)) (λ x. p (g x)) (λ x. W (g x)) v) (ok_inj b.2)
      (record { fits = q.fits; wide = q.wide; takes = q.takes });
}

pub Spells-as : {X : Type 0} {r : View → Reading X} {t : X → List ℕ} {p : X → Bool} {W : X → Type 0}
    (t' : X → List ℕ) (p' : X → Bool) (W' : X → Type 0) → ((x : X) → t' x ≡ t x) → ((x : X) → p' x ≡ p x)
    → ((x : X) → W' x → W x) → ((x : X) → W x → W' x) → Spells r t p W → Spells r t' p' W'
Spells-as {r = r} {t = t} {p = p} {W = W} t' p' W' same_text same_fits from to law = record {
  back = λ x place rest ok wide.
      ap (λ bytes. r (at place (bytes ++ rest))) (same_text x)
      ∙ law.back x place rest (sym (same_fits x) ∙ ok) (from x wide)
      ∙ ap (λ bytes. Ok (x, at (place + length bytes) rest)) (sym (same_text x));
  sound = λ v z ok h.
      let q = law.sound v z ok h in
      record {
        fits = same_fits z.0 ∙ q.fits;
        wide = to z.0 q.wide;
        takes =
            subst (Takes v z.1) (sym (same_text z.0)) q.takes;
      };
}

pub Spells-marked : {X : Type 0} {r : View → Reading X} {t : X → List ℕ} {p : X → Bool} {W : X → Type 0}
    (size mark : ℕ) (text : ℕ → List ℕ) (Wide : ℕ → Type 0) → Spells (number_at size) text (λ x. true) Wide → Wide mark
    → Spells r t p W → Spells (marked size mark r) (λ x. text mark ++ t x) p W
Spells-marked {r = r} {t = t} {p = p} {W = W} size mark text Wide number mark_fits law =
    let here = Spells-checked size text Wide (λ n. nat_eq n mark) fault.UnknownKind number in record {
      back = λ x place rest ok wide.
          ap (λ bytes. marked size mark r (at place bytes)) (append_assoc (text mark) (t x) rest)
          ∙ ap (λ read. read >>= λ found. r found.1)
          (here.back mark place (t x ++ rest) (eq-eqb mark mark refl) mark_fits)
          ∙ law.back x (place + length (text mark)) rest ok wide
          ∙ ap (λ n. Ok (x, at n rest)) (omega (arith, length-append (text mark) (t x)));
      sound = λ v z ok h.
          let b = bind_ok (mark_here size mark v) (λ found. r found.1) z h in
          let a = here.sound v b.0 ok b.1 in
          let is : b.0.0 ≡ mark = eqb-true b.0.0 mark a.fits in
          let takes : Takes v b.0.1 (text mark) = subst (λ n. Takes v b.0.1 (text n)) is a.takes in
          let q = law.sound b.0.1 z (rest_bytes v b.0.1 (text mark) takes ok) b.2 in
          record { fits = q.fits; wide = q.wide; takes = Takes-append v b.0.1 z.1 (text mark) (t z.0) takes q.takes };
    }

-- lists

-- the key of each item is above that of the item before it
abbrev pub rises : {X : Type 0} → (X → Option ℕ) → Option ℕ → List X → Bool
rises key before [] = true
rises key before (x ∷ xs) = is_above before (key x) && rises key (key x) xs

pub record ItemsParsed {X : Type 0} (t : X → List ℕ) (key : X → Option ℕ) (p : X → Bool) (W : X → Type 0)
    (n : ℕ) (before : Option ℕ)
    (v : View) (z : List X × View) : Type 0 where
  pub count : length z.0 ≡ n
  pub order : rises key before z.0 ≡ true
  pub fits : list_all p z.0 ≡ true
  pub wide : AllByRecursion W z.0
  pub takes : Takes v z.1 (flat_map t z.0)

module _ {X : Type 0} (item : Option ℕ → View → Reading X) (key : X → Option ℕ) (t : X → List ℕ)
    (p : X → Bool) (W : X → Type 0)
    (law : (before : Option ℕ) → Spells (item before) t (λ x. is_above before (key x) && p x) W) where
  pub items_back : (xs : List X) (before : Option ℕ) (place : ℕ) (rest : List ℕ) → rises key before xs ≡ true
      → list_all p xs ≡ true → AllByRecursion W xs
      → items_at item key (length xs) before (at place (flat_map t xs ++ rest)) ≡ Ok
      (xs, at (place + length (flat_map t xs)) rest)
  items_back [] before place rest order ok wide = ap (λ n. Ok ([], at n rest)) (omega arith)
  items_back (x ∷ xs) before place rest order ok wide =
      let o = and_parts (is_above before (key x)) (rises key (key x) xs) order in
      let k = and_parts (p x) (list_all p xs) ok in
      let one = (law before).back x place (flat_map t xs ++ rest) (both_true o.0 k.0) wide.0 in
      let more = items_back xs (key x) (place + length (t x)) rest o.1 k.1 wide.1 in
      ap (λ bytes. items_at item key (suc (length xs)) before (at place bytes))
      (append_assoc (t x) (flat_map t xs) rest)
      ∙ ap (λ read. read >>= λ y. items_at item key (length xs) (key y.0) y.1 >>= λ ys. Ok (y.0 ∷ ys.0, ys.1)) one
      ∙ ap (λ read. read >>= λ ys. Ok (x ∷ ys.0, ys.1)) more
      ∙ ap (λ n. Ok (x ∷ xs, at n rest)) (omega (arith, length-append (t x) (flat_map t xs)))

  pub items_sound : (n : ℕ) (before : Option ℕ) (v : View) (z : List X × View) → IsBytes v.rest
      → items_at item key n before v ≡ Ok z → ItemsParsed t key p W n before v z
  items_sound zero before v z ok h =
      subst (ItemsParsed t key p W 0 before v) (ok_inj h)
      (record {
        count = refl;
        order = refl;
        fits = refl;
        wide = tt;
        takes =
            record { bytes = refl; place = omega arith };
      })
  items_sound (suc n) before v z ok h =
      let one = bind_ok (item before v) (λ y. items_at item key n (key y.0) y.1 >>= λ ys. Ok (y.0 ∷ ys.0, ys.1)) z h in
      let two = bind_ok (items_at item key n (key one.0.0) one.0.1) (λ ys. Ok (one.0.0 ∷ ys.0, ys.1)) z one.2 in
      let a = (law before).sound v one.0 ok one.1 in
      let parts = and_parts (is_above before (key one.0.0)) (p one.0.0) a.fits in
      let b = items_sound n (key one.0.0) one.0.1 two.0 (rest_bytes v one.0.1 (t one.0.0) a.takes ok) two.1 in
      subst (ItemsParsed t key p W (suc n) before v) (ok_inj two.2)
      (record {
        count = ap suc b.count;
        order = both_true parts.0 b.order;
        fits = both_true parts.1 b.fits;
        wide = (a.wide, b.wide);
        takes = Takes-append v one.0.1 two.0.1 (t one.0.0) (flat_map t two.0.0) a.takes b.takes;
      })

  pub Spells-list : (most : ℕ) → most < 2 ^ 16
      → Spells (list_at most item key) (λ xs. u16_bytes (length xs) ++ flat_map t xs)
      (λ xs. nat_le (length xs) most && (rises key None xs && list_all p xs)) (AllByRecursion W)
  unfolding list_at
  Spells-list most small =
      let count = Spells-checked 2 u16_bytes (λ n. n < 2 ^ 16) (λ n. nat_le n most) fault.TooMany Spells-u16 in record {
        back = λ xs place rest ok wide.
            let a = and_parts (nat_le (length xs) most) (rises key None xs && list_all p xs) ok in
            let b = and_parts (rises key None xs) (list_all p xs) a.1 in
            let within = leb-true (length xs) most a.0 in
            let fits : length xs < 2 ^ 16 = omega (arith, within, small) in
            ap (λ bytes. list_at most item key (at place bytes))
            (append_assoc (u16_bytes (length xs)) (flat_map t xs) rest)
            ∙ ap (λ read. read >>= λ n. items_at item key n.0 None n.1)
            (count.back (length xs) place (flat_map t xs ++ rest) a.0 fits)
            ∙ items_back xs None (place + length (u16_bytes (length xs))) rest b.0 b.1 wide
            ∙ ap (λ n. Ok (xs, at n rest)) (omega (arith, length-append (u16_bytes (length xs)) (flat_map t xs)));
        sound = λ v z ok h.
            let one = bind_ok (count_at most v) (λ n. items_at item key n.0 None n.1) z h in
            let a = count.sound v one.0 ok one.1 in
            let b = items_sound one.0.0 None one.0.1 z (rest_bytes v one.0.1 (u16_bytes one.0.0) a.takes ok) one.2 in
            let takes : Takes v one.0.1 (u16_bytes (length z.0)) =
            subst (λ n. Takes v one.0.1 (u16_bytes n)) (sym b.count) a.takes in
            let within : nat_le (length z.0) most ≡ true = ap (λ n. nat_le n most) b.count ∙ a.fits in
            record {
              fits = both_true within (both_true b.order b.fits);
              wide = b.wide;
              takes = Takes-append v one.0.1 z.1 (u16_bytes (length z.0)) (flat_map t z.0) takes b.takes;
            };
      }
