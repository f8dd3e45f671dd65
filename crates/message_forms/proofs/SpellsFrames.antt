-- The laws of frames, of lists of frames, and of forms that a number chooses.
use Rattle.std.proofs.Common.{◌≡◌, ◌≤◌, ◌+◌, ◌^◌, ℕ, Bool, true, false, List, [], ◌∷◌, ◌++◌, length, refl, sym, ap}
use Rattle.std.proofs.Common.{◌∙◌, subst, arith, length-append, append_assoc}
use Rattle.std.specs.Prelude.{◌&&◌, nat_eq, nat_lt, nat_le, if◌then◌else◌, Option, Some, None, Ok, Err, map}
use Rattle.std.specs.List.{list_all}
use Rattle.std.proofs.lemmas.Bool.{and_parts, ltb-false, leb-true, eqb-true, le-leb}
use Rattle.std.specs.Cmp.Derive.{both_true}
use Rattle.std.proofs.lemmas.List.{append-nil, nil_from_length}
use Rattle.wire_parts.specs.View.{View, Takes}
use Rattle.wire_parts.specs.ViewLaws.{Takes-append}
use Rattle.wire_parts.specs.Fields.{u32_bytes}
use Rattle.message_types.specs.Texts.{signed_text, list_text}
use Rattle.message_types.specs.Spelling.{is_rising, signers_of, signature_fits, frames_fit}
use Rattle.message_forms.specs.declared.refusal.FormRefusal.TheVariants as fault
use Rattle.message_forms.specs.Grammar.{Reading, ◌>>=◌, at, number_at, bytes_at, made, length_at, is_above, Cases}
use Rattle.message_forms.specs.Grammar.{unknown, case, chosen, end_at, enclosed, as_signed, signed_at, signer_of}
use Rattle.message_forms.specs.Grammar.{frames_at}
use Rattle.message_forms.specs.Widths.{IsBytes, Is32, FitsSigner, FitsSigners}
use Rattle.message_forms.proofs.Spells.{IsBytes-front, Parsed, Spells, bind_ok, ok_inj, rest_bytes, Spells-bytes}
use Rattle.message_forms.proofs.Spells.{Spells-u32, Spells-checked, Spells-both, Spells-made, Spells-as, rises}
use Rattle.message_forms.proofs.Spells.{Spells-list}

pub end_none : (v : View) (z : Unit {0} × View) → end_at v ≡ Ok z → v.rest ≡ []
unfolding end_at
end_none v z h = nothing_left (nat_lt 0 (length v.rest)) refl h where
  nothing_left : (b : Bool) → nat_lt 0 (length v.rest) ≡ b →
      (if b then Err (fault.Trailing v.place) else Ok (tt, v)) ≡ Ok z → v.rest ≡ []
  nothing_left true is h = absurd (cc)
  nothing_left false is h = let none = ltb-false 0 (length v.rest) is in nil_from_length v.rest (omega (arith, none))

pub end_here : (place : ℕ) → end_at (at place []) ≡ Ok (tt, at place [])
unfolding end_at
end_here place = refl

abbrev enclosed_text : {B : Type 0} → (B → List ℕ) → B × List ℕ → List ℕ
enclosed_text t x = u32_bytes (length (t x.0)) ++ (t x.0 ++ (u32_bytes (length x.1) ++ x.1))

length_law : (most : ℕ) → Spells (length_at most) u32_bytes (λ n. nat_le n most) Is32
length_law most = Spells-checked 4 u32_bytes Is32 (λ n. nat_le n most) fault.TooLong Spells-u32

module _ {B : Type 0} {r : View → Reading B} {t : B → List ℕ} {p : B → Bool} {W : B → Type 0}
    (short : (b : B) → p b ≡ true → W b → length (t b) ≤ 2 ^ 30) (law : Spells r t p W) where
  after_sig : (b : B) (sig rest : List ℕ) (place : ℕ) → p b ≡ true → W b → nat_le (length sig) 65536 ≡ true
      → enclosed r (at place (enclosed_text t (b, sig) ++ rest)) ≡ Ok
      ((b, sig), at (place + length (enclosed_text t (b, sig))) rest)
  unfolding enclosed
  after_sig b sig rest place ok wide fits =
      let size = length (t b) in
      let small = short b ok wide in
      let sig_small = leb-true (length sig) 65536 fits in
      let p1 = place + length (u32_bytes size) in
      let p2 = p1 + length (t b) in
      let p3 = p2 + length (u32_bytes (length sig)) in
      let after_sig_length = sig ++ rest in
      let after_body = u32_bytes (length sig) ++ after_sig_length in
      let one = (length_law (2 ^ 30)).back size place (t b ++ after_body) (le-leb size (2 ^ 30) small)
      (omega (arith, small)) in
      let two = (Spells-bytes size).back (t b) p1 after_body refl refl in
      let three = law.back b p1 [] ok wide in
      let four = end_here p2 in
      let five = (length_law 65536).back (length sig) p2 after_sig_length fits (omega (arith, sig_small)) in
      let six = (Spells-bytes (length sig)).back sig p3 rest refl refl in
      let whole : enclosed_text t (b, sig) ++ rest ≡ u32_bytes size ++ (t b ++ after_body) =
      append_assoc (u32_bytes size) (t b ++ (u32_bytes (length sig) ++ sig)) rest
      ∙ ap (λ x. u32_bytes size ++ x) (append_assoc (t b) (u32_bytes (length sig) ++ sig) rest)
      ∙ ap (λ x. u32_bytes size ++ (t b ++ x)) (append_assoc (u32_bytes (length sig)) sig rest) in
      ap (λ bytes. enclosed r (at place bytes)) whole
      ∙ ap (λ read. read >>= λ n. bytes_at n.0 n.1 >>= λ piece. r (at n.1.place piece.0) >>= λ word.
      end_at word.1 >>= λ done. length_at 65536 piece.1 >>= λ count. bytes_at count.0 count.1
      >>= λ s. Ok ((word.0, s.0), s.1)) one
      ∙ ap (λ read. read >>= λ piece. r (at p1 piece.0) >>= λ word.
      end_at word.1 >>= λ done. length_at 65536 piece.1 >>= λ count. bytes_at count.0 count.1
      >>= λ s. Ok ((word.0, s.0), s.1)) two
      ∙ ap (λ read. read >>= λ word.
      end_at word.1 >>= λ done. length_at 65536 (at p2 after_body) >>= λ count. bytes_at count.0 count.1
      >>= λ s. Ok ((word.0, s.0), s.1))
      (ap (λ x. r (at p1 x)) (sym (append-nil (t b))) ∙ three)
      ∙ ap (λ read. read >>= λ done. length_at 65536 (at p2 after_body) >>= λ count. bytes_at count.0 count.1
      >>= λ s. Ok ((b, s.0), s.1)) four
      ∙ ap (λ read. read >>= λ count. bytes_at count.0 count.1 >>= λ s. Ok ((b, s.0), s.1)) five
      ∙ ap (λ read. read >>= λ s. Ok ((b, s.0), s.1)) six
      ∙ ap (λ n. Ok ((b, sig), at n rest)) (omega (
        arith,
        length-append (u32_bytes size) (t b ++ (u32_bytes (length sig) ++ sig)),
        length-append (t b) (u32_bytes (length sig) ++ sig),
        length-append (u32_bytes (length sig)) sig,
      ))

  enclosed_sound : (v : View) (z : (B × List ℕ) × View) → IsBytes v.rest → enclosed r v ≡ Ok z
      → Parsed (enclosed_text t) (λ x. p x.0 && nat_le (length x.1) 65536) (λ x. W x.0) v z
  unfolding enclosed
  enclosed_sound v z ok h =
      let one = bind_ok (length_at (2 ^ 30) v) (λ n. bytes_at n.0 n.1 >>= λ piece. r (at n.1.place piece.0) >>= λ word.
      end_at word.1 >>= λ done. length_at 65536 piece.1 >>= λ count. bytes_at count.0 count.1
      >>= λ s. Ok ((word.0, s.0), s.1)) z h in
      let n = one.0 in
      let two = bind_ok (bytes_at n.0 n.1) (λ piece. r (at n.1.place piece.0) >>= λ word.
      end_at word.1 >>= λ done. length_at 65536 piece.1 >>= λ count. bytes_at count.0 count.1
      >>= λ s. Ok ((word.0, s.0), s.1)) z one.2 in
      let piece = two.0 in
      let three = bind_ok (r (at n.1.place piece.0)) (λ word.
      end_at word.1 >>= λ done. length_at 65536 piece.1 >>= λ count. bytes_at count.0 count.1
      >>= λ s. Ok ((word.0, s.0), s.1)) z two.2 in
      let word = three.0 in
      let four = bind_ok (end_at word.1) (λ done. length_at 65536 piece.1 >>= λ count. bytes_at count.0 count.1
      >>= λ s. Ok ((word.0, s.0), s.1)) z three.2 in
      let five = bind_ok (length_at 65536 piece.1) (λ count. bytes_at count.0 count.1
      >>= λ s. Ok ((word.0, s.0), s.1)) z four.2 in
      let count = five.0 in
      let six = bind_ok (bytes_at count.0 count.1) (λ s. Ok ((word.0, s.0), s.1)) z five.2 in
      let sig = six.0 in
      let a = (length_law (2 ^ 30)).sound v n ok one.1 in
      let ok1 = rest_bytes v n.1 (u32_bytes n.0) a.takes ok in
      let b = (Spells-bytes n.0).sound n.1 piece ok1 two.1 in
      let ok2 = rest_bytes n.1 piece.1 piece.0 b.takes ok1 in
      let ok_piece : IsBytes piece.0 = IsBytes-front piece.0 piece.1.rest (subst IsBytes b.takes.bytes ok1) in
      let c = law.sound (at n.1.place piece.0) word ok_piece three.1 in
      let none = end_none word.1 four.0 four.1 in
      let all : piece.0 ≡ t word.0 = c.takes.bytes ∙ ap (λ x. t word.0 ++ x) none ∙ append-nil (t word.0) in
      let d = (length_law 65536).sound piece.1 count ok2 five.1 in
      let ok3 = rest_bytes piece.1 count.1 (u32_bytes count.0) d.takes ok2 in
      let e = (Spells-bytes count.0).sound count.1 sig ok3 six.1 in
      let size_is : n.0 ≡ length (t word.0) = sym b.wide ∙ ap length all in
      let count_is : count.0 ≡ length sig.0 = sym e.wide in
      let t1 : Takes v n.1 (u32_bytes (length (t word.0))) = subst (λ k. Takes v n.1 (u32_bytes k)) size_is a.takes in
      let t2 : Takes n.1 piece.1 (t word.0) = subst (Takes n.1 piece.1) all b.takes in
      let t3 : Takes piece.1 count.1 (u32_bytes (length sig.0)) =
      subst (λ k. Takes piece.1 count.1 (u32_bytes k)) count_is d.takes in
      let small : nat_le (length sig.0) 65536 ≡ true = ap (λ k. nat_le k 65536) (sym count_is) ∙ d.fits in
      let t34 = Takes-append piece.1 count.1 sig.1 (u32_bytes (length sig.0)) sig.0 t3 e.takes in
      let t234 = Takes-append n.1 piece.1 sig.1 (t word.0) (u32_bytes (length sig.0) ++ sig.0) t2 t34 in
      subst (Parsed (enclosed_text t) (λ x. p x.0 && nat_le (length x.1) 65536) (λ x. W x.0) v) (ok_inj six.2)
      (record {
        fits = both_true c.fits small;
        wide = c.wide;
        takes = Takes-append v n.1 sig.1 (u32_bytes (length (t word.0)))
            (t word.0 ++ (u32_bytes (length sig.0) ++ sig.0)) t1 t234;
      })

  pub Spells-enclosed : Spells (enclosed r) (enclosed_text t) (λ x. p x.0 && nat_le (length x.1) 65536) (λ x. W x.0)
  Spells-enclosed = record {
    back = λ x place rest ok wide.
        let a = and_parts (p x.0) (nat_le (length x.1) 65536) ok in after_sig x.0 x.1 rest place a.0 wide a.1;
    sound = enclosed_sound;
  }

  pub Spells-signed : (before : Option ℕ)
      → Spells (signed_at r before) (signed_text t) (λ f. is_above before (signer_of f)
      && (p f.body && signature_fits f)) (FitsSigner W)
  unfolding signed_at
  Spells-signed before =
      let key = Spells-checked 4 u32_bytes Is32 (λ n. is_above before (Some n)) fault.BadOrder Spells-u32 in
      Spells-as (signed_text t) (λ f. is_above before (signer_of f) && (p f.body && signature_fits f)) (FitsSigner W)
      (λ f. simp append_assoc) (λ f. refl) (λ f w. w) (λ f w. w)
      (Spells-made as_signed (λ f. (f.signer, (f.body, f.sig))) (λ f. refl) (λ a. refl)
      (Spells-both key Spells-enclosed))

-- rising keys, as the definition of spellings says them
module _ {X : Type 0} (k : X → ℕ) where
  rises_from : (a : ℕ) (xs : List X) → rises (λ x. Some (k x)) (Some a) xs ≡ is_rising (a ∷ map k xs)
  rises_from a [] = refl
  rises_from a (x ∷ xs) = ap (λ b. nat_lt a (k x) && b) (rises_from (k x) xs)

  pub rises_is : (xs : List X) → is_rising (map k xs) ≡ rises (λ x. Some (k x)) None xs
  rises_is [] = refl
  rises_is (x ∷ xs) = sym (rises_from (k x) xs)

pub and_assoc : (a b c : Bool) → ((a && b) && c) ≡ (a && (b && c))
and_assoc true b c = refl
and_assoc false b c = refl

pub Spells-frames : {B : Type 0} {r : View → Reading B} {t : B → List ℕ} {p : B → Bool} {W : B → Type 0}
    → ((b : B) → p b ≡ true → W b → length (t b) ≤ 2 ^ 30) → Spells r t p W
    → Spells (frames_at r) (list_text (signed_text t)) (frames_fit p) (FitsSigners W)
Spells-frames {r = r} {t = t} {p = p} {W = W} short law =
    Spells-as (list_text (signed_text t)) (frames_fit p) (FitsSigners W) (λ fs. refl)
    (λ fs. and_assoc (nat_le (length fs) 14) (is_rising (signers_of fs))
    (list_all (λ f. p f.body && signature_fits f) fs)
    ∙ ap (λ b. nat_le (length fs) 14 && (b && list_all (λ f. p f.body && signature_fits f) fs))
    (rises_is (λ f. f.signer) fs))
    (λ f w. w) (λ f w. w)
    (Spells-list (signed_at r) signer_of (signed_text t) (λ f. p f.body && signature_fits f) (FitsSigner W)
    (Spells-signed short law) 14 (omega arith))

-- forms by the number in front of them

abbrev pub CasesSound : {X : Type 0} → Cases X → (X → ℕ) → (X → List ℕ) → (X → Bool) → (X → Type 0) → Type 0
CasesSound {X = X} cases number t p W = (k place : ℕ) (v : View) (z : X × View) →
    IsBytes v.rest → cases k place v ≡ Ok z
    → (number z.0 ≡ k) × Parsed t p W v z

pub unknown_sound : {X : Type 0} (number : X → ℕ) (t : X → List ℕ) (p : X → Bool) (W : X → Type 0) →
    CasesSound unknown number t p W
unknown_sound number t p W k place v z ok h = absurd (cc)

pub case_sound : {A X : Type 0} {r : View → Reading A} {ta : A → List ℕ} {pa : A → Bool} {Wa : A → Type 0}
    (number : X → ℕ) (t : X → List ℕ) (p : X → Bool) (W : X → Type 0) (mark : ℕ) (make : A → X) (others : Cases X)
    → ((a : A) → number (make a) ≡ mark) → ((a : A) → t (make a) ≡ ta a) → ((a : A) → p (make a) ≡ pa a) →
    ((a : A) → Wa a → W (make a))
    → Spells r ta pa Wa → CasesSound others number t p W → CasesSound (case mark make r others) number t p W
case_sound {A = A} {X = X} {r = r} {ta = ta} {pa = pa} {Wa = Wa} number t p W mark make others is_mark is_text is_fits
    wider law rest k place v z ok h =
    found (nat_eq k mark) refl h where
      found : (b : Bool) → nat_eq k mark ≡ b → (if b then made make r v else others k place v) ≡ Ok z →
          (number z.0 ≡ k) × Parsed t p W v z
      found true is h =
          let b = bind_ok (r v) (λ a. Ok (make a.0, a.1)) z h in
          let q = law.sound v b.0 ok b.1 in
          let here : k ≡ mark = eqb-true k mark is in
          subst (λ y. (number y.0 ≡ k) × Parsed t p W v y) (ok_inj b.2) (
            is_mark b.0.0 ∙ sym here,
            record {
              fits = is_fits b.0.0 ∙ q.fits;
              wide = wider b.0.0 q.wide;
              takes =
                  subst (Takes v b.0.1) (sym (is_text b.0.0)) q.takes;
            },
          )
      found false is h = rest k place v z ok h

pub made_back : {A X : Type 0} (make : A → X) (r : View → Reading A) (v : View) (a : A) (w : View) → r v ≡ Ok (a, w)
    → made make r v ≡ Ok (make a, w)
made_back make r v a w h = ap (λ read. read >>= λ y. Ok (make y.0, y.1)) h

pub Spells-chosen : {X : Type 0} (size : ℕ) (text : ℕ → List ℕ) (Wide : ℕ → Type 0) →
    Spells (number_at size) text (λ n. true) Wide
    → (cases : Cases X) (number : X → ℕ) (t : X → List ℕ) (p : X → Bool) (W : X → Type 0) → ((x : X) → Wide (number x))
    → CasesSound cases number t p W
    → ((x : X) (start place : ℕ) (rest : List ℕ) → p x ≡ true → W x
    → cases (number x) start (at place (t x ++ rest)) ≡ Ok (x, at (place + length (t x)) rest))
    → Spells (chosen size cases) (λ x. text (number x) ++ t x) p W
Spells-chosen size text Wide law cases number t p W numbers sound back = record {
  back = λ x place rest ok wide.
      ap (λ bytes. chosen size cases (at place bytes)) (append_assoc (text (number x)) (t x) rest)
      ∙ ap (λ read. read >>= λ found. cases found.0 place found.1)
      (law.back (number x) place (t x ++ rest) refl (numbers x))
      ∙ back x place (place + length (text (number x))) rest ok wide
      ∙ ap (λ n. Ok (x, at n rest)) (omega (arith, length-append (text (number x)) (t x)));
  sound = λ v z ok h.
      let b = bind_ok (number_at size v) (λ found. cases found.0 v.place found.1) z h in
      let a = law.sound v b.0 ok b.1 in
      let q = sound b.0.0 v.place b.0.1 z (rest_bytes v b.0.1 (text b.0.0) a.takes ok) b.2 in
      let takes : Takes v b.0.1 (text (number z.0)) = subst (λ n. Takes v b.0.1 (text n)) (sym q.0) a.takes in
      record {
        fits = q.1.fits;
        wide = q.1.wide;
        takes =
            Takes-append v b.0.1 z.1 (text (number z.0)) (t z.0) takes q.1.takes;
      };
}
