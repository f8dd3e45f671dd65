-- The lines of a printed run before its history are passed over.
use Rattle.std.proofs.Common.{◌≡◌, ℕ, zero, suc, ◌+◌, ◌/◌, ◌%◌, ◌<◌, ◌==◌, Bool, true, false, cond, ◌&&◌, nat_lt}
use Rattle.std.proofs.Common.{List, [], ◌∷◌, ◌++◌, length, take, drop, append_assoc, refl, ◌∙◌, ap, arith}
use Rattle.std.specs.Prelude.{codes, decimal}
use Rattle.std.specs.Fmt.{digits, digits_onto, digit_glyph}
use Rattle.std.specs.Cmp.Lexicographic.{pointwise}
use Rattle.std.specs.List.{list_all, flat_map}
use Rattle.std.proofs.lemmas.Bool.{and_parts, and_from, ne_eqb, lt-ltb, ltb-true}
use Rattle.std.proofs.lemmas.List.Splits.{length-slice_split}
use Rattle.scenario_file.specs.declared.actors.Cast.{Cast}
use Rattle.run_lines.specs.Texts.{numbered_lines}
use Rattle.run_lines.specs.Runs.{pieces, counts, count_in, counted, after_heads}
use Rattle.printed_laws.specs.Lines.{IsPassed}
use Rattle.printed_laws.proofs.WordsCutAgain.{line_first}
use Rattle.script_grammar.proofs.Worded.{is_line_byte}
use Rattle.plain_lists.proofs.Lists.{all_weaker}

-- a number is written in digits, however great it is

abbrev pub is_digit : ℕ → Bool
is_digit b = nat_lt 47 b && nat_lt b 58

digit_is : (n : ℕ) → is_digit (digit_glyph false (n % 10)) ≡ true
digit_is n =
    let low : n % 10 < 10 = omega arith in
    let glyph : digit_glyph false (n % 10) ≡ 48 + n % 10 =
    ap (λ b. cond b (48 + n % 10) (87 + n % 10)) (lt-ltb (n % 10) 10 low) in
    ap is_digit glyph ∙ and_from (nat_lt 47 (48 + n % 10)) (nat_lt (48 + n % 10) 58)
    (lt-ltb 47 (48 + n % 10) (omega arith)) (lt-ltb (48 + n % 10) 58 (omega arith))

either : (b : Bool) (xs ys : List ℕ) → list_all is_digit xs ≡ true → list_all is_digit ys ≡ true →
    list_all is_digit (cond b xs ys) ≡ true
either true xs ys one other = one
either false xs ys one other = other

either_some : (b : Bool) (xs ys : List ℕ) → 0 < length xs → 0 < length ys → 0 < length (cond b xs ys)
either_some true xs ys one other = one
either_some false xs ys one other = other

digits_are : (k n : ℕ) (acc : List ℕ) → list_all is_digit acc ≡ true →
    list_all is_digit (digits_onto k 10 false n acc) ≡ true
digits_are zero n acc all = all
digits_are (suc k) n acc all =
    let more = and_from (is_digit (digit_glyph false (n % 10))) (list_all is_digit acc) (digit_is n) all in
    either (n / 10 == 0) (digit_glyph false (n % 10) ∷ acc)
    (digits_onto k 10 false (n / 10) (digit_glyph false (n % 10) ∷ acc)) more
    (digits_are k (n / 10) (digit_glyph false (n % 10) ∷ acc) more)

digits_some : (k n : ℕ) (acc : List ℕ) → 0 < length acc → 0 < length (digits_onto k 10 false n acc)
digits_some zero n acc some = some
digits_some (suc k) n acc some =
    either_some (n / 10 == 0) (digit_glyph false (n % 10) ∷ acc)
    (digits_onto k 10 false (n / 10) (digit_glyph false (n % 10) ∷ acc)) (omega arith)
    (digits_some k (n / 10) (digit_glyph false (n % 10) ∷ acc) (omega arith))

pub numeral_digits : (n : ℕ) → list_all is_digit (decimal n) ≡ true
unfolding digits
numeral_digits n = digits_are 64 n [] refl

numeral_some : (n : ℕ) → 0 < length (decimal n)
unfolding digits
numeral_some n =
    either_some (n / 10 == 0) (digit_glyph false (n % 10) ∷ [])
    (digits_onto 63 10 false (n / 10) (digit_glyph false (n % 10) ∷ [])) (omega arith)
    (digits_some 63 (n / 10) (digit_glyph false (n % 10) ∷ []) (omega arith))

digit_in_line : (b : ℕ) → is_digit b ≡ true → is_line_byte b ≡ true
digit_in_line b is =
    let parts = and_parts (nat_lt 47 b) (nat_lt b 58) is in
    let low : 47 < b = ltb-true 47 b parts.0 in
    let high : b < 58 = ltb-true b 58 parts.1 in
    and_from (nat_lt 31 b) (nat_lt b 128) (lt-ltb 31 b (omega arith)) (lt-ltb b 128 (omega arith))

pub numeral_line : (n : ℕ) → list_all is_line_byte (decimal n) ≡ true
numeral_line n = all_weaker is_digit is_line_byte (decimal n) digit_in_line (numeral_digits n)

-- a line that begins with a digit doesn't tell how many entries follow
digit_counts : (ds rest : List ℕ) → 0 < length ds → list_all is_digit ds ≡ true → counts (ds ++ rest) ≡ false
digit_counts [] rest some all = absurd (omega arith)
digit_counts (d ∷ ds) rest some all =
    let parts = and_parts (is_digit d) (list_all is_digit ds) all in
    let high : d < 58 = ltb-true d 58 (and_parts (nat_lt 47 d) (nat_lt d 58) parts.0).1 in
    other d (ds ++ rest) (λ (is : 104 ≡ d). omega arith)
  where
    other : (x : ℕ) (xs : List ℕ) → (104 ≡ x → ⊥) → counts (x ∷ xs) ≡ false
    other x xs apart = ap (λ (b : Bool). b && pointwise (λ a e. a == e) (codes "istory ") (take 7 xs))
        (ne_eqb 104 x apart)

pub numeral_counts : (n : ℕ) (rest : List ℕ) → counts (decimal n ++ rest) ≡ false
numeral_counts n rest = digit_counts (decimal n) rest (numeral_some n) (numeral_digits n)

none_passed : IsPassed []
none_passed cast number rest = (number, refl)

pub both_passed : (a b : List ℕ) → IsPassed a → IsPassed b → IsPassed (a ++ b)
both_passed a b one two cast number rest =
    let first = one cast number (b ++ rest) in
    let second = two cast first.0 rest in
    (second.0, ap (λ (bs : List ℕ). after_heads cast number (pieces bs)) (append_assoc a b rest) ∙ first.1 ∙ second.1)

pub each_passed : {X : Type 0} (f : X → List ℕ) (xs : List X) → ((x : X) → IsPassed (f x)) → IsPassed (flat_map f xs)
each_passed f [] each = none_passed
each_passed f (x ∷ xs) each = both_passed (f x) (flat_map f xs) (each x) (each_passed f xs each)

pub numbered_passed : {X : Type 0} (f : ℕ → X → List ℕ) (n : ℕ) (xs : List X) → ((k : ℕ) (x : X) → IsPassed (f k x)) →
    IsPassed (numbered_lines f n xs)
numbered_passed f n [] each = none_passed
numbered_passed f n (x ∷ xs) each = both_passed (f n x) (numbered_lines f (n + 1) xs) (each n x)
    (numbered_passed f (n + 1) xs each)

pub some_piece : (rest : List ℕ) → pieces rest ≡ [] → ⊥
some_piece rest none =
    let size = length-slice_split (λ b. b == 10) rest in
    let zero_size : length (pieces rest) ≡ 0 = ap length none in
    omega (arith, size, zero_size)

head_passed : (cast : Cast) (number : ℕ) (line : List ℕ) (ps : List (List ℕ)) → (ps ≡ [] → ⊥) → counts line ≡ false →
    after_heads cast number (line ∷ ps) ≡ after_heads cast (number + 1) ps
head_passed cast number line [] some other = absurd (some refl)
head_passed cast number line (next ∷ more) some other =
    ap (λ b. cond b (counted cast number (count_in (drop 8 line)) (next ∷ more))
    (after_heads cast (number + 1) (next ∷ more))) other

pub line_passed : (bs : List ℕ) → list_all is_line_byte bs ≡ true → counts bs ≡ false → IsPassed (bs ++ codes "\n")
line_passed bs all other cast number rest = (
  number + 1,
  ap (λ (cs : List ℕ). after_heads cast number (pieces cs)) (append_assoc bs (codes "\n") rest)
      ∙ ap (after_heads cast number) (line_first bs rest all)
      ∙ head_passed cast number bs (pieces rest) (some_piece rest) other,
)
