-- Numbers, bytes and words that are written and read again.
use Rattle.std.proofs.Common.{◌≡◌, ℕ, ◌+◌, ◌*◌, ◌-◌, ◌/◌, ◌%◌, ◌<◌, ◌≤◌, ◌^◌, ◌==◌, Bool, true, cond, not, ◌&&◌}
use Rattle.std.proofs.Common.{nat_lt, List, [], ◌∷◌, Result, Ok, Err, append_assoc, refl, sym, ◌∙◌, ap, subst, arith}
use Rattle.std.specs.Prelude.{codes, decimal, slice_index}
use Rattle.std.specs.List.{list_all}
use Rattle.std.specs.Char.{is_ascii_digit}
use Rattle.std.specs.Str.{IsUtf8, is_utf8}
use Rattle.std.proofs.lemmas.Bool.{and_parts, and_from, lt-ltb}
use Rattle.std.proofs.lemmas.Str.{IsUtf8-from_ascii, is_utf8-from_IsUtf8}
use Rattle.hex.specs.Hex.{encode_lower, encode_with, lower_digits}
use Rattle.script_grammar.specs.Faults.{bad}
use Rattle.script_grammar.specs.Lines.{words_of}
use Rattle.script_grammar.specs.Numbers.{within}
use Rattle.parity_parts.specs.declared.part.Part.{Part}
use Rattle.parity_parts.specs.Parts.{AreBytes}
use Rattle.part_lines.specs.Reading.{line_words}
use Rattle.part_lines.specs.Texts.{digest_words, part_words, spaced}
use Rattle.script_grammar.proofs.Worded.{uncut, is_line_byte, is_word_byte, digit_word, all_of_both, is_word}
use Rattle.script_grammar.proofs.Worded.{digits_all, ascii, are_words, cut_at, no_space, of_line}
use Rattle.plain_lists.proofs.Lists.{all_weaker}

-- ---- Numbers.

-- ---- Words: their bytes are letters and digits.

digit_in_word : (b : ℕ) → is_ascii_digit b ≡ true → is_word_byte b ≡ true
digit_in_word b is =
    let within : (48 ≤ b) × (b ≤ 57) = (grind arith, grind arith) in
    and_from (nat_lt 32 b) (nat_lt b 128) (lt-ltb 32 b (omega (arith, within.0)))
    (lt-ltb b 128 (omega (arith, within.1)))

number_is_word : (n : ℕ) → n < 2 ^ 64 → is_word (decimal n) ≡ true
number_is_word n small = all_weaker is_ascii_digit is_word_byte (decimal n) digit_in_word (digits_all n small)

hex_is_word : (bytes : List ℕ) → AreBytes bytes → is_word (encode_lower bytes) ≡ true
unfolding encode_with
hex_is_word [] are = refl
hex_is_word (b ∷ bytes) are =
    and_from (is_word_byte (slice_index lower_digits (b / 16))) (is_word_byte (slice_index lower_digits (b % 16))
    && is_word (encode_lower bytes))
    (digit_word (b / 16) (omega (arith, are.0)))
    (and_from (is_word_byte (slice_index lower_digits (b % 16))) (is_word (encode_lower bytes))
    (digit_word (b % 16) (omega arith)) (hex_is_word bytes are.1))

pub digest_is_words : (digest : List ℕ) → AreBytes digest → are_words (digest_words digest) ≡ true
digest_is_words digest are = and_from (is_word (encode_lower digest)) true (hex_is_word digest are) refl

pub part_is_words : (part : Part) → part.master < 2 ^ 64 → part.length < 2 ^ 64 → AreBytes part.bytes →
    are_words (part_words part) ≡ true
part_is_words part few short are =
    and_from (is_word (decimal part.master))
    (is_word (decimal part.length) && (is_word (encode_lower part.bytes) && true)) (number_is_word part.master few)
    (and_from (is_word (decimal part.length)) (is_word (encode_lower part.bytes) && true)
    (number_is_word part.length short)
    (and_from (is_word (encode_lower part.bytes)) true (hex_is_word part.bytes are) refl))

-- ---- Words with one space between each two are cut again.

words_back : (w : List ℕ) (ws : List (List ℕ)) → are_words (w ∷ ws) ≡ true → words_of (spaced (w ∷ ws)) ≡ w ∷ ws
words_back w [] all = uncut (λ b. b == 32) w
    (all_weaker is_word_byte (λ b. not (b == 32)) w no_space (and_parts (is_word w) (are_words []) all).0)
words_back w (v ∷ ws) all =
    let parts = and_parts (is_word w) (are_words (v ∷ ws)) all in
    cut_at (λ b. b == 32) w 32 (spaced (v ∷ ws)) (all_weaker is_word_byte (λ b. not (b == 32)) w no_space parts.0) refl
    ∙ ap (λ (rest : List (List ℕ)). w ∷ rest) (words_back v ws parts.1)

pub line_bytes : (ws : List (List ℕ)) → are_words ws ≡ true → list_all is_line_byte (spaced ws) ≡ true
line_bytes [] all = refl
line_bytes (w ∷ []) all = all_weaker is_word_byte is_line_byte w of_line (and_parts (is_word w) (are_words []) all).0
line_bytes (w ∷ v ∷ ws) all =
    let parts = and_parts (is_word w) (are_words (v ∷ ws)) all in
    all_of_both is_line_byte w (32 ∷ spaced (v ∷ ws)) (all_weaker is_word_byte is_line_byte w of_line parts.0)
    (line_bytes (v ∷ ws) parts.1)

-- the words of a line are those that it was made of
pub line_words_back : (w : List ℕ) (ws : List (List ℕ)) → are_words (w ∷ ws) ≡ true →
    line_words (spaced (w ∷ ws)) ≡ Ok (w ∷ ws)
unfolding line_words
line_words_back w ws all =
    let is_text : is_utf8 (spaced (w ∷ ws)) ≡ true =
    is_utf8-from_IsUtf8 (spaced (w ∷ ws))
    (IsUtf8-from_ascii (spaced (w ∷ ws)) (ascii (spaced (w ∷ ws)) (line_bytes (w ∷ ws) all))) in
    ap (λ (b : Bool). cond b (Ok (words_of (spaced (w ∷ ws)))) bad) is_text
    ∙ ap Ok (words_back w ws all)
