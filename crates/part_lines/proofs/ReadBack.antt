-- The lines of parts that are printed are read as those parts.
use Rattle.std.proofs.Common.{◌≡◌, ◌<◌, ◌≤◌, ◌+◌, ◌-◌, ◌^◌, ℕ, Bool, true, false, cond, not, if◌then◌else◌, ◌==◌}
use Rattle.std.proofs.Common.{nat_eq, nat_le, zero, suc, List, [], ◌∷◌, ◌++◌, length, map, codes, Result, Ok, Err}
use Rattle.std.proofs.Common.{append_assoc, refl, sym, ◌∙◌, ap, subst, arith}
use Rattle.std.specs.Prelude.{decimal}
use Rattle.std.specs.List.{AllByRecursion, flat_map, list_all}
use Rattle.std.proofs.lemmas.Bool.{eq-eqb, le-leb}
use Rattle.hex.specs.Hex.{IsBytes, encode_lower, decode_of, decode_sized}
use Rattle.hex.proofs.HexLemmas.{decode_of-encode_lower, decode_sized-encode_lower}
use Rattle.run_lines.specs.Runs.{pieces}
use Rattle.script_grammar.specs.Faults.{Answer, bad, both}
use Rattle.script_grammar.specs.Numbers.{number_in, hex_bytes}
use Rattle.parity_parts.specs.declared.part.Part.{Part}
use Rattle.parity_parts.specs.Parts.{AreBytes, width}
use Rattle.parity_parts.specs.Rebuilding.{CanBePart}
use Rattle.part_lines.specs.declared.told.Told.{Told}
use Rattle.part_lines.specs.Laws.{RiseFrom, IsWritten}
use Rattle.part_lines.specs.Reading.{Reading, bad_line, and_then, bytes_of, digest_of, master_in, fitting}
use Rattle.part_lines.specs.Reading.{digest_of_words, fields_of_words, line_words, digest_in, part_in, from_least}
use Rattle.part_lines.specs.Reading.{before, each_line, rising, told, behind_digest, told_by, told_in}
use Rattle.part_lines.specs.Texts.{digest_words, part_words, spaced, line_of, parts_text}
use Rattle.part_lines.proofs.Spelled.{line_bytes, line_words_back, digest_is_words, part_is_words}
use Rattle.part_lines.proofs.Cutting.{lines_at, told_by_digest}
use Rattle.script_grammar.proofs.Worded.{number_between, is_line_byte, no_feed, cut_at}
use Rattle.plain_lists.proofs.Lists.{all_weaker}

pub bytes_at : (bytes : List ℕ) → AreBytes bytes → IsBytes bytes
bytes_at [] are i = omega arith
bytes_at (b ∷ bytes) are zero = are.0
bytes_at (b ∷ bytes) are (suc i) = bytes_at bytes are.1 i

bytes_back : (bytes : List ℕ) → AreBytes bytes → bytes_of (encode_lower bytes) ≡ Ok bytes
unfolding bytes_of
bytes_back bytes are = ap hex_bytes (decode_of-encode_lower bytes (bytes_at bytes are))

digest_back : (digest : List ℕ) → length digest ≡ 32 → AreBytes digest → digest_of (encode_lower digest) ≡ Ok digest
unfolding digest_of
digest_back digest long are = ap hex_bytes (decode_sized-encode_lower digest 32 long (bytes_at digest are))

master_back : (n m : ℕ) → m < n → n < 2 ^ 32 → master_in n (codes "m" ++ decimal m) ≡ Ok m
unfolding master_in
master_back n m low few = number_between 0 (n - 1) m (omega arith) (omega arith) (omega arith)

fields_back : (n f : ℕ) (part : Part) → n < 2 ^ 32 → IsWritten n f part →
    fields_of_words n (part_words part) ≡ Ok (part.master, (part.length, part.bytes))
fields_back n f part few is = λ i. both (master_back n part.master is.0.2.0 few i)
    (both (number_between 1 65536 part.length is.0.0 is.0.1 (omega (arith, is.0.1)) i) (bytes_back part.bytes is.1 i))

-- a part that is printed is read as that part
pub part_back : (n f : ℕ) (part : Part) → n < 2 ^ 32 → IsWritten n f part →
    part_in n f (spaced (part_words part)) ≡ Ok part
unfolding part_in
part_back n f part few is =
    let low : part.master < n = is.0.2.0 in
    let short : part.length ≤ 65536 = is.0.1 in
    let words : line_words (spaced (part_words part)) ≡ Ok (part_words part) =
    line_words_back (codes "m" ++ decimal part.master) (decimal part.length ∷ encode_lower part.bytes ∷ [])
    (part_is_words part (omega arith) (omega arith) is.1) in
    ap (λ a. and_then (fitting f) (and_then (fields_of_words n) a)) words
    ∙ ap (and_then (fitting f)) (fields_back n f part few is)
    ∙ ap (λ (b : Bool). if b then Ok part else bad) (eq-eqb (length part.bytes) (width f part.length) is.0.2.2)

pub digest_line_back : (digest : List ℕ) → length digest ≡ 32 → AreBytes digest →
    digest_in (spaced (digest_words digest)) ≡ Ok digest
unfolding digest_in
digest_line_back digest long are =
    ap (and_then digest_of_words)
    (line_words_back (codes "digest") (encode_lower digest ∷ []) (digest_is_words digest are))
    ∙ digest_back digest long are

-- a line before others is the first piece
pub line_first : (words : List (List ℕ)) (rest : List ℕ) → list_all is_line_byte (spaced words) ≡ true →
    pieces (line_of words ++ rest) ≡ spaced words ∷ pieces rest
unfolding line_of
line_first words rest all =
    ap pieces (append_assoc (spaced words) (codes "\n") rest)
    ∙ cut_at (λ b. b == 10) (spaced words) 10 rest
    (all_weaker is_line_byte (λ b. not (b == 10)) (spaced words) no_feed all) refl

abbrev pub lines_of : List Part → List ℕ
lines_of parts = flat_map (λ part. line_of (part_words part)) parts

pub part_bytes_line : (n f : ℕ) (part : Part) → n < 2 ^ 32 → IsWritten n f part →
    list_all is_line_byte (spaced (part_words part)) ≡ true
part_bytes_line n f part few is =
    let low : part.master < n = is.0.2.0 in
    let short : part.length ≤ 65536 = is.0.1 in
    line_bytes (part_words part) (part_is_words part (omega arith) (omega arith) is.1)

lines_back : (n f : ℕ) (parts : List Part) → n < 2 ^ 32 → AllByRecursion (IsWritten n f) parts →
    each_line (part_in n f) (pieces (lines_of parts)) ≡ map (λ part. Ok part) parts
lines_back n f [] few are = refl
lines_back n f (part ∷ parts) few are =
    lines_at (part_in n f) (lines_of (part ∷ parts)) (spaced (part_words part)) (lines_of parts)
    (line_first (part_words part) (lines_of parts) (part_bytes_line n f part few are.0))
    ∙ (λ i. part_back n f part few are.0 i ∷ lines_back n f parts few are.1 i)

rising_back : (least number : ℕ) (parts : List Part) → RiseFrom least parts →
    rising least number (map (λ part. Ok part) parts) ≡ Ok parts
rising_back least number [] rise = refl
rising_back least number (part ∷ parts) rise =
    ap (λ (b : Bool). by (if b then Ok part else bad)) (le-leb least part.master rise.0)
    ∙ ap (before part) (rising_back (part.master + 1) (number + 1) parts rise.1)
  where
    by : Answer Part → Reading (List Part)
    by a = elim a [
      | Ok p ↦ before p (rising (p.master + 1) (number + 1) (map (λ q. Ok q) parts))
      | Err e ↦ bad_line number
    ]

-- so is a whole text of parts
pub printed_parts_are_read : (n f : ℕ) (digest : List ℕ) (parts : List Part) → n < 2 ^ 32 →
    length digest ≡ 32 → AreBytes digest
    → RiseFrom 0 parts → AllByRecursion (IsWritten n f) parts →
    told_in n f (parts_text digest parts) ≡ Ok (record { digest = digest; parts = parts })
printed_parts_are_read n f digest parts few long are rise written =
    told_by_digest n f (parts_text digest parts) (spaced (digest_words digest)) (lines_of parts)
    (line_first (digest_words digest) (lines_of parts) (line_bytes (digest_words digest) (digest_is_words digest are)))
    ∙ ap (λ a. behind_digest n f a (pieces (lines_of parts))) (digest_line_back digest long are)
    ∙ ap (λ ls. told digest (rising 0 2 ls)) (lines_back n f parts few written)
    ∙ ap (told digest) (rising_back 0 2 parts rise)
