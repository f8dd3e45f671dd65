-- Each entry of a list took a line of its file, whose digest alone has 72 bytes.
use Rattle.std.proofs.Common.{◌≡◌, ◌≤◌, ◌+◌, ◌*◌, ◌==◌, ℕ, Bool, true, false, cond, List, [], ◌∷◌, ◌++◌, Option, Some, None}
use Rattle.std.proofs.Common.{Ok, Err, length, codes, refl, ap, subst, arith, sym}
use Rattle.std.proofs.lemmas.List.{length-append}
use Rattle.std.proofs.lemmas.List.Splits.{slice_split-cons_no, slice_split-cons_yes}
use Rattle.std.specs.List.{flat_map, onto_first, slice_split}
use Rattle.std.specs.Str.{bytes_eq}
use Rattle.hex.specs.Hex.{encode_lower, lower_digits}
use Rattle.hex.proofs.HexLemmas.{length-encode_with}
use Rattle.sha2.proofs.Facts256.{length-sha256}
use Rattle.message_types.specs.Texts.{frame_text}
use Rattle.scenario_file.specs.Reading.{Contents, cast_of}
use Rattle.script_grammar.specs.Faults.{Answer}
use Rattle.history_rules.specs.Events.{Entry}
use Rattle.world_rules.specs.Scenarios.{setup_of}
use Rattle.agreement.proofs.FramesInside.{bytes_same}
use Rattle.run_lines.specs.declared.entry_line.EntryLine.{EntryLine}
use Rattle.run_lines.specs.Reading.{entry_line_in}
use Rattle.run_lines.specs.Runs.{pieces}
use Rattle.kept_lines.specs.declared.refusal.KeptRefusal.TheVariants as refusal
use Rattle.kept_lines.specs.Lines.{digest_of, digest_words, entry_words, frames_said, kept_line}
use Rattle.kept_lines.specs.Reading.{Reading, entry_part, entry_told, kept_so, told_so, line_in, lines_in, kept_in}
use Rattle.joined_histories.specs.Files.{bytes_in}

-- ---- A line.

line_long : (c : Contents) (before : List Entry) (e : Entry) → 72 ≤ length (kept_line c before e)
unfolding kept_line
line_long c before e =
    let said = frames_said c before e in
    let words = entry_words (cast_of c.settings c.plant) e in
    let all : length (words ++ digest_words said) ≡ length words + length (digest_words said) =
    length-append words (digest_words said) in
    let its : length (digest_words said) ≡ 8 + length (encode_lower (digest_of said)) =
    length-append (codes " digest ") (encode_lower (digest_of said)) in
    let digits : length (encode_lower (digest_of said)) ≡ 2 * length (digest_of said) =
    length-encode_with lower_digits (digest_of said) in
    let bytes : length (digest_of said) ≡ 32 = length-sha256 (flat_map frame_text said) in
    omega arith

-- a line that was read is the one that is kept of its entry
line_read : (c : Contents) (actor : ℕ) (before : List Entry) (line : List ℕ) (e : Entry) →
    line_in c actor before line ≡ Ok e → 72 ≤ length line
unfolding line_in
line_read c actor before line e is = by (entry_line_in (cast_of c.settings c.plant) (entry_part line)) is
  where
    same : (x : Entry) (b : Bool) → bytes_eq line (kept_line c before x) ≡ b →
        cond b (Ok x) (Err (refusal.OtherWords (length before))) ≡ Ok e → 72 ≤ length line
    same x true told so =
        subst (λ (l : List ℕ). 72 ≤ length l) (sym (bytes_same line (kept_line c before x) told)) (line_long c before x)
    same x false told so = absurd (cc)

    at : (o : Option Entry) → kept_so c before line o ≡ Ok e → 72 ≤ length line
    at None so = absurd (cc)
    at (Some x) so = same x (bytes_eq line (kept_line c before x)) refl so

    by : (a : Answer EntryLine) → told_so c actor before line a ≡ Ok e → 72 ≤ length line
    by (Ok l) so = at (entry_told (setup_of c) actor before l) so
    by (Err f) so = absurd (cc)

-- ---- All lines.

-- the lines behind one
abbrev behind : Contents → ℕ → List Entry → List (List ℕ) → Reading Entry → Reading (List Entry)
behind c actor before parts r =
    elim r [ Err e ↦ Err e | Ok e ↦ lines_in c actor (before ++ e ∷ []) parts ]

lines_short : (c : Contents) (actor : ℕ) (before list : List Entry) (parts : List (List ℕ)) →
    lines_in c actor before parts ≡ Ok list → length list * 72 ≤ length before * 72 + bytes_in parts
lines_short c actor before list [] is =
    let same : before ≡ list = cc in
    let long : length before ≡ length list = ap length same in
    omega arith
lines_short c actor before list (torn ∷ []) is =
    let same : before ≡ list = cc in
    let long : length before ≡ length list = ap length same in
    omega arith
lines_short c actor before list (line ∷ next ∷ more) is =
    by (line_in c actor before line) refl is (λ e. lines_short c actor (before ++ e ∷ []) list (next ∷ more))
  where
    by : (r : Reading Entry) → line_in c actor before line ≡ r →
        behind c actor before (next ∷ more) r ≡ Ok list →
        ((e : Entry) → lines_in c actor (before ++ e ∷ []) (next ∷ more) ≡ Ok list →
        length list * 72 ≤ length (before ++ e ∷ []) * 72 + bytes_in (next ∷ more)) →
        length list * 72 ≤ length before * 72 + bytes_in (line ∷ next ∷ more)
    by (Err e) told is rest = absurd (cc)
    by (Ok e) told is rest =
        let few : length list * 72 ≤ length (before ++ e ∷ []) * 72 + bytes_in (next ∷ more) = rest e is in
        let one : length (before ++ e ∷ []) ≡ length before + 1 = length-append before (e ∷ []) in
        let its : 72 ≤ length line = line_read c actor before line e told in
        omega arith

-- ---- A file's pieces.

abbrev is_feed : ℕ → Bool
is_feed b = b == 10

onto_longer : (x : ℕ) (parts : List (List ℕ)) → bytes_in (onto_first x parts) ≤ bytes_in parts + 1
onto_longer x [] = omega arith
onto_longer x (part ∷ parts) = omega arith

pieces_short : (bytes : List ℕ) → bytes_in (slice_split is_feed bytes) ≤ length bytes
pieces_short [] = omega arith
pieces_short (x ∷ xs) = by (is_feed x) refl (pieces_short xs)
  where
    by : (b : Bool) → is_feed x ≡ b → bytes_in (slice_split is_feed xs) ≤ length xs →
        bytes_in (slice_split is_feed (x ∷ xs)) ≤ length (x ∷ xs)
    by true feed rest =
        let cut : bytes_in (slice_split is_feed (x ∷ xs)) ≡ 0 + bytes_in (slice_split is_feed xs) =
        ap bytes_in (slice_split-cons_yes is_feed x xs feed) in
        omega arith
    by false other rest =
        let longer = onto_longer x (slice_split is_feed xs) in
        let cut : bytes_in (slice_split is_feed (x ∷ xs)) ≡ bytes_in (onto_first x (slice_split is_feed xs)) =
        ap bytes_in (slice_split-cons_no is_feed x xs other) in
        omega arith

pub list_short : (c : Contents) (actor : ℕ) (bytes : List ℕ) (list : List Entry) → kept_in c actor bytes ≡ Ok list →
    length list * 72 ≤ length bytes
unfolding kept_in
list_short c actor bytes list is =
    let fewer : bytes_in (pieces bytes) ≤ length bytes = pieces_short bytes in
    let most : length list * 72 ≤ 0 * 72 + bytes_in (pieces bytes) = lines_short c actor [] list (pieces bytes) is in
    omega arith
