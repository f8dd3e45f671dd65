-- From f + 1 lines of a text's own parts a text of the digest is rebuilt: each of these lines is read as its part, so
-- as many of the parts that were read are the text's.
use Rattle.std.proofs.Common.{◌≡◌, ◌<◌, ◌≤◌, ◌+◌, ◌^◌, ℕ, zero, suc, Bool, true, false, cond, if◌then◌else◌, ◌&&◌}
use Rattle.std.proofs.Common.{◌||◌, nat_eq, List, [], ◌∷◌, ◌++◌, length, map, filter, drop, codes, Option, Some, None}
use Rattle.std.proofs.Common.{Result, Ok, Err, refl, sym, ◌∙◌, ap, subst, arith}
use Rattle.std.specs.Prelude.{decimal}
use Rattle.std.specs.List.{AllByRecursion, list_any, range_with_len}
use Rattle.std.specs.Str.{bytes_eq}
use Rattle.std.proofs.lemmas.Bool.{and_from, eq-eqb}
use Rattle.std.proofs.lemmas.List.Folds.{list_any-append}
use Rattle.std.proofs.lemmas.List.FromFn.{length-map-range_with_len}
use Rattle.std.proofs.lemmas.Slice.Eq.{bytes_eq-Decides}
use Rattle.hex.specs.Hex.{encode_lower}
use Rattle.sha2.specs.Sha256.{sha256}
use Rattle.quorum_sets.specs.Masters.{numbers_below}
use Rattle.quorum_sets.specs.Quorum.{IsGroup, group_size}
use Rattle.scenario_file.specs.Reading.{Contents}
use Rattle.script_grammar.specs.Faults.{Answer, bad}
use Rattle.run_lines.specs.Runs.{pieces, is_empty}
use Rattle.parity_parts.specs.declared.part.Part.{Part}
use Rattle.parity_parts.specs.Field.{value}
use Rattle.parity_parts.specs.Parts.{AreBytes, AreDifferent, column, is_part_of, masters, part_byte, part_bytes}
use Rattle.parity_parts.specs.Parts.{width}
use Rattle.parity_parts.specs.Rebuilding.{CanBePart, HasEnoughOf, rebuilt, wrong_masters}
use Rattle.parity_parts.proofs.Finding.{is_found, rebuilt_digest}
use Rattle.parity_parts.proofs.Joins.{column_bytes, drop_bytes}
use Rattle.parity_parts.proofs.Polynomials.{value_byte}
use Rattle.part_lines.specs.declared.told.Told.{Told}
use Rattle.part_lines.specs.Laws.{IsWritten, own_part, is_own_line, HasEnoughLines, IsRebuilt}
use Rattle.part_lines.specs.Reading.{Reading, and_then, digest_of_words, digest_in, part_in, each_line, rising}
use Rattle.part_lines.specs.Reading.{told_in}
use Rattle.part_lines.specs.Rebuilding.{or_no_text, rebuilt_of, told_for, rebuilt_in}
use Rattle.part_lines.specs.Texts.{part_words, spaced, rebuilt_lines}
use Rattle.part_lines.proofs.Spelled.{line_words_back, part_is_words}
use Rattle.part_lines.proofs.Steps.{Rises, rises, IsTold, is_told, told_differ, told_can}
use Rattle.part_lines.proofs.ReadBack.{part_back}

-- ---- The parts of a text are in bytes, as many as they are to be.

all_mapped : (g : ℕ → ℕ) (xs : List ℕ) → ((x : ℕ) → g x < 256) → AreBytes (map g xs)
all_mapped g [] each = tt
all_mapped g (x ∷ xs) each = (each x, all_mapped g xs each)

own_bytes : (f master : ℕ) (text : List ℕ) → AreBytes text → AreBytes (part_bytes f master text)
unfolding part_bytes
own_bytes f master text are =
    let step : ℕ = width f (length text) in
    all_mapped (part_byte f step master text) (range_with_len 0 step)
    (λ place. value_byte (column step (f + 1) (drop place text)) master
    (column_bytes step (f + 1) (drop place text) (drop_bytes place text are)))

own_width : (f master : ℕ) (text : List ℕ) → length (part_bytes f master text) ≡ width f (length text)
unfolding part_bytes
own_width f master text = length-map-range_with_len (part_byte f (width f (length text)) master text)
    0 (width f (length text))

pub own_written : (n f master : ℕ) (text : List ℕ) → master < n → 1 ≤ length text → length text ≤ 65536 →
    AreBytes text → IsWritten n f (own_part f text master)
own_written n f master text low some few are =
    ((some, few, (low, refl, own_width f master text)), own_bytes f master text are)

own_is_own : (f master : ℕ) (text : List ℕ) → is_part_of f text (own_part f text master) ≡ true
own_is_own f master text =
    and_from (nat_eq (length text) (length text)) (bytes_eq (part_bytes f master text) (part_bytes f master text))
    (eq-eqb (length text) (length text) refl)
    ((bytes_eq-Decides (part_bytes f master text) (part_bytes f master text)).1 refl)

-- ---- A line of an own part.

pub record Found (p : ℕ → Bool) (n : ℕ) : Type 0 where
  pub number : ℕ
  pub low : number < n
  pub passes : p number ≡ true

found : (p : ℕ → Bool) (n : ℕ) → list_any p (numbers_below n) ≡ true → Found p n
unfolding numbers_below
found p zero is = absurd (cc)
found p (suc n) is = by (list_any p (numbers_below n)) (p n) refl refl
    (sym (list_any-append p (numbers_below n) (n ∷ [])) ∙ is) (found p n)
  where
    by : (a b : Bool) → list_any p (numbers_below n) ≡ a → p n ≡ b →
        list_any p (numbers_below n) || (p n || false) ≡ true
        → (list_any p (numbers_below n) ≡ true → Found p n) → Found p (suc n)
    by true b among here is deeper = let there = deeper among in let low = there.low in
        record { number = there.number; low = omega (arith, low); passes = there.passes }
    by false true among here is deeper = record { number = n; low = omega arith; passes = here }
    by false false among here is deeper = absurd (cc)

pub record OwnLine (n f : ℕ) (text line : List ℕ) : Type 0 where
  pub master : ℕ
  pub low : master < n
  pub line_is : line ≡ spaced (part_words (own_part f text master))

own_line : (n f : ℕ) (text line : List ℕ) → is_own_line n f text line ≡ true → OwnLine n f text line
own_line n f text line is =
    let there = found (λ master. bytes_eq line (spaced (part_words (own_part f text master)))) n is in
    record {
      master = there.number;
      low = there.low;
      line_is =
          (bytes_eq-Decides line (spaced (part_words (own_part f text there.number)))).0 there.passes;
    }

-- it is no line of a digest
no_digest : (n f : ℕ) (text line digest : List ℕ) → n < 2 ^ 32 → 1 ≤ length text → length text ≤ 65536 →
    AreBytes text → digest_in line ≡ Ok digest
    → is_own_line n f text line ≡ true → ⊥
unfolding digest_in
no_digest n f text line digest many some few are is own =
    let mine = own_line n f text line own in
    let low : mine.master < n = mine.low in
    let part : Part = own_part f text mine.master in
    let refused : digest_in line ≡ bad =
    ap digest_in mine.line_is
    ∙ ap (and_then digest_of_words)
    (line_words_back (codes "m" ++ decimal mine.master)
    (decimal (length text) ∷ encode_lower (part_bytes f mine.master text) ∷ [])
    (part_is_words part (omega arith) (omega arith) (own_bytes f mine.master text are))) in
    let wrong : Ok digest ≡ bad = sym is ∙ refused in
    absurd (cc)

-- it is read as the own part
own_read : (n f : ℕ) (text line : List ℕ) (part : Part) → n < 2 ^ 32 → 1 ≤ length text → length text ≤ 65536 →
    AreBytes text → part_in n f line ≡ Ok part
    → is_own_line n f text line ≡ true → is_part_of f text part ≡ true
own_read n f text line part many some few are is own =
    let mine = own_line n f text line own in
    let read : Ok part ≡ Ok (own_part f text mine.master) =
    sym is ∙ ap (part_in n f) mine.line_is ∙ part_back n f (own_part f text mine.master) many
    (own_written n f mine.master text mine.low some few are) in
    let same : part ≡ own_part f text mine.master = cc in
    ap (is_part_of f text) same ∙ own_is_own f mine.master text

-- no more lines than parts are the text's
not_empty : (n f : ℕ) (text : List ℕ) → is_own_line n f text [] ≡ true → ⊥
not_empty n f text is =
    let mine = own_line n f text [] is in
    let short : 0 ≡ length (spaced (part_words (own_part f text mine.master))) = ap length mine.line_is in
    omega (arith, short)

one_more : (a b : Bool) (lines : List (List ℕ)) (line : List ℕ) (parts : List Part) (part : Part) →
    (a ≡ true → b ≡ true) → length lines ≤ length parts
    → length (cond a (line ∷ lines) lines) ≤ length (cond b (part ∷ parts) parts)
one_more true true lines line parts part follows few = omega (arith, few)
one_more true false lines line parts part follows few = absurd (let no = follows refl in cc)
one_more false true lines line parts part follows few = omega (arith, few)
one_more false false lines line parts part follows few = few

counted : (n f least number : ℕ) (text : List ℕ) (lines : List (List ℕ)) (parts : List Part) → n < 2 ^ 32 →
    1 ≤ length text → length text ≤ 65536 → AreBytes text
    → rising least number (each_line (part_in n f) lines) ≡ Ok parts
    → length (filter (is_own_line n f text) lines) ≤ length (filter (is_part_of f text) parts)
counted n f least number text [] parts many some few are is = omega arith
counted n f least number text (last ∷ []) parts many some few are is =
    by (is_own_line n f text last) (is_empty last) refl refl is
  where
    empty : (line : List ℕ) → is_empty line ≡ true → line ≡ []
    empty [] none = refl
    empty (b ∷ bs) none = absurd (cc)

    by : (a b : Bool) → is_own_line n f text last ≡ a → is_empty last ≡ b →
        rising least number (if b then [] else bad ∷ []) ≡ Ok parts
        → length (cond a (last ∷ []) []) ≤ length (filter (is_part_of f text) parts)
    by false b own end is = omega arith
    by true true own end is = absurd (not_empty n f text (ap (is_own_line n f text) (sym (empty last end)) ∙ own))
    by true false own end is = absurd (cc)
counted n f least number text (line ∷ next ∷ more) parts many some few are is =
    let step = rises least number (part_in n f line) (each_line (part_in n f) (next ∷ more)) parts is in
    subst (λ (ps : List Part). length (filter (is_own_line n f text) (line ∷ next ∷ more)) ≤ length
    (filter (is_part_of f text) ps)) (sym step.parts_are)
    (one_more (is_own_line n f text line) (is_part_of f text step.part) (filter (is_own_line n f text) (next ∷ more))
    line (filter (is_part_of f text) step.rest) step.part
    (own_read n f text line step.part many some few are step.line_is)
    (counted n f (step.part.master + 1) (number + 1) text (next ∷ more) step.rest many some few are step.rest_are))

passed_over : (a : Bool) (line : List ℕ) (lines : List (List ℕ)) → (a ≡ true → ⊥) → cond a (line ∷ lines) lines ≡ lines
passed_over true line lines none = absurd (none refl)
passed_over false line lines none = refl

-- ---- The text is rebuilt.

enough_of : (n f : ℕ) (text bytes : List ℕ) (t : Told) → n < 2 ^ 32 → 1 ≤ length text →
    length text ≤ 65536 → AreBytes text
    → told_in n f bytes ≡ Ok t → f < length (filter (is_own_line n f text) (pieces bytes)) → HasEnoughOf f text t.parts
enough_of n f text bytes t many some few are is enough =
    let given = is_told n f bytes t is in
    let lines : filter (is_own_line n f text) (pieces bytes) ≡ filter (is_own_line n f text) (given.next ∷ given.more) =
    ap (filter (is_own_line n f text)) given.cut
    ∙ passed_over (is_own_line n f text given.line) given.line (filter (is_own_line n f text) (given.next ∷ given.more))
    (no_digest n f text given.line t.digest many some few are given.digest) in
    let among = counted n f 0 2 text (given.next ∷ given.more) t.parts many some few are given.parts in
    let above : f < length (filter (is_own_line n f text) (given.next ∷ given.more)) =
    subst (λ (ls : List (List ℕ)). f < length ls) lines enough in
    omega (arith, above, among)

printed : (f : ℕ) (t : Told) (c : Contents) (bytes : List ℕ) (found : Option (List ℕ)) → f ≡ c.settings.f →
    told_for c bytes ≡ Ok t
    → rebuilt f t.digest t.parts ≡ found → (found ≡ None → ⊥) → IsRebuilt c bytes t
unfolding rebuilt_in
printed f t c bytes None is told found some = absurd (some refl)
printed f t c bytes (Some text) is told found some = record {
  text = text;
  digest = rebuilt_digest f t.digest t.parts text found;
  printed = ap (rebuilt_of c.settings.f) told
      ∙ ap (λ (g : ℕ). or_no_text c.settings.f t.parts (rebuilt g t.digest t.parts)) (sym is)
      ∙ ap (or_no_text c.settings.f t.parts) found;
}

pub enough_lines_rebuild : (c : Contents) (bytes text : List ℕ) (t : Told) → IsGroup c.settings.f c.settings.k
    → told_for c bytes ≡ Ok t → AreBytes text → 1 ≤ length text → length text ≤ 65536 → sha256 text ≡ t.digest
    → HasEnoughLines c text bytes → IsRebuilt c bytes t
unfolding told_for
enough_lines_rebuild c bytes text t group told are some few digest enough =
    let f : ℕ = c.settings.f in
    let n : ℕ = group_size c.settings.f c.settings.k in
    let least = group.some_may_be_intruded in
    let most = group.at_most_three_intruded in
    let away = group.at_most_two_away in
    let small : n ≤ 16 = omega (arith, most, away) in
    let one : 1 ≤ n = omega arith in
    printed f t c bytes (rebuilt f t.digest t.parts) refl told refl
    (is_found n f t.digest text t.parts small (told_differ n f bytes t told) (told_can n f bytes t one told) are digest
    (enough_of n f text bytes t (omega arith) some few are told enough))
