-- What the words of an entry's line say.
use Rattle.std.proofs.Common.{if◌then◌else◌, not, ◌≡◌, ◌+◌, ◌-◌, ℕ, suc, Bool, true, false, cond, nat_lt, List, []}
use Rattle.std.proofs.Common.{◌∷◌, length, take, drop, map, Option, Some, None, Result, Ok, Err, codes, refl, sym}
use Rattle.std.proofs.Common.{◌∙◌, ap, subst, arith}
use Rattle.std.specs.Borrow.{Bor}
use Rattle.std.specs.List.{position, position_or_len, prefix_len}
use Rattle.std.specs.Str.{IsUtf8, is_utf8, bytes_eq}
use Rattle.std.proofs.lemmas.List.{length-map, take-map, drop-map}
use Rattle.std.proofs.lemmas.Grind.{common_steps}
use Rattle.std.proofs.lemmas.Str.{IsUtf8-from_is_utf8, is_utf8-from_IsUtf8}
use Rattle.scenario_file.specs.declared.actors.Cast.{Cast}
use Rattle.script_grammar.specs.declared.fault.LineRefusal.{LineRefusal}
use Rattle.script_grammar.specs.declared.kinds.Kind.{Kind}
use Rattle.script_grammar.specs.Faults.{Answer, bad, both}
use Rattle.script_grammar.specs.Lines.{texts, words_of}
use Rattle.script_grammar.specs.Numbers.{narrow_in}
use Rattle.run_lines.specs.declared.event_line.EventLine.{EventLine}
use Rattle.run_lines.specs.Reading.{event_in, kinds_in, parted, event_and_kinds_in, entry_in, entry_line_in}
use Rattle.run_lines.specs.Runs.{count_in}

prefix_of_texts : (p : List ℕ → Bool) (ws : List (Bor (List ℕ))) →
    prefix_len p (texts ws) ≡ prefix_len (λ w. p w.now) ws
prefix_of_texts p [] = refl
prefix_of_texts p (w ∷ ws) = ap (λ n. cond (p w.now) (1 + n) 0) (prefix_of_texts p ws)

-- the first word that passes is at one place of the texts and of the words
position_of_texts : (p : List ℕ → Bool) (ws : List (Bor (List ℕ))) → position p (texts ws) ≡ position (λ w. p w.now) ws
position_of_texts p ws =
    let place : position_or_len p (texts ws) ≡ position_or_len (λ w. p w.now) ws =
    prefix_of_texts (λ x. not (p x)) ws in
    let long : length (texts ws) ≡ length ws = length-map ws (λ w. w.now) in
    ap (λ n. cond (nat_lt n (length (texts ws))) (Some n) None) place
    ∙ ap (λ l. cond (nat_lt (position_or_len (λ w. p w.now) ws) l) (Some (position_or_len (λ w. p w.now) ws)) None) long

abbrev is_says : Bor (List ℕ) → Bool
is_says word = bytes_eq word.now (codes "says")

-- `says` stands at this place, or nowhere
pub parted_at : (words : List (Bor (List ℕ))) (found : Option ℕ) → position is_says words ≡ found →
    event_and_kinds_in (texts words) ≡ parted found (texts words)
unfolding event_and_kinds_in
parted_at words found is =
    ap (λ (o : Option ℕ). parted o (texts words)) (position_of_texts (λ word. bytes_eq word (codes "says")) words ∙ is)

-- the words before a place and those behind it
pub texts_before : (words : List (Bor (List ℕ))) (place : ℕ) → texts (take place words) ≡ take place (texts words)
texts_before words place = sym (take-map (λ w. w.now) place words)

pub texts_behind : (words : List (Bor (List ℕ))) (place : ℕ) → texts (drop place words) ≡ drop place (texts words)
texts_behind words place = sym (drop-map (λ w. w.now) place words)

pub rest_of_words : (words : List (Bor (List ℕ))) (k : ℕ) → take (length words - k) (drop k words) ≡ drop k words
rest_of_words words k = grind (arith, common_steps)

pub says_splits : (words : List (Bor (List ℕ))) (place : ℕ) → position is_says words ≡ Some place
    → both (event_in (texts (take place words)))
    (kinds_in (texts (take (length words - (place + 1)) (drop (place + 1) words)))) ≡ event_and_kinds_in
    (texts words)
says_splits words place found =
    let next : place + 1 ≡ suc place = omega arith in
    ap (λ ws. both (event_in ws) (kinds_in (texts (take (length words - (place + 1)) (drop (place + 1) words)))))
    (texts_before words place)
    ∙ ap (λ ws. both (event_in (take place (texts words))) (kinds_in ws)) (ap texts (rest_of_words words (place + 1))
    ∙ texts_behind words (place + 1))
    ∙ ap (λ n. both (event_in (take place (texts words))) (kinds_in (drop n (texts words)))) next
    ∙ sym (parted_at words (Some place) found)

-- a line that is text, and one that isn't
pub entry_text_line : (cast : Cast) (line : List ℕ) → IsUtf8 line →
    entry_line_in cast line ≡ entry_in cast (words_of line)
unfolding entry_line_in
entry_text_line cast line utf8 = rw (is_utf8-from_IsUtf8 line utf8) refl

pub entry_no_text : (cast : Cast) (line : List ℕ) → ¬ IsUtf8 line → entry_line_in cast line ≡ bad
unfolding entry_line_in
entry_no_text cast line no_text = by (is_utf8 line) refl
  where
    by : (b : Bool) → is_utf8 line ≡ b → (if b then entry_in cast (words_of line) else bad) ≡ bad
    by true is = absurd (no_text (IsUtf8-from_is_utf8 line is))
    by false is = refl

pub count_text_line : (digits : List ℕ) → IsUtf8 digits → count_in digits ≡ narrow_in digits
count_text_line digits utf8 = rw (is_utf8-from_IsUtf8 digits utf8) refl

pub count_no_text : (digits : List ℕ) → ¬ IsUtf8 digits → count_in digits ≡ bad
count_no_text digits no_text = by (is_utf8 digits) refl
  where
    by : (b : Bool) → is_utf8 digits ≡ b → (if b then narrow_in digits else bad) ≡ bad
    by true is = absurd (no_text (IsUtf8-from_is_utf8 digits is))
    by false is = refl
