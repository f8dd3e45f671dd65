-- What the words of a line say.
use Rattle.std.proofs.Common.{◌≡◌, ◌≢◌, ◌≤◌, ◌-◌, ◌==◌, ℕ, Bool, true, false, if◌then◌else◌, List, [], ◌∷◌, Result}
use Rattle.std.proofs.Common.{Ok, Err, IfOk, refl, sym, ◌∙◌, ap, arith}
use Rattle.std.specs.Str.{IsUtf8, is_utf8}
use Rattle.std.proofs.lemmas.Str.{IsUtf8-from_is_utf8, is_utf8-from_IsUtf8}
use Rattle.script_grammar.specs.declared.fault.LineRefusal.{LineRefusal}
use Rattle.script_grammar.specs.Faults.{Answer, Answers, bad, both}
use Rattle.script_grammar.specs.Lines.{words_of}
use Rattle.script_grammar.specs.Numbers.{number_in}
use Rattle.part_lines.specs.Reading.{line_words, master_in}
use Rattle.part_lines.proofs.Steps.{number_read}
use Rattle.script_grammar.proofs.FaultLaws.{both_read}

-- a line that is text, and one that isn't
pub text_line : (line : List ℕ) → IsUtf8 line → line_words line ≡ Ok (words_of line)
unfolding line_words
text_line line utf8 = ap (λ (b : Bool). if b then Ok (words_of line) else bad) (is_utf8-from_IsUtf8 line utf8)

pub no_text_line : (line : List ℕ) → ¬ IsUtf8 line → line_words line ≡ bad
unfolding line_words
no_text_line line no_text = by (is_utf8 line) refl
  where
    by : (b : Bool) → is_utf8 line ≡ b → (if b then Ok (words_of line) else bad) ≡ bad
    by true is = absurd (no_text (IsUtf8-from_is_utf8 line is))
    by false is = refl

-- a name of another letter
pub no_master : (n : ℕ) (name : List ℕ) → ((rest : List ℕ) → name ≢ 109 ∷ rest) → master_in n name ≡ bad
unfolding master_in number_in
no_master n [] none = refl
no_master n (letter ∷ digits) none = by (letter == 109) refl
  where
    by : (b : Bool) → (letter == 109) ≡ b → (if b then number_in 0 (n - 1) digits else bad) ≡ bad
    by true is = let same : letter ≡ 109 = grind arith in absurd (none digits (ap (λ d. d ∷ digits) same))
    by false is = refl

-- a length that was read is within its range
pub length_read : (a : Answer ℕ) (b : Answer (List ℕ)) (size : List ℕ) (read : Result (ℕ × (ℕ × List ℕ)) LineRefusal)
    → Answers read (both a (both (number_in 1 65536 size) b))
    → IfOk read (λ fields. fields.1.0 ≤ 65536)
length_read a b size (Ok p) is =
    let first = both_read a (both (number_in 1 65536 size) b) p is in
    let second = both_read (number_in 1 65536 size) b p.1 first.1 in
    (number_read 1 65536 p.1.0 size second.0).1
length_read a b size (Err e) is = tt
