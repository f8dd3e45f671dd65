-- What the bytes of a line ask for, by whether they are text.
use Rattle.std.proofs.Common.{◌≡◌, ℕ, Bool, true, false, cond, List, refl, sym, ap}
use Rattle.std.specs.Str.{IsUtf8, is_utf8}
use Rattle.std.proofs.lemmas.Str.{IsUtf8-from_is_utf8, is_utf8-from_IsUtf8}
use Rattle.script_grammar.specs.Lines.{words_of}
use Rattle.station_rules.specs.Answers.{Asked, Unclear, words_asked, line_asked}

pub asked_text : (bytes : List ℕ) → IsUtf8 bytes → words_asked (words_of bytes) ≡ line_asked bytes
asked_text bytes is =
    sym (ap (λ (b : Bool). cond b (words_asked (words_of bytes)) Unclear) (is_utf8-from_IsUtf8 bytes is))

pub asked_none : (bytes : List ℕ) → ¬ IsUtf8 bytes → Unclear ≡ line_asked bytes
asked_none bytes is = by (is_utf8 bytes) refl
  where
    by : (b : Bool) → is_utf8 bytes ≡ b → Unclear ≡ line_asked bytes
    by true e = absurd (is (IsUtf8-from_is_utf8 bytes e))
    by false e = sym (ap (λ (b : Bool). cond b (words_asked (words_of bytes)) Unclear) e)
