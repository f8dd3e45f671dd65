-- The words of a line.
use Rattle.std.proofs.Common.{◌≡◌, ℕ, ◌+◌, ◌-◌, ◌≤◌, false, List, ◌++◌, length, take, append_assoc, sym}
use Rattle.std.proofs.Common.{◌∙◌, ap, arith}
use Rattle.std.proofs.lemmas.List.{length-append, take_all}
use Rattle.std.specs.Prelude.{codes}
use Rattle.scenario_file.specs.declared.actors.Cast.{Cast}
use Rattle.message_types.specs.declared.signed.Signed.{Signed}
use Rattle.message_types.specs.declared.body.Body.{Body}
use Rattle.scenario_file.specs.Reading.{Contents, cast_of}
use Rattle.history_rules.specs.Events.{Entry}
use Rattle.run_lines.specs.Texts.{entry_text}
use Rattle.kept_lines.specs.Lines.{digest_words, entry_words, frames_said, kept_line}
use Rattle.plain_lists.proofs.Lists.{take_left}

-- the line of an entry ends with a line feed
pub line_ends : (cast : Cast) (e : Entry) → entry_text cast false e ≡ entry_words cast e ++ codes "\n"
unfolding entry_text
line_ends cast e = sym (simp append_assoc)

-- a line without its line feed
pub front_is : (line words : List ℕ) → line ≡ words ++ codes "\n" → take (length line - 1) line ≡ words
front_is line words is =
    let long : length line ≡ length words + 1 = ap length is ∙ length-append words (codes "\n") in
    let here : length line - 1 ≡ length words = omega arith in
    (λ i. take (here i) (is i)) ∙ take_left words (codes "\n") (length words) (omega arith)
    ∙ take_all (length words) words (omega arith)

pub has_end : (line words : List ℕ) → line ≡ words ++ codes "\n" → 1 ≤ length line
has_end line words is =
    let long : length line ≡ length words + 1 = ap length is ∙ length-append words (codes "\n") in
    omega arith

-- the words of an entry and its digest are the line that is kept of it
pub line_put : (c : Contents) (cast : Cast) (before : List Entry) (e x : Entry) (frames : List (Signed Body))
    (old mid new : List ℕ) → cast ≡ cast_of c.settings c.plant → x ≡ e → frames ≡ frames_said c before e →
    mid ≡ old ++ entry_words cast x → new ≡ mid ++ digest_words frames → new ≡ old ++ kept_line c before e
unfolding kept_line
line_put c cast before e x frames old mid new is same are first last =
    last ∙ ap (λ (bs : List ℕ). bs ++ digest_words frames) first
    ∙ append_assoc old (entry_words cast x) (digest_words frames)
    ∙ (λ i. old ++ (entry_words (is i) (same i) ++ digest_words (are i)))
