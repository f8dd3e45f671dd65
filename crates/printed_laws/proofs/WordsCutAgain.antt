-- Words with one space between each two, and lines behind each other, cut again.
use Rattle.std.proofs.Common.{◌≡◌, ℕ, ◌==◌, true, not, List, [], ◌∷◌, ◌++◌, append_assoc, refl, sym, ◌∙◌, ap}
use Rattle.std.specs.List.{list_all}
use Rattle.std.proofs.lemmas.Bool.{and_parts}
use Rattle.std.proofs.lemmas.Str.{IsUtf8-from_ascii}
use Rattle.scenario_file.specs.declared.actors.Cast.{Cast}
use Rattle.script_grammar.specs.Lines.{words_of}
use Rattle.run_lines.specs.Reading.{entry_in, entry_line_in}
use Rattle.run_lines.specs.Runs.{pieces}
use Rattle.run_lines.proofs.ReadLaws.{entry_text_line}
use Rattle.script_grammar.proofs.Worded.{is_word, are_words, uncut, ascii, is_line_byte, cut_at, is_word_byte}
use Rattle.script_grammar.proofs.Worded.{no_space, no_feed, all_of_both, of_line}
use Rattle.plain_lists.proofs.Lists.{all_weaker}

-- words as a line
abbrev pub line_of : List (List ℕ) → List ℕ
line_of [] = []
line_of (w ∷ []) = w
line_of (w ∷ v ∷ ws) = w ++ 32 ∷ line_of (v ∷ ws)

words_back : (w : List ℕ) (ws : List (List ℕ)) → are_words (w ∷ ws) ≡ true → words_of (line_of (w ∷ ws)) ≡ w ∷ ws
words_back w [] all = uncut (λ b. b == 32) w
    (all_weaker is_word_byte (λ b. not (b == 32)) w no_space (and_parts (is_word w) (are_words []) all).0)
words_back w (v ∷ ws) all =
    let parts = and_parts (is_word w) (are_words (v ∷ ws)) all in
    cut_at (λ b. b == 32) w 32 (line_of (v ∷ ws)) (all_weaker is_word_byte (λ b. not (b == 32)) w no_space parts.0) refl
    ∙ ap (λ (rest : List (List ℕ)). w ∷ rest) (words_back v ws parts.1)

pub line_bytes : (ws : List (List ℕ)) → are_words ws ≡ true → list_all is_line_byte (line_of ws) ≡ true
line_bytes [] all = refl
line_bytes (w ∷ []) all = all_weaker is_word_byte is_line_byte w of_line (and_parts (is_word w) (are_words []) all).0
line_bytes (w ∷ v ∷ ws) all =
    let parts = and_parts (is_word w) (are_words (v ∷ ws)) all in
    all_of_both is_line_byte w (32 ∷ line_of (v ∷ ws)) (all_weaker is_word_byte is_line_byte w of_line parts.0)
    (line_bytes (v ∷ ws) parts.1)

-- a line of words says what the words say
pub line_says : (cast : Cast) (w : List ℕ) (ws : List (List ℕ)) → are_words (w ∷ ws) ≡ true →
    entry_line_in cast (line_of (w ∷ ws)) ≡ entry_in cast (w ∷ ws)
line_says cast w ws all =
    entry_text_line cast (line_of (w ∷ ws))
    (IsUtf8-from_ascii (line_of (w ∷ ws)) (ascii (line_of (w ∷ ws)) (line_bytes (w ∷ ws) all)))
    ∙ ap (entry_in cast) (words_back w ws all)

-- a line before others is the first piece
pub line_first : (bs rest : List ℕ) → list_all is_line_byte bs ≡ true → pieces (bs ++ 10 ∷ rest) ≡ bs ∷ pieces rest
line_first bs rest all = cut_at (λ b. b == 10) bs 10 rest
    (all_weaker is_line_byte (λ b. not (b == 10)) bs no_feed all) refl

pub line_of-more : (ws : List (List ℕ)) (v : List ℕ) (vs : List (List ℕ)) (w : List ℕ) →
    line_of (w ∷ ws ++ v ∷ vs) ≡ line_of (w ∷ ws) ++ 32 ∷ line_of (v ∷ vs)
line_of-more [] v vs w = refl
line_of-more (x ∷ ws) v vs w =
    ap (λ (bs : List ℕ). w ++ 32 ∷ bs) (line_of-more ws v vs x)
    ∙ sym (append_assoc w (32 ∷ line_of (x ∷ ws)) (32 ∷ line_of (v ∷ vs)))
