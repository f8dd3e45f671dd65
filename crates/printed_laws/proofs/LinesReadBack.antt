-- The text of a run's history, read line by line.
use Rattle.std.proofs.Common.{◌≡◌, ℕ, suc, ◌+◌, ◌<◌, ◌^◌, Bool, true, List, [], ◌∷◌, ◌++◌, Ok, length, map}
use Rattle.std.proofs.Common.{append_assoc, refl, ◌∙◌, ap}
use Rattle.std.specs.Prelude.{codes, decimal}
use Rattle.std.specs.List.{All, list_all, flat_map}
use Rattle.std.proofs.lemmas.List.Elements.{All-head, All-tail}
use Rattle.std.proofs.lemmas.Str.{IsUtf8-from_ascii}
use Rattle.scenario_file.specs.declared.actors.Cast.{Cast}
use Rattle.scenario_file.specs.Actors.{actors_of}
use Rattle.script_grammar.specs.Faults.{Answer}
use Rattle.history_rules.specs.Events.{Entry}
use Rattle.run_lines.specs.Reading.{entry_line_in}
use Rattle.run_lines.specs.Texts.{count_text, entry_text}
use Rattle.run_lines.specs.Runs.{pieces, before_entries, numbered, entries_in, counted, count_in, after_heads}
use Rattle.run_lines.specs.Runs.{after_title, run_in}
use Rattle.run_lines.proofs.ReadLaws.{count_text_line}
use Rattle.printed_laws.specs.Lines.{line_read, IsPrintable}
use Rattle.printed_laws.specs.LineLaws.{PrintedLinesReadBack}
use Rattle.printed_laws.proofs.NumbersReadBack.{narrow_back}
use Rattle.printed_laws.proofs.WordsCutAgain.{line_of, line_bytes, line_says, line_first}
use Rattle.printed_laws.proofs.LinesPassed.{numeral_line, some_piece}
use Rattle.printed_laws.proofs.EntriesReadBack.{entry_words, entry_is, entry_back}
use Rattle.printed_laws.proofs.EntriesInWords.{entry_words_are}
use Rattle.script_grammar.proofs.Worded.{all_of_both, is_line_byte, ascii}

-- an entry's line without its end
line_text : Cast → Bool → Entry → List ℕ
line_text cast told e = line_of (decimal e.stamp ∷ entry_words cast told e)

line_text_bytes : (cast : Cast) (told : Bool) (e : Entry) → IsPrintable cast told e →
    list_all is_line_byte (line_text cast told e) ≡ true
unfolding line_text
line_text_bytes cast told e can = line_bytes (decimal e.stamp ∷ entry_words cast told e)
    (entry_words_are cast told e can.event)

line_text_says : (cast : Cast) (told : Bool) (e : Entry) → actors_of cast < 2 ^ 64 → IsPrintable cast told e →
    entry_line_in cast (line_text cast told e) ≡ Ok (line_read told e)
unfolding line_text
line_text_says cast told e few can =
    line_says cast (decimal e.stamp) (entry_words cast told e) (entry_words_are cast told e can.event)
    ∙ entry_back cast told e few can

-- an entry's text before others is the first piece
entry_first : (cast : Cast) (told : Bool) (e : Entry) (rest : List ℕ) → IsPrintable cast told e →
    pieces (entry_text cast told e ++ rest) ≡ line_text cast told e ∷ pieces rest
unfolding line_text
entry_first cast told e rest can =
    ap (λ (bs : List ℕ). pieces (bs ++ rest)) (entry_is cast told e)
    ∙ ap pieces (append_assoc (line_text cast told e) (codes "\n") rest)
    ∙ line_first (line_text cast told e) rest (line_text_bytes cast told e can)

-- a line that isn't the last
next_in : (cast : Cast) (number count : ℕ) (line : List ℕ) (ps : List (List ℕ)) → (ps ≡ [] → ⊥)
    → entries_in cast number (suc count) (line ∷ ps) ≡ before_entries (numbered number (entry_line_in cast line))
    (entries_in cast (number + 1) count ps)
next_in cast number count line [] some = absurd (some refl)
next_in cast number count line (next ∷ more) some = refl

all_lines : (cast : Cast) (told : Entry → Bool) (entries : List Entry) (number : ℕ) → actors_of cast < 2 ^ 64 →
    All (λ e. IsPrintable cast (told e) e) entries
    → entries_in cast number (length entries) (pieces (flat_map (λ e. entry_text cast (told e) e) entries)) ≡ Ok
    (map (λ e. line_read (told e) e) entries)
all_lines cast told [] number few can = refl
all_lines cast told (e ∷ entries) number few can =
    let rest : List ℕ = flat_map (λ x. entry_text cast (told x) x) entries in
    let one = All-head (λ x. IsPrintable cast (told x) x) e entries can in
    let others = All-tail (λ x. IsPrintable cast (told x) x) e entries can in
    ap (entries_in cast number (suc (length entries))) (entry_first cast (told e) e rest one)
    ∙ next_in cast number (length entries) (line_text cast (told e) e) (pieces rest) (some_piece rest)
    ∙ (λ i. before_entries (numbered number (line_text_says cast (told e) e few one i))
    (all_lines cast told entries (number + 1) few others i))

-- the line that tells how many entries follow
counted_next : (cast : Cast) (number : ℕ) (digits : List ℕ) (ps : List (List ℕ)) → (ps ≡ [] → ⊥)
    → after_heads cast number ((codes "history " ++ digits) ∷ ps) ≡ counted cast number (count_in digits) ps
counted_next cast number digits [] some = absurd (some refl)
counted_next cast number digits (next ∷ more) some = refl

count_back : (n : ℕ) → n < 2 ^ 32 → count_in (decimal n) ≡ Ok n
count_back n few = count_text_line (decimal n) (IsUtf8-from_ascii (decimal n) (ascii (decimal n) (numeral_line n)))
    ∙ narrow_back n few

count_read : (cast : Cast) (number n : ℕ) (rest : List ℕ) → n < 2 ^ 32 →
    after_heads cast number (pieces (count_text n ++ rest)) ≡ entries_in cast (number + 1) n (pieces rest)
unfolding count_text
count_read cast number n rest few =
    ap (λ (bs : List ℕ). after_heads cast number (pieces bs))
    (append_assoc (codes "history " ++ decimal n) (codes "\n") rest)
    ∙ ap (after_heads cast number)
    (line_first (codes "history " ++ decimal n) rest
    (all_of_both is_line_byte (codes "history ") (decimal n) refl (numeral_line n)))
    ∙ counted_next cast number (decimal n) (pieces rest) (some_piece rest)
    ∙ ap (λ (a : Answer ℕ). counted cast number a (pieces rest)) (count_back n few)

-- the title
titled : (cast : Cast) (ps : List (List ℕ)) → (ps ≡ [] → ⊥) →
    after_title cast (codes "spire 1" ∷ ps) ≡ after_heads cast 2 ps
titled cast [] some = absurd (some refl)
titled cast (next ∷ more) some = refl

title_read : (cast : Cast) (rest : List ℕ) → run_in cast (codes "spire 1\n" ++ rest) ≡ after_heads cast 2 (pieces rest)
unfolding run_in
title_read cast rest = ap (after_title cast) (line_first (codes "spire 1") rest refl)
    ∙ titled cast (pieces rest) (some_piece rest)

pub printed_lines_read_back : PrintedLinesReadBack
printed_lines_read_back cast heads told entries few passed many can =
    let lines : List ℕ = flat_map (λ e. entry_text cast (told e) e) entries in
    let before = passed cast 2 (count_text (length entries) ++ lines) in
    ap (run_in cast) (append_assoc (codes "spire 1\n" ++ heads) (count_text (length entries)) lines
    ∙ append_assoc (codes "spire 1\n") heads (count_text (length entries) ++ lines))
    ∙ title_read cast (heads ++ (count_text (length entries) ++ lines))
    ∙ before.1
    ∙ count_read cast before.0 (length entries) lines many
    ∙ all_lines cast told entries (before.0 + 1) few can
