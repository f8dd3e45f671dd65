-- A text cut at its line feeds, and the lines of entries read one by one.
use Rattle.std.proofs.Common.{if◌then◌else◌, not, ◌≡◌, ◌<◌, ◌≤◌, ◌+◌, ◌-◌, ℕ, zero, suc, Bool, true, false, nat_lt}
use Rattle.std.proofs.Common.{List, [], ◌∷◌, ◌++◌, length, take, drop, Some, None, Result, Ok, Err}
use Rattle.std.proofs.Common.{append_assoc, codes, refl, sym, ◌∙◌, ap, arith}
use Rattle.std.specs.List.{position, position_or_len}
use Rattle.std.specs.Str.{bytes_eq}
use Rattle.std.proofs.lemmas.List.Sums.{fails_before_first, prefix_len-le-length}
use Rattle.std.proofs.lemmas.List.Splits.{slice_split_none, slice_split_first, length-slice_split}
use Rattle.scenario_file.specs.declared.actors.Cast.{Cast}
use Rattle.script_grammar.specs.declared.fault.LineRefusal.{LineRefusal}
use Rattle.script_grammar.specs.declared.fault.LineRefusal.TheVariants as fault
use Rattle.script_grammar.specs.Faults.{Refuses}
use Rattle.run_lines.specs.declared.entry_line.EntryLine.{EntryLine}
use Rattle.run_lines.specs.declared.refusal.HistoryRefusal.{HistoryRefusal}
use Rattle.run_lines.specs.declared.refusal.HistoryRefusal.TheVariants as refusal
use Rattle.run_lines.specs.Reading.{entry_line_in}
use Rattle.run_lines.specs.Runs.{Reading, bad_line, pieces, before_entries, numbered, entries_in, counts}
use Rattle.run_lines.specs.Runs.{count_in, counted, after_heads, after_title, run_in, fault_at, RefusesRun}
use Rattle.script_grammar.proofs.LineLaws.{found_at, is_feed}

-- the first line, and what stands behind it
pub piece_cut : (text : List ℕ) (end : ℕ) → position is_feed text ≡ Some end → end < length text →
    pieces text ≡ take end text ∷ pieces (drop (end + 1) text)
piece_cut text end is inside =
    let place = found_at text end is in
    let within : position_or_len is_feed text < length text = omega arith in
    slice_split_first is_feed text 0 within ∙ ap (λ n. take n text ∷ pieces (drop (n + 1) text)) place

-- no line feed is left
pub piece_last : (text : List ℕ) → position is_feed text ≡ None → pieces text ≡ text ∷ []
piece_last text none =
    let passes_none : position_or_len is_feed text ≡ length text =
    nowhere (nat_lt (position_or_len is_feed text) (length text)) refl none in
    slice_split_none is_feed text (λ k x inside. fails_before_first is_feed text k x (omega arith))
  where
    nowhere : (b : Bool) → nat_lt (position_or_len is_feed text) (length text) ≡ b →
        (if b then Some (position_or_len is_feed text) else None) ≡ None
        → position_or_len is_feed text ≡ length text
    nowhere true is none = absurd (cc)
    nowhere false is none = let most : position_or_len is_feed text ≤ length text =
        prefix_len-le-length (λ b. not (is_feed b)) text in grind arith

-- a text has one piece at least
pub pieces_some : (text : List ℕ) → 0 < length (pieces text)
pieces_some text = omega (arith, length-slice_split is_feed text)

-- what entries say, behind what others said
abbrev pub behind : List EntryLine → Reading (List EntryLine) → Reading (List EntryLine)
behind front (Ok rest) = Ok (front ++ rest)
behind front (Err refused) = Err refused

one_behind : (front : List EntryLine) (entry : EntryLine) (r : Reading (List EntryLine)) →
    behind front (before_entries (Ok entry) r) ≡ behind (front ++ entry ∷ []) r
one_behind front entry (Ok rest) = ap Ok (sym (append_assoc front (entry ∷ []) rest))
one_behind front entry (Err e) = refl

one_line : (cast : Cast) (n m : ℕ) (line : List ℕ) (parts : List (List ℕ)) → 0 < length parts
    → entries_in cast n (suc m) (line ∷ parts) ≡ before_entries (numbered n (entry_line_in cast line))
    (entries_in cast (n + 1) m parts)
one_line cast n m line [] some = absurd (omega arith)
one_line cast n m line (next ∷ more) some = refl

-- the lines from a place on, the first of them being there
line_at : (cast : Cast) (first count place : ℕ) (line : List ℕ) (rest after : List ℕ) → place < count →
    pieces rest ≡ line ∷ pieces after
    → entries_in cast (first + place) (count - place) (pieces rest)
    ≡ before_entries (numbered (first + place) (entry_line_in cast line))
    (entries_in cast (first + place + 1) (count - (place + 1)) (pieces after))
line_at cast first count place line rest after inside cut =
    let left : count - place ≡ suc (count - (place + 1)) = omega arith in
    ap (λ m. entries_in cast (first + place) m (pieces rest)) left
    ∙ ap (entries_in cast (first + place) (suc (count - (place + 1)))) cut
    ∙ one_line cast (first + place) (count - (place + 1)) line (pieces after) (pieces_some after)

pub none_read : (cast : Cast) (first count : ℕ) (text : List ℕ)
    → behind [] (entries_in cast (first + 0) (count - 0) (pieces text)) ≡ entries_in cast first count (pieces text)
none_read cast first count text =
    let start : first + 0 ≡ first = omega arith in
    let all : count - 0 ≡ count = omega arith in
    ap (λ n. behind [] (entries_in cast n (count - 0) (pieces text))) start
    ∙ ap (λ m. behind [] (entries_in cast first m (pieces text))) all
    ∙ none (entries_in cast first count (pieces text))
  where
    none : (r : Reading (List EntryLine)) → behind [] r ≡ r
    none (Ok rest) = refl
    none (Err e) = refl

-- an entry is read
pub entries_more : (cast : Cast) (first count place : ℕ) (front : List EntryLine) (entry : EntryLine)
    (line rest after : List ℕ) (all : Reading (List EntryLine))
    → place < count → behind front (entries_in cast (first + place) (count - place) (pieces rest)) ≡ all →
    pieces rest ≡ line ∷ pieces after
    → entry_line_in cast line ≡ Ok entry
    → behind (front ++ entry ∷ []) (entries_in cast (first + (place + 1)) (count - (place + 1)) (pieces after)) ≡ all
entries_more cast first count place front entry line rest after all inside so_far cut this =
    let next : first + (place + 1) ≡ first + place + 1 = omega arith in
    let left : Reading (List EntryLine) = entries_in cast (first + place + 1) (count - (place + 1)) (pieces after) in
    ap (λ n. behind (front ++ entry ∷ []) (entries_in cast n (count - (place + 1)) (pieces after))) next
    ∙ sym (one_behind front entry left)
    ∙ ap (λ r. behind front (before_entries (numbered (first + place) r) left)) (sym this)
    ∙ ap (behind front) (sym (line_at cast first count place line rest after inside cut))
    ∙ so_far

-- a fault that is right of a line is right of the text
pub fault_of_text : {A B : Type 0} (e : LineRefusal) (line : Result A LineRefusal) (number : ℕ) (all : Reading B) →
    Refuses e line → (line ≡ Err e → all ≡ bad_line number)
    → RefusesRun (fault_at number e) all
fault_of_text fault.BadLine line number all is follows = follows is
fault_of_text fault.NoActor line number all is follows = follows is
fault_of_text fault.Want line number all is follows = tt

pub more_follows : (cast : Cast) (n : ℕ) (rest line after : List ℕ) → pieces rest ≡ line ∷ pieces after →
    entries_in cast n zero (pieces rest) ≡ bad_line n
more_follows cast n rest line after cut = ap (entries_in cast n zero) cut ∙ by (pieces after) (pieces_some after)
  where
    by : (parts : List (List ℕ)) → 0 < length parts → entries_in cast n zero (line ∷ parts) ≡ bad_line n
    by [] some = absurd (omega arith)
    by (next ∷ more) some = refl

-- The lines before that which counts.
head_passed : (cast : Cast) (n : ℕ) (line : List ℕ) (parts : List (List ℕ)) → 0 < length parts
    → after_heads cast n (line ∷ parts) ≡ (if counts line then counted cast n (count_in (drop 8 line))
    parts else after_heads cast (n + 1) parts)
head_passed cast n line [] some = absurd (omega arith)
head_passed cast n line (next ∷ more) some = refl

pub head_is_passed : (cast : Cast) (n : ℕ) (line rest after : List ℕ) (all : Reading (List EntryLine)) →
    after_heads cast n (pieces rest) ≡ all
    → pieces rest ≡ line ∷ pieces after → counts line ≡ false → after_heads cast (n + 1) (pieces after) ≡ all
head_is_passed cast n line rest after all so_far cut no_count =
    ap (λ b. if b then counted cast n (count_in (drop 8 line)) (pieces after) else after_heads cast (n + 1)
    (pieces after)) (sym no_count)
    ∙ sym (head_passed cast n line (pieces after) (pieces_some after))
    ∙ ap (after_heads cast n) (sym cut)
    ∙ so_far

pub count_found : (cast : Cast) (n : ℕ) (line rest after : List ℕ) (all : Reading (List EntryLine)) →
    after_heads cast n (pieces rest) ≡ all
    → pieces rest ≡ line ∷ pieces after → counts line ≡ true →
    counted cast n (count_in (drop 8 line)) (pieces after) ≡ all
count_found cast n line rest after all so_far cut is_count =
    ap (λ b. if b then counted cast n (count_in (drop 8 line)) (pieces after) else after_heads cast (n + 1)
    (pieces after)) (sym is_count)
    ∙ sym (head_passed cast n line (pieces after) (pieces_some after))
    ∙ ap (after_heads cast n) (sym cut)
    ∙ so_far

-- the first line of all
title_passed : (cast : Cast) (title : List ℕ) (parts : List (List ℕ)) → 0 < length parts
    → after_title cast (title ∷ parts) ≡
    (if bytes_eq title (codes "spire 1") then after_heads cast 2 parts else bad_line 1)
title_passed cast title [] some = absurd (omega arith)
title_passed cast title (next ∷ more) some = refl

run_by_title : (cast : Cast) (text title rest : List ℕ) → pieces text ≡ title ∷ pieces rest
    → run_in cast text ≡ (if bytes_eq title (codes "spire 1") then after_heads cast 2 (pieces rest) else bad_line 1)
unfolding run_in
run_by_title cast text title rest cut = ap (after_title cast) cut
    ∙ title_passed cast title (pieces rest) (pieces_some rest)

pub run_with_title : (cast : Cast) (text title rest : List ℕ) → pieces text ≡ title ∷ pieces rest →
    bytes_eq title (codes "spire 1") ≡ true
    → after_heads cast 2 (pieces rest) ≡ run_in cast text
run_with_title cast text title rest cut is =
    sym (run_by_title cast text title rest cut
    ∙ ap (λ b. if b then after_heads cast 2 (pieces rest) else bad_line 1) is)
