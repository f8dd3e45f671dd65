-- Lines, cut off one by one: the lines of a text are its first line and those of what follows, and what a file says is
-- what its lines said so far and what those left say.
use Rattle.std.proofs.Common.{if◌then◌else◌, not, ◌≡◌, ◌<◌, ◌≤◌, ◌+◌, ◌-◌, ℕ, suc, Bool, true, false, nat_lt, ◌==◌}
use Rattle.std.proofs.Common.{List, [], ◌∷◌, ◌++◌, length, take, drop, Option, Some, None, Result, Ok, Err}
use Rattle.std.proofs.Common.{append_assoc, refl, sym, ◌∙◌, ap, arith}
use Rattle.std.specs.List.{slice_split, position, position_or_len, before_first, after_first}
use Rattle.std.specs.List.{cons_option, filter_map}
use Rattle.std.specs.Str.{IsUtf8, is_utf8}
use Rattle.std.specs.Str.Lines.{lines, lines_of_parts, strip_carriage_return}
use Rattle.std.proofs.lemmas.Grind.{common_steps}
use Rattle.std.proofs.lemmas.List.Sums.{fails_before_first, prefix_len-le-length}
use Rattle.std.proofs.lemmas.Str.{IsUtf8-from_is_utf8, is_utf8-from_IsUtf8}
use Rattle.std.proofs.lemmas.List.Splits.{slice_split_none, slice_split_first, length-slice_split}
use Rattle.script_grammar.specs.declared.fault.LineRefusal.{LineRefusal}
use Rattle.script_grammar.specs.declared.fault.LineRefusal.TheVariants as fault
use Rattle.script_grammar.specs.declared.fault.ScriptRefusal.{ScriptRefusal}
use Rattle.script_grammar.specs.Faults.{said, bad, Refuses}
use Rattle.script_grammar.specs.Lines.{Numbered, numbered, numbered_from, refusal_at, or_refusal, first_refusal}
use Rattle.script_grammar.specs.Lines.{said_in, unless_refused, all_in, limited, line_in, file_in, is_silent}
use Rattle.script_grammar.specs.Lines.{words_of, RefusesFile}

abbrev pub is_feed : ℕ → Bool
is_feed b = b == 10

-- a part with others behind it is a line that ended
ended : (line : List ℕ) (parts : List (List ℕ)) → 0 < length parts →
    lines_of_parts (line ∷ parts) ≡ strip_carriage_return line ∷ lines_of_parts parts
ended line [] some = absurd (omega arith)
ended line (next ∷ more) some = refl

pub found_at : (text : List ℕ) (end : ℕ) → position is_feed text ≡ Some end → position_or_len is_feed text ≡ end
found_at text end is = by (nat_lt (position_or_len is_feed text) (length text)) is
  where
    by : (b : Bool) → (if b then Some (position_or_len is_feed text) else None) ≡ Some end →
        position_or_len is_feed text ≡ end
    by true is = cc
    by false is = absurd (cc)

-- the first line that ends
pub line_cut : (text : List ℕ) (end : ℕ) → position is_feed text ≡ Some end → end < length text
    → lines text ≡ strip_carriage_return (take end text) ∷ lines (drop (end + 1) text)
line_cut text end is inside =
    let place = found_at text end is in
    let within : position_or_len is_feed text < length text = omega arith in
    let cut = slice_split_first is_feed text 0 within in
    let more : 0 < length (slice_split is_feed (after_first is_feed text)) =
    omega (arith, length-slice_split is_feed (after_first is_feed text)) in
    ap lines_of_parts cut
    ∙ (ended (before_first is_feed text) (slice_split is_feed (after_first is_feed text)) more
    ∙ ap (λ n. strip_carriage_return (take n text) ∷ lines (drop (n + 1) text)) place)

-- the last line
pub line_last : (text : List ℕ) → 0 < length text → position is_feed text ≡ None → lines text ≡ text ∷ []
line_last text some none =
    let passes_none : position_or_len is_feed text ≡ length text =
    nowhere (nat_lt (position_or_len is_feed text) (length text)) refl none in
    ap lines_of_parts (slice_split_none is_feed text (λ k x inside. fails_before_first is_feed text k x (omega arith)))
    ∙ single text some
  where
    nowhere : (b : Bool) → nat_lt (position_or_len is_feed text) (length text) ≡ b →
        (if b then Some (position_or_len is_feed text) else None) ≡ None
        → position_or_len is_feed text ≡ length text
    nowhere true is none = absurd (cc)
    nowhere false is none = let most : position_or_len is_feed text ≤ length text =
        prefix_len-le-length (λ b. not (is_feed b)) text in grind arith

    single : (line : List ℕ) → 0 < length line → lines_of_parts (line ∷ []) ≡ line ∷ []
    single [] some = absurd (omega arith)
    single (b ∷ bs) some = let no_end : (length (b ∷ bs) == 0) ≡ false = grind arith in rw no_end refl

-- what lines say, behind what others said
abbrev pub behind : {A : Type 0} → List A → Result (List A) ScriptRefusal → Result (List A) ScriptRefusal
behind front (Ok rest) = Ok (front ++ rest)
behind front (Err refused) = Err refused

behind_both : {A : Type 0} (front more : List A) (rest : Result (List A) ScriptRefusal) →
    behind front (behind more rest) ≡ behind (front ++ more) rest
behind_both front more (Ok rest) = ap Ok (sym (append_assoc front more rest))
behind_both front more (Err e) = refl

cons_option_front : {A : Type 0} (o : Option A) (xs : List A) → cons_option o xs ≡ cons_option o [] ++ xs
cons_option_front None xs = refl
cons_option_front (Some x) xs = refl

-- one line more says this
one_more : {A : Type 0} (read : Numbered → Result (Option A) LineRefusal) (l : Numbered) (ls : List Numbered)
    (o : Option A) → read l ≡ Ok o
    → all_in read (l ∷ ls) ≡ behind (cons_option o []) (all_in read ls)
one_more {A} read l ls o is = by (read l) is (first_refusal read ls) (filter_map (λ l. said_in (read l)) ls)
  where
    by : (r : Result (Option A) LineRefusal) → r ≡ Ok o → (later : Option ScriptRefusal) (xs : List A)
        → unless_refused (or_refusal r l.number later) (cons_option (said_in r) xs) ≡ behind (cons_option o [])
        (unless_refused later xs)
    by (Ok x) is None xs = let same : x ≡ o = cc in ap (λ z. Ok (cons_option z xs)) same
        ∙ ap Ok (cons_option_front o xs)
    by (Ok x) is (Some refused) xs = refl
    by (Err e) is later xs = absurd (cc)

one_fault : {A : Type 0} (read : Numbered → Result (Option A) LineRefusal) (l : Numbered) (ls : List Numbered)
    (e : LineRefusal) → read l ≡ Err e
    → all_in read (l ∷ ls) ≡ Err (refusal_at l.number e)
one_fault {A} read l ls e is = by (read l) is (first_refusal read ls) (filter_map (λ l. said_in (read l)) ls)
  where
    by : (r : Result (Option A) LineRefusal) → r ≡ Err e → (later : Option ScriptRefusal) (xs : List A)
        → unless_refused (or_refusal r l.number later) (cons_option (said_in r) xs) ≡ Err (refusal_at l.number e)
    by (Ok x) is later xs = absurd (cc)
    by (Err d) is later xs = let same : d ≡ e = cc in ap (λ z. Err (refusal_at l.number z)) same

-- a line is taken
pub file_more : {A : Type 0} (read : Numbered → Result (Option A) LineRefusal) (front : List A) (o : Option A)
    (number : ℕ) (line : List ℕ) (left after : List (List ℕ))
    (all : Result (List A) ScriptRefusal) → behind front (all_in read (numbered_from number left)) ≡ all →
    left ≡ line ∷ after
    → read (record { number = number; line = line }) ≡ Ok o →
    behind (front ++ cons_option o []) (all_in read (numbered_from (number + 1) after)) ≡ all
file_more read front o number line left after all so_far cut this =
    let next : number + 1 ≡ suc number = omega arith in
    ap (λ n. behind (front ++ cons_option o []) (all_in read (numbered_from n after))) next
    ∙ (sym (behind_both front (cons_option o []) (all_in read (numbered_from (suc number) after)))
    ∙ (ap (behind front) (sym
    (one_more read (record { number = number; line = line }) (numbered_from (suc number) after) o this))
    ∙ (ap (λ ls. behind front (all_in read (numbered_from number ls))) (sym cut) ∙ so_far)))

-- a line has a fault
pub file_fault : {A : Type 0} (read : Numbered → Result (Option A) LineRefusal) (front : List A) (e : LineRefusal)
    (number : ℕ) (line : List ℕ) (left after : List (List ℕ))
    (all : Result (List A) ScriptRefusal) → behind front (all_in read (numbered_from number left)) ≡ all →
    left ≡ line ∷ after
    → read (record { number = number; line = line }) ≡ Err e → all ≡ Err (refusal_at number e)
file_fault read front e number line left after all so_far cut this =
    sym so_far ∙ (ap (λ ls. behind front (all_in read (numbered_from number ls))) cut
    ∙ ap (behind front) (one_fault read (record { number = number; line = line })
    (numbered_from (suc number) after) e this))

-- a line that is text, and one that isn't
pub text_line : {A : Type 0} (says : ℕ → List (List ℕ) → Result A LineRefusal) (number : ℕ) (line : List ℕ) →
    is_silent line ≡ false → IsUtf8 line
    → line_in says (record { number = number; line = line }) ≡ said Some (says number (words_of line))
unfolding line_in
text_line says number line loud utf8 = rw (loud, is_utf8-from_IsUtf8 line utf8) refl

pub other_line : {A : Type 0} (says : ℕ → List (List ℕ) → Result A LineRefusal) (number : ℕ) (line : List ℕ) →
    is_silent line ≡ false → ¬ IsUtf8 line
    → line_in says (record { number = number; line = line }) ≡ bad
unfolding line_in
other_line says number line loud no_text = rw loud (by (is_utf8 line) refl)
  where
    by : (b : Bool) → is_utf8 line ≡ b → (if b then said Some (says number (words_of line)) else bad) ≡ bad
    by true is = absurd (no_text (IsUtf8-from_is_utf8 line is))
    by false is = refl

-- a line that may be there, and one too many
pub allowed_line : {A : Type 0} (most : ℕ) (says : ℕ → List (List ℕ) → Result A LineRefusal) (number : ℕ)
    (line : List ℕ) → number ≤ most
    → limited most says (record { number = number; line = line }) ≡ line_in says
    (record { number = number; line = line })
unfolding limited
allowed_line most says number line few = let there : nat_lt most number ≡ false = grind arith in rw there refl

pub extra_line : {A : Type 0} (most : ℕ) (says : ℕ → List (List ℕ) → Result A LineRefusal) (number : ℕ)
    (line : List ℕ) → most < number
    → limited most says (record { number = number; line = line }) ≡ Err fault.BadLine
unfolding limited
extra_line most says number line many = let past : nat_lt most number ≡ true = grind arith in rw past refl

-- a fault that is right of a line is right of the file
pub fault_of_file : {A B : Type 0} (e : LineRefusal) (line : Result A LineRefusal) (number : ℕ)
    (all : Result B ScriptRefusal) → Refuses e line
    → (line ≡ Err e → all ≡ Err (refusal_at number e)) → RefusesFile (refusal_at number e) all
fault_of_file fault.BadLine line number all is follows = follows is
fault_of_file fault.NoActor line number all is follows = follows is
fault_of_file fault.Want line number all is follows = tt

pub file_is : {A : Type 0} (most : ℕ) (says : ℕ → List (List ℕ) → Result A LineRefusal) (bytes : List ℕ) →
    file_in most says bytes ≡ all_in (limited most says) (numbered bytes)
unfolding file_in
file_is most says bytes = refl

pub rest_whole : (text : List ℕ) (k : ℕ) → take (length text - k) (drop k text) ≡ drop k text
rest_whole text k = grind (arith, common_steps)

pub some_bytes : (n : ℕ) (b : Bool) → b ≡ (n == 0) → b ≡ false → 0 < n
some_bytes n b is filled = grind arith
