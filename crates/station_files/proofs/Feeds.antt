-- What the whole lines of a text are, by its last byte: a line feed makes all of it whole lines, another byte is none of them. So
-- cutting them out again changes nothing.
use Rattle.std.proofs.Common.{◌≡◌, ℕ, ◌==◌, Bool, true, false, cond, not, ◌&&◌, ◌||◌, List, [], ◌∷◌, ◌++◌, refl, ◌∙◌}
use Rattle.std.proofs.Common.{sym, ap, ◌<◌, ◌≤◌, ◌-◌, ◌+◌, length, take, drop, get_or, arith}
use Rattle.std.proofs.Common.{Option, None, Some, IfSome}
use Rattle.std.proofs.lemmas.Bool.{eq-eqb, ne_eqb}
use Rattle.std.proofs.lemmas.List.{take_more, drop-take}
use Rattle.std.specs.Io.KnownBytes.{prepend_known}
use Rattle.std.specs.List.{list_any}
use Rattle.station_files.specs.WholeLines.{before_lines, whole_lines, has_no_feed}

-- what is before lines that aren't none is in them
before_some : (b : ℕ) (xs : List ℕ) (c : ℕ) → before_lines b (xs ++ c ∷ []) ≡ b ∷ (xs ++ c ∷ [])
before_some b [] c = refl
before_some b (x ∷ xs) c = refl

pub whole_with_feed : (xs : List ℕ) (b : ℕ) → (b == 10) ≡ true → whole_lines (xs ++ b ∷ []) ≡ xs ++ b ∷ []
whole_with_feed [] b is = ap (λ t. cond t (b ∷ []) []) is
whole_with_feed (x ∷ xs) b is = ap (before_lines x) (whole_with_feed xs b is) ∙ before_some x xs b

pub whole_without : (xs : List ℕ) (b : ℕ) → (b == 10) ≡ false → whole_lines (xs ++ b ∷ []) ≡ whole_lines xs
whole_without [] b is = ap (λ t. cond t (b ∷ []) []) is
whole_without (x ∷ xs) b is = ap (before_lines x) (whole_without xs b is)

-- the last byte of a beginning of the text
pub last_of_front : (text : List ℕ) (n b : ℕ) → 0 < n → n ≤ length text → b ≡ get_or text (n - 1) 0 →
    take n text ≡ take (n - 1) text ++ b ∷ []
last_of_front text n b some within is =
    let again : (n - 1) + 1 ≡ n = omega arith in
    ap (λ k. take k text) (sym again) ∙ take_more text (n - 1) 0 (omega arith)
    ∙ ap (λ x. take (n - 1) text ++ x ∷ []) (sym is)

-- so with a line feed there it is whole lines, and with another byte that byte is in none
pub feed_ends : (text : List ℕ) (n : ℕ) → 0 < n → n ≤ length text → get_or text (n - 1) 0 ≡ 10 →
    whole_lines (take n text) ≡ take n text
feed_ends text n some within is =
    let cut = last_of_front text n (get_or text (n - 1) 0) some within refl in
    ap whole_lines cut
    ∙ whole_with_feed (take (n - 1) text) (get_or text (n - 1) 0) (eq-eqb (get_or text (n - 1) 0) 10 is) ∙ sym cut

pub other_ends : (text : List ℕ) (n : ℕ) → 0 < n → n ≤ length text → (get_or text (n - 1) 0 ≡ 10 → ⊥) →
    whole_lines (take n text) ≡ whole_lines (take (n - 1) text)
other_ends text n some within not_feed =
    let cut = last_of_front text n (get_or text (n - 1) 0) some within refl in
    ap whole_lines cut
    ∙ whole_without (take (n - 1) text) (get_or text (n - 1) 0) (ne_eqb (get_or text (n - 1) 0) 10 not_feed)

-- where a byte is a line feed, some byte of a longer text is one
pub feed_ahead : (xs ys : List ℕ) → list_any (λ y. y == 10) xs ≡ true → has_no_feed (xs ++ ys) ≡ false
feed_ahead [] ys is = absurd (cc)
feed_ahead (x ∷ xs) ys is = by (x == 10) refl is (feed_ahead xs ys)
  where
    by : (t : Bool) → (x == 10) ≡ t → (t || list_any (λ y. y == 10) xs) ≡ true →
        (list_any (λ y. y == 10) xs ≡ true → has_no_feed (xs ++ ys) ≡ false) →
        (not (x == 10) && has_no_feed (xs ++ ys)) ≡ false
    by true e found later = ap (λ t. not t && has_no_feed (xs ++ ys)) e
    by false e found later = ap (λ t. not t && has_no_feed (xs ++ ys)) e ∙ later found

-- what was read ahead are the bytes from a place to another
read_ahead : (items given : List ℕ) (from to : ℕ) → from ≤ to → given ≡ items →
    drop from (take to items) ≡ take (to - from) (drop from given)
read_ahead items given from to within same =
    let whole : from + (to - from) ≡ to = omega arith in
    ap (λ k. drop from (take k items)) (sym whole) ∙ drop-take from (to - from) items
    ∙ ap (λ xs. take (to - from) (drop from xs)) (sym same)

-- some byte is a line feed where not all are others
some_feed : (xs : List ℕ) → list_any (λ y. y == 10) xs ≡ not (has_no_feed xs)
some_feed [] = refl
some_feed (x ∷ xs) = by (x == 10) refl (some_feed xs)
  where
    by : (t : Bool) → (x == 10) ≡ t → list_any (λ y. y == 10) xs ≡ not (has_no_feed xs) →
        ((x == 10) || list_any (λ y. y == 10) xs) ≡ not (not (x == 10) && has_no_feed xs)
    by true e later =
        ap (λ t. t || list_any (λ y. y == 10) xs) e ∙ sym (ap (λ t. not (not t && has_no_feed xs)) e)
    by false e later =
        ap (λ t. t || list_any (λ y. y == 10) xs) e ∙ later ∙ sym (ap (λ t. not (not t && has_no_feed xs)) e)

pub feed_among : (items given : List ℕ) (from to : ℕ) → from ≤ to → given ≡ items →
    list_any (λ y. y == 10) (take (to - from) (drop from given)) ≡ not (has_no_feed (drop from (take to items)))
feed_among items given from to within same =
    ap (λ xs. list_any (λ y. y == 10) xs) (sym (read_ahead items given from to within same))
    ∙ some_feed (drop from (take to items))

-- and so of what waits, where that is told
pub line_ahead : (items given : List ℕ) (from to : ℕ) (rest : Option (List ℕ)) (found : Bool) → from ≤ to →
    given ≡ items → found ≡ list_any (λ y. y == 10) (take (to - from) (drop from given)) → found ≡ true →
    IfSome (prepend_known (drop from (take to items)) rest) (λ bytes. has_no_feed bytes ≡ false)
line_ahead items given from to rest found within same is came = at rest
  where
    one : list_any (λ y. y == 10) (drop from (take to items)) ≡ true
    one = ap (λ xs. list_any (λ y. y == 10) xs) (read_ahead items given from to within same) ∙ sym is ∙ came

    at : (o : Option (List ℕ)) →
        IfSome (prepend_known (drop from (take to items)) o) (λ bytes. has_no_feed bytes ≡ false)
    at None = tt
    at (Some xs) = feed_ahead (drop from (take to items)) xs one
