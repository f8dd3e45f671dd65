-- The rows of a new view's plan, of each row of numbers without a certificate the empty ones once.
use Rattle.std.proofs.Common.{◌≡◌, ℕ, ◌+◌, ◌-◌, ◌≤◌, ◌<◌, zero, suc, Bool, true, false, cond, ◌&&◌, ◌||◌, List, []}
use Rattle.std.proofs.Common.{◌∷◌, ◌++◌, Option, Some, None, length, take, map, filter, max, get_or, nat_le, refl}
use Rattle.std.proofs.Common.{sym, ◌∙◌, ap, subst, inl, inr, ◌⊎◌, arith, append-nil, append_assoc, eqb-true}
use Rattle.std.specs.List.{list_all, find}
use Rattle.std.specs.Option.{option_map}
use Rattle.std.specs.Prelude.{Result, Ok, Err, IfOk}
use Rattle.std.proofs.Math.Path.{fun_ext}
use Rattle.std.proofs.lemmas.Bool.{and_parts, and_from, eq-eqb, leb-true, leb-false}
use Rattle.std.proofs.lemmas.Grind.{flat_map-append}
use Rattle.std.proofs.lemmas.List.{map-append, take_all}
use Rattle.std.proofs.lemmas.List.Elements.{filter-append}
use Rattle.plain_lists.specs.Lists.{IsIn, here, there}
use Rattle.plain_lists.proofs.Members.{none_in, in_cons_cases, in_left, in_right, in_cases, in_filter, in_filter_from}
use Rattle.message_types.specs.declared.signed.Signed.{Signed}
use Rattle.message_types.specs.declared.ordering.Certificate.{Certificate}
use Rattle.message_types.specs.declared.views.Report.{Report}
use Rattle.message_types.specs.Digests.{digest_of_rows}
use Rattle.message_types.specs.Spelling.{rows_fit}
use Rattle.protocol_rules.specs.Words.{best_by, best_from, greatest_of, numbers_from}
use Rattle.protocol_rules.specs.Group.{Group}
use Rattle.protocol_rules.specs.Plans.{goes_before, certificates_of, chosen, planned, no_rows, base_of, last_of}
use Rattle.protocol_rules.specs.Plans.{plan_of}
use Rattle.view_change.specs.Planning.{is_for, is_spelled}
use Rattle.intruder_words.specs.Telling.{HasSameRows, bare, report_on, rows_for}
use Rattle.intruder_words.specs.Numbering.{lesser, IsNextNumber}
use Rattle.intruder_words.proofs.Walks.{take-next}
use Rattle.intruder_words.proofs.Alike.{same-append}
use Rattle.protocol_rules.proofs.Numbers.{numbers-split, numbers_from-more}
use Rattle.plain_lists.proofs.Lists.{all_filter, filter-again}

-- the rows that go with the certificate chosen
rows_by : Group → Option Certificate → List (List ℕ)
rows_by g o = elim o [ Some c ↦ c.rows | None ↦ no_rows g ]

chosen-of : (base : ℕ) (cs : List Certificate) (s : ℕ) →
    chosen (report_on base cs ∷ []) s ≡ best_by goes_before (filter (is_for s) cs)
unfolding chosen
chosen-of base cs s = ap (λ xs. best_by goes_before (filter (is_for s) xs)) (append-nil cs)

rows-are : (g : Group) (base : ℕ) (cs : List Certificate) (s : ℕ) →
    planned g (report_on base cs ∷ []) s ≡ rows_by g (best_by goes_before (filter (is_for s) cs))
unfolding rows_by
rows-are g base cs s = ap (rows_by g) (chosen-of base cs s)

-- the base doesn't matter to the rows of a number
any-base : (g : Group) (base : ℕ) (cs : List Certificate) (s : ℕ) →
    planned g (report_on base cs ∷ []) s ≡ rows_for g cs s
any-base g base cs s = rows-are g base cs s ∙ sym (rows-are g 0 cs s)

-- without a certificate the rows are empty

none-for : (s : ℕ) (cs : List Certificate) → ((c : Certificate) → IsIn c cs → c.s ≡ s → ⊥) → filter (is_for s) cs ≡ []
none-for s [] none = refl
none-for s (c ∷ cs) none = by (is_for s c) refl (none-for s cs (λ d k. none d (there c cs k)))
  where
    by : (b : Bool) → is_for s c ≡ b → filter (is_for s) cs ≡ [] →
        cond b (c ∷ filter (is_for s) cs) (filter (is_for s) cs) ≡ []
    by true e rest = absurd (none c (here cs) (eqb-true c.s s e))
    by false e rest = rest

rows-none : (g : Group) (cs : List Certificate) (s : ℕ) → filter (is_for s) cs ≡ [] → rows_for g cs s ≡ no_rows g
unfolding best_by rows_by
rows-none g cs s none = rows-are g 0 cs s ∙ ap (λ xs. rows_by g (best_by goes_before xs)) none

-- certificates for one number alone

rows-kept : (g : Group) (all : List Certificate) (s : ℕ) → rows_for g (filter (is_for s) all) s ≡ rows_for g all s
rows-kept g all s = rows-are g 0 (filter (is_for s) all) s ∙ ap (λ xs. rows_by g (best_by goes_before xs))
    (filter-again (is_for s) all) ∙ sym (rows-are g 0 all s)

others-none : (g : Group) (all : List Certificate) (next s : ℕ) → (next ≡ s → ⊥) →
    rows_for g (filter (is_for next) all) s ≡ no_rows g
others-none g all next s other =
    rows-none g (filter (is_for next) all) s (none-for s (filter (is_for next) all) (λ c k e.
    let at : c.s ≡ next = eqb-true c.s next (in_filter_from (is_for next) all k).1 in other (sym at ∙ e)))

-- the greatest number of these
greatest-for : (n : ℕ) (cs : List Certificate) → (filter (is_for n) cs ≡ [])
    ⊎ (greatest_of (map (λ c. c.s) (filter (is_for n) cs)) ≡ n)
greatest-for n [] = inl refl
greatest-for n (c ∷ cs) = by (is_for n c) refl (greatest-for n cs)
  where
    by : (b : Bool) → is_for n c ≡ b → (filter (is_for n) cs ≡ [])
        ⊎ (greatest_of (map (λ c. c.s) (filter (is_for n) cs)) ≡ n)
        → (cond b (c ∷ filter (is_for n) cs) (filter (is_for n) cs) ≡ [])
        ⊎ (greatest_of (map (λ c. c.s) (cond b (c ∷ filter (is_for n) cs) (filter (is_for n) cs))) ≡ n)
    by false e rest = rest
    by true e (inl none) =
        let at : c.s ≡ n = eqb-true c.s n e in
        let zero_is : greatest_of (map (λ (c : Certificate). c.s) (filter (is_for n) cs)) ≡ 0 =
        ap (λ (xs : List Certificate). greatest_of (map (λ c. c.s) xs)) none in
        inr (let all : max c.s (greatest_of (map (λ (c : Certificate). c.s) (filter (is_for n) cs))) ≡ n =
        omega arith in all)
    by true e (inr most) =
        let at : c.s ≡ n = eqb-true c.s n e in
        inr (let all : max c.s (greatest_of (map (λ (c : Certificate). c.s) (filter (is_for n) cs))) ≡ n =
        omega arith in all)

last-for : (base n : ℕ) (all : List Certificate) (c : Certificate) → IsIn c all → c.s ≡ n →
    last_of (report_on base (filter (is_for n) all) ∷ []) ≡ n
last-for base n all c within at = ap (λ (xs : List Certificate). greatest_of (map (λ c. c.s) xs))
    (append-nil (filter (is_for n) all)) ∙ by (greatest-for n all)
  where
    by : (filter (is_for n) all ≡ []) ⊎ (greatest_of (map (λ c. c.s) (filter (is_for n) all)) ≡ n) →
        greatest_of (map (λ c. c.s) (filter (is_for n) all)) ≡ n
    by (inr most) = most
    by (inl none) = absurd (none_in
        (subst (λ (xs : List Certificate). IsIn c xs) none (in_filter (is_for n) within (eq-eqb c.s n at))))

short-plan : (g : Group) (base next : ℕ) (all : List Certificate) (c : Certificate) → IsIn c all → c.s ≡ next
    → (plan_of g (report_on base (filter (is_for next) all) ∷ [])).rows ≡ map (rows_for g (filter (is_for next) all))
    (numbers_from (base + 1) (next - base))
unfolding plan_of
short-plan g base next all c within at =
    let bottom : max base 0 ≡ base = omega arith in
    ap (λ h. map h (numbers_from (max base 0 + 1)
    (last_of (report_on base (filter (is_for next) all) ∷ []) - max base 0)))
    (fun_ext (any-base g base (filter (is_for next) all)))
    ∙ ap (λ n. map (rows_for g (filter (is_for next) all))
    (numbers_from (n + 1) (last_of (report_on base (filter (is_for next) all) ∷ []) - n))) bottom
    ∙ ap (λ n. map (rows_for g (filter (is_for next) all)) (numbers_from (base + 1) (n - base)))
    (last-for base next all c within at)

-- rows that are the same at several numbers are found once

found-once : {X : Type 0} (p : X → Bool) (e : X) (f : ℕ → X) (start count : ℕ) →
    ((s : ℕ) → start ≤ s → s < start + suc count → f s ≡ e) →
    find p (e ∷ []) ≡ find p (map f (numbers_from start (suc count)))
unfolding numbers_from
found-once {X} p e f start zero same = ap (λ (x : X). find p (x ∷ [])) (sym (same start (omega arith) (omega arith)))
found-once {X} p e f start (suc count) same =
    by (p e) refl (found-once p e f (suc start) count (λ s low high. same s (omega arith) (omega arith)))
    ∙ ap (λ (x : X). find p (x ∷ map f (numbers_from (suc start) (suc count))))
    (sym (same start (omega arith) (omega arith)))
  where
    by : (b : Bool) → p e ≡ b → find p (e ∷ []) ≡ find p (map f (numbers_from (suc start) (suc count))) →
        cond (p e) (Some e) None ≡ cond (p e) (Some e) (find p (map f (numbers_from (suc start) (suc count))))
    by true is later = ap (λ b. cond b (Some e) None) is
        ∙ sym (ap (λ b. cond b (Some e) (find p (map f (numbers_from (suc start) (suc count))))) is)
    by false is later = later
        ∙ sym (ap (λ b. cond b (Some e) (find p (map f (numbers_from (suc start) (suc count))))) is)

one-number : {X : Type 0} (f : ℕ → X) (start : ℕ) → map f (numbers_from start 1) ≡ f start ∷ []
unfolding numbers_from
one-number f start = refl

two-numbers : {X : Type 0} (f : ℕ → X) (start : ℕ) → map f (numbers_from start 2) ≡ f start ∷ f (suc start) ∷ []
unfolding numbers_from
two-numbers f start = refl

last-number : {X : Type 0} (f : ℕ → X) (start count : ℕ) →
    map f (numbers_from start (count + 1)) ≡ map f (numbers_from start count) ++ f (start + count) ∷ []
last-number f start count = ap (map f) (numbers_from-more start count)
    ∙ map-append f (numbers_from start count) ((start + count) ∷ [])

-- the rows up to the next number, by how many numbers are between
up-to : (g : Group) (all : List Certificate) (at between base next : ℕ) → next ≡ at + 1 + between →
    base ≡ max at (next - 2) → ((s : ℕ) → at < s → s < next → rows_for g all s ≡ no_rows g)
    → HasSameRows (map (rows_for g (filter (is_for next) all)) (numbers_from (base + 1) (next - base)))
    (map (rows_for g all) (numbers_from (at + 1) (next - at)))
up-to g all at zero base next is low none = λ test.
    let low_is : base ≡ at = omega arith in
    let one : next - at ≡ 1 = omega arith in
    let first : at + 1 ≡ next = omega arith in
    ap (find (λ rows. test (digest_of_rows rows)))
    (ap (λ n. map (rows_for g (filter (is_for next) all)) (numbers_from (n + 1) (next - n))) low_is
    ∙ ap (λ n. map (rows_for g (filter (is_for next) all)) (numbers_from (at + 1) n)) one
    ∙ one-number (rows_for g (filter (is_for next) all)) (at + 1)
    ∙ ap (λ n. rows_for g (filter (is_for next) all) n ∷ []) first
    ∙ ap (λ rows. rows ∷ []) (rows-kept g all next)
    ∙ ap (λ n. rows_for g all n ∷ []) (sym first)
    ∙ sym (one-number (rows_for g all) (at + 1))
    ∙ ap (λ n. map (rows_for g all) (numbers_from (at + 1) n)) (sym one))
up-to g all at (suc between) base next is low none = λ test.
    let p : List (List ℕ) → Bool = λ rows. test (digest_of_rows rows) in
    let two : next - base ≡ 2 = omega arith in
    let second : suc (base + 1) ≡ next = omega arith in
    let apart : (next ≡ base + 1) → ⊥ = λ e. absurd (omega arith) in
    let many : next - at ≡ suc between + 1 = omega arith in
    let final : at + 1 + suc between ≡ next = omega arith in
    ap (find p)
    (ap (λ n. map (rows_for g (filter (is_for next) all)) (numbers_from (base + 1) n)) two
    ∙ two-numbers (rows_for g (filter (is_for next) all)) (base + 1)
    ∙ ap (λ rows. rows ∷ rows_for g (filter (is_for next) all) (suc (base + 1)) ∷ [])
    (others-none g all next (base + 1) apart)
    ∙ ap (λ n. no_rows g ∷ rows_for g (filter (is_for next) all) n ∷ []) second
    ∙ ap (λ rows. no_rows g ∷ rows ∷ []) (rows-kept g all next))
    ∙ same-append (no_rows g ∷ []) (map (rows_for g all) (numbers_from (at + 1) (suc between)))
    (rows_for g all next ∷ []) (rows_for g all next ∷ [])
    (λ t. found-once (λ rows. t (digest_of_rows rows)) (no_rows g) (rows_for g all) (at + 1) between
    (λ s above below. none s (omega arith) (omega arith)))
    (λ t. refl) test
    ∙ ap (find p)
    (ap (λ n. map (rows_for g all) (numbers_from (at + 1) (suc between)) ++ rows_for g all n ∷ []) (sym final)
    ∙ sym (last-number (rows_for g all) (at + 1) (suc between))
    ∙ ap (λ n. map (rows_for g all) (numbers_from (at + 1) n)) (sym many))

pub rows-up-to : (g : Group) (all : List Certificate) (at next base : ℕ) → IsNextNumber all at (Some next) →
    base ≡ max at (next - 2)
    → HasSameRows (plan_of g (report_on base (filter (is_for next) all) ∷ [])).rows
    (map (rows_for g all) (numbers_from (at + 1) (next - at)))
rows-up-to g all at next base is low = λ test.
    let above : at < next = is.0 in
    let gap : next ≡ at + 1 + (next - (at + 1)) = omega arith in
    ap (find (λ rows. test (digest_of_rows rows))) (short-plan g base next all is.1.0 is.1.1 is.1.2)
    ∙ up-to g all at (next - (at + 1)) base next gap low
    (λ s more less. rows-none g all s
    (none-for s all (λ c k e. elim (is.2 c k) [ inl below ↦ omega arith | inr beyond ↦ omega arith ]))) test

-- the next number, as certificates are gone over

pub next-none : (at : ℕ) → IsNextNumber [] at None
next-none at = λ c k. absurd (none_in k)

one-more : (xs : List Certificate) (c d : Certificate) → IsIn d (xs ++ c ∷ []) → IsIn d xs ⊎ (d.s ≡ c.s)
one-more xs c d k = elim (in_cases xs k) [
  | inl left ↦ inl left
  | inr right ↦ elim (in_cons_cases right) [
    | inl e ↦ inr (ap (λ (x : Certificate). x.s) e)
    | inr none ↦ absurd (none_in none)
  ]
]

next-more : (xs : List Certificate) (at : ℕ) (next : Option ℕ) (c : Certificate) → IsNextNumber xs at next →
    IsNextNumber (xs ++ c ∷ []) at (lesser at next c.s)
next-more xs at None c none = by (nat_le c.s at) refl
  where
    by : (b : Bool) → nat_le c.s at ≡ b → IsNextNumber (xs ++ c ∷ []) at (cond b None (Some c.s))
    by true low = λ d k. elim (one-more xs c d k) [
      | inl left ↦ none d left
      | inr same ↦ let below : c.s ≤ at =
          leb-true c.s at low in omega arith
    ]
    by false high = (
      leb-false c.s at high,
      (c, in_right xs (here []), refl),
      λ d k. elim (one-more xs c d k) [
        | inl left ↦ inl (none d left)
        | inr same ↦ let e : d.s ≡ c.s =
            same in inr (omega arith)
      ],
    )
next-more xs at (Some least) c is = by (nat_le c.s at) (nat_le least c.s) refl refl
  where
    kept : (c.s ≤ at) ⊎ (least ≤ c.s) → IsNextNumber (xs ++ c ∷ []) at (Some least)
    kept where_c = (
      is.0,
      (is.1.0, in_left (c ∷ []) is.1.1, is.1.2),
      λ d k. elim (one-more xs c d k) [
        | inl left ↦ is.2 d left
        | inr same ↦ elim where_c [
          | inl low ↦ let e : d.s ≡ c.s = same in
              inl (omega arith)
          | inr high ↦ let e : d.s ≡ c.s = same in inr (omega arith)
        ]
      ],
    )

    by : (a b : Bool) → nat_le c.s at ≡ a → nat_le least c.s ≡ b →
        IsNextNumber (xs ++ c ∷ []) at (cond (a || b) (Some least) (Some c.s))
    by true b low high = kept (inl (leb-true c.s at low))
    by false true low high = kept (inr (leb-true least c.s high))
    by false false low high = (
      leb-false c.s at low,
      (c, in_right xs (here []), refl),
      λ d k. elim (one-more xs c d k) [
        | inl left ↦ elim (is.2 d left) [
          | inl below ↦ inl below
          | inr beyond ↦ let less : c.s < least =
              leb-false least c.s high in inr (omega arith)
        ]
        | inr same ↦ let e : d.s ≡ c.s = same in inr (omega arith)
      ],
    )

pub next-step : (xs : List Certificate) (at i : ℕ) (next : Option ℕ) (c : Certificate) → i < length xs →
    c ≡ get_or xs i c → IsNextNumber (take i xs) at next → IsNextNumber (take (i + 1) xs) at (lesser at next c.s)
next-step xs at i next c below is so_far = subst (λ (ys : List Certificate). IsNextNumber ys at (lesser at next c.s))
    (sym (take-next xs i c below is)) (next-more (take i xs) at next c so_far)

-- rows of one stretch of numbers after another

pub rows-further : (f : ℕ → List (List ℕ)) (base at next : ℕ) (rows more : List (List (List ℕ))) → base ≤ at →
    at ≤ next → HasSameRows rows (map f (numbers_from (base + 1) (at - base)))
    → HasSameRows more (map f (numbers_from (at + 1) (next - at))) →
    HasSameRows (rows ++ more) (map f (numbers_from (base + 1) (next - base)))
rows-further f base at next rows more low high so_far now = λ test.
    let whole : (at - base) + (next - at) ≡ next - base = omega arith in
    let from : base + 1 + (at - base) ≡ at + 1 = omega arith in
    same-append rows (map f (numbers_from (base + 1) (at - base))) more (map f (numbers_from (at + 1) (next - at)))
    so_far now test
    ∙ ap (find (λ r. test (digest_of_rows r)))
    (sym (map-append f (numbers_from (base + 1) (at - base)) (numbers_from (at + 1) (next - at)))
    ∙ ap (λ n. map f (numbers_from (base + 1) (at - base) ++ numbers_from n (next - at))) (sym from)
    ∙ ap (map f) (sym (numbers-split (base + 1) (at - base) (next - at)))
    ∙ ap (λ n. map f (numbers_from (base + 1) n)) whole)

pub rows-start : (f : ℕ → List (List ℕ)) (base : ℕ) → HasSameRows [] (map f (numbers_from (base + 1) (base - base)))
unfolding numbers_from
rows-start f base = λ test. let none : 0 ≡ base - base = omega arith in
    ap (λ n. find (λ r. test (digest_of_rows r)) (map f (numbers_from (base + 1) n))) none

greatest-above : (cs : List Certificate) (c : Certificate) → IsIn c cs → c.s ≤ greatest_of (map (λ c. c.s) cs)
greatest-above [] c k = absurd (none_in k)
greatest-above (d ∷ cs) c k = elim (in_cons_cases k) [
  | inl e ↦ let same : c.s ≡ d.s = ap (λ (x : Certificate). x.s) e in omega arith
  | inr later ↦ let rest : c.s ≤ greatest_of (map (λ (c : Certificate). c.s) cs) =
      greatest-above cs c later in omega arith
]

greatest-below : (cs : List Certificate) (most : ℕ) → ((c : Certificate) → IsIn c cs → c.s ≤ most) →
    greatest_of (map (λ c. c.s) cs) ≤ most
greatest-below [] most each = omega arith
greatest-below (d ∷ cs) most each =
    let first : d.s ≤ most = each d (here cs) in
    let rest : greatest_of (map (λ (c : Certificate). c.s) cs) ≤ most =
    greatest-below cs most (λ c k. each c (there d cs k)) in
    omega arith

-- at the end all numbers were gone over
abbrev pub IsReached : List Certificate → ℕ → ℕ → Type 0
IsReached all base at = (at ≡ base) ⊎ ((c : Certificate) × IsIn c all × (c.s ≡ at))

last-is : (all : List Certificate) → last_of (report_on 0 all ∷ []) ≡ greatest_of (map (λ c. c.s) all)
last-is all = ap (λ (xs : List Certificate). greatest_of (map (λ c. c.s) xs)) (append-nil all)

pub all-passed : (all : List Certificate) (base at : ℕ) → base ≤ at → IsReached all base at →
    IsNextNumber all at None → at - base ≡ last_of (report_on 0 all ∷ []) - base
all-passed all base at low (inl e) none =
    let last : last_of (report_on 0 all ∷ []) ≡ greatest_of (map (λ (c : Certificate). c.s) all) = last-is all in
    let most : greatest_of (map (λ (c : Certificate). c.s) all) ≤ at = greatest-below all at none in
    omega arith
all-passed all base at low (inr some) none =
    let last : last_of (report_on 0 all ∷ []) ≡ greatest_of (map (λ (c : Certificate). c.s) all) = last-is all in
    let most : greatest_of (map (λ (c : Certificate). c.s) all) ≤ at = greatest-below all at none in
    let least : some.0.s ≤ greatest_of (map (λ (c : Certificate). c.s) all) = greatest-above all some.0 some.1 in
    let is : some.0.s ≡ at = some.2 in
    omega arith

-- each next number is nearer to the last
pub fewer-left : (all : List Certificate) (at next : ℕ) → IsNextNumber all at (Some next) →
    last_of (report_on 0 all ∷ []) - next < last_of (report_on 0 all ∷ []) - at
fewer-left all at next found =
    let last : last_of (report_on 0 all ∷ []) ≡ greatest_of (map (λ (c : Certificate). c.s) all) = last-is all in
    let most : found.1.0.s ≤ greatest_of (map (λ (c : Certificate). c.s) all) =
    greatest-above all found.1.0 found.1.1 in
    let is : found.1.0.s ≡ next = found.1.2 in
    let more : at < next = found.0 in
    omega arith

-- certificates without their prepares give the same rows

bare-from : (best : Certificate) (xs : List Certificate) → best_from goes_before (bare best) (map bare xs) ≡ bare
    (best_from goes_before best xs)
bare-from best [] = refl
bare-from best (x ∷ xs) = by (goes_before x best) (bare-from x xs) (bare-from best xs)
  where
    by : (b : Bool) → best_from goes_before (bare x) (map bare xs) ≡ bare (best_from goes_before x xs) →
        best_from goes_before (bare best) (map bare xs) ≡ bare (best_from goes_before best xs)
        → best_from goes_before (cond b (bare x) (bare best)) (map bare xs) ≡ bare
        (best_from goes_before (cond b x best) xs)
    by true first second = first
    by false first second = second

bare-best : (xs : List Certificate) → best_by goes_before (map bare xs) ≡ option_map bare (best_by goes_before xs)
unfolding best_by
bare-best [] = refl
bare-best (x ∷ xs) = ap Some (bare-from x xs)

bare-for : (s : ℕ) (xs : List Certificate) → filter (is_for s) (map bare xs) ≡ map bare (filter (is_for s) xs)
bare-for s [] = refl
bare-for s (x ∷ xs) = by (is_for s x) (bare-for s xs)
  where
    by : (b : Bool) → filter (is_for s) (map bare xs) ≡ map bare (filter (is_for s) xs) →
        cond b (bare x ∷ filter (is_for s) (map bare xs)) (filter (is_for s) (map bare xs)) ≡ map bare
        (cond b (x ∷ filter (is_for s) xs) (filter (is_for s) xs))
    by true e = ap (λ ys. bare x ∷ ys) e
    by false e = e

bare-rows : (g : Group) (o : Option Certificate) → rows_by g (option_map bare o) ≡ rows_by g o
unfolding rows_by
bare-rows g None = refl
bare-rows g (Some c) = refl

bare-planned : (g : Group) (reports : List Report) (s : ℕ) →
    rows_for g (map bare (certificates_of reports)) s ≡ planned g reports s
unfolding chosen rows_by
bare-planned g reports s =
    rows-are g 0 (map bare (certificates_of reports)) s ∙ ap (λ xs. rows_by g (best_by goes_before xs))
    (bare-for s (certificates_of reports))
    ∙ ap (rows_by g) (bare-best (filter (is_for s) (certificates_of reports)))
    ∙ bare-rows g (best_by goes_before (filter (is_for s) (certificates_of reports)))

bare-numbers : (xs : List Certificate) → map (λ c. c.s) (map bare xs) ≡ map (λ c. c.s) xs
bare-numbers [] = refl
bare-numbers (x ∷ xs) = ap (λ ns. x.s ∷ ns) (bare-numbers xs)

bare-last : (reports : List Report) → last_of (report_on 0 (map bare (certificates_of reports)) ∷ []) ≡ last_of reports
bare-last reports = last-is (map bare (certificates_of reports))
    ∙ ap greatest_of (bare-numbers (certificates_of reports))

plan-rows-of : (g : Group) (reports : List Report) (base : ℕ) (rows : List (List (List ℕ))) → base ≡ base_of reports
    → HasSameRows rows (map (rows_for g (map bare (certificates_of reports)))
    (numbers_from (base + 1) (last_of (report_on 0 (map bare (certificates_of reports)) ∷ []) - base)))
    → HasSameRows rows (plan_of g reports).rows
unfolding plan_of
plan-rows-of g reports base rows low same = λ test.
    same test ∙ ap (find (λ r. test (digest_of_rows r)))
    (ap (λ h. map h (numbers_from (base + 1)
    (last_of (report_on 0 (map bare (certificates_of reports)) ∷ []) - base))) (fun_ext (bare-planned g reports))
    ∙ ap (λ n. map (planned g reports) (numbers_from (base + 1) (n - base))) (bare-last reports)
    ∙ ap (λ n. map (planned g reports) (numbers_from (n + 1) (last_of reports - n))) low)

pub plan-rows : (g : Group) (reports : List Report) (base : ℕ) (all : List Certificate)
    (rows : List (List (List ℕ))) → base ≡ base_of reports → all ≡ map bare (certificates_of reports)
    → HasSameRows rows (map (rows_for g all) (numbers_from (base + 1) (last_of (report_on 0 all ∷ []) - base))) →
    HasSameRows rows (plan_of g reports).rows
plan-rows g reports base all rows low is same = plan-rows-of g reports base rows low
    (subst (λ (cs : List Certificate). HasSameRows rows
    (map (rows_for g cs) (numbers_from (base + 1) (last_of (report_on 0 cs ∷ []) - base)))) is same)

bare-spelled : (cs : List Certificate) → list_all is_spelled (map bare cs) ≡ list_all is_spelled cs
bare-spelled [] = refl
bare-spelled (c ∷ cs) = ap (λ b. is_spelled c && b) (bare-spelled cs)

pub bare-fit : (reports : List Report) (all : List Certificate) → all ≡ map bare (certificates_of reports) →
    list_all is_spelled (certificates_of reports) ≡ true → list_all is_spelled all ≡ true
bare-fit reports all is fit = ap (list_all is_spelled) is ∙ bare-spelled (certificates_of reports) ∙ fit

-- lists made one element after another

pub map-next : {X Y : Type 0} (f : X → Y) (first so_far : List Y) (xs : List X) (i : ℕ) (x : X) → i < length xs →
    x ≡ get_or xs i x → so_far ≡ first ++ map f (take i xs) → so_far ++ f x ∷ [] ≡ first ++ map f (take (i + 1) xs)
map-next f first so_far xs i x below is made =
    ap (λ ys. ys ++ f x ∷ []) made ∙ append_assoc first (map f (take i xs)) (f x ∷ [])
    ∙ ap (λ ys. first ++ ys) (sym (map-append f (take i xs) (x ∷ [])) ∙ ap (map f) (sym (take-next xs i x below is)))

pub bare-next : (reports : List (Signed Report)) (i : ℕ) (r : Signed Report) (so_far now part : List Certificate) →
    i < length reports → r ≡ get_or reports i r →
    so_far ≡ map bare (certificates_of (map (λ r. r.body) (take i reports)))
    → now ≡ so_far ++ map bare part → part ≡ r.body.certificates →
    now ≡ map bare (certificates_of (map (λ r. r.body) (take (i + 1) reports)))
bare-next reports i r so_far now part below is made more mine =
    let bodies : List (Signed Report) → List Report = λ rs. map (λ x. x.body) rs in
    let whole : bodies (take (i + 1) reports) ≡ bodies (take i reports) ++ r.body ∷ [] =
    ap bodies (take-next reports i r below is) ∙ map-append (λ (x : Signed Report). x.body)
    (take i reports) (r ∷ []) in
    more ∙ ap (λ cs. cs ++ map bare part) made
    ∙ ap (λ cs. map bare (certificates_of (bodies (take i reports))) ++ map bare cs) mine
    ∙ sym (map-append bare (certificates_of (bodies (take i reports))) r.body.certificates)
    ∙ ap (λ cs. map bare (certificates_of (bodies (take i reports)) ++ cs)) (sym (append-nil r.body.certificates))
    ∙ ap (map bare) (sym (flat_map-append (λ (x : Report). x.certificates) (bodies (take i reports)) (r.body ∷ [])))
    ∙ ap (λ rs. map bare (certificates_of rs)) (sym whole)

map-twice : (rs : List (Signed Report)) → map (λ r. r.body.base) rs ≡ map (λ r. r.base) (map (λ r. r.body) rs)
map-twice [] = refl
map-twice (r ∷ rs) = ap (λ ns. r.body.base ∷ ns) (map-twice rs)

pub bases-are : (reports : List (Signed Report)) (i base : ℕ) → length reports ≤ i →
    base ≡ max 0 (greatest_of (map (λ r. r.body.base) (take i reports))) → base ≡ base_of (map (λ r. r.body) reports)
bases-are reports i base over most =
    let whole : greatest_of (map (λ (r : Signed Report). r.body.base) (take i reports)) ≡ base_of
    (map (λ r. r.body) reports) =
    ap (λ (rs : List (Signed Report)). greatest_of (map (λ r. r.body.base) rs)) (take_all i reports over)
    ∙ ap greatest_of (map-twice reports) in
    omega arith

pub all-for-next : (s : ℕ) (all : List Certificate) (i : ℕ) (c : Certificate) (so_far now : List Certificate)
    (b : Bool) → i < length all → c ≡ get_or all i c → so_far ≡ filter (is_for s) (take i all) →
    now ≡ so_far ++ cond b (c ∷ []) []
    → b ≡ is_for s c → now ≡ filter (is_for s) (take (i + 1) all)
all-for-next s all i c so_far now b below is made more test =
    more ∙ ap (λ cs. cs ++ cond b (c ∷ []) []) made
    ∙ ap (λ t. filter (is_for s) (take i all) ++ cond t (c ∷ []) []) test
    ∙ sym (filter-append (is_for s) (take i all) (c ∷ [])) ∙ ap (filter (is_for s)) (sym (take-next all i c below is))

pub fits-more : (rows more now : List (List (List ℕ))) → list_all rows_fit rows ≡ true →
    list_all rows_fit more ≡ true → now ≡ rows ++ more → list_all rows_fit now ≡ true
fits-more rows more now first second is = ap (list_all rows_fit) is ∙ by rows first
  where
    by : (xs : List (List (List ℕ))) → list_all rows_fit xs ≡ true → list_all rows_fit (xs ++ more) ≡ true
    by [] e = second
    by (x ∷ xs) e = let both = and_parts (rows_fit x) (list_all rows_fit xs) e in
        and_from (rows_fit x) (list_all rows_fit (xs ++ more)) both.0 (by xs both.1)

pub filter-spelled : (s : ℕ) (all : List Certificate) → list_all is_spelled all ≡ true →
    list_all is_spelled (filter (is_for s) all ++ []) ≡ true
filter-spelled s all fit = ap (list_all is_spelled) (append-nil (filter (is_for s) all))
    ∙ all_filter is_spelled (is_for s) all fit

-- what follows of a call's value
pub ok-weaker : {A E : Type 0} {P Q : A → Type 0} (r : Result A E) → ((x : A) → P x → Q x) → IfOk r P → IfOk r Q
ok-weaker (Ok x) step h = step x h
ok-weaker (Err e) step h = tt
