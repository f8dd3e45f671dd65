-- What holds of parts that were read: each can be its master's, and their masters rise.
use Rattle.std.proofs.Common.{◌≡◌, ◌≢◌, ◌<◌, ◌≤◌, ◌+◌, ◌-◌, ℕ, zero, suc, Bool, true, false, if◌then◌else◌, ◌&&◌}
use Rattle.std.proofs.Common.{◌==◌, nat_eq, nat_le, List, [], ◌∷◌, length, map, Result, Ok, Err, refl, sym, ◌∙◌, ap}
use Rattle.std.proofs.Common.{subst, arith}
use Rattle.std.specs.List.{AllByRecursion}
use Rattle.std.specs.Str.Parse.{digits_value}
use Rattle.std.proofs.lemmas.Bool.{and_parts, eqb-true, leb-true}
use Rattle.script_grammar.specs.declared.fault.LineRefusal.{LineRefusal}
use Rattle.script_grammar.specs.Faults.{Answer, bad, both}
use Rattle.script_grammar.specs.Numbers.{is_numeral, within, number_in}
use Rattle.parity_parts.specs.declared.part.Part.{Part}
use Rattle.parity_parts.specs.Parts.{AreDifferent, DiffersFrom, masters, width}
use Rattle.parity_parts.specs.Rebuilding.{CanBePart}
use Rattle.part_lines.specs.declared.told.Told.{Told}
use Rattle.part_lines.specs.Laws.{RiseFrom}
use Rattle.part_lines.specs.Reading.{Reading, bad_line, and_then, bytes_of, master_in, fitting, fields_of_words}
use Rattle.part_lines.specs.Reading.{line_words, part_in, from_least, before, each_line, rising, told, behind_digest}
use Rattle.part_lines.specs.Reading.{told_by, told_in, digest_in}
use Rattle.run_lines.specs.Runs.{pieces, is_empty}
use Rattle.script_grammar.proofs.FaultLaws.{both_read}

-- ---- Answers that are Ok.

pub record Read {A B : Type 0} (next : A → Answer B) (first : Answer A) (y : B) : Type 0 where
  pub x : A
  pub was : first ≡ Ok x
  pub gave : next x ≡ Ok y

pub was_read : {A B : Type 0} (next : A → Answer B) (first : Answer A) (y : B) →
    and_then next first ≡ Ok y → Read next first y
was_read next (Ok x) y is = record { x = x; was = refl; gave = is }
was_read next (Err e) y is = absurd (cc)

pub number_read : (least most v : ℕ) (text : List ℕ) → number_in least most text ≡ Ok v → (least ≤ v) × (v ≤ most)
unfolding number_in
number_read least most v text is = by (is_numeral text) is
  where
    inside : (n : ℕ) (b : Bool) → (nat_le least n && nat_le n most) ≡ b → (if b then Ok n else bad) ≡ Ok v →
        (least ≤ v) × (v ≤ most)
    inside n true is told =
        let same : n ≡ v = cc in
        let parts = and_parts (nat_le least n) (nat_le n most) is in
        let low : least ≤ n = leb-true least n parts.0 in
        let high : n ≤ most = leb-true n most parts.1 in
        (omega arith, omega arith)
    inside n false is told = absurd (cc)

    by : (b : Bool) → (if b then within least most (digits_value 10 text) else bad) ≡ Ok v → (least ≤ v) × (v ≤ most)
    by true is = inside (digits_value 10 text) (nat_le least (digits_value 10 text)
        && nat_le (digits_value 10 text) most) refl is
    by false is = absurd (cc)

master_read : (n m : ℕ) (name : List ℕ) → 1 ≤ n → master_in n name ≡ Ok m → m < n
unfolding master_in
master_read n m [] some is = absurd (cc)
master_read n m (letter ∷ digits) some is = by (letter == 109) is
  where
    by : (b : Bool) → (if b then number_in 0 (n - 1) digits else bad) ≡ Ok m → m < n
    by true is = let within = number_read 0 (n - 1) m digits is in omega (arith, within.1)
    by false is = absurd (cc)

pub fields_read : (n : ℕ) (words : List (List ℕ)) (p : ℕ × (ℕ × List ℕ)) → 1 ≤ n → fields_of_words n words ≡ Ok p
    → (p.0 < n) × (1 ≤ p.1.0) × (p.1.0 ≤ 65536)
fields_read n [] p some is = absurd (cc)
fields_read n (a ∷ []) p some is = absurd (cc)
fields_read n (a ∷ b ∷ []) p some is = absurd (cc)
fields_read n (a ∷ b ∷ c ∷ d ∷ more) p some is = absurd (cc)
fields_read n (name ∷ size ∷ digits ∷ []) p some is =
    let first = both_read (master_in n name) (both (number_in 1 65536 size) (bytes_of digits)) p is in
    let second = both_read (number_in 1 65536 size) (bytes_of digits) p.1 first.1 in
    let within = number_read 1 65536 p.1.0 size second.0 in
    (master_read n p.0 name some first.0, within.0, within.1)

fitting_read : (f : ℕ) (p : ℕ × (ℕ × List ℕ)) (part : Part) → fitting f p ≡ Ok part
    → (length p.1.1 ≡ width f p.1.0) × (part ≡ record { master = p.0; length = p.1.0; bytes = p.1.1 })
fitting_read f p part is = by (nat_eq (length p.1.1) (width f p.1.0)) refl is
  where
    by : (b : Bool) → nat_eq (length p.1.1) (width f p.1.0) ≡ b →
        (if b then Ok (record { master = p.0; length = p.1.0; bytes = p.1.1 }) else bad) ≡ Ok part
        → (length p.1.1 ≡ width f p.1.0) × (part ≡ record { master = p.0; length = p.1.0; bytes = p.1.1 })
    by true same is = (eqb-true (length p.1.1) (width f p.1.0) same, cc)
    by false other is = absurd (cc)

can_be : (n f : ℕ) (p : ℕ × (ℕ × List ℕ)) → p.0 < n → 1 ≤ p.1.0 → p.1.0 ≤ 65536 → length p.1.1 ≡ width f p.1.0
    → CanBePart n f (record { master = p.0; length = p.1.0; bytes = p.1.1 })
can_be n f p low some few wide = (some, few, (low, refl, wide))

-- a part that a line gives can be its master's
pub part_read : (n f : ℕ) (line : List ℕ) (part : Part) → 1 ≤ n → part_in n f line ≡ Ok part → CanBePart n f part
unfolding part_in
part_read n f line part some is =
    let given = was_read (fitting f) (and_then (fields_of_words n) (line_words line)) part is in
    let words = was_read (fields_of_words n) (line_words line) given.x given.was in
    let within = fields_read n words.x given.x some words.gave in
    let fits = fitting_read f given.x part given.gave in
    subst (CanBePart n f) (sym fits.1) (can_be n f given.x within.0 within.1 within.2 fits.0)

-- ---- The parts of lines that rise.

least_read : (least : ℕ) (part p : Part) → from_least least part ≡ Ok p → (part ≡ p) × (least ≤ part.master)
least_read least part p is = by (nat_le least part.master) refl is
  where
    by : (b : Bool) → nat_le least part.master ≡ b → (if b then Ok part else bad) ≡ Ok p →
        (part ≡ p) × (least ≤ part.master)
    by true low is = (cc, leb-true least part.master low)
    by false low is = absurd (cc)

-- the first of the lines, and those behind it
pub record Rises (least number : ℕ) (line : Answer Part) (more : List (Answer Part)) (parts : List Part) : Type 0 where
  pub part : Part
  pub rest : List Part
  pub line_is : line ≡ Ok part
  pub low : least ≤ part.master
  pub rest_are : rising (part.master + 1) (number + 1) more ≡ Ok rest
  pub parts_are : parts ≡ part ∷ rest

abbrev after : ℕ → List (Answer Part) → Answer Part → Reading (List Part)
after number more a = elim a [
  | Ok p ↦ before p (rising (p.master + 1) (number + 1) more)
  | Err e ↦ bad_line number
]

pub rises : (least number : ℕ) (line : Answer Part) (more : List (Answer Part)) (parts : List Part) →
    rising least number (line ∷ more) ≡ Ok parts
    → Rises least number line more parts
rises least number (Err e) more parts is = absurd (cc)
rises least number (Ok part) more parts is = by (from_least least part) refl is
  where
    behind_it : (p : Part) (r : Reading (List Part)) → from_least least part ≡ Ok p →
        rising (p.master + 1) (number + 1) more ≡ r → before p r ≡ Ok parts
        → Rises least number (Ok part) more parts
    behind_it p (Ok rest) low next is =
        let first = least_read least part p low in
        let same : ◌≡◌ {A = List Part} (p ∷ rest) parts = cc in record {
          part = part;
          rest = rest;
          line_is = refl;
          low = first.1;
          rest_are = ap (λ (q : Part). rising (q.master + 1) (number + 1) more) first.0 ∙ next;
          parts_are = sym same ∙ ap (λ (q : Part). q ∷ rest) (sym first.0);
        }
    behind_it p (Err e) low next is = absurd (cc)

    by : (a : Answer Part) → from_least least part ≡ a
        → after number more a ≡ Ok parts → Rises least number (Ok part) more parts
    by (Ok p) low is = behind_it p (rising (p.master + 1) (number + 1) more) low refl is
    by (Err e) low is = absurd (cc)

-- of lines of parts
pub masters_rise : (least number : ℕ) (lines : List (Answer Part)) (parts : List Part) →
    rising least number lines ≡ Ok parts → RiseFrom least parts
masters_rise least number [] parts is = let none : [] ≡ parts = cc in subst (RiseFrom least) none tt
masters_rise least number (line ∷ more) parts is =
    let step = rises least number line more parts is in
    subst (RiseFrom least) (sym step.parts_are)
    (step.low, masters_rise (step.part.master + 1) (number + 1) more step.rest step.rest_are)

higher : (x least : ℕ) (parts : List Part) → x < least → RiseFrom least parts → DiffersFrom x (masters parts)
higher x least [] low rise = tt
higher x least (part ∷ parts) low rise =
    let up = rise.0 in
    ((λ (same : x ≡ part.master). omega (arith, up, same)), higher x (part.master + 1) parts (omega (arith, up)) rise.1)

pub rising_differ : (least : ℕ) (parts : List Part) → RiseFrom least parts → AreDifferent (masters parts)
rising_differ least [] rise = tt
rising_differ least (part ∷ parts) rise = (
  higher part.master (part.master + 1) parts (omega arith) rise.1,
  rising_differ (part.master + 1) parts rise.1,
)

abbrev EachCan : ℕ → ℕ → List (Answer Part) → Type 0
EachCan n f = AllByRecursion (λ (line : Answer Part). (part : Part) → line ≡ Ok part → CanBePart n f part)

each_can : (n f : ℕ) (lines : List (List ℕ)) → 1 ≤ n → EachCan n f (each_line (part_in n f) lines)
each_can n f [] some = tt
each_can n f (last ∷ []) some = by (is_empty last)
  where
    by : (b : Bool) → EachCan n f (if b then [] else bad ∷ [])
    by true = tt
    by false = ((λ part is. absurd (cc)), tt)
each_can n f (line ∷ next ∷ more) some = ((λ part is. part_read n f line part some is), each_can n f (next ∷ more) some)

all_can : (n f least number : ℕ) (lines : List (Answer Part)) (parts : List Part) → EachCan n f lines →
    rising least number lines ≡ Ok parts
    → AllByRecursion (CanBePart n f) parts
all_can n f least number [] parts can is = let none : [] ≡ parts = cc in subst (AllByRecursion (CanBePart n f)) none tt
all_can n f least number (line ∷ more) parts can is =
    let step = rises least number line more parts is in
    subst (AllByRecursion (CanBePart n f)) (sym step.parts_are)
    (can.0 step.part step.line_is, all_can n f (step.part.master + 1) (number + 1) more step.rest can.1 step.rest_are)

-- ---- What a whole text tells.

pub record IsTold (n f : ℕ) (bytes : List ℕ) (t : Told) : Type 0 where
  pub line : List ℕ
  pub next : List ℕ
  pub more : List (List ℕ)
  pub cut : pieces bytes ≡ line ∷ next ∷ more
  pub digest : digest_in line ≡ Ok t.digest
  pub parts : rising 0 2 (each_line (part_in n f) (next ∷ more)) ≡ Ok t.parts

parts_told : (digest : List ℕ) (r : Reading (List Part)) (t : Told) → told digest r ≡ Ok t →
    (digest ≡ t.digest) × (r ≡ Ok t.parts)
parts_told digest (Ok parts) t is =
    let same : record { digest = digest; parts = parts } ≡ t = cc in
    (ap (λ (x : Told). x.digest) same, ap (λ (x : Told). Ok x.parts) same)
parts_told digest (Err e) t is = absurd (cc)

pub is_told : (n f : ℕ) (bytes : List ℕ) (t : Told) → told_in n f bytes ≡ Ok t → IsTold n f bytes t
unfolding told_in
is_told n f bytes t is = by (pieces bytes) refl is
  where
    digested : (line next : List ℕ) (more : List (List ℕ)) (a : Answer (List ℕ)) → pieces bytes ≡ line ∷ next ∷ more →
        digest_in line ≡ a
        → behind_digest n f a (next ∷ more) ≡ Ok t → IsTold n f bytes t
    digested line next more (Ok digest) cut first is =
        let given = parts_told digest (rising 0 2 (each_line (part_in n f) (next ∷ more))) t is in
        record { line = line; next = next; more = more; cut = cut; digest = first ∙ ap Ok given.0; parts = given.1 }
    digested line next more (Err e) cut first is = absurd (cc)

    by : (lines : List (List ℕ)) → pieces bytes ≡ lines → told_by n f lines ≡ Ok t → IsTold n f bytes t
    by [] cut is = absurd (cc)
    by (last ∷ []) cut is = absurd (cc)
    by (line ∷ next ∷ more) cut is = digested line next more (digest_in line) cut refl is

pub told_differ : (n f : ℕ) (bytes : List ℕ) (t : Told) → told_in n f bytes ≡ Ok t → AreDifferent (masters t.parts)
told_differ n f bytes t is =
    let given = is_told n f bytes t is in
    rising_differ 0 t.parts (masters_rise 0 2 (each_line (part_in n f) (given.next ∷ given.more)) t.parts given.parts)

pub told_can : (n f : ℕ) (bytes : List ℕ) (t : Told) → 1 ≤ n → told_in n f bytes ≡ Ok t →
    AllByRecursion (CanBePart n f) t.parts
told_can n f bytes t some is =
    let given = is_told n f bytes t is in
    all_can n f 0 2 (each_line (part_in n f) (given.next ∷ given.more)) t.parts
    (each_can n f (given.next ∷ given.more) some) given.parts

-- the master of a part that was read next is one of the group's
pub next_low : (n f least : ℕ) (line : List ℕ) (part : Part) → 1 ≤ n →
    and_then (from_least least) (part_in n f line) ≡ Ok part → part.master < n
next_low n f least line part some is =
    let given = was_read (from_least least) (part_in n f line) part is in
    let same = least_read least given.x part given.gave in
    let can = part_read n f line given.x some given.was in
    subst (λ (p : Part). p.master < n) same.0 can.2.0
