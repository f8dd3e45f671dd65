-- Where f + 1 parts are those of one text of the digest, a text is found, and what is found has the digest.
use Rattle.std.proofs.Common.{◌≡◌, ◌∙◌, ◌+◌, ◌≤◌, ◌⊎◌, inl, inr, ◌++◌, ℕ, zero, suc, Bool, true, false, cond, List}
use Rattle.std.proofs.Common.{[], ◌∷◌, ◌&&◌, Option, Some, None, map, take, length, nat_eq, if◌then◌else◌, refl, sym}
use Rattle.std.proofs.Common.{ap, arith}
use Rattle.std.specs.List.{AllByRecursion, filter, list_all}
use Rattle.std.specs.Str.{bytes_eq}
use Rattle.std.proofs.lemmas.Bool.{and_parts, and_from, eq-eqb, eqb-true}
use Rattle.std.proofs.lemmas.List.{length-take-le}
use Rattle.std.proofs.lemmas.List.FromFn.{length-map-range_with_len}
use Rattle.std.proofs.lemmas.Slice.Eq.{bytes_eq-Decides}
use Rattle.sha2.specs.Sha256.{sha256}
use Rattle.parity_parts.specs.Parts.{AreBytes, AreDifferent, Fits, IsPartOf, first_length, is_part_of, joined}
use Rattle.parity_parts.specs.Parts.{joined_byte}
use Rattle.parity_parts.specs.Parts.{masters, part_bytes, width}
use Rattle.parity_parts.specs.Rebuilding.{CanBePart, HasEnoughOf, else_by, first_text, have_one_length, rebuilt, sets}
use Rattle.parity_parts.specs.Rebuilding.{text_of}
use Rattle.parity_parts.specs.declared.part.Part.{Part}
use Rattle.parity_parts.proofs.Joins.{first_own, own_joined}
use Rattle.parity_parts.proofs.Sublists.{all_passing, all_take, different_passing, different_take, passing}
use Rattle.parity_parts.proofs.Sublists.{small_ones}

-- ---- A set of one length may be joined.

pub of_one_length : (n f size : ℕ) (set : List Part) → list_all (λ part. nat_eq part.length size) set ≡ true
    → AllByRecursion (CanBePart n f) set → AllByRecursion (Fits n f size) set
of_one_length n f size [] same can = tt
of_one_length n f size (p ∷ ps) same can =
    let parts = and_parts (nat_eq p.length size) (list_all (λ part. nat_eq part.length size) ps) same in
    let is : p.length ≡ size = eqb-true p.length size parts.0 in
    ((can.0.2.0, is, can.0.2.2 ∙ ap (width f) is), of_one_length n f size ps parts.1 can.1)

pub joined_length : (n f : ℕ) (set : List Part) (text : List ℕ) → length set ≡ f + 1
    → AllByRecursion (CanBePart n f) set → text ≡ joined f set → (1 ≤ length text) × (length text ≤ 65536)
unfolding joined
joined_length n f [] text count can is = absurd (omega arith)
joined_length n f (p ∷ ps) text count can is =
    let size : length text ≡ p.length =
    ap length is ∙ length-map-range_with_len (joined_byte (width f p.length) (p ∷ ps)) 0 p.length in
    let some = can.0.0 in
    let few = can.0.1 in
    (omega arith, omega arith)

-- ---- What is found has the digest.

chosen_digest : (told : Bool) (joint text : List ℕ) → (if told then Some joint else None) ≡ Some text
    → (told ≡ true) × (joint ≡ text)
chosen_digest true joint text is = (refl, grind (arith, is))
chosen_digest false joint text is = absurd (grind (arith, is))

text_digest : (f : ℕ) (digest : List ℕ) (set : List Part) (text : List ℕ) → text_of f digest set ≡ Some text
    → sha256 text ≡ digest
text_digest f digest set text is =
    let both = chosen_digest (have_one_length set && bytes_eq (sha256 (joined f set)) digest) (joined f set) text is in
    let told = and_parts (have_one_length set) (bytes_eq (sha256 (joined f set)) digest) both.0 in
    sym (ap sha256 both.1) ∙ (bytes_eq-Decides (sha256 (joined f set)) digest).0 told.1

first_digest_step : (digest : List ℕ) (a b : Option (List ℕ)) (text : List ℕ)
    → ((t : List ℕ) → a ≡ Some t → sha256 t ≡ digest) → ((t : List ℕ) → b ≡ Some t → sha256 t ≡ digest)
    → else_by a b ≡ Some text → sha256 text ≡ digest
first_digest_step digest None b text one rest is = rest text is
first_digest_step digest (Some t) b text one rest is = one text is

first_digest : (f : ℕ) (digest : List ℕ) (all : List (List Part)) (text : List ℕ) → first_text f digest all ≡ Some text
    → sha256 text ≡ digest
first_digest f digest [] text is = absurd (grind (arith, is))
first_digest f digest (set ∷ all) text is =
    first_digest_step digest (text_of f digest set) (first_text f digest all) text (text_digest f digest set)
    (first_digest f digest all) is

pub rebuilt_digest : (f : ℕ) (digest : List ℕ) (parts : List Part) (text : List ℕ) → rebuilt f digest parts ≡ Some text
    → sha256 text ≡ digest
rebuilt_digest f digest parts text = first_digest f digest (sets (suc f) parts) text

-- ---- A set with a text is among them.

abbrev IsAmong : List Part → List (List Part) → Type 0
IsAmong set [] = ⊥
IsAmong set (other ∷ others) = (set ≡ other) ⊎ IsAmong set others

among_left : (set : List Part) (a b : List (List Part)) → IsAmong set a → IsAmong set (a ++ b)
among_left set [] b there = absurd there
among_left set (other ∷ a) b (inl is) = inl is
among_left set (other ∷ a) b (inr there) = inr (among_left set a b there)

among_right : (set : List Part) (a b : List (List Part)) → IsAmong set b → IsAmong set (a ++ b)
among_right set [] b there = there
among_right set (other ∷ a) b there = inr (among_right set a b there)

among_behind : (p : Part) (set : List Part) (a : List (List Part)) → IsAmong set a
    → IsAmong (p ∷ set) (map (λ s. p ∷ s) a)
among_behind p set [] there = absurd there
among_behind p set (other ∷ a) (inl is) = inl (ap (λ s. p ∷ s) is)
among_behind p set (other ∷ a) (inr there) = inr (among_behind p set a there)

passing_set_step : (passes : Bool) (count : ℕ) (p : Part) (ps few : List Part)
    → (count ≤ length few → IsAmong (take count few) (sets count ps))
    → (suc count ≤ length few → IsAmong (take (suc count) few) (sets (suc count) ps))
    → suc count ≤ length (cond passes (p ∷ few) few)
    → IsAmong (take (suc count) (cond passes (p ∷ few) few)) (sets (suc count) (p ∷ ps))
passing_set_step true count p ps few with_it without enough =
    among_left (p ∷ take count few) (map (λ s. p ∷ s) (sets count ps)) (sets (suc count) ps)
    (among_behind p (take count few) (sets count ps) (with_it (omega arith)))
passing_set_step false count p ps few with_it without enough =
    among_right (take (suc count) few) (map (λ s. p ∷ s) (sets count ps)) (sets (suc count) ps) (without enough)

-- the first parts that pass a test are one of the sets
passing_set : (test : Part → Bool) (count : ℕ) (parts : List Part) → count ≤ length (filter test parts)
    → IsAmong (take count (filter test parts)) (sets count parts)
passing_set test zero parts enough = inl refl
passing_set test (suc count) [] enough = absurd (omega arith)
passing_set test (suc count) (p ∷ ps) enough =
    passing_set_step (test p) count p ps (filter test ps) (passing_set test count ps) (passing_set test (suc count) ps)
    enough

first_none_step : (a b : Option (List ℕ)) → else_by a b ≡ None → (a ≡ None) × (b ≡ None)
first_none_step None b none = (refl, none)
first_none_step (Some text) b none = absurd (grind (arith, none))

none_among : (f : ℕ) (digest : List ℕ) (set : List Part) (all : List (List Part)) → first_text f digest all ≡ None
    → IsAmong set all → text_of f digest set ≡ None
none_among f digest set [] none there = absurd there
none_among f digest set (other ∷ all) none (inl is) =
    ap (text_of f digest) is ∙ (first_none_step (text_of f digest other) (first_text f digest all) none).0
none_among f digest set (other ∷ all) none (inr there) =
    none_among f digest set all (first_none_step (text_of f digest other) (first_text f digest all) none).1 there

-- ---- The set of a text's own parts has it.

own_parts : (f : ℕ) (whole : List ℕ) (set : List Part) → AllByRecursion (λ part. is_part_of f whole part ≡ true) set
    → AllByRecursion (IsPartOf f whole) set
own_parts f whole [] own = tt
own_parts f whole (p ∷ ps) own =
    let both = and_parts (nat_eq p.length (length whole)) (bytes_eq p.bytes (part_bytes f p.master whole)) own.0 in (
      (eqb-true p.length (length whole) both.0, (bytes_eq-Decides p.bytes (part_bytes f p.master whole)).0 both.1),
      own_parts f whole ps own.1,
    )

own_length : (f size : ℕ) (whole : List ℕ) (set : List Part) → size ≡ length whole →
    AllByRecursion (IsPartOf f whole) set
    → list_all (λ part. nat_eq part.length size) set ≡ true
own_length f size whole [] is own = refl
own_length f size whole (p ∷ ps) is own =
    and_from (nat_eq p.length size) (list_all (λ part. nat_eq part.length size) ps)
    (eq-eqb p.length size (own.0.0 ∙ sym is)) (own_length f size whole ps is own.1)

chosen_text : (same : Bool) (joint whole digest : List ℕ) → same ≡ true → joint ≡ whole → sha256 whole ≡ digest
    → (if same && bytes_eq (sha256 joint) digest then Some joint else None) ≡ Some whole
chosen_text same joint whole digest one is told =
    let both : (same && bytes_eq (sha256 joint) digest) ≡ true =
    and_from same (bytes_eq (sha256 joint) digest) one
    ((bytes_eq-Decides (sha256 joint) digest).1 (ap sha256 is ∙ told)) in
    ap (λ (b : Bool). if b then Some joint else None) both ∙ ap (λ (t : List ℕ). Some t) is

own_text : (n f : ℕ) (digest whole : List ℕ) (set : List Part) → n ≤ 16 → length set ≡ f + 1
    → AreDifferent (masters set) → AllByRecursion (CanBePart n f) set → AreBytes whole
    → AllByRecursion (IsPartOf f whole) set → sha256 whole ≡ digest → text_of f digest set ≡ Some whole
own_text n f digest whole set small count different can bytes own told =
    let size : first_length set ≡ length whole = first_own f set whole count own in
    chosen_text (have_one_length set) (joined f set) whole digest (own_length f (first_length set) whole set size own)
    (own_joined f set whole count different (small_ones n f set small can) bytes own) told

pub is_found : (n f : ℕ) (digest whole : List ℕ) (parts : List Part) → n ≤ 16 → AreDifferent (masters parts)
    → AllByRecursion (CanBePart n f) parts → AreBytes whole → sha256 whole ≡ digest → HasEnoughOf f whole parts
    → rebuilt f digest parts ≡ None → ⊥
is_found n f digest whole parts small different can bytes told enough none =
    let test : Part → Bool = is_part_of f whole in
    let few : List Part = filter test parts in
    let set : List Part = take (suc f) few in
    let many : length set ≡ suc f = length-take-le (suc f) few (omega arith) in
    let count : length set ≡ f + 1 = omega arith in
    let own : AllByRecursion (IsPartOf f whole) set =
    own_parts f whole set (all_take (λ part. test part ≡ true) (suc f) few (passing test parts)) in
    let there : text_of f digest set ≡ Some whole =
    own_text n f digest whole set small count (different_take (suc f) few (different_passing test parts different))
    (all_take (CanBePart n f) (suc f) few (all_passing (CanBePart n f) test parts can)) bytes own told in
    let gone : text_of f digest set ≡ None =
    none_among f digest set (sets (suc f) parts) none (passing_set test (suc f) parts (omega arith)) in
    let same : Some whole ≡ None = sym there ∙ gone in
    grind (arith, same)
