-- A master's words, said one after the other: what was said so far is the front of them, and what is left is the rest.
use Rattle.std.proofs.Common.{if◌then◌else◌, Bool, append_assoc, ◌≡◌, ◌<◌, ◌≤◌, ◌+◌, ◌-◌, ℕ, zero, suc, List, [], ◌∷◌}
use Rattle.std.proofs.Common.{◌++◌, length, map, take, drop, add-one, refl, sym, ◌∙◌, ap, arith}
use Rattle.std.proofs.lemmas.List.{take_all, drop_all, length-drop, map-append}
use Rattle.quorum_sets.specs.Masters.{numbers_below, voters}
use Rattle.quorum_sets.proofs.MastersLemmas.{numbers_below-suc, voters-suc}
use Rattle.play_words.specs.declared.input.Input.{Input}
use Rattle.script_lines.specs.declared.saying.Saying.{Saying}
use Rattle.script_lines.specs.Given.{say}

-- one word more
pub one_left : (words : List Saying) (i : ℕ) (s : Saying) (more : List Saying) → s ∷ more ≡ drop i words →
    drop (i + 1) words ≡ more
one_left [] zero s more is = absurd (cc)
one_left [] (suc i) s more is = absurd (cc)
one_left (x ∷ xs) zero s more is = let same : xs ≡ more = cc in same
one_left (x ∷ xs) (suc i) s more is = rw (add-one (suc i)) (rw (add-one i) at (one_left xs i s more is))

pub one_said : (words : List Saying) (i : ℕ) (s : Saying) (more : List Saying) → s ∷ more ≡ drop i words
    → map say (take (i + 1) words) ≡ map say (take i words) ++ say s ∷ []
one_said [] zero s more is = absurd (cc)
one_said [] (suc i) s more is = absurd (cc)
one_said (x ∷ xs) zero s more is = let same : x ≡ s = cc in ap (λ y. say y ∷ []) same
one_said (x ∷ xs) (suc i) s more is =
    rw (add-one (suc i)) (ap (λ l. say x ∷ l) (rw (add-one i) at (one_said xs i s more is)))

all_said : (words : List Saying) (i : ℕ) → [] ≡ drop i words → length words ≤ i
all_said words i none = let left : length words - i ≡ 0 = sym (length-drop i words)
    ∙ ap length (sym none) in omega arith

-- no word is left
pub none_said : (words : List Saying) (i times : ℕ) → [] ≡ drop i words → i ≤ times →
    map say (take times words) ≡ map say (take i words)
none_said words i times none few =
    let end = all_said words i none in
    ap (map say) (take_all times words (omega arith) ∙ sym (take_all i words end))

pub none_left : (words : List Saying) (i times : ℕ) → [] ≡ drop i words → i ≤ times → drop times words ≡ []
none_left words i times none few = let end = all_said words i none in drop_all times words (omega arith)

pub given_more : (all items new : List Input) (words : List Saying) (i : ℕ) (s : Saying)
    (more : List Saying) (v : Input)
    → items ≡ all ++ map say (take i words) → s ∷ more ≡ drop i words → v ≡ say s → new ≡ items ++ v ∷ [] →
    new ≡ all ++ map say (take (i + 1) words)
given_more all items new words i s more v before is value added =
    added ∙ (ap (λ y. items ++ y ∷ []) value ∙ (ap (λ l. l ++ say s ∷ []) before
    ∙ (append_assoc all (map say (take i words)) (say s ∷ []) ∙ ap (λ l. all ++ l) (sym (one_said words i s more is)))))

-- one actor more, where it is named
pub among_more : (t : ℕ → Bool) (n : ℕ) (old new : List ℕ) (b : Bool) → old ≡ voters t n → b ≡ t n →
    new ≡ old ++ (if b then n ∷ [] else [])
    → new ≡ voters t (n + 1)
among_more t n old new b before test added =
    let later : n + 1 ≡ suc n = omega arith in
    added ∙ (ap (λ l. l ++ (if b then n ∷ [] else [])) before ∙ (ap (λ c. voters t n ++ (if c then n ∷ [] else [])) test
    ∙ sym (ap (voters t) later ∙ voters-suc t n)))

-- one list for each actor, one actor more
pub lists_start : {A B : Type 0} (see : A → B) (f : ℕ → B) (lists : List A) → lists ≡ [] →
    map see lists ≡ map f (numbers_below 0)
unfolding numbers_below
lists_start see f lists none = ap (map see) none

pub lists_more : {A B : Type 0} (see : A → B) (f : ℕ → B) (n : ℕ) (old new : List A) (x : A) →
    map see old ≡ map f (numbers_below n) → see x ≡ f n
    → new ≡ old ++ x ∷ [] → map see new ≡ map f (numbers_below (n + 1))
lists_more see f n old new x before is added =
    let later : n + 1 ≡ suc n = omega arith in
    ap (map see) added ∙ (map-append see old (x ∷ [])
    ∙ (ap (λ l. l ++ see x ∷ []) before ∙ (ap (λ y. map f (numbers_below n) ++ y ∷ []) is
    ∙ sym (ap (λ k. map f (numbers_below k)) later
    ∙ (ap (map f) (numbers_below-suc n) ∙ map-append f (numbers_below n) (n ∷ []))))))
