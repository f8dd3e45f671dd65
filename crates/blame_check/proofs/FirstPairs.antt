-- The first pair of a master: what one word more changes, and what it says where there is none.
use Rattle.std.proofs.Common.{◌≡◌, ℕ, Bool, true, false, cond, List, [], ◌∷◌, ◌++◌, Option, Some, None, nat_eq, refl}
use Rattle.std.proofs.Common.{sym, ◌∙◌, ap, subst, inl, inr, append_assoc, eqb-true, eq-eqb}
use Rattle.std.proofs.lemmas.List.{append-nil}
use Rattle.std.specs.List.{find}
use Rattle.std.specs.Option.{option_map, option_or}
use Rattle.plain_lists.specs.Lists.{IsIn, here, there}
use Rattle.plain_lists.proofs.Members.{none_in, in_cons_cases, in_cases, find_some, some_same, none_some, in_left, in_first}
use Rattle.message_types.specs.declared.signed.Signed.{Signed}
use Rattle.message_types.specs.declared.body.Body.{Body}
use Rattle.agreement.proofs.Places.{by_growth}
use Rattle.blame_check.specs.declared.pairs.Named.{Named}
use Rattle.blame_check.specs.Contradictions.{are_rivals, contradict, pair_of, pair_with, first_pair}
use Rattle.blame_check.proofs.Rivals.{rivals_swap, not_contrary}

pub or_none : {X : Type 0} (o : Option X) → option_or o None ≡ o
or_none None = refl
or_none (Some x) = refl

or_more : {X : Type 0} (a b c : Option X) → option_or a (option_or b c) ≡ option_or (option_or a b) c
or_more None b c = refl
or_more (Some x) b c = refl

or_nones : {X : Type 0} (a b : Option X) → option_or a b ≡ None → (a ≡ None) × (b ≡ None)
or_nones None b e = (refl, e)
or_nones (Some x) b e = absurd (none_some (sym e))

-- one word more
pub first_pair-more : (m : ℕ) (before words : List (Signed Body)) (q : Signed Body)
    → first_pair m before (words ++ q ∷ []) ≡ option_or (first_pair m before words) (pair_with m (before ++ words) q)
first_pair-more m before [] q = or_none (pair_with m before q) ∙ ap (λ (ws : List (Signed Body)). pair_with m ws q)
    (sym (append-nil before))
first_pair-more m before (x ∷ words) q =
    ap (option_or (pair_with m before x)) (first_pair-more m (before ++ x ∷ []) words q)
    ∙ or_more (pair_with m before x) (first_pair m (before ++ x ∷ []) words)
    (pair_with m ((before ++ x ∷ []) ++ words) q)
    ∙ ap (λ (ws : List (Signed Body)). option_or
    (option_or (pair_with m before x) (first_pair m (before ++ x ∷ []) words)) (pair_with m ws q))
    (append_assoc before (x ∷ []) words)

-- what is not found, and what is found
pub find_nothing : {X : Type 0} (f : X → Bool) {x : X} (xs : List X) → find f xs ≡ None → IsIn x xs → f x ≡ false
find_nothing f [] e h = absurd (none_in h)
find_nothing {X} f {x} (y ∷ xs) e h = by (f y) refl e (λ none later. find_nothing f xs none later)
  where
    by : (b : Bool) → f y ≡ b → cond b (Some y) (find f xs) ≡ None →
        (find f xs ≡ None → IsIn x xs → f x ≡ false) → f x ≡ false
    by true t none deeper = absurd (none_some (sym none))
    by false t none deeper = elim (in_cons_cases h) [ inl same ↦ ap f same ∙ t | inr later ↦ deeper none later ]

pub finds_nothing : {X : Type 0} (f : X → Bool) (xs : List X) → ((x : X) → IsIn x xs → f x ≡ false) → find f xs ≡ None
finds_nothing f [] none = refl
finds_nothing f (x ∷ xs) none = ap (λ (b : Bool). cond b (Some x) (find f xs)) (none x (here xs))
    ∙ finds_nothing f xs (λ y h. none y (there x xs h))

-- the first that passes a test is also the first that passes a narrower one
pub finds_first : {X : Type 0} (f g : X → Bool) {x : X} (xs : List X) → ((y : X) → f y ≡ false → g y ≡ false) →
    find f xs ≡ Some x → g x ≡ true → find g xs ≡ Some x
finds_first f g [] narrow e t = absurd (none_some e)
finds_first {X} f g {x} (y ∷ xs) narrow e t = by (f y) refl e (λ found. finds_first f g xs narrow found t)
  where
    by : (b : Bool) → f y ≡ b → cond b (Some y) (find f xs) ≡ Some x → (find f xs ≡ Some x → find g xs ≡ Some x) →
        cond (g y) (Some y) (find g xs) ≡ Some x
    by true passes found deeper = ap (λ (b : Bool). cond b (Some y) (find g xs)) (ap g (some_same found) ∙ t) ∙ found
    by false fails found deeper = ap (λ (b : Bool). cond b (Some y) (find g xs)) (narrow y fails) ∙ deeper found

no_pair : (m : ℕ) (before : List (Signed Body)) (q : Signed Body) → pair_with m before q ≡ None → q.signer ≡ m →
    find (λ p. contradict p q) before ≡ None
no_pair m before q none by = found (find (λ p. contradict p q) before)
    (sym (ap (λ (b : Bool). cond b (option_map (λ p. pair_of p q) (find (λ p. contradict p q) before)) None)
    (eq-eqb q.signer m by)) ∙ none)
  where
    found : (o : Option (Signed Body)) → option_map (λ p. pair_of p q) o ≡ None → o ≡ None
    found None e = refl
    found (Some p) e = absurd (none_some (sym e))

with_last : (m : ℕ) (before : List (Signed Body)) (z : Signed Body) → pair_with m before z ≡ None →
    (p : Signed Body) → IsIn p before
    → p.signer ≡ m → z.signer ≡ m → are_rivals p.body z.body ≡ true → p.body ≡ z.body
with_last m before z none p among p_by z_by rivals =
    not_contrary p z (p_by ∙ sym z_by) rivals
    (find_nothing (λ x. contradict x z) before (no_pair m before z none z_by) among)

abbrev OneWord : ℕ → List (Signed Body) → Type 0
OneWord m words =
    first_pair m [] words ≡ None → (p q : Signed Body) → IsIn p words → IsIn q words → p.signer ≡ m → q.signer ≡ m →
    are_rivals p.body q.body ≡ true → p.body ≡ q.body

one_more : (m : ℕ) (before : List (Signed Body)) (z : Signed Body) → OneWord m before → OneWord m (before ++ z ∷ [])
one_more m before z earlier none p q p_in q_in p_by q_by rivals =
    let both = or_nones (first_pair m [] before) (pair_with m before z) (sym (first_pair-more m [] before z) ∙ none) in
    elim (in_cases before p_in) [
      | inl p_before ↦ elim (in_cases before q_in) [
        | inl q_before ↦ earlier both.0 p q p_before q_before p_by q_by rivals
        | inr q_behind ↦ elim (in_cons_cases q_behind) [
          | inl is ↦
              with_last m before z both.1 p p_before p_by (sym (ap (λ (x : Signed Body). x.signer) is) ∙ q_by)
              (sym (ap (λ (x : Signed Body). are_rivals p.body x.body) is) ∙ rivals)
              ∙ sym (ap (λ (x : Signed Body). x.body) is)
          | inr nowhere ↦ absurd (none_in nowhere)
        ]
      ]
      | inr p_behind ↦ elim (in_cons_cases p_behind) [
        | inl is ↦ elim (in_cases before q_in) [
          | inl q_before ↦
              ap (λ (x : Signed Body). x.body) is
              ∙ sym (with_last m before z both.1 q q_before q_by (sym (ap (λ (x : Signed Body). x.signer) is) ∙ p_by)
              (sym (ap (λ (x : Signed Body). are_rivals q.body x.body) is) ∙ rivals_swap p.body q.body rivals))
          | inr q_behind ↦ elim (in_cons_cases q_behind) [
            | inl same ↦ ap (λ (x : Signed Body). x.body) is ∙ sym (ap (λ (x : Signed Body). x.body) same)
            | inr nowhere ↦ absurd (none_in nowhere)
          ]
        ]
        | inr nowhere ↦ absurd (none_in nowhere)
      ]
    ]

-- a master that has no pair said one word for the same numbers
pub one_word : (m : ℕ) (words : List (Signed Body)) → OneWord m words
one_word m words = by_growth (OneWord m) (λ none p q p_in q_in p_by q_by rivals. absurd (none_in p_in))
    (one_more m) words

-- the pair of a master is one of its words and those before it
pub record IsPair (m : ℕ) (words : List (Signed Body)) (x : Named) : Type 0 where
  pub master : x.master ≡ m
  pub by : x.second.signer ≡ m
  pub first_in : IsIn x.first words
  pub second_in : IsIn x.second words
  pub contrary : contradict x.first x.second ≡ true

pair_found : (m : ℕ) (before : List (Signed Body)) (z : Signed Body) (x : Named) → z.signer ≡ m →
    (o : Option (Signed Body)) → find (λ p. contradict p z) before ≡ o
    → option_map (λ p. pair_of p z) o ≡ Some x → IsPair m (before ++ z ∷ []) x
pair_found m before z x by None e is = absurd (none_some is)
pair_found m before z x by (Some p) e is =
    let found = find_some (λ y. contradict y z) before e in
    subst (λ (y : Named). IsPair m (before ++ z ∷ []) y) (some_same is)
    record {
      master = by;
      by = by;
      first_in = in_left (z ∷ []) found.0;
      second_in =
          in_first before [];
      contrary = found.1;
    }

pair_made : (m : ℕ) (before : List (Signed Body)) (z : Signed Body) (x : Named) → (b : Bool) → nat_eq z.signer m ≡ b
    → cond b (option_map (λ p. pair_of p z) (find (λ p. contradict p z) before)) None ≡ Some x →
    IsPair m (before ++ z ∷ []) x
pair_made m before z x true e is =
    pair_found m before z x (eqb-true z.signer m e) (find (λ p. contradict p z) before) refl is
pair_made m before z x false e is = absurd (none_some is)

abbrev AllPairs : ℕ → List (Signed Body) → Type 0
AllPairs m words = (x : Named) → first_pair m [] words ≡ Some x → IsPair m words x

pair_more : (m : ℕ) (before : List (Signed Body)) (z : Signed Body) → AllPairs m before → AllPairs m (before ++ z ∷ [])
pair_more m before z earlier x is = by (first_pair m [] before) refl (sym (first_pair-more m [] before z) ∙ is)
  where
    by : (o : Option Named) → first_pair m [] before ≡ o → option_or o (pair_with m before z) ≡ Some x →
        IsPair m (before ++ z ∷ []) x
    by None e now = pair_made m before z x (nat_eq z.signer m) refl now
    by (Some y) e now =
        let old = earlier x (e ∙ now) in
        record {
          master = old.master;
          by = old.by;
          first_in = in_left (z ∷ []) old.first_in;
          second_in =
              in_left (z ∷ []) old.second_in;
          contrary = old.contrary;
        }

pub pair_is : (m : ℕ) (words : List (Signed Body)) → AllPairs m words
pair_is m words = by_growth (AllPairs m) (λ x is. absurd (none_some is)) (pair_more m) words
