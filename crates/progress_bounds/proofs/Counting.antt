-- How many elements of a list pass a test: of lists joined, cut, mapped and filtered.
use Rattle.std.proofs.Common.{◌≡◌, ℕ, zero, suc, ◌+◌, ◌≤◌, ◌<◌, Bool, true, false, cond, ◌&&◌, not, List, [], ◌∷◌, ◌++◌}
use Rattle.std.proofs.Common.{Option, Some, None, length, filter, map, take, nat_eq, refl, sym, ◌∙◌, ap, subst, inl, inr, arith}
use Rattle.std.proofs.lemmas.Bool.{false≢true, cases_eq, ne_eqb, or_parts}
use Rattle.std.proofs.lemmas.List.{length-append}
use Rattle.std.proofs.lemmas.List.Elements.{filter-append}
use Rattle.std.specs.List.{list_any, flat_map, filter_map, cons_option}
use Rattle.std.specs.Option.{option_to_list}
use Rattle.plain_lists.specs.Lists.{Each, here, there}
use Rattle.quorum_sets.specs.Masters.{numbers_below}
use Rattle.protocol_rules.specs.Words.{numbers_from}

-- 1 where it is so
abbrev pub one : Bool → ℕ
one true = 1
one false = 0

pub one_most : (b : Bool) → one b ≤ 1
one_most true = omega arith
one_most false = omega arith

-- at most so many elements pass the test
pub record Few {X : Type 0} (such : X → Bool) (most : ℕ) (xs : List X) : Type 0 where
  pub few : length (filter such xs) ≤ most

pub count-append : {X : Type 0} (such : X → Bool) (xs ys : List X) →
    length (filter such (xs ++ ys)) ≡ length (filter such xs) + length (filter such ys)
count-append such xs ys = ap length (filter-append such xs ys) ∙ length-append (filter such xs) (filter such ys)

module _ {X : Type 0} (such : X → Bool) where
  pub few_none : (most : ℕ) → Few such most []
  few_none most = record { few = omega arith }

  pub few_more : {a b : ℕ} {xs : List X} → Few such a xs → a ≤ b → Few such b xs
  few_more f le = record { few = let h = f.few in omega arith }

  pub few_append : {a b : ℕ} (most : ℕ) (xs ys : List X) → Few such a xs → Few such b ys → a + b ≤ most →
      Few such most (xs ++ ys)
  few_append most xs ys f g le = record {
    few =
        let all = count-append such xs ys in
        let h = f.few in
        let i = g.few in
        omega arith;
  }

  pub few_if : (most : ℕ) (t : Bool) (xs : List X) → (t ≡ true → Few such most xs) → Few such most (cond t xs [])
  few_if most true xs f = f refl
  few_if most false xs f = few_none most

  pub few_unless : (t : Bool) (xs : List X) → Few such 1 xs → Few such (one (not t)) (cond t [] xs)
  few_unless true xs f = few_none 0
  few_unless false xs f = f

  pub few_else : (most : ℕ) (t : Bool) (xs : List X) → Few such most xs → Few such most (cond t [] xs)
  few_else most true xs f = few_none most
  few_else most false xs f = f

  pub few_and : (a b : Bool) (xs : List X) → Few such 1 xs → Few such (one b) (cond (a && b) xs [])
  few_and true true xs f = f
  few_and true false xs f = few_none 0
  few_and false b xs f = few_none (one b)

  pub few_then : (t : Bool) (xs : List X) → Few such 1 xs → Few such (one t) (cond t xs [])
  few_then true xs f = f
  few_then false xs f = few_none 0

  pub few_elim : {Y : Type 0} (most : ℕ) (o : Option Y) (f : Y → List X) → ((y : Y) → o ≡ Some y → Few such most (f y)) →
      Few such most (elim o [ None ↦ [] | Some y ↦ f y ])
  few_elim most None f h = few_none most
  few_elim most (Some y) f h = h y refl

  first_kept : (b : Bool) (x : X) (kept : List X) → length (cond b (x ∷ kept) kept) ≡ one b + length kept
  first_kept true x kept = omega arith
  first_kept false x kept = omega arith

  pub count-cons : (x : X) (xs : List X) → length (filter such (x ∷ xs)) ≡ one (such x) + length (filter such xs)
  count-cons x xs = first_kept (such x) x (filter such xs)

  pub few_one : (x : X) → Few such 1 (x ∷ [])
  few_one x = record { few = let all = count-cons x [] in let most = one_most (such x) in omega arith }

  pub few_other : (x : X) → such x ≡ false → Few such 0 (x ∷ [])
  few_other x e = record {
    few =
        let all = count-cons x [] in
        let is : one (such x) ≡ 0 = ap one e in
        omega arith;
  }

  pub few_each : (xs : List X) → Each (λ x. such x ≡ false) xs → Few such 0 xs
  few_each [] each = few_none 0
  few_each (x ∷ xs) each = record {
    few =
        let all = count-cons x xs in
        let is : one (such x) ≡ 0 = ap one (each x (here xs)) in
        let rest = (few_each xs (λ y h. each y (there x xs h))).few in
        omega arith;
  }

  pub few_unsaid : (xs : List X) → list_any such xs ≡ false → Few such 0 xs
  few_unsaid [] e = few_none 0
  few_unsaid (x ∷ xs) e =
      let both = or_parts (such x) (list_any such xs) e in
      record {
        few =
            let all = count-cons x xs in
            let is : one (such x) ≡ 0 = ap one both.0 in
            let rest = (few_unsaid xs both.1).few in
            omega arith;
      }

  count_take : (r : ℕ) (xs : List X) → length (filter such (take r xs)) ≤ length (filter such xs)
  count_take zero xs = omega arith
  count_take (suc r) [] = omega arith
  count_take (suc r) (x ∷ xs) =
      let all = count-cons x xs in
      let cut = count-cons x (take r xs) in
      let deeper = count_take r xs in
      omega arith

  pub few_take : {most : ℕ} (r : ℕ) (xs : List X) → Few such most xs → Few such most (take r xs)
  few_take r xs f = record { few = let less = count_take r xs in let h = f.few in omega arith }

  pub few_option : (o : Option X) → Few such 1 (option_to_list o)
  few_option None = few_none 1
  few_option (Some x) = few_one x

  -- what passes is counted as well among what passes a weaker test
  pub count_within : (kept : X → Bool) → ((x : X) → such x ≡ true → kept x ≡ true) → (xs : List X) →
      length (filter such (filter kept xs)) ≡ length (filter such xs)
  count_within kept weaker [] = refl
  count_within kept weaker (x ∷ xs) = by (kept x) (such x) refl refl (count_within kept weaker xs)
    where
      by : (k s : Bool) → kept x ≡ k → such x ≡ s
          → length (filter such (filter kept xs)) ≡ length (filter such xs)
          → length (filter such (cond k (x ∷ filter kept xs) (filter kept xs))) ≡ length (cond s (x ∷ filter such xs) (filter such xs))
      by true s e f deeper =
          let now = count-cons x (filter kept xs) in
          let then = first_kept s x (filter such xs) in
          let is : one (such x) ≡ one s = ap one f in
          omega arith
      by false true e f deeper = absurd (false≢true (sym e ∙ weaker x f))
      by false false e f deeper = deeper

  -- of those that pass, each passes another test or none does
  pub few_filter : (p : X → Bool) (t : Bool) → ((x : X) → such x ≡ true → p x ≡ t) → (xs : List X) → Few such 1 xs →
      Few such (one t) (filter p xs)
  few_filter p true same xs f = record { few = let less = fewer xs in let h = f.few in omega arith }
    where
      fewer : (ys : List X) → length (filter such (filter p ys)) ≤ length (filter such ys)
      fewer [] = omega arith
      fewer (y ∷ ys) = by (p y) (fewer ys)
        where
          by : (b : Bool) → length (filter such (filter p ys)) ≤ length (filter such ys)
              → length (filter such (cond b (y ∷ filter p ys) (filter p ys))) ≤ length (filter such (y ∷ ys))
          by true less = let l = count-cons y (filter p ys) in let r = count-cons y ys in omega arith
          by false less = let r = count-cons y ys in omega arith
  few_filter p false same [] f = few_none 0
  few_filter p false same (x ∷ xs) f = by (p x) (such x) refl refl
      (few_filter p false same xs (record { few = let h = f.few in let all = count-cons x xs in omega arith }))
    where
      by : (b s : Bool) → p x ≡ b → such x ≡ s → Few such 0 (filter p xs) → Few such 0 (cond b (x ∷ filter p xs) (filter p xs))
      by true true e g rest = absurd (false≢true (sym (same x g) ∙ e))
      by true false e g rest = record {
        few =
            let all = count-cons x (filter p xs) in
            let is : one (such x) ≡ 0 = ap one g in
            let h = rest.few in
            omega arith;
      }
      by false s e g rest = rest

-- how often a number is in a list
abbrev pub is_number : ℕ → ℕ → Bool
is_number key s = nat_eq s key

-- what is made of each number, where only those of one pass
pub few_flat : {X : Type 0} (such : X → Bool) (most key : ℕ) (f : ℕ → List X) → ((s : ℕ) → (s ≡ key → ⊥) → Few such 0 (f s)) →
    Few such most (f key) → (xs : List ℕ) → Few (is_number key) 1 xs → Few such most (flat_map f xs)
few_flat {X} such most key f other at [] once = few_none such most
few_flat {X} such most key f other at (x ∷ xs) once =
    let all = count-cons (is_number key) x xs in
    let h = once.few in
    elim (cases_eq x key) [
      | inl same ↦
          let hit : one (nat_eq x key) ≡ 1 = ap one (Rattle.std.proofs.lemmas.Bool.eq-eqb x key same) in
          few_append such most (f x) (flat_map f xs) (subst (λ (y : ℕ). Few such most (f y)) (sym same) at)
          (none_there xs (record { few = omega arith })) (omega arith)
      | inr apart ↦
          let missed : one (nat_eq x key) ≡ 0 = ap one (ne_eqb x key apart) in
          few_append such most (f x) (flat_map f xs) (other x apart)
          (few_flat such most key f other at xs (record { few = omega arith })) (omega arith)
    ]
  where
    none_there : (ys : List ℕ) → Few (is_number key) 0 ys → Few such 0 (flat_map f ys)
    none_there [] none = few_none such 0
    none_there (y ∷ ys) none =
        let all = count-cons (is_number key) y ys in
        let h = none.few in
        elim (cases_eq y key) [
          | inl same ↦
              let hit : one (nat_eq y key) ≡ 1 = ap one (Rattle.std.proofs.lemmas.Bool.eq-eqb y key same) in
              absurd (omega arith)
          | inr apart ↦ few_append such 0 (f y) (flat_map f ys) (other y apart) (none_there ys (record { few = omega arith }))
              (omega arith)
        ]

none_from : (key start count : ℕ) → key < start → Few (is_number key) 0 (numbers_from start count)
unfolding numbers_from
none_from key start zero low = few_none (is_number key) 0
none_from key start (suc count) low = record {
  few =
      let all = count-cons (is_number key) start (numbers_from (suc start) count) in
      let missed : one (nat_eq start key) ≡ 0 = ap one (ne_eqb start key (λ e. absurd (omega arith))) in
      let rest = (none_from key (suc start) count (omega arith)).few in
      omega arith;
}

pub once_from : (key start count : ℕ) → Few (is_number key) 1 (numbers_from start count)
unfolding numbers_from
once_from key start zero = few_none (is_number key) 1
once_from key start (suc count) =
    let all = count-cons (is_number key) start (numbers_from (suc start) count) in
    elim (cases_eq start key) [
      | inl same ↦
          let hit : one (nat_eq start key) ≡ 1 = ap one (Rattle.std.proofs.lemmas.Bool.eq-eqb start key same) in
          let rest = (none_from key (suc start) count (omega arith)).few in
          record { few = omega arith }
      | inr apart ↦
          let missed : one (nat_eq start key) ≡ 0 = ap one (ne_eqb start key apart) in
          let rest = (once_from key (suc start) count).few in
          record { few = omega arith }
    ]

none_below : (key n : ℕ) → n ≤ key → Few (is_number key) 0 (numbers_below n)
unfolding numbers_below
none_below key zero high = few_none (is_number key) 0
none_below key (suc n) high = few_append (is_number key) 0 (numbers_below n) (n ∷ []) (none_below key n (omega arith))
    (few_other (is_number key) n (ne_eqb n key (λ e. absurd (omega arith)))) (omega arith)

pub once_below : (key n : ℕ) → Few (is_number key) 1 (numbers_below n)
unfolding numbers_below
once_below key zero = few_none (is_number key) 1
once_below key (suc n) = elim (cases_eq n key) [
  | inl same ↦ few_append (is_number key) 1 (numbers_below n) (n ∷ []) (none_below key n (omega arith))
      (few_one (is_number key) n) (omega arith)
  | inr apart ↦ few_append (is_number key) 1 (numbers_below n) (n ∷ []) (once_below key n)
      (few_other (is_number key) n (ne_eqb n key apart)) (omega arith)
]

-- what is made of each element passes as the element does
pub few_map : {X Y : Type 0} (such : Y → Bool) (test : X → Bool) (most : ℕ) (mk : X → Y) → ((x : X) → such (mk x) ≡ test x) →
    (xs : List X) → Few test most xs → Few such most (map mk xs)
few_map {X} {Y} such test most mk same xs f = record { few = let e = counted xs in let h = f.few in omega arith }
  where
    counted : (ys : List X) → length (filter such (map mk ys)) ≡ length (filter test ys)
    counted [] = refl
    counted (y ∷ ys) =
        let l = count-cons such (mk y) (map mk ys) in
        let r = count-cons test y ys in
        let is : one (such (mk y)) ≡ one (test y) = ap one (same y) in
        let rest = counted ys in
        omega arith

-- and of those of which something is made
pub few_filter_map : {X : Type 0} (such : X → Bool) (key most : ℕ) (f : ℕ → Option X) →
    ((s : ℕ) (x : X) → f s ≡ Some x → such x ≡ true → s ≡ key) → (xs : List ℕ) → Few (is_number key) most xs →
    Few such most (filter_map f xs)
few_filter_map {X} such key most f same xs once = record { few = let e = fewer xs in let h = once.few in omega arith }
  where
    first : (y : ℕ) (o : Option X) (rest : List X) → ((x : X) → o ≡ Some x → such x ≡ true → y ≡ key) →
        length (filter such (cons_option o rest)) ≤ one (nat_eq y key) + length (filter such rest)
    first y None rest is = omega arith
    first y (Some x) rest is = by (such x) refl
      where
        by : (b : Bool) → such x ≡ b → length (filter such (x ∷ rest)) ≤ one (nat_eq y key) + length (filter such rest)
        by true e =
            let all = count-cons such x rest in
            let now : one (such x) ≡ 1 = ap one e in
            let hit : one (nat_eq y key) ≡ 1 = ap one (Rattle.std.proofs.lemmas.Bool.eq-eqb y key (is x refl e)) in
            omega arith
        by false e =
            let all = count-cons such x rest in
            let now : one (such x) ≡ 0 = ap one e in
            omega arith

    fewer : (ys : List ℕ) → length (filter such (filter_map f ys)) ≤ length (filter (is_number key) ys)
    fewer [] = omega arith
    fewer (y ∷ ys) =
        let head = first y (f y) (filter_map f ys) (same y) in
        let all = count-cons (is_number key) y ys in
        let rest = fewer ys in
        omega arith
