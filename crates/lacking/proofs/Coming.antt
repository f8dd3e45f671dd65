-- How far each master has come, with one commit or mark more: its own figure takes the greater number, the others stay. And
-- how far f + 1 of them have is read off the figures in falling order.
use Rattle.std.proofs.Common.{◌≡◌, ℕ, zero, suc, ◌+◌, ◌<◌, ◌≤◌, Bool, true, false, cond, List, [], ◌∷◌, ◌++◌}
use Rattle.std.proofs.Common.{Some, None, length, map, max, take, get_or, set, nat_eq, refl, sym, ◌∙◌, ap, inl, inr}
use Rattle.std.proofs.Common.{◌⊎◌, arith, get_or-set_same, get_or-set_other}
use Rattle.std.specs.Prelude.{replicate}
use Rattle.std.proofs.lemmas.Bool.{cases_eq, eq-eqb, ne_eqb}
use Rattle.std.proofs.lemmas.List.{map-append, take_more}
use Rattle.message_types.specs.declared.signed.Signed.{Signed}
use Rattle.message_types.specs.declared.ordering.Commit.{Commit}
use Rattle.message_types.specs.declared.ordering.Mark.{Mark}
use Rattle.quorum_sets.specs.Masters.{numbers_below}
use Rattle.quorum_sets.proofs.Numbered.{below_none_at, below_one_more}
use Rattle.protocol_rules.specs.declared.facts.OrderFact.{OrderFact}
use Rattle.protocol_rules.specs.declared.facts.OrderFact.TheVariants as fact
use Rattle.protocol_rules.specs.Group.{Group}
use Rattle.protocol_rules.specs.Words.{greatest_reached}
use Rattle.protocol_rules.specs.Lacking.{reached_by, committed_to, some_committed_to}
use Rattle.protocol_rules.proofs.Greatest.{greatest-push, or_zero}
use Rattle.summary_matrix.proofs.Falling.{ranked-reached}
use Rattle.lacking.specs.Come.{FurthestState, IsFurthestOf}

pub none_come : (n j : ℕ) → get_or {A = ℕ} (replicate n 0) j 0 ≡ 0
none_come zero j = refl
none_come (suc n) zero = refl
none_come (suc n) (suc j) = none_come n j

-- the fact tells of this master and this number
abbrev pub TellsOf : OrderFact → ℕ → ℕ → Type 0
TellsOf f signer s = (m : ℕ) → reached_by m f ≡ cond (nat_eq signer m) (Some s) None

come_more : (facts : List OrderFact) (f : OrderFact) (signer s j : ℕ) → TellsOf f signer s →
    committed_to (facts ++ f ∷ []) j ≡ max (committed_to facts j) (cond (nat_eq signer j) s 0)
come_more facts f signer s j tells =
    greatest-push (reached_by j) facts f ∙ ap (λ o. max (committed_to facts j) (or_zero o)) (tells j)
    ∙ ap (max (committed_to facts j)) (by (nat_eq signer j))
  where
    by : (b : Bool) → or_zero (cond b (Some s) None) ≡ cond b s 0
    by true = refl
    by false = refl

pub learn : (g : Group) (old new : FurthestState) (facts : List OrderFact) (f : OrderFact) (signer s : ℕ) →
    TellsOf f signer s → new.group ≡ old.group
    → ((j : ℕ) → j < g.n → get_or new.numbers j 0 ≡ max (get_or old.numbers j 0) (cond (nat_eq signer j) s 0)) →
    IsFurthestOf g old facts → IsFurthestOf g new (facts ++ f ∷ [])
learn g old new facts f signer s tells group numbers is =
    record {
      masters = ap (λ h. h.n) group ∙ is.masters;
      intruded = ap (λ h. h.f) group ∙ is.intruded;
      numbers = λ j lt. numbers j lt ∙ ap (λ x. max x (cond (nat_eq signer j) s 0)) (is.numbers j lt)
          ∙ sym (come_more facts f signer s j tells);
    }

-- a signer that is no master changes nothing
pub passed : (numbers : List ℕ) (signer s j : ℕ) → (signer ≡ j → ⊥) →
    get_or numbers j 0 ≡ max (get_or numbers j 0) (cond (nat_eq signer j) s 0)
passed numbers signer s j apart =
    let none : cond (nat_eq signer j) s 0 ≡ 0 = ap (λ (b : Bool). cond {A = ℕ} b s 0) (ne_eqb signer j apart) in
    omega arith

pub kept : (old new : List ℕ) (signer s j : ℕ) → signer < length old →
    new ≡ set old signer (max (get_or old signer 0) s) →
    get_or new j 0 ≡ max (get_or old j 0) (cond (nat_eq signer j) s 0)
kept old new signer s j within is = ap (λ (l : List ℕ). get_or l j 0) is ∙ by (cases_eq signer j)
  where
    by : (signer ≡ j) ⊎ (signer ≡ j → ⊥) →
        get_or (set old signer (max (get_or old signer 0) s)) j 0 ≡ max (get_or old j 0) (cond (nat_eq signer j) s 0)
    by (inl own) =
        ap (λ i. get_or (set old signer (max (get_or old signer 0) s)) i 0) (sym own)
        ∙ get_or-set_same old signer (max (get_or old signer 0) s) 0 within
        ∙ ap (λ i. max (get_or old i 0) s) own
        ∙ ap (max (get_or old j 0)) (sym (ap (λ (b : Bool). cond {A = ℕ} b s 0) (eq-eqb signer j own)))
    by (inr other) =
        get_or-set_other old signer j (max (get_or old signer 0) s) 0 (λ (h : j ≡ signer). other (sym h))
        ∙ passed old signer s j other

-- the first n numbers, where a function tells each
numbers_told : (f : ℕ → ℕ) (n : ℕ) (numbers : List ℕ) → n ≤ length numbers →
    ((j : ℕ) → j < n → get_or numbers j 0 ≡ f j) → take n numbers ≡ map f (numbers_below n)
numbers_told f zero numbers many told = sym (ap (map f) below_none_at)
numbers_told f (suc n) numbers many told =
    let next : suc n ≡ n + 1 = omega arith in
    ap (λ k. take k numbers) next ∙ take_more numbers n 0 (omega arith)
    ∙ ap (λ xs. xs ++ get_or numbers n 0 ∷ []) (numbers_told f n numbers (omega arith) (λ j lt. told j (omega arith)))
    ∙ ap (λ x. map f (numbers_below n) ++ x ∷ []) (told n (omega arith))
    ∙ sym (ap (map f) (ap numbers_below next ∙ below_one_more n) ∙ map-append f (numbers_below n) (n ∷ []))

pub some_come : (g : Group) (state : FurthestState) (facts : List OrderFact) (numbers : List ℕ) →
    numbers ≡ take state.group.n state.numbers → state.group.n ≤ length state.numbers → IsFurthestOf g state facts →
    greatest_reached (state.group.f + 1) numbers ≡ some_committed_to g facts
some_come g state facts numbers first many is =
    let masters : state.group.n ≡ g.n = is.masters in
    ap (λ f. greatest_reached (f + 1) numbers) is.intruded
    ∙ ap (greatest_reached (g.f + 1)) (first ∙ ap (λ n. take n state.numbers) is.masters
    ∙ numbers_told (committed_to facts) g.n state.numbers (omega arith) is.numbers)
    ∙ ranked-reached (map (committed_to facts) (numbers_below g.n)) g.f

-- a commit or a mark tells of its signer and its number
pub commit_tells : (f : Signed Commit) (signer s : ℕ) → f.signer ≡ signer → f.body.s ≡ s → TellsOf (fact.Commit f) signer s
commit_tells f signer s own number m = λ i. cond (nat_eq (own i) m) (Some (number i)) None

pub mark_tells : (f : Signed Mark) (signer s : ℕ) → f.signer ≡ signer → f.body.s ≡ s → TellsOf (fact.Mark f) signer s
mark_tells f signer s own number m = λ i. cond (nat_eq (own i) m) (Some (number i)) None
