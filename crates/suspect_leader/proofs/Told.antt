-- What a table by view and master has, as the map keeps it.
use Rattle.std.proofs.Common.{◌≡◌, ℕ, Bool, true, false, cond, ◌&&◌, List, [], ◌∷◌, Option, Some, None, max, nat_eq}
use Rattle.std.proofs.Common.{refl, sym, ◌∙◌, ap}
use Rattle.std.specs.Option.{unwrap_or, is_some}
use Rattle.std.proofs.lemmas.Bool.{and_parts, eqb-true}
use Rattle.std.specs.Ordering.{nat_cmp, ordering_then}
use Rattle.std.specs.declared.cmp.Ordering.{Ordering}
use Rattle.std.specs.BTreeMap.{BTreeMap, Updates, is_at}
use Rattle.std.specs.Map.{lookup}
use Rattle.protocol_rules.specs.Words.{or_else}
use Rattle.suspect_leader.specs.MeasureState.{told_at}
use Rattle.plain_lists.proofs.Orders.{pair_same}

abbrev pub place_order : ℕ × ℕ → ℕ × ℕ → Ordering
place_order x y = ordering_then (nat_cmp x.0 y.0) (nat_cmp x.1 y.1)

pub told_is : (entries : List ((ℕ × ℕ) × ℕ)) (v master : ℕ) →
    lookup (is_at (place_order (v, master))) entries ≡ told_at entries v master
told_is [] v master = refl
told_is (e ∷ rest) v master =
    ap (λ b. cond b (Some e.1) (lookup (is_at (place_order (v, master))) rest)) (pair_same v master e.0.0 e.0.1)
    ∙ ap (λ o. cond (nat_eq v e.0.0 && nat_eq master e.0.1) (Some e.1) o) (told_is rest v master)

pub told_put : (old new : BTreeMap (ℕ × ℕ) ℕ) (v master ticks w j : ℕ) →
    Updates place_order old new (v, master) (Some ticks)
    → told_at new.entries w j ≡ cond (nat_eq v w && nat_eq master j) (Some ticks) (told_at old.entries w j)
told_put old new v master ticks w j u =
    sym (told_is new.entries w j) ∙ u.0 (w, j)
    ∙ ap (λ b. cond b (Some ticks) (lookup (is_at (place_order (w, j))) old.entries)) (pair_same v master w j)
    ∙ ap (λ o. cond (nat_eq v w && nat_eq master j) (Some ticks) o) (told_is old.entries w j)

and_swap : (a b : Bool) → (a && b) ≡ (b && a)
and_swap true true = refl
and_swap true false = refl
and_swap false true = refl
and_swap false false = refl

or_none : (o : Option ℕ) → or_else o None ≡ o
or_none None = refl
or_none (Some x) = refl

-- the first that is told stays
pub first_kept : (old new : BTreeMap (ℕ × ℕ) ℕ) (v master ticks w j : ℕ) → told_at old.entries v master ≡ None →
    Updates place_order old new (v, master) (Some ticks)
    → told_at new.entries w j ≡ or_else (told_at old.entries w j)
    (cond (nat_eq master j && nat_eq v w) (Some ticks) None)
first_kept old new v master ticks w j none u =
    told_put old new v master ticks w j u ∙ ap (λ b. cond b (Some ticks) (told_at old.entries w j))
    (and_swap (nat_eq v w) (nat_eq master j)) ∙ at (nat_eq master j && nat_eq v w) refl
  where
    at : (b : Bool) → (nat_eq master j && nat_eq v w) ≡ b → cond b (Some ticks) (told_at old.entries w j) ≡ or_else
        (told_at old.entries w j) (cond b (Some ticks) None)
    at true e =
        let both : (nat_eq master j ≡ true) × (nat_eq v w ≡ true) = and_parts (nat_eq master j) (nat_eq v w) e in
        sym (ap (λ o. or_else o (Some ticks)) (ap (λ x. told_at old.entries x j) (sym (eqb-true v w both.1))
        ∙ ap (told_at old.entries v) (sym (eqb-true master j both.0)) ∙ none))
    at false e = sym (or_none (told_at old.entries w j))

pub first_stays : (entries : List ((ℕ × ℕ) × ℕ)) (v master ticks w j : ℕ) → is_some (told_at entries v master) ≡ true
    → told_at entries w j ≡ or_else (told_at entries w j) (cond (nat_eq master j && nat_eq v w) (Some ticks) None)
first_stays entries v master ticks w j some = at (nat_eq master j && nat_eq v w) refl
  where
    there : (o : Option ℕ) → is_some o ≡ true → o ≡ or_else o (Some ticks)
    there None e = absurd (cc)
    there (Some x) e = refl

    at : (b : Bool) → (nat_eq master j && nat_eq v w) ≡ b →
        told_at entries w j ≡ or_else (told_at entries w j) (cond b (Some ticks) None)
    at true e =
        let both : (nat_eq master j ≡ true) × (nat_eq v w ≡ true) = and_parts (nat_eq master j) (nat_eq v w) e in
        there (told_at entries w j)
        (ap is_some (ap (λ x. told_at entries x j) (sym (eqb-true v w both.1))
        ∙ ap (told_at entries v) (sym (eqb-true master j both.0))) ∙ some)
    at false e = sym (or_none (told_at entries w j))

-- the greatest that is told
pub greatest_kept : (old new : BTreeMap (ℕ × ℕ) ℕ) (v master ticks most w j : ℕ) →
    most ≡ max (unwrap_or (told_at old.entries v master) 0) ticks → Updates place_order old new (v, master) (Some most)
    → unwrap_or (told_at new.entries w j) 0 ≡ cond (nat_eq master j && nat_eq v w)
    (max (unwrap_or (told_at old.entries w j) 0) ticks) (unwrap_or (told_at old.entries w j) 0)
greatest_kept old new v master ticks most w j is u =
    ap (λ o. unwrap_or o 0) (told_put old new v master most w j u
    ∙ ap (λ b. cond b (Some most) (told_at old.entries w j)) (and_swap (nat_eq v w) (nat_eq master j)))
    ∙ at (nat_eq master j && nat_eq v w) refl
  where
    at : (b : Bool) → (nat_eq master j && nat_eq v w) ≡ b → unwrap_or (cond b (Some most) (told_at old.entries w j))
        0 ≡ cond b (max (unwrap_or (told_at old.entries w j) 0) ticks) (unwrap_or (told_at old.entries w j) 0)
    at true e =
        let both : (nat_eq master j ≡ true) × (nat_eq v w ≡ true) = and_parts (nat_eq master j) (nat_eq v w) e in
        is ∙ ap (λ o. max (unwrap_or o 0) ticks) (ap (λ x. told_at old.entries x master) (eqb-true v w both.1)
        ∙ ap (told_at old.entries w) (eqb-true master j both.0))
    at false e = refl

pub none_told : (o : Option ℕ) → is_some o ≡ false → o ≡ None
none_told None e = refl
none_told (Some x) e = absurd (cc)
