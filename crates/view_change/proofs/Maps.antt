-- Maps by view, and by view and master, read through their entries.
use Rattle.std.proofs.Common.{◌≡◌, ℕ, Bool, cond, ◌&&◌, List, [], ◌∷◌, Some, nat_eq, refl, sym, ◌∙◌, ap}
use Rattle.std.proofs.Common.{if◌then◌else◌}
use Rattle.std.specs.declared.cmp.Ordering.{Ordering}
use Rattle.std.specs.Ordering.{nat_cmp, ordering_then}
use Rattle.std.specs.Cmp.{unsigned_tied}
use Rattle.std.specs.Map.{lookup}
use Rattle.std.specs.BTreeMap.{BTreeMap, get, is_at, Updates}
use Rattle.view_change.specs.ViewState.{at_view, at_place}
use Rattle.plain_lists.proofs.Orders.{pair_same}

-- places are ordered by view and then by master
abbrev pub place_cmp : (ℕ × ℕ) → (ℕ × ℕ) → Ordering
place_cmp x y = ordering_then (nat_cmp x.0 y.0) (nat_cmp x.1 y.1)

lookup_same : {K X : Type 0} (p q : K → Bool) → ((k : K) → p k ≡ q k) → (es : List (K × X)) → lookup p es ≡ lookup q es
lookup_same p q same [] = refl
lookup_same p q same (e ∷ es) = ap (λ b. cond b (Some e.1) (lookup p es)) (same e.0)
    ∙ ap (λ o. cond (q e.0) (Some e.1) o) (lookup_same p q same es)

pub at_view-is : {X : Type 0} (m : BTreeMap ℕ X) (v : ℕ) → get nat_cmp m v ≡ at_view m.entries v
at_view-is m v = lookup_same (is_at (nat_cmp v)) (nat_eq v) (λ w. unsigned_tied v w) m.entries

pub at_place-is : {X : Type 0} (m : BTreeMap (ℕ × ℕ) X) (v j : ℕ) → get place_cmp m (v, j) ≡ at_place m.entries v j
at_place-is m v j = lookup_same (is_at (place_cmp (v, j))) (λ (p : ℕ × ℕ). nat_eq v p.0 && nat_eq j p.1)
    (λ p. pair_same v j p.0 p.1) m.entries

pub view_put : {X : Type 0} (m n : BTreeMap ℕ X) (k : ℕ) (x : X) → Updates nat_cmp m n k (Some x) → (v : ℕ) →
    at_view n.entries v ≡ (if nat_eq k v then Some x else at_view m.entries v)
view_put m n k x u v = sym (at_view-is n v) ∙ u.0 v ∙ ap (λ b. cond b (Some x) (get nat_cmp m v)) (unsigned_tied k v)
    ∙ ap (λ o. cond (nat_eq k v) (Some x) o) (at_view-is m v)

pub place_put : {X : Type 0} (m n : BTreeMap (ℕ × ℕ) X) (k i : ℕ) (x : X) → Updates place_cmp m n (k, i) (Some x) →
    (v j : ℕ) → at_place n.entries v j ≡ (if nat_eq k v && nat_eq i j then Some x else at_place m.entries v j)
place_put m n k i x u v j = sym (at_place-is n v j) ∙ u.0 (v, j) ∙ ap (λ b. cond b (Some x) (get place_cmp m (v, j)))
    (pair_same k i v j) ∙ ap (λ o. cond (nat_eq k v && nat_eq i j) (Some x) o) (at_place-is m v j)
