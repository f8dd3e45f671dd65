-- The sets of what is wanted, given and asked for, as lists.
use Rattle.std.proofs.Common.{◌≡◌, Bool, true, false, cond, ◌||◌, List, [], ◌∷◌, Option, Some, None, refl, sym, ◌∙◌}
use Rattle.std.proofs.Common.{ap}
use Rattle.std.specs.List.{list_any}
use Rattle.std.specs.Ordering.{is_eq}
use Rattle.std.specs.Option.{IfSome}
use Rattle.std.specs.BTreeSet.{BTreeSet, insert_key, Updates, UpdatesBy}
use Rattle.std.specs.BTreeMap.{is_at}
use Rattle.std.specs.Set.{remove_key}
use Rattle.reconcile.specs.declared.wanted.Wanted.{Wanted}
use Rattle.reconcile.specs.Asking.{same_wanted, is_among, comes_before}
use Rattle.reconcile.specs.AskState.{is_one, put_wanted, with_one}
use Rattle.reconcile.proofs.Order.{order, order_same, by_order, same_itself}
use Rattle.plain_lists.proofs.Booleans.{cond_true}

pub among_is : (keys : List Wanted) (w : Wanted) → list_any (is_at (order w)) keys ≡ is_among keys w
among_is [] w = refl
among_is (x ∷ rest) w = ap (λ b. b || list_any (is_at (order w)) rest) (order_same w x)
    ∙ ap (λ b. same_wanted w x || b) (among_is rest w)

pub among_put : (s n : BTreeSet Wanted) (x w : Wanted) → Updates order s n x true →
    is_among n.keys w ≡ (same_wanted x w || is_among s.keys w)
among_put s n x w u =
    sym (among_is n.keys w) ∙ u.0 w ∙ cond_true (is_eq (order x w)) (list_any (is_at (order w)) s.keys)
    ∙ ap (λ b. b || list_any (is_at (order w)) s.keys) (order_same x w)
    ∙ ap (λ b. same_wanted x w || b) (among_is s.keys w)

pub among_removed : (s n : BTreeSet Wanted) (x w : Wanted) → UpdatesBy order (order x) s n false →
    is_among n.keys w ≡ cond (same_wanted x w) false (is_among s.keys w)
among_removed s n x w u =
    sym (among_is n.keys w) ∙ u.0 w ∙ ap (λ b. cond b false (list_any (is_at (order w)) s.keys)) (order_same x w)
    ∙ ap (λ b. cond (same_wanted x w) false b) (among_is s.keys w)

pub put_is : (keys : List Wanted) (w : Wanted) → insert_key order keys w ≡ put_wanted w keys
put_is [] w = refl
put_is (x ∷ rest) w = by_order w x (w ∷ x ∷ rest) (x ∷ rest) (x ∷ insert_key order rest w)
    ∙ ap (λ more. cond (same_wanted w x) (x ∷ rest) (cond (comes_before w x) (w ∷ x ∷ rest) (x ∷ more))) (put_is rest w)

-- to put it in and take it out changes nothing
pub remove_put : (keys : List Wanted) (w : Wanted) → is_among keys w ≡ false →
    remove_key (is_at (order w)) (put_wanted w keys) ≡ keys
remove_put [] w none = ap (λ b. cond b [] (w ∷ [])) (order_same w w ∙ same_itself w)
remove_put (x ∷ rest) w none = at (same_wanted w x) refl (comes_before w x) refl (remove_put rest w)
  where
    at : (same : Bool) → same_wanted w x ≡ same → (before : Bool) → comes_before w x ≡ before →
        (is_among rest w ≡ false → remove_key (is_at (order w)) (put_wanted w rest) ≡ rest) →
        remove_key (is_at (order w)) (put_wanted w (x ∷ rest)) ≡ x ∷ rest
    at true e before b less = absurd (cc)
    at false e true b less =
        ap (λ t. remove_key (is_at (order w))
        (cond t (x ∷ rest) (cond (comes_before w x) (w ∷ x ∷ rest) (x ∷ put_wanted w rest)))) e
        ∙ ap (λ t. remove_key (is_at (order w)) (cond t (w ∷ x ∷ rest) (x ∷ put_wanted w rest))) b
        ∙ ap (λ t. cond t (x ∷ rest) (w ∷ remove_key (is_at (order w)) (x ∷ rest))) (order_same w w ∙ same_itself w)
    at false e false b less =
        ap (λ t. remove_key (is_at (order w))
        (cond t (x ∷ rest) (cond (comes_before w x) (w ∷ x ∷ rest) (x ∷ put_wanted w rest)))) e
        ∙ ap (λ t. remove_key (is_at (order w)) (cond t (w ∷ x ∷ rest) (x ∷ put_wanted w rest))) b
        ∙ ap (λ t. cond t (put_wanted w rest) (x ∷ remove_key (is_at (order w)) (put_wanted w rest)))
        (order_same w x ∙ e)
        ∙ ap (λ more. x ∷ more) (less (sym (ap (λ t. t || is_among rest w) e) ∙ none))

pub one_put : (s n : BTreeSet Wanted) (o : Option Wanted) (x w : Wanted) → o ≡ Some x → Updates order s n x true →
    is_among n.keys w ≡ (is_one o w || is_among s.keys w)
one_put s n o x w e u = among_put s n x w u ∙ ap (λ p. is_one p w || is_among s.keys w) (sym e)

pub one_at : (keys now : List Wanted) (o : Option Wanted) (x : Wanted) → o ≡ Some x → now ≡ insert_key order keys x →
    now ≡ with_one o keys
one_at keys now o x e h = h ∙ put_is keys x ∙ ap (λ p. with_one p keys) (sym e)

pub one_removed : (old new : List Wanted) (o : Option Wanted) (x : Wanted) → o ≡ Some x →
    new ≡ remove_key (is_at (order x)) old → (keys : List Wanted) → old ≡ with_one o keys →
    IfSome o (λ w. is_among keys w ≡ false) → new ≡ keys
one_removed old new None x e h keys at none = absurd (cc)
one_removed old new (Some y) x e h keys at none =
    let same : y ≡ x = cc in
    h ∙ ap (λ k. remove_key (is_at (order x)) k) (at ∙ ap (λ v. put_wanted v keys) same)
    ∙ remove_put keys x (ap (λ v. is_among keys v) (sym same) ∙ none)
