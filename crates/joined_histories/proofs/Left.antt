-- An actor that has an entry left.
use Rattle.std.proofs.Common.{◌≡◌, ◌<◌, ℕ, zero, suc, true, List, [], ◌∷◌, Option, Some, None, length, get_or, sym, ◌∙◌, ap, arith}
use Rattle.std.specs.Prelude.{slice_get}
use Rattle.std.proofs.lemmas.Bool.{ltb-true}
use Rattle.std.proofs.lemmas.Option.{slice_get-get_or}
use Rattle.history_rules.specs.Events.{Entry}
use Rattle.joint_lists.specs.Joint.{kept_by}
use Rattle.joined_histories.specs.Order.{is_left, is_less}

-- An actor that has an entry left is there, and its next entry stands in its list.
pub record HasNext (lists : List (List Entry)) (next : List ℕ) (actor : ℕ) : Type 0 where
  pub there : actor < length lists
  pub within : actor < length next
  pub some : get_or next actor 0 < length (kept_by lists actor)

pub has_next : (lists : List (List Entry)) (next : List ℕ) (actor : ℕ) → is_left lists next actor ≡ true →
    HasNext lists next actor
has_next lists next actor is = by lists next actor is
  where
    by : (lists : List (List Entry)) (next : List ℕ) (actor : ℕ) → is_left lists next actor ≡ true →
        HasNext lists next actor
    by [] next actor is = absurd (cc)
    by (list ∷ lists) [] zero is = absurd (cc)
    by (list ∷ lists) (n ∷ next) zero is =
        let less : n < length list = ltb-true n (length list) is in
        record { there = omega arith; within = omega arith; some = less }
    by (list ∷ lists) [] (suc actor) is = absurd (none_there (slice_get lists actor) is)
      where
        none_there : (o : Option (List Entry)) → is_less o None ≡ true → ⊥
        none_there None e = absurd (cc)
        none_there (Some l) e = absurd (cc)
    by (list ∷ lists) (n ∷ next) (suc actor) is =
        let h : HasNext lists next actor = by lists next actor is in
        record { there = omega (arith, h.there); within = omega (arith, h.within); some = h.some }

-- the next entry, as the standard library tells it
pub next_found : (lists : List (List Entry)) (next : List ℕ) (actor : ℕ) (x : Entry) →
    get_or next actor 0 < length (kept_by lists actor) → x ≡ get_or (kept_by lists actor) (get_or next actor 0) x →
    slice_get (kept_by lists actor) (get_or next actor 0) ≡ Some x
next_found lists next actor x some is =
    slice_get-get_or (kept_by lists actor) (get_or next actor 0) x some ∙ ap Some (sym is)
