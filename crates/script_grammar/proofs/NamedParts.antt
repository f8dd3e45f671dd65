-- An actor's name by its part: a letter, and its number among the actors of that part.
use Rattle.std.proofs.Common.{◌≡◌, ℕ, ◌+◌, ◌-◌, ◌<◌, ◌≤◌, Bool, true, false, cond, nat_lt, List, ◌∷◌, ◌++◌, refl, ◌∙◌}
use Rattle.std.proofs.Common.{ap, arith}
use Rattle.std.specs.Prelude.{codes, decimal}
use Rattle.std.proofs.lemmas.Bool.Decides.{nat_tests}
use Rattle.scenario_file.specs.declared.actors.Cast.{Cast}
use Rattle.scenario_file.specs.Actors.{actor_name}

-- Whether an actor is a master, a proxy or a screen, with its name.
pub data Part (cast : Cast) (a : ℕ) : Type 0 where
  master : a < cast.masters → actor_name cast a ≡ 109 ∷ decimal a → Part cast a
  proxy : cast.masters ≤ a → a < cast.masters + cast.proxies → actor_name cast a ≡ 112 ∷ decimal (a - cast.masters) →
      Part cast a
  screen : cast.masters + cast.proxies ≤ a → actor_name cast a ≡ 115 ∷ decimal (a - (cast.masters + cast.proxies)) →
      Part cast a

-- an actor's name, by whether it is a master, and else by whether it is a proxy
abbrev name_if : Cast → ℕ → Bool → Bool → List ℕ
name_if cast a m p = cond m (codes "m" ++ decimal a)
    (cond p (codes "p" ++ decimal (a - cast.masters)) (codes "s" ++ decimal (a - (cast.masters + cast.proxies))))

part_by : (cast : Cast) (a : ℕ) (m p : Bool) → nat_lt a cast.masters ≡ m →
    nat_lt a (cast.masters + cast.proxies) ≡ p → Part cast a
unfolding actor_name
part_by cast a true p low below =
    master (grind (arith, nat_tests))
    (ap (λ (m : Bool). name_if cast a m (nat_lt a (cast.masters + cast.proxies))) low)
part_by cast a false true low below =
    proxy (grind (arith, nat_tests)) (grind (arith, nat_tests))
    (ap (λ (m : Bool). name_if cast a m (nat_lt a (cast.masters + cast.proxies))) low
    ∙ ap (name_if cast a false) below)
part_by cast a false false low below =
    screen (grind (arith, nat_tests))
    (ap (λ (m : Bool). name_if cast a m (nat_lt a (cast.masters + cast.proxies))) low
    ∙ ap (name_if cast a false) below)

pub part_of : (cast : Cast) (a : ℕ) → Part cast a
part_of cast a = part_by cast a (nat_lt a cast.masters) (nat_lt a (cast.masters + cast.proxies)) refl refl
