-- The actors of a scenario: the masters, then the proxies, then the screens, and their names `m0`, `p0`, `s0`.
use Rattle.std.specs.Prelude.{ℕ, ◌+◌, ◌-◌, nat_lt, ◌++◌, codes, decimal, if◌then◌else◌, List, Option}
use Rattle.std.specs.Str.{bytes_eq}
use Rattle.point_table.specs.Point.{first_that}
use Rattle.scenario_file.specs.declared.actors.Cast.{Cast}

abbrev pub actors_of : Cast → ℕ
actors_of cast = cast.masters + cast.proxies + cast.screens

unfoldable pub actor_name : Cast → ℕ → List ℕ
actor_name cast a =
    if nat_lt a cast.masters then codes "m" ++ decimal a
    else if nat_lt a (cast.masters + cast.proxies) then codes "p" ++ decimal (a - cast.masters)
    else codes "s" ++ decimal (a - (cast.masters + cast.proxies))

-- the actor that has a name
unfoldable pub actor_named : Cast → List ℕ → Option ℕ
actor_named cast name = first_that (λ a. bytes_eq (actor_name cast a) name) 0 (actors_of cast)
