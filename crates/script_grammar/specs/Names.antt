-- Actors by their names, and who of them may do what a line says. (Names are this project's own: `m0`, `p0`, `s0`.)
use Rattle.std.specs.Prelude.{ℕ, ◌+◌, ◌-◌, nat_le, nat_lt, ◌==◌, Bool, true, false, not, ◌&&◌, ◌||◌, if◌then◌else◌}
use Rattle.std.specs.Prelude.{List, [], ◌∷◌, length, Option, Some, None, Result, Ok, Err, slice_get}
use Rattle.std.specs.Str.Parse.{digits_value}
use Rattle.quorum_sets.specs.Masters.{has_master}
use Rattle.point_table.specs.declared.point.DeviceSizes.{DeviceSizes}
use Rattle.scenario_file.specs.declared.actors.Cast.{Cast}
use Rattle.scenario_file.specs.Actors.{actor_named}
use Rattle.scenario_file.specs.Reading.{Contents, cast_of}
use Rattle.script_grammar.specs.declared.fault.LineRefusal.{LineRefusal}
use Rattle.script_grammar.specs.declared.fault.LineRefusal.TheVariants as fault
use Rattle.script_grammar.specs.Faults.{Answer, bad}
use Rattle.script_grammar.specs.Numbers.{is_numeral}

-- who is there: how many actors of each kind, which masters are intruded, and the devices behind the proxies
pub record Who : Type 0 where
  pub cast : Cast
  pub intruded : List ℕ
  pub devices : List DeviceSizes

abbrev pub who_of : Contents → Who
who_of c = record { cast = cast_of c.settings c.plant; intruded = c.settings.intruded; devices = c.plant.devices }

-- a name, be the actor there or not: the letter of its kind, and a number
abbrev pub is_name : List ℕ → Bool
is_name [] = false
is_name (letter ∷ number) = ((letter == 109) || (letter == 112) || (letter == 115)) && is_numeral number

-- masters come before proxies, and those before screens; of one kind the smaller number comes first
abbrev pub comes_before : List ℕ → List ℕ → Bool
comes_before [] b = false
comes_before (letter ∷ number) [] = false
comes_before (letter ∷ number) (other ∷ its) = nat_lt letter other
    || ((letter == other) && nat_lt (digits_value 10 number) (digits_value 10 its))

abbrev pub rise : List ℕ → List ℕ → Bool
rise a b = is_name a && is_name b && comes_before a b

-- names that rise
abbrev pub names_rise : List (List ℕ) → Bool
names_rise [] = true
names_rise (a ∷ []) = true
names_rise (a ∷ b ∷ more) = rise a b && names_rise (b ∷ more)

abbrev pub there : Option ℕ → Answer ℕ
there (Some a) = Ok a
there None = Err fault.NoActor

-- the actor of a name
unfoldable pub actor_in : Cast → List ℕ → Answer ℕ
actor_in cast name = if is_name name then there (actor_named cast name) else bad

-- an actor of a role
abbrev pub of_role : (ℕ → Bool) → Result ℕ LineRefusal → Result ℕ LineRefusal
of_role is_one (Ok a) = if is_one a then Ok a else Err fault.NoActor
of_role is_one (Err e) = Err e

abbrev pub is_intruded : Who → ℕ → Bool
is_intruded who a = has_master who.intruded a

abbrev pub is_correct : Who → ℕ → Bool
is_correct who a = not (has_master who.intruded a)

abbrev pub is_proxy : Who → ℕ → Bool
is_proxy who a = nat_le who.cast.masters a && nat_lt a (who.cast.masters + who.cast.proxies)

-- the device behind a proxy
unfoldable pub device_of : Who → ℕ → Option DeviceSizes
device_of who a = if is_proxy who a then slice_get who.devices (a - who.cast.masters) else None

abbrev pub is_screen : Who → ℕ → Bool
is_screen who a = nat_le (who.cast.masters + who.cast.proxies) a

unfoldable pub intruded_in : Who → List ℕ → Answer ℕ
intruded_in who name = of_role (is_intruded who) (actor_in who.cast name)

unfoldable pub correct_in : Who → List ℕ → Answer ℕ
correct_in who name = of_role (is_correct who) (actor_in who.cast name)

unfoldable pub proxy_in : Who → List ℕ → Answer ℕ
proxy_in who name = of_role (is_proxy who) (actor_in who.cast name)

unfoldable pub screen_in : Who → List ℕ → Answer ℕ
screen_in who name = of_role (is_screen who) (actor_in who.cast name)
