-- Actors that were read by their names are there and have their roles.
use Rattle.std.proofs.Common.{◌≡◌, ℕ, zero, suc, ◌+◌, ◌<◌, Bool, true, ◌&&◌, List, sym, ◌∙◌, ap, arith, Ok, Err}
use Rattle.std.proofs.Common.{Option, Some, None}
use Rattle.std.specs.Str.{bytes_eq}
use Rattle.std.proofs.lemmas.Bool.{and_from, lt-ltb}
use Rattle.point_table.specs.Point.{first_that}
use Rattle.scenario_file.specs.declared.actors.Cast.{Cast}
use Rattle.scenario_file.specs.Actors.{actors_of, actor_name, actor_named}
use Rattle.script_grammar.specs.declared.fault.LineRefusal.TheVariants as fault
use Rattle.script_grammar.specs.Faults.{Answer, bad}
use Rattle.script_grammar.specs.Names.{Who, is_name, there, actor_in, of_role, is_intruded, is_correct, is_proxy}
use Rattle.script_grammar.specs.Names.{is_screen, intruded_in, correct_in, proxy_in, screen_in}
use Rattle.script_laws.proofs.Fitting.{is_there}
use Rattle.script_laws.proofs.Answering.{ok, ok_same, some_same, chosen}

-- actors by their names

there_is : (o : Option ℕ) (a : ℕ) → there o ≡ Ok a → o ≡ Some a
there_is (Some x) a h = ap Some (ok_same x a h)
there_is None a h = absurd (cc)

first_is : (p : ℕ → Bool) (first n a : ℕ) → first_that p first n ≡ Some a → (p a ≡ true) × (a < first + n)
first_is p first zero a h = absurd (cc)
first_is p first (suc n) a h =
    chosen (p first) (Some first) (first_that p (suc first) n) (Some a) h
    (λ t e. let same = some_same first a e in (ap p (sym same) ∙ t, omega arith))
    (λ t e. let rest = first_is p (suc first) n a e in let low = rest.1 in (rest.0, omega arith))

-- an actor that a name names bears it, and is there
pub named_is : (cast : Cast) (name : List ℕ) (a : ℕ) → actor_in cast name ≡ Ok a
    → (is_name name ≡ true) × (bytes_eq (actor_name cast a) name ≡ true) × (a < actors_of cast)
unfolding actor_in actor_named
named_is cast name a h =
    chosen (is_name name) (there (actor_named cast name)) bad (Ok a) h
    (λ t e. let found = first_is (λ x. bytes_eq (actor_name cast x) name) 0 (actors_of cast) a
    (there_is (actor_named cast name) a e) in
    let low = found.1 in (t, found.0, omega arith))
    (λ t e. absurd (cc))

pub actor_there : (who : Who) (name : List ℕ) (a : ℕ) → actor_in who.cast name ≡ Ok a → is_there who a ≡ true
actor_there who name a h = lt-ltb a (actors_of who.cast) (named_is who.cast name a h).2

of_role_is : (test : ℕ → Bool) (r : Answer ℕ) (a : ℕ) → of_role test r ≡ Ok a → (test a ≡ true) × (r ≡ Ok a)
of_role_is test (Ok x) a h =
    chosen (test x) (ok x) (Err fault.NoActor) (Ok a) h (λ t e. (ap test (sym (ok_same x a e)) ∙ t, e))
    (λ t e. absurd (cc))
of_role_is test (Err e) a h = absurd (cc)

-- an actor of a role is there
role_there : (who : Who) (test : ℕ → Bool) (name : List ℕ) (a : ℕ) → of_role test (actor_in who.cast name) ≡ Ok a →
    (is_there who a && test a) ≡ true
role_there who test name a h =
    let found = of_role_is test (actor_in who.cast name) a h in
    and_from (is_there who a) (test a) (actor_there who name a found.1) found.0

pub intruded_there : (who : Who) (name : List ℕ) (a : ℕ) → intruded_in who name ≡ Ok a →
    (is_there who a && is_intruded who a) ≡ true
unfolding intruded_in
intruded_there who name a h = role_there who (is_intruded who) name a h

pub correct_there : (who : Who) (name : List ℕ) (a : ℕ) → correct_in who name ≡ Ok a →
    (is_there who a && is_correct who a) ≡ true
unfolding correct_in
correct_there who name a h = role_there who (is_correct who) name a h

pub proxy_there : (who : Who) (name : List ℕ) (a : ℕ) → proxy_in who name ≡ Ok a →
    (is_there who a && is_proxy who a) ≡ true
unfolding proxy_in
proxy_there who name a h = role_there who (is_proxy who) name a h

pub screen_there : (who : Who) (name : List ℕ) (a : ℕ) → screen_in who name ≡ Ok a →
    (is_there who a && is_screen who a) ≡ true
unfolding screen_in
screen_there who name a h = role_there who (is_screen who) name a h
