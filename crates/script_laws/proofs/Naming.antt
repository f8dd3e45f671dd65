-- Names that rise are those of actors whose numbers rise.
use Rattle.std.proofs.Common.{◌≡◌, ℕ, suc, ◌+◌, ◌-◌, ◌<◌, ◌^◌, Bool, true, false, cond, not, ◌&&◌, nat_lt, List, []}
use Rattle.std.proofs.Common.{◌∷◌, take, refl, sym, ◌∙◌, ap, arith, Ok}
use Rattle.std.specs.Prelude.{decimal}
use Rattle.std.specs.List.{slice_split, onto_first, before_first, prefix_len}
use Rattle.std.specs.Str.Parse.{digits_value}
use Rattle.std.proofs.lemmas.Bool.{and_parts, false≢true, lt-ltb, ltb-true}
use Rattle.std.proofs.lemmas.Slice.Eq.{bytes_eq-Decides}
use Rattle.scenario_file.specs.declared.actors.Cast.{Cast}
use Rattle.scenario_file.specs.Actors.{actors_of, actor_name}
use Rattle.script_grammar.specs.Names.{is_name, comes_before, rise, actor_in}
use Rattle.script_laws.proofs.Actors.{named_is}
use Rattle.script_grammar.proofs.NamedParts.{Part, master, proxy, screen, part_of}
use Rattle.script_grammar.proofs.Worded.{value_is}

-- numbers in digits are compared by their values
values_less : (m n : ℕ) → m < 2 ^ 64 → n < 2 ^ 64 →
    nat_lt (digits_value 10 (decimal m)) (digits_value 10 (decimal n)) ≡ true → m < n
values_less m n few many h =
    ltb-true m n (ap (λ x. nat_lt x n) (sym (value_is m few)) ∙ ap (nat_lt (digits_value 10 (decimal m)))
    (sym (value_is n many)) ∙ h)

parts_rise : (cast : Cast) (a b : ℕ) → a < 2 ^ 64 → b < 2 ^ 64 → Part cast a → Part cast b →
    comes_before (actor_name cast a) (actor_name cast b) ≡ true → a < b
parts_rise cast a b small large (master low named) (master below called) h =
    values_less a b small large (ap (λ x. comes_before x (109 ∷ decimal b)) (sym named)
    ∙ ap (comes_before (actor_name cast a)) (sym called) ∙ h)
parts_rise cast a b small large (master low named) (proxy above below called) h = omega arith
parts_rise cast a b small large (master low named) (screen above called) h = omega arith
parts_rise cast a b small large (proxy above low named) (master below called) h =
    absurd (false≢true (ap (λ x. comes_before x (109 ∷ decimal b)) (sym named)
    ∙ ap (comes_before (actor_name cast a)) (sym called) ∙ h))
parts_rise cast a b small large (proxy above low named) (proxy over below called) h =
    let less = values_less (a - cast.masters) (b - cast.masters) (omega arith) (omega arith)
    (ap (λ x. comes_before x (112 ∷ decimal (b - cast.masters))) (sym named)
    ∙ ap (comes_before (actor_name cast a)) (sym called) ∙ h) in
    omega arith
parts_rise cast a b small large (proxy above low named) (screen over called) h = omega arith
parts_rise cast a b small large (screen above named) (master below called) h =
    absurd (false≢true (ap (λ x. comes_before x (109 ∷ decimal b)) (sym named)
    ∙ ap (comes_before (actor_name cast a)) (sym called) ∙ h))
parts_rise cast a b small large (screen above named) (proxy over below called) h =
    absurd (false≢true (ap (λ x. comes_before x (112 ∷ decimal (b - cast.masters))) (sym named)
    ∙ ap (comes_before (actor_name cast a)) (sym called) ∙ h))
parts_rise cast a b small large (screen above named) (screen over called) h =
    let less = values_less (a - (cast.masters + cast.proxies)) (b - (cast.masters + cast.proxies))
    (omega arith) (omega arith)
    (ap (λ x. comes_before x (115 ∷ decimal (b - (cast.masters + cast.proxies)))) (sym named)
    ∙ ap (comes_before (actor_name cast a)) (sym called) ∙ h) in
    omega arith

-- names that rise are those of rising numbers
pub numbers_rise : (cast : Cast) (x y : List ℕ) (a b : ℕ) → actors_of cast < 2 ^ 64 → actor_in cast x ≡ Ok a →
    actor_in cast y ≡ Ok b → rise x y ≡ true → nat_lt a b ≡ true
numbers_rise cast x y a b few read other h =
    let one = named_is cast x a read in
    let two = named_is cast y b other in
    let there = one.2 in
    let here = two.2 in
    let x_is : actor_name cast a ≡ x = (bytes_eq-Decides (actor_name cast a) x).0 one.1 in
    let y_is : actor_name cast b ≡ y = (bytes_eq-Decides (actor_name cast b) y).0 two.1 in
    let before = (and_parts (is_name x && is_name y) (comes_before x y) h).1 in
    lt-ltb a b (parts_rise cast a b (omega arith) (omega arith) (part_of cast a) (part_of cast b)
    (ap (λ n. comes_before n (actor_name cast b)) x_is ∙ ap (comes_before x) y_is ∙ before))

-- the first part of a text that is split is what stands before the first that splits it

abbrev first_of : List (List ℕ) → List ℕ
first_of [] = []
first_of (part ∷ parts) = part

first_onto : (x : ℕ) (parts : List (List ℕ)) → first_of (onto_first x parts) ≡ x ∷ first_of parts
first_onto x [] = refl
first_onto x (part ∷ parts) = refl

first_step : (x : ℕ) (xs : List ℕ) (n : ℕ) (parts : List (List ℕ)) (b : Bool) → first_of parts ≡ take n xs
    → first_of (cond b ([] ∷ parts) (onto_first x parts)) ≡ take (cond (not b) (1 + n) 0) (x ∷ xs)
first_step x xs n parts true h = refl
first_step x xs n parts false h =
    let next : suc n ≡ 1 + n = omega arith in
    first_onto x parts ∙ ap (λ ys. x ∷ ys) h ∙ ap (λ m. take m (x ∷ xs)) next

first_split : (p : ℕ → Bool) (xs : List ℕ) → first_of (slice_split p xs) ≡ before_first p xs
first_split p [] = refl
first_split p (x ∷ xs) = first_step x xs (prefix_len (λ y. not (p y)) xs) (slice_split p xs) (p x) (first_split p xs)

pub first_part : (p : ℕ → Bool) (xs part : List ℕ) (parts : List (List ℕ)) → slice_split p xs ≡ part ∷ parts →
    before_first p xs ≡ part
first_part p xs part parts h = sym (first_split p xs) ∙ ap first_of h
