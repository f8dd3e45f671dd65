-- Stamps that were drawn each once.
use Rattle.std.proofs.Common.{◌≡◌, ℕ, suc, ◌+◌, ◌<◌, Bool, true, false, cond, List, [], ◌∷◌, length}
use Rattle.std.proofs.Common.{filter, nat_eq, refl, sym, ◌∙◌, ap, arith}
use Rattle.std.specs.List.{flat_map}
use Rattle.std.proofs.lemmas.Bool.{lt-ltb}
use Rattle.std.proofs.lemmas.Bool.Decides.{nat_tests}
use Rattle.std.proofs.lemmas.List.{length-append}
use Rattle.history_rules.specs.Events.{Entry}
use Rattle.history_rules.specs.Counts.{stamped}
use Rattle.history_laws.proofs.MergedHistories.{merged_is_legal}
use Rattle.stamps.specs.Seats.{times, once_below}
use Rattle.stamps.proofs.Counts.{times_none, times-append}
use Rattle.station_turns.specs.Laws.{stamps_in, stamps_of, DrawnOnceIsStampedOnce, RunIsLegal}

-- one stamp counts for one entry
one_time : (x y : ℕ) → times x (y ∷ []) ≡ cond (nat_eq y x) 1 0
unfolding times
one_time x y = grind (arith, nat_tests)

kept_one : (b : Bool) (e : Entry) (rest : List Entry) → length (cond b (e ∷ rest) rest) ≡ cond b 1 0 + length rest
kept_one true e rest = omega arith
kept_one false e rest = omega arith

times_in : (x : ℕ) (list : List Entry) →
    times x (stamps_in list) ≡ length (filter (λ (e : Entry). nat_eq e.stamp x) list)
times_in x [] = times_none x
times_in x (e ∷ rest) =
    times-append x (e.stamp ∷ []) (stamps_in rest)
    ∙ ap (λ (n : ℕ). n + times x (stamps_in rest)) (one_time x e.stamp)
    ∙ ap (λ (n : ℕ). cond (nat_eq e.stamp x) 1 0 + n) (times_in x rest)
    ∙ sym (kept_one (nat_eq e.stamp x) e (filter (λ (y : Entry). nat_eq y.stamp x) rest))

times_of : (x : ℕ) (lists : List (List Entry)) → times x (stamps_of lists) ≡ length (stamped lists x)
times_of x [] = times_none x
times_of x (list ∷ rest) =
    times-append x (stamps_in list) (stamps_of rest)
    ∙ ap (λ (n : ℕ). n + times x (stamps_of rest)) (times_in x list)
    ∙ ap (λ (n : ℕ). length (filter (λ (e : Entry). nat_eq e.stamp x) list) + n) (times_of x rest)
    ∙ sym (length-append (filter (λ (e : Entry). nat_eq e.stamp x) list) (stamped rest x))

length_in : (list : List Entry) → length (stamps_in list) ≡ length list
length_in [] = refl
length_in (e ∷ rest) = ap suc (length_in rest)

length_of : (lists : List (List Entry)) → length (stamps_of lists) ≡ length (flat_map (λ (l : List Entry). l) lists)
length_of [] = refl
length_of (list ∷ rest) =
    length-append (stamps_in list) (stamps_of rest)
    ∙ ap (λ (n : ℕ). n + length (stamps_of rest)) (length_in list)
    ∙ ap (λ (n : ℕ). length list + n) (length_of rest)
    ∙ sym (length-append list (flat_map (λ (l : List Entry). l) rest))

below_once : (n x : ℕ) → x < n → once_below n x ≡ 1
unfolding once_below
below_once n x below = ap (λ (b : Bool). cond b 1 0) (lt-ltb x n below)

pub drawn_once : DrawnOnceIsStampedOnce
drawn_once n lists each = λ stamp below.
    sym (times_of stamp lists) ∙ each.once stamp
    ∙ below_once n stamp (let count = each.count in omega (arith, length_of lists))

pub run_is_legal : RunIsLegal
run_is_legal w n lists own each = merged_is_legal w lists own (drawn_once n lists each)
