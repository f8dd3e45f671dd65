-- What a function gives of the numbers below n.
use Rattle.std.proofs.Common.{◌≡◌, ℕ, ◌+◌, ◌≤◌, true, false, cond, List, [], ◌∷◌, ◌++◌, Option, Some, None, is_some}
use Rattle.std.proofs.Common.{length, take, refl, sym, ◌∙◌, ap, arith, add-one, length-append}
use Rattle.std.specs.List.{filter_map, cons_option}
use Rattle.std.specs.Option.{option_map, option_to_list}
use Rattle.std.proofs.lemmas.List.Elements.{filter_map-append}
use Rattle.quorum_sets.specs.Masters.{numbers_below}
use Rattle.quorum_sets.proofs.MastersLemmas.{numbers_below-suc}
use Rattle.protocol_rules.specs.declared.facts.OrderFact.{OrderFact}
use Rattle.protocol_rules.specs.Group.{Group}
use Rattle.protocol_rules.specs.Words.{first_of_list}
use Rattle.protocol_rules.specs.Order.{quorum_of}
use Rattle.global_order.specs.Index.{given}
use Rattle.global_order.specs.OrderState.{HasSizes}
pub use Rattle.quorum_sets.proofs.MastersLemmas.{at_most_one, bool_byte-cond}

pub given-none : {X : Type 0} (f : ℕ → Option X) → given f 0 ≡ []
unfolding numbers_below
given-none f = refl

pub given-more : {X : Type 0} (f : ℕ → Option X) (n : ℕ) → given f (n + 1) ≡ given f n ++ cons_option (f n) []
given-more f n = ap (given f) (add-one n) ∙ ap (filter_map f) (numbers_below-suc n)
    ∙ filter_map-append f (numbers_below n) (n ∷ [])

length-one : {X : Type 0} (o : Option X) → length (cons_option o []) ≡ cond (is_some o) 1 0
length-one None = refl
length-one (Some x) = refl

pub given-count : {X : Type 0} (f : ℕ → Option X) (n : ℕ) →
    length (given f (n + 1)) ≡ length (given f n) + cond (is_some (f n)) 1 0
given-count f n = ap length (given-more f n) ∙ length-append (given f n) (cons_option (f n) [])
    ∙ ap (λ k. length (given f n) + k) (length-one (f n))

-- as many as before, whatever is made of each
pub length-map : {X Y : Type 0} (h : ℕ → X → Y) (f : ℕ → Option X) (ns : List ℕ) →
    length (filter_map (λ m. option_map (h m) (f m)) ns) ≡ length (filter_map f ns)
length-map h f [] = refl
length-map {X} {Y} h f (n ∷ ns) = by (f n) (length-map h f ns)
  where
    by : (o : Option X) → length (filter_map (λ m. option_map (h m) (f m)) ns) ≡ length (filter_map f ns) →
        length (cons_option (option_map (h n) o) (filter_map (λ m. option_map (h m) (f m)) ns)) ≡ length
        (cons_option o (filter_map f ns))
    by None more = more
    by (Some x) more = let one : length (h n x ∷ filter_map (λ m. option_map (h m) (f m)) ns) ≡ length
        (x ∷ filter_map f ns) = omega arith in one

-- where each keeps what it had there are at least as many
pub length-grows : {X : Type 0} (f h : ℕ → Option X) (ns : List ℕ) →
    ((n : ℕ) → is_some (f n) ≡ true → is_some (h n) ≡ true) → length (filter_map f ns) ≤ length (filter_map h ns)
length-grows f h [] keeps = omega arith
length-grows {X} f h (n ∷ ns) keeps = by (f n) (h n) (keeps n) (length-grows f h ns keeps)
  where
    by : (o p : Option X) → (is_some o ≡ true → is_some p ≡ true) →
        length (filter_map f ns) ≤ length (filter_map h ns) → length (cons_option o (filter_map f ns)) ≤ length
        (cons_option p (filter_map h ns))
    by None None there more = more
    by None (Some y) there more = let one : length (filter_map f ns) ≤ length (y ∷ filter_map h ns) = omega arith in one
    by (Some x) (Some y) there more = let one : length (x ∷ filter_map f ns) ≤ length (y ∷ filter_map h ns) =
        omega arith in one
    by (Some x) None there more = let no : false ≡ true = there refl in absurd (cc)

pub option-list : {X : Type 0} (o : Option X) → option_to_list o ≡ cons_option o []
option-list None = refl
option-list (Some x) = refl

-- one number more, where what it gives is added behind what the numbers below gave
pub given-push : {X : Type 0} (f : ℕ → Option X) (n : ℕ) (xs ys : List X) (o : Option X) →
    ys ≡ xs ++ option_to_list o → o ≡ f n → xs ≡ given f n → ys ≡ given f (n + 1)
given-push f n xs ys o added is before =
    added ∙ ap (λ o. xs ++ option_to_list o) is ∙ ap (λ zs. zs ++ option_to_list (f n)) before
    ∙ ap (λ zs. given f n ++ zs) (option-list (f n)) ∙ sym (given-more f n)

-- what is held of each master, cut off at the size of a quorum, is the quorum of the definition
pub given-quorum : {X : Type 0} (g : Group) (facts : List OrderFact) (n q : ℕ) (vote : ℕ → OrderFact → Option X)
    (held : ℕ → Option X) → HasSizes g n q → ((m : ℕ) → held m ≡ first_of_list (filter_map (vote m) facts)) →
    take q (given held n) ≡ quorum_of g vote facts
given-quorum g facts n q vote held sizes has =
    (λ i. take q (filter_map (λ m. has m i) (numbers_below n)))
    ∙ ap (λ n. take q (given (λ m. first_of_list (filter_map (vote m) facts)) n)) (sym sizes.masters)
    ∙ ap (λ q. take q (given (λ m. first_of_list (filter_map (vote m) facts)) g.n)) (sym sizes.quorum)
