-- An order that learns facts one after another.
use Rattle.std.proofs.Common.{◌≡◌, ℕ, ◌+◌, ◌≤◌, ◌<◌, List, [], ◌∷◌, ◌++◌, length, map, take, get_or, sym, ◌∙◌, ap}
use Rattle.std.proofs.Common.{subst, append_assoc}
use Rattle.std.proofs.lemmas.List.{append-nil, map-append, take_all, take_more}
use Rattle.protocol_rules.specs.declared.facts.OrderFact.{OrderFact}
use Rattle.global_order.specs.OrderState.{OrderState, IsOrderOf, Learns}

-- no facts
pub learns-nothing : (order : OrderState) (more : List OrderFact) → more ≡ [] → Learns order order more
learns-nothing order more none g facts said is = subst (λ (all : List OrderFact). IsOrderOf g order all said)
    (sym (append-nil facts) ∙ ap (λ xs. facts ++ xs) (sym none)) is

-- some, and then others
pub learns-both : (first now new : OrderState) (some more : List OrderFact) → Learns first now some →
    Learns now new more → Learns first new (some ++ more)
learns-both first now new some more one two g facts said is =
    subst (λ (all : List OrderFact). IsOrderOf g new all said) (append_assoc facts some more)
    (two g (facts ++ some) said (one g facts said is))

-- the facts of a list's elements, one by one
pub learns-start : {X : Type 0} (f : X → OrderFact) (order : OrderState) (xs : List X) →
    Learns order order (map f (take 0 xs))
learns-start f order xs = learns-nothing order [] (λ i. [])

pub learns-more : {X : Type 0} (f : X → OrderFact) (first now new : OrderState) (xs : List X) (i : ℕ) (x : X) →
    i < length xs → x ≡ get_or xs i x → Learns first now (map f (take i xs)) → Learns now new (f x ∷ []) →
    Learns first new (map f (take (i + 1) xs))
learns-more {X} f first now new xs i x below is was told = subst (λ (more : List OrderFact). Learns first new more)
    (sym next) (learns-both first now new (map f (take i xs)) (f x ∷ []) was told)
  where
    next : map f (take (i + 1) xs) ≡ map f (take i xs) ++ f x ∷ []
    next = ap (map f) (take_more xs i x below) ∙ map-append f (take i xs) (get_or xs i x ∷ [])
        ∙ ap (λ (y : X). map f (take i xs) ++ f y ∷ []) (sym is)

pub learns-all : {X : Type 0} (f : X → OrderFact) (first now : OrderState) (xs : List X) (i : ℕ) → length xs ≤ i →
    Learns first now (map f (take i xs)) → Learns first now (map f xs)
learns-all {X} f first now xs i over was = subst (λ (ys : List X). Learns first now (map f ys)) (take_all i xs over) was
