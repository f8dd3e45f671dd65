-- Whole orders, number by number.
use Rattle.std.proofs.Common.{◌≡◌, ℕ, ◌+◌, ◌<◌, false, List, [], ◌∷◌, ◌++◌, ◌||◌, Option, Some, None, length, take}
use Rattle.std.proofs.Common.{get_or, refl, ◌∙◌, ap}
use Rattle.std.specs.List.{list_any, flat_map}
use Rattle.std.specs.Option.{option_map, option_to_list}
use Rattle.std.proofs.lemmas.List.{take_more, append-nil}
use Rattle.std.proofs.lemmas.List.Folds.{list_any-append}
use Rattle.std.proofs.lemmas.Grind.{flat_map-append}
use Rattle.message_types.specs.declared.reconciling.GiveOrdered.{GiveOrdered}
use Rattle.message_types.specs.declared.body.Body.{Body}
use Rattle.message_types.specs.declared.body.Body.TheVariants as body
use Rattle.protocol_rules.specs.declared.facts.OrderFact.{OrderFact}
use Rattle.protocol_rules.specs.Group.{Group}
use Rattle.protocol_rules.specs.Order.{ordered}
use Rattle.reconcile.specs.declared.wanted.Wanted.{Wanted}
use Rattle.reconcile.specs.declared.wanted.Wanted.TheVariants.{Request, Number}
use Rattle.reconcile.specs.Asking.{asks}
use Rattle.protocol_rules.specs.Reconcile.{whole_order, given_order}
use Rattle.reconcile.specs.Giving.{order_given}

-- a whole order as the words that give it
abbrev pub words_of : Option GiveOrdered → List Body
words_of whole = option_to_list (option_map (λ gift. body.GiveOrdered gift) whole)

-- what the order gives of a number are the words that are due of it
pub whole_given : (g : Group) (facts : List OrderFact) (s : ℕ) (whole : Option GiveOrdered) →
    whole ≡ given_order g facts s → words_of whole ≡ order_given g facts s
whole_given g facts s whole is = ap words_of is ∙ by (ordered g facts s)
  where
    by : (found : Option (List (List ℕ))) → words_of (option_map (whole_order g facts s) found) ≡ option_to_list
        (option_map (λ rows. body.GiveOrdered (whole_order g facts s rows)) found)
    by None = refl
    by (Some rows) = refl

-- one number more
pub orders_more : (g : Group) (facts : List OrderFact) (numbers : List ℕ) (i : ℕ) → i < length numbers →
    flat_map (order_given g facts) (take (i + 1) numbers) ≡ flat_map (order_given g facts) (take i numbers)
    ++ order_given g facts (get_or numbers i 0)
orders_more g facts numbers i within =
    ap (flat_map (order_given g facts)) (take_more numbers i 0 within) ∙ flat_map-append (order_given g facts)
    (take i numbers) (get_or numbers i 0 ∷ [])
    ∙ ap (λ xs. flat_map (order_given g facts) (take i numbers) ++ xs)
    (append-nil (order_given g facts (get_or numbers i 0)))

no_ask : (w : Wanted) (whole : Option GiveOrdered) → list_any (asks w) (words_of whole) ≡ false
no_ask (Request j k) None = refl
no_ask (Request j k) (Some gift) = refl
no_ask (Number s) None = refl
no_ask (Number s) (Some gift) = refl

pub asks_no_more : (w : Wanted) (bodies : List Body) (whole : Option GiveOrdered) → list_any (asks w) bodies ≡ false →
    list_any (asks w) (bodies ++ words_of whole) ≡ false
asks_no_more w bodies whole none =
    list_any-append (asks w) bodies (words_of whole) ∙ ap (λ b. b || list_any (asks w) (words_of whole)) none
    ∙ no_ask w whole
