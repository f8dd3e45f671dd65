-- What a master gives to another that asks for a whole order, and what is held for it.
use Rattle.std.specs.Prelude.{◌≡◌, ℕ, Bool, ◌&&◌, List, [], ◌∷◌, Option, Some, None, nat_eq}
use Rattle.std.specs.Str.{bytes_eq}
use Rattle.indexmap.specs.IndexMap.{get}
use Rattle.message_types.specs.declared.reconciling.GiveOrdered.{GiveOrdered}
use Rattle.message_types.specs.declared.body.Body.{Body}
use Rattle.message_types.specs.declared.body.Body.TheVariants as body
use Rattle.protocol_rules.specs.declared.facts.OrderFact.{OrderFact}
use Rattle.protocol_rules.specs.Group.{Group}
pub use Rattle.protocol_rules.specs.Reconcile.{last_view, whole_order, given_order}
use Rattle.global_order.specs.Index.{Map}

-- a whole order as the words that give it
abbrev pub gift_words : Option GiveOrdered → List Body
gift_words None = []
gift_words (Some gift) = body.GiveOrdered gift ∷ []

-- numbers with digests
abbrev pub same_order : ℕ × List ℕ → ℕ × List ℕ → Bool
same_order x y = nat_eq x.0 y.0 && bytes_eq x.1 y.1

-- the view held, 0 where there is none
abbrev pub view_in : Option ℕ → ℕ
view_in None = 0
view_in (Some v) = v

-- held is the greatest view in which a quorum committed each number with each digest
abbrev pub HasViews : Group → List OrderFact → Map (ℕ × List ℕ) ℕ → Type 0
HasViews g facts views = (s : ℕ) (d : List ℕ) → view_in (get same_order views (s, d)) ≡ last_view g facts s d
