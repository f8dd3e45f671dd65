-- What an `Order` holds, and what always holds of it, whatever it was handed and said.
use Rattle.std.specs.Prelude.{◌≤◌, nat_eq}
use Rattle.indexmap.specs.IndexMap.{get}
use Rattle.protocol_rules.specs.Group.{most_number}
use Rattle.global_order.specs.Index.{HasHighestOrder, HasPlaces, Reaches, order_in}
use Rattle.global_order.specs.Offered.{OffersFit}
use Rattle.global_order.specs.OrderState.{OrderState}
use Rattle.global_order.specs.declared.order.Order.TheInside.{Inside}

abbrev pub state_of : Inside → OrderState
state_of a = record {
  masters = a.sizes.n;
  quorum = a.sizes.q;
  prepares = a.prepares;
  commits = a.commits;
  marks = a.marks;
  choices = a.choices;
  views = a.views;
  offers = a.offers;
  told = a.told;
  stable = a.stable;
}

-- what waits has its place, all rows offered have a text, and the numbers are within their limits
pub record IsSound (a : Inside) : Type 0 where
  pub places : HasPlaces a.choices
  pub fit : OffersFit a.offers
  pub marked : a.told.marked ≤ a.gapless
  pub stable : a.stable ≤ most_number
  pub highest : HasHighestOrder a.choices
  pub gapless : Reaches (λ s. order_in (get nat_eq a.choices.ordered s)) a.gapless
