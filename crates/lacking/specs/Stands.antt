-- Where a master stands with the numbers, by what it knows and said.
use Rattle.std.specs.Prelude.{◌≡◌, ℕ, ◌+◌, Bool, ◌&&◌, not, List}
use Rattle.std.specs.List.{list_any}
use Rattle.message_types.specs.declared.body.Body.{Body}
use Rattle.protocol_rules.specs.declared.facts.OrderFact.{OrderFact}
use Rattle.protocol_rules.specs.Group.{Group}
use Rattle.protocol_rules.specs.Order.{gapless}
use Rattle.protocol_rules.specs.Reconcile.{orders_asked}
use Rattle.protocol_rules.specs.Lacking.{some_committed_to, open_base}
use Rattle.lacking.specs.declared.wanting.Standing.{Standing}

-- The standing of a master that knows these facts and said these bodies, in view v, open or not.
pub record IsStanding (g : Group) (facts : List OrderFact) (said : List Body) (v : ℕ) (is_open : Bool)
    (standing : Standing) : Type 0 where
  pub ordered : standing.gapless ≡ gapless g facts
  pub some : standing.some_come_to ≡ some_committed_to g facts
  pub base : standing.base ≡ open_base facts v is_open
  pub next : standing.is_next_after_ask ≡ (list_any (orders_asked (gapless g facts)) said
      && not (list_any (orders_asked (gapless g facts + 1)) said))
