-- By whether it is due and whether the number is ordered, the rule and the answer of the order give the same
-- words.
use Rattle.std.proofs.Common.{◌≡◌, ℕ, Bool, true, false, cond, ◌&&◌, not, List, [], ◌∷◌, Option, Some, None, refl}
use Rattle.std.specs.List.{list_any}
use Rattle.std.specs.Option.{option_map}
use Rattle.message_types.specs.declared.body.Body.TheVariants as body
use Rattle.message_types.specs.Digests.{digest_of_rows}
use Rattle.protocol_rules.specs.declared.facts.OrderFact.{OrderFact}
use Rattle.protocol_rules.specs.Group.{Group}
use Rattle.protocol_rules.specs.Words.{greatest_of}
use Rattle.protocol_rules.specs.Order.{ordered, commit_by, quorum_of}
use Rattle.protocol_rules.specs.Reconcile.{asks_for_order, committed_views, orders_given}
use Rattle.global_order.specs.Giving.{gift_words, whole_order}
use Rattle.global_order.proofs.laws.a_whole_order_is_due_once.Goals as goal

-- by whether it is due, and by whether the number is ordered
by : (g : Group) (facts : List OrderFact) (s : ℕ) (is_due : Bool) (o : Option (List (List ℕ))) →
    cond is_due (elim o [
      | Some rows ↦
          let v = greatest_of (committed_views g facts s (digest_of_rows rows)) in
          body.GiveOrdered record {
            s = s;
            v = v;
            rows = rows;
            commits =
                quorum_of g (commit_by v s (digest_of_rows rows)) facts;
          } ∷ []
      | None ↦ []
    ]) []
    ≡ cond is_due (gift_words (option_map (whole_order g facts s) o)) []
by g facts s false o = refl
by g facts s true None = refl
by g facts s true (Some rows) = refl

pub returns : goal.returns
returns c = λ g me known facts said s. by g facts s (list_any (asks_for_order me s) known
    && not (list_any (orders_given s) said)) (ordered g facts s)
