-- The bodies so far are the gifts of the wanted requests gone over, and none of them asks for anything; the
-- loop goes over the list once.
use Rattle.std.proofs.Common.{◌≡◌, List, take, false}
use Rattle.std.specs.List.{list_any, flat_map}
use Rattle.message_types.specs.declared.signed.Signed.{Signed}
use Rattle.message_types.specs.declared.body.Body.{Body}
use Rattle.protocol_rules.specs.Group.{Group}
use Rattle.preorder.specs.Index.{HasCertified}
use Rattle.reconcile.specs.declared.wanted.Wanted.{Wanted}
use Rattle.reconcile.specs.Asking.{asks}
use Rattle.reconcile.specs.GiftState.{AreGiftsOf}
use Rattle.reconcile.specs.Giving.{given_of}
use Rattle.reconcile.proofs.giving.gives.Given as goal

abbrev pub invariant-loop-one : goal.invariant-loop-one
invariant-loop-one l = record {
  given : (g : Group) (known : List (Signed Body)) → AreGiftsOf g l.gifts known →
      HasCertified g known l.preorder.certificates →
      l.bodies.items ≡ flat_map (given_of g known) (take l.one-index l.wanted);
  no_asks : (w : Wanted) → list_any (asks w) l.bodies.items ≡ false;
}
