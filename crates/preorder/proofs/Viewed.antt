-- A pre-ordering as its model shows it.
use Rattle.std.proofs.Common.{◌≡◌, ℕ, List, sym, subst, Result, Ok, Err}
use Rattle.std.specs.Result.{OnOk}
use Rattle.message_types.specs.declared.signed.Signed.{Signed}
use Rattle.message_types.specs.declared.updates.Update.{Update}
use Rattle.message_types.specs.declared.body.Body.{Body}
use Rattle.protocol_rules.specs.Group.{Group}
use Rattle.preorder.specs.declared.firsts.First.{First}
use Rattle.preorder.specs.Index.{PairMap, BallotMap}
use Rattle.preorder.specs.PreorderState.{PreorderState, IsPreorderOf}

pub viewed : (g : Group) (me : ℕ) (p now : PreorderState) (taken known : List (Signed Body)) (said : List Body) →
    p ≡ now → IsPreorderOf g me now taken known said → IsPreorderOf g me p taken known said
viewed g me p now taken known said e is = subst (λ (x : PreorderState). IsPreorderOf g me x taken known said) (sym e) is

-- two facts that stand where there is no error
pub on_ok_both : {T E : Type 0} (P Q : Type 0) (r : Result T E) → OnOk r P → OnOk r Q → OnOk r (P × Q)
on_ok_both P Q (Ok x) p q = (p, q)
on_ok_both P Q (Err e) p q = tt

-- where no entry changed nothing did

pub same-updates : (p : PreorderState) (updates : PairMap (Signed Update)) → updates ≡ p.updates →
    record p { updates = updates } ≡ p
same-updates p updates e = λ i. record p { updates = e i }

pub same-ballots : (p : PreorderState) (firsts : PairMap First) (ballots : BallotMap)
    (certificates : PairMap Update) → firsts ≡ p.firsts → ballots ≡ p.ballots → certificates ≡ p.certificates →
    record p { firsts = firsts; ballots = ballots; certificates = certificates } ≡ p
same-ballots p firsts ballots certificates first ballot certificate =
    λ i. record p { firsts = first i; ballots = ballot i; certificates = certificate i }
