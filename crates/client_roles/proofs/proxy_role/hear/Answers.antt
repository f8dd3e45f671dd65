-- A voucher is the one vote in its frame and any other body holds none: so the proxy goes on by exactly the
-- votes in the frame.
use Rattle.std.proofs.Common.{List, map, OnOk, sym, subst}
use Rattle.vouched_orders.specs.declared.vote.Vote.{Vote}
use Rattle.field_proxy.specs.Front.{Front, IsFrontOf}
use Rattle.field_proxy.specs.Happenings.{Vouched, front_after}
use Rattle.client_roles.proofs.Going.{one_vote}
use Rattle.client_roles.proofs.Polling.{unheard}
use Rattle.client_roles.proofs.proxy_role.hear.Goals as goal

pub returns-in-Voucher-clause-ok : goal.returns-in-Voucher-clause-ok
returns-in-Voucher-clause-ok c =
    let vote = one_vote c.args.frame.now c.in-Voucher.voucher c.in-Voucher.is in
    subst (λ (votes : List Vote). OnOk c.take_voucher.result ((s : Front) → IsFrontOf c.args.proxy.now s →
    IsFrontOf c.take_voucher.new.self (front_after s (map Vouched votes)))) (sym vote) c.take_voucher.ensures.ok

pub returns-in_default : goal.returns-in_default
returns-in_default c = record {
  ok = λ s has. subst (IsFrontOf c.args.proxy.now) (unheard s c.args.frame.now c.in_default.not-Voucher) has;
  err = tt;
}
