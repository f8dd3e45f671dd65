-- A voucher is the one vote in its frame and any other body holds none: so the screen counts exactly the votes
-- in the frame that are notices for it.
use Rattle.std.proofs.Common.{◌++◌, List, OnOk, sym, subst}
use Rattle.vouched_orders.specs.declared.vote.Vote.{Vote}
use Rattle.vouched_orders.specs.Vouching.{counted}
use Rattle.operator_screen.specs.Board.{Desk, IsDeskOf, is_notice}
use Rattle.client_roles.proofs.Going.{one_vote}
use Rattle.client_roles.proofs.Answering.{unheard}
use Rattle.client_roles.proofs.screen_role.hear.Goals as goal

pub returns-in-Voucher-clause-ok : goal.returns-in-Voucher-clause-ok
returns-in-Voucher-clause-ok c =
    let vote = one_vote c.args.frame.now c.in-Voucher.voucher c.in-Voucher.is in
    subst (λ (votes : List Vote). OnOk c.take_voucher.result ((s : Desk) → IsDeskOf c.args.screen.now s
    → IsDeskOf c.take_voucher.new.self (record s { votes = s.votes ++ counted is_notice s.client votes })))
    (sym vote) c.take_voucher.ensures.ok

pub returns-in_default : goal.returns-in_default
returns-in_default c = record {
  ok = λ s has. subst (IsDeskOf c.args.screen.now) (unheard s c.args.frame.now c.in_default.not-Voucher) has;
  err = tt;
}
