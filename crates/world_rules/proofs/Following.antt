-- The laws of agreement with the orders that a plant's rules make.
use Rattle.std.proofs.Common.{ℕ, ◌+◌, List, ◌++◌, length, sym, ◌∙◌, ap, subst}
use Rattle.std.specs.List.{enumerate_from}
use Rattle.plain_lists.specs.Lists.{Begins}
use Rattle.message_types.specs.declared.updates.Update.{Update}
use Rattle.message_types.specs.declared.vouchers.Order.{Order}
use Rattle.history_rules.specs.Events.{Entry}
use Rattle.history_rules.specs.Setup.{Setup}
use Rattle.history_rules.specs.Legal.{executions}
use Rattle.master_points.specs.declared.plant.Plant.{Plant}
use Rattle.master_points.specs.Orders.{orders}
use Rattle.master_points.proofs.OrderLaws.{only-appends}
use Rattle.field_proxy.specs.Writes.{can_write}
use Rattle.vouched_orders.specs.Vouching.{orders_done}
use Rattle.field_proxy.proofs.HistoryLaws.{after_happenings}
use Rattle.operator_screen.specs.Board.{is_notice}
use Rattle.agreement.specs.Laws.{votes_taken}
use Rattle.agreement.proofs.VouchedIsOrdered.{vouched_begin}
use Rattle.agreement.proofs.DoneIsVouched.{done_begins}
use Rattle.world_rules.specs.Plant.{GoesByPlant, VouchedFollow, WritesFollow, BoardFollows}
use Rattle.world_rules.proofs.Shown.{board_keeps_all}
use Rattle.world_rules.proofs.Numbered.{enumerate_from-append, writes_are_numbered}

-- longer lists of updates only append orders
appends : (w : Setup) (plant : Plant) (screens client : ℕ) → GoesByPlant w plant screens → (xs ys : List Update) →
    Begins xs ys → Begins (w.orders xs client) (w.orders ys client)
appends w plant screens client goes xs ys begins =
    let more = only-appends plant screens xs begins.rest client in record {
      rest = more.0;
      same = goes ys client ∙ ap (λ (zs : List Update). orders plant screens zs client) begins.same ∙ more.1
          ∙ ap (λ (zs : List Order). zs ++ more.0) (sym (goes xs client));
    }

-- the setup's orders are the plant's
by_plant : (w : Setup) (plant : Plant) (screens client : ℕ) (history : List Entry) (i : ℕ) (done : List Order) →
    GoesByPlant w plant screens
    → Begins done (w.orders (executions w history i) client) →
    Begins done (orders plant screens (executions w history i) client)
by_plant w plant screens client history i done goes begins =
    record { rest = begins.rest; same = sym (goes (executions w history i) client) ∙ begins.same }

pub vouched_follow : VouchedFollow
vouched_follow w plant screens history client sound goes done vouched =
    let found = vouched_begin w history client sound (appends w plant screens client goes) done vouched in
    (found.0, found.1, by_plant w plant screens client history found.0 done goes found.2)

-- what begins a list does so with numbers
numbered_begins : {xs ys : List Order} → Begins xs ys → Begins (enumerate_from 1 xs) (enumerate_from 1 ys)
numbered_begins {xs} b = record {
  rest = enumerate_from (1 + length xs) b.rest;
  same = ap (enumerate_from 1) b.same
      ∙ enumerate_from-append 1 xs b.rest;
}

pub writes_follow : WritesFollow
writes_follow w plant screens history proxy sizes happenings sound goes votes =
    let found = done_begins w history proxy (can_write plant.points proxy) sound (appends w plant screens proxy goes) in
    let same = after_happenings proxy w.group.n w.group.f plant.points sizes happenings
    ∙ ap (λ v. orders_done (can_write plant.points proxy) proxy w.group.n w.group.f v) votes in
    let numbers = writes_are_numbered proxy w.group.n w.group.f plant.points sizes happenings
    ∙ ap (enumerate_from 1) same in (
      found.0,
      found.1,
      subst (λ (done : List (ℕ × Order)). Begins done
          (enumerate_from 1 (orders plant screens (executions w history found.0) proxy))) (sym numbers)
          (numbered_begins (by_plant w plant screens proxy history found.0 _ goes found.2)),
    )

pub board_follows : BoardFollows
board_follows w plant screens history screen sound goes =
    let found = done_begins w history screen is_notice sound (appends w plant screens screen goes) in (
      found.0,
      found.1,
      subst (λ (done : List Order). Begins done (orders plant screens (executions w history found.0) screen))
          (sym (board_keeps_all screen w.group.n w.group.f (votes_taken history (w.group.n + screen))))
          (by_plant w plant screens screen history found.0 _ goes found.2),
    )
