-- A voucher that doesn't count changes nothing. One that does shows the notices of the orders that its vote makes done.
use Rattle.std.proofs.Common.{ap, sym, refl, ◌∙◌, subst, ◌≡◌, ◌++◌, true, nat_eq, List, length, take, arith}
use Rattle.std.proofs.lemmas.List.{take_at}
use Rattle.std.specs.Prelude.{◌&&◌}
use Rattle.message_types.specs.declared.vouchers.Notice.{Notice}
use Rattle.vouched_orders.specs.declared.vote.Vote.{Vote}
use Rattle.operator_screen.specs.Board.{ScreenState, is_notice, notices}
use Rattle.operator_screen.specs.contracts.screen.Screen.{the_view}
use Rattle.operator_screen.proofs.DeskLaws.{desk_seen, desk_ignored, desk_voted, desk_refused}
use Rattle.operator_screen.proofs.screen.Screen.take_voucher.Goals as goal

pub returns-then-not-counts-clause-ok : goal.returns-then-not-counts-clause-ok
returns-then-not-counts-clause-ok c = λ s is. desk_ignored c.args.self.now s _ is (sym c.if-not-counts.ensures)

pub returns-in-Err-clause-err : goal.returns-in-Err-clause-err
returns-in-Err-clause-err c = λ s is.
    let here = desk_seen (the_view c.self.inside) c.args.self.now s c.self.view_is is in
    let size : length c.self.inside.board.items ≡ c.len-before.result =
    omega (arith, c.len-before.ensures, c.self.inside.board.ok) in
    let stays = c.truncate.ensures.items ∙ ap (take c.len-before.result) c.in_ok-extend_from_slice.ensures.items
    ∙ take_at c.self.inside.board.items c.as_slice-2.result.now c.len-before.result size in
    desk_refused (the_view c.self.inside) _ s c.truncate.new.self.items here c.in-Err.ensures.err refl stays

pub returns-clause-ok : goal.returns-clause-ok
returns-clause-ok c = λ s is.
    let vote : Vote = record { signer = c.args.signer; voucher = c.args.voucher.now } in
    let Counts : ScreenState → Type 0 =
    λ p. (nat_eq c.args.voucher.now.client p.client && is_notice c.args.voucher.now.order) ≡ true in
    let it_counts = subst Counts (sym c.self.view_is) (sym c.if-not-counts.ensures) in
    let here = desk_seen (the_view c.self.inside) c.args.self.now s c.self.view_is is in
    let shown = c.in_ok-extend_from_slice.ensures.items
    ∙ ap (λ (more : List Notice). c.self.inside.board.items ++ more)
    (c.as_slice-2.ensures.value ∙ c.in_ok-shown.ensures ∙ ap notices c.as_slice.ensures.value) in
    desk_voted (the_view c.self.inside) _ s vote c.in_ok-orders.orders.items c.extend_from_slice.new.self.items here
    it_counts c.in_ok-orders.ensures c.in_default.ensures.ok refl shown
