-- A vote makes orders done only where it settles the number just behind those done. Then that order and the
-- settled ones that follow without a gap are what is added.
use Rattle.std.proofs.Common.{◌≡◌, ◌+◌, ◌<◌, ◌≤◌, ◌^◌, ◌&&◌, false, nat_eq, nat_lt, List, [], ◌∷◌, ◌++◌, arith, sym}
use Rattle.std.proofs.Common.{ap, ◌∙◌, subst}
use Rattle.std.proofs.lemmas.Bool.{and_parts, eqb-true}
use Rattle.message_types.specs.declared.vouchers.Order.{Order}
use Rattle.vouched_orders.specs.Vouching.{done}
use Rattle.vouched_orders.specs.Tally.{Tally, IsTallyOf}
use Rattle.vouched_orders.proofs.VouchingLaws.{append-[]}
use Rattle.vouched_orders.proofs.TallyLaws.{done-sized, ready-none, ready-run}
use Rattle.quorum_sets.proofs.Numbered.{masters_few}
use Rattle.vouched_orders.proofs.vouched.Vouched.ready.Goals as goal

pub returns-then-not-is_done : goal.returns-then-not-is_done
returns-then-not-is_done c = λ n f votes is.
    let t = subst (λ (v : Tally). IsTallyOf n f votes v) (sym c.self.view_is) is in
    let few : c.self.inside.sizes.n ≤ 14 = masters_few c.self.inside.sizes in
    let nothing : nat_eq c.args.vote.now.voucher.number (1 + c.self.inside.count)
    && nat_lt c.self.inside.sizes.f c.len.result ≡ false =
    ap (λ b. b && nat_lt c.self.inside.sizes.f c.len.result) (sym c.follows.ensures) ∙ c.if-not-is_done.true in
    let same : done c.self.inside.sizes.n c.self.inside.sizes.f (votes ++ c.args.vote.now ∷ []) ≡ done
    c.self.inside.sizes.n c.self.inside.sizes.f votes =
    ready-none c.self.inside.sizes.n c.self.inside.sizes.f few votes c.args.vote.now c.self.inside.masters
    c.self.inside.settled c.self.inside.count c.masters_with-masters.result (nat_lt c.self.inside.sizes.f c.len.result)
    t.tally c.masters_with-masters.ensures (ap (nat_lt c.self.inside.sizes.f) c.len.ensures) nothing in
    done-sized n f c.self.inside.sizes.n c.self.inside.sizes.f (votes ++ c.args.vote.now ∷ [])
    votes c.new.result.items t.masters t.intruded
    (same ∙ sym (append-[] (done c.self.inside.sizes.n c.self.inside.sizes.f votes))
    ∙ ap (λ (orders : List Order). done c.self.inside.sizes.n c.self.inside.sizes.f votes ++ orders)
    (sym c.new.ensures.items))

pub returns : goal.returns
returns c = λ n f votes is.
    let t = subst (λ (v : Tally). IsTallyOf n f votes v) (sym c.self.view_is) is in
    let few : c.self.inside.sizes.n ≤ 14 = masters_few c.self.inside.sizes in
    let fits : c.args.vote.now.voucher.number < 2 ^ 64 = omega arith in
    let both = and_parts c.follows.result (nat_lt c.self.inside.sizes.f c.len.result) c.if-not-is_done.false in
    let next : c.args.vote.now.voucher.number ≡ 1 + c.self.inside.count =
    eqb-true c.args.vote.now.voucher.number (1 + c.self.inside.count) (sym c.follows.ensures ∙ both.0) in
    done-sized n f c.self.inside.sizes.n c.self.inside.sizes.f (votes ++ c.args.vote.now ∷ [])
    votes c.in_ok-orders.orders.items t.masters t.intruded
    (ready-run c.self.inside.sizes.n c.self.inside.sizes.f few votes c.args.vote.now c.self.inside.masters
    c.self.inside.settled c.self.inside.count c.masters_with-masters.result (nat_lt c.self.inside.sizes.f c.len.result)
    c.in_ok-orders.orders.items t.tally c.masters_with-masters.ensures (ap (nat_lt c.self.inside.sizes.f) c.len.ensures)
    fits next both.1 c.in_ok-orders.ensures.each c.in_ok-orders.ensures.end)
