use Rattle.std.proofs.Common.{◌≡◌, ◌++◌, ◌&&◌, ℕ, List, take, nat_le}
use Rattle.std.specs.List.{list_any}
use Rattle.message_types.specs.declared.body.Body.{Body}
use Rattle.protocol_rules.specs.Master.{vouchers_said, vouchers_from}
use Rattle.leader_proposals.proofs.vouchers.push_vouchers.Given as goal

-- those of the orders so far are there
abbrev pub invariant-loop-place : goal.invariant-loop-place
invariant-loop-place l =
    (said : List Body) → ((x : ℕ) → list_any (vouchers_said l.client x) said ≡ (nat_le 1 x && nat_le x l.count)) →
    l.bodies.items ≡ l.initial.bodies.items ++ vouchers_from said l.client 1 (take l.place l.orders)
