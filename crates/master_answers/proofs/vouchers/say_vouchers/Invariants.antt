-- A client's count is the length of its orders once it was gone over, and as before until then, so the vouchers
-- of one client never count for another.
use Rattle.std.proofs.Common.{◌≡◌, ◌<◌, ◌≤◌, ◌+◌, ◌++◌, ℕ, List, [], Some, length, get_or}
use Rattle.std.specs.List.{flat_map, slice_get}
use Rattle.message_types.specs.declared.body.Body.{Body}
use Rattle.message_types.specs.declared.vouchers.Order.{Order}
use Rattle.quorum_sets.specs.Masters.{numbers_below}
use Rattle.protocol_rules.specs.Master.{vouchers_from}
use Rattle.leader_proposals.specs.Saying.{AreVouchersOf}
use Rattle.master_answers.proofs.vouchers.say_vouchers.Given as goal

-- the vouchers for the clients so far are there, and count as said
abbrev pub invariant-loop-client : goal.invariant-loop-client
invariant-loop-client l = record {
  many : length l.counted.counts ≡ 12;
  due : (said : List Body) (orders : ℕ → List Order) →
      ((c : ℕ) → c < l.points.site.devices + l.points.site.screens → slice_get l.points.lists c ≡ Some (orders c)) →
      AreVouchersOf l.fn.vouchers.counts said → l.bodies.items ≡ flat_map (λ c. vouchers_from said c 1 (orders c))
      (numbers_below l.client);
  said : (said : List Body) (orders : ℕ → List Order) →
      ((c : ℕ) → c < l.points.site.devices + l.points.site.screens → slice_get l.points.lists c ≡ Some (orders c)) →
      AreVouchersOf l.fn.vouchers.counts said →
      AreVouchersOf l.counted.counts
      (said ++ flat_map (λ c. vouchers_from said c 1 (orders c)) (numbers_below l.client));
  counted : (c : ℕ) → c < l.client → get_or l.counted.counts c 0 ≡ length (get_or l.points.lists c []);
  others : (c : ℕ) → l.client ≤ c → get_or l.counted.counts c 0 ≡ get_or l.fn.vouchers.counts c 0;
}
