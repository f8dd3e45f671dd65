-- The device, the writes and the line are what the orders gone over make of those at the beginning, and undoing
-- the log always gives back the device of the beginning.
use Rattle.std.proofs.Common.{◌≡◌, ◌++◌, ◌+◌, take, length}
use Rattle.field_proxy.specs.Exchanges.{line_after}
use Rattle.field_proxy.specs.Writes.{order_requests, after_orders, kept_orders}
use Rattle.field_proxy.specs.Undoing.{undone}
use Rattle.field_proxy.proofs.orders.carry_out.Given as goal

abbrev pub invariant-loop-place : goal.invariant-loop-place
invariant-loop-place l = record {
  device_is : l.device ≡ after_orders l.points l.initial.device (take l.place l.orders);
  writes_are : l.writes.items ≡ l.initial.writes.items ++ kept_orders l.points l.initial.device
      (length l.initial.writes.items + 1) (take l.place l.orders);
  line_is : l.line ≡ line_after l.initial.line l.initial.device (order_requests l.points (take l.place l.orders));
  undoes : undone l.log.items l.device ≡ undone l.initial.log.items l.initial.device;
}
