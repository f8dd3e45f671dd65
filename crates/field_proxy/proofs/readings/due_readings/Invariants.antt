use Rattle.std.proofs.Common.{◌≡◌, take}
use Rattle.field_proxy.specs.Exchanges.{line_after}
use Rattle.field_proxy.specs.Readings.{poll_requests, last_in}
use Rattle.field_proxy.proofs.ReadingLaws.{readings_below}
use Rattle.field_proxy.proofs.readings.due_readings.Given as goal

abbrev pub invariant-loop-number : goal.invariant-loop-number
invariant-loop-number l = record {
  device_stays : l.device ≡ l.initial.device;
  line_is : l.line ≡ line_after l.initial.line l.initial.device (poll_requests l.client (take l.number l.points));
  read : l.ops.items ≡ readings_below l.initial.device l.client l.points (last_in l.lasts) l.number;
}
