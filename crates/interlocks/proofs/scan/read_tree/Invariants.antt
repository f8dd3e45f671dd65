use Rattle.std.proofs.Common.{◌≡◌, ◌≤◌}
use Rattle.interlocks.specs.Reading.{here, read_rule}
use Rattle.interlocks.proofs.scan.read_tree.Given as goal

abbrev pub invariant-loop-place : goal.invariant-loop-place
invariant-loop-place l =
    (l.start ≤ l.place)
    × (here (record { points = l.points; alarms = l.alarms }) l.text l.state l.start l.place ≡ read_rule
    (record { points = l.points; alarms = l.alarms }) l.text)
