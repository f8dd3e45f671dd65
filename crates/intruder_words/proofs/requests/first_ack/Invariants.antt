use Rattle.std.proofs.Common.{◌≡◌, [], take}
use Rattle.std.specs.List.{filter_map}
use Rattle.protocol_rules.specs.Reconcile.{ack_of}
use Rattle.intruder_words.proofs.requests.first_ack.Given as goal

abbrev pub invariant-loop-frame : goal.invariant-loop-frame
invariant-loop-frame l = filter_map (ack_of l.j l.k l.digest l.master) (take l.frame-index l.known) ≡ []
