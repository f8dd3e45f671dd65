use Rattle.std.proofs.Common.{◌≡◌, [], take}
use Rattle.std.specs.List.{filter_map}
use Rattle.reconcile.specs.GiftState.{request_with}
use Rattle.intruder_words.proofs.requests.first_request.Given as goal

abbrev pub invariant-loop-frame : goal.invariant-loop-frame
invariant-loop-frame l = filter_map (request_with l.j l.k l.digest) (take l.frame-index l.known) ≡ []
