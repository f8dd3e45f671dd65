use Rattle.std.proofs.Common.{◌≡◌, ℕ, List, ◌++◌}
use Rattle.message_types.specs.declared.signed.Signed.{Signed}
use Rattle.message_types.specs.declared.body.Body.{Body}
use Rattle.blame_check.specs.Slots.{HasTaken}
use Rattle.blame_check.proofs.blame.Blame.take_parts.Given as goal

-- the parts so far are taken
abbrev pub invariant-loop-part : goal.invariant-loop-part
invariant-loop-part l = record {
  whole : l.yielded ++ l.part-iterator.rest.items ≡ l.fn.parts.items;
  taken : (n : ℕ) (words : List (Signed Body)) → HasTaken n words l.fn.self → HasTaken n (words ++ l.yielded) l.self;
}
