use Rattle.std.proofs.Common.{◌≡◌, map}
use Rattle.quorum_sets.specs.Masters.{numbers_below}
use Rattle.script_lines.specs.Given.{own_words, given}
use Rattle.script_lines.proofs.given.inputs.Given as goal

abbrev pub invariant-loop-actor : goal.invariant-loop-actor
invariant-loop-actor l = map (λ v. v.items) l.lists.items ≡ map (λ a. given a l.script (own_words a l.words))
    (numbers_below l.actor)
