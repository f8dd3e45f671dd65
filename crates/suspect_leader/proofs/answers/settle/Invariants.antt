use Rattle.std.proofs.Common.{◌≡◌, ◌&&◌, not, take}
use Rattle.std.specs.List.{list_any}
use Rattle.suspect_leader.specs.declared.saying.Saying.{Saying}
use Rattle.suspect_leader.specs.Sayings.{says, is_among}
use Rattle.suspect_leader.proofs.answers.settle.Given as goal

abbrev pub invariant-loop-body : goal.invariant-loop-body
invariant-loop-body l = (s : Saying) →
    is_among l.pending.keys s ≡ (not (list_any (says s) (take l.body-index l.bodies))
    && is_among l.initial.pending.keys s)
