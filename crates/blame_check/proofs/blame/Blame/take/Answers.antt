-- The parts that were listed are those of the checked frame, so taking all of them is taking the frame's words.
use Rattle.std.proofs.Common.{ℕ, List, ◌++◌, subst, ap, sym, ◌∙◌}
use Rattle.std.specs.Result.{OnOk, OnErr}
use Rattle.message_types.specs.declared.signed.Signed.{Signed}
use Rattle.message_types.specs.declared.body.Body.{Body}
use Rattle.message_types.specs.Parts.{parts}
use Rattle.checked_frames.specs.Standing.{AllStand}
use Rattle.checked_frames.proofs.StandingLaws.{parts_stand}
use Rattle.blame_check.specs.Slots.{HasTaken, HasBegun}
use Rattle.blame_check.proofs.Taken.{stays_of_ring}
use Rattle.blame_check.proofs.blame.Blame.take.Goals as goal

pub returns-clause-taken : goal.returns-clause-taken
returns-clause-taken c =
    subst (λ (ws : List (Signed Body)). OnOk c.take_parts.result ((n : ℕ) (words : List (Signed Body)) →
    HasTaken n words c.args.self.now → HasTaken n (words ++ ws) c.take_parts.new.self))
    (c.in_ok-parts.ensures ∙ ap parts c.frame.ensures.frame) c.take_parts.ensures.taken

pub returns-clause-begun : goal.returns-clause-begun
returns-clause-begun c =
    subst (λ (ws : List (Signed Body)). OnErr c.take_parts.result ((n : ℕ) (words : List (Signed Body)) →
    HasTaken n words c.args.self.now → HasBegun n words ws c.take_parts.new.self))
    (c.in_ok-parts.ensures ∙ ap parts c.frame.ensures.frame) c.take_parts.ensures.begun

pub returns-clause-standing : goal.returns-clause-standing
returns-clause-standing c = λ ring n was well.
    stays_of_ring ring n c.args.self.now c.take_parts.new.self c.in_ok-parts.parts.items c.take_parts.result
    (subst (AllStand ring) (sym (c.in_ok-parts.ensures ∙ ap parts c.frame.ensures.frame))
    (parts_stand ring c.args.checked.now well))
    c.take_parts.ensures.taken c.take_parts.ensures.begun was
