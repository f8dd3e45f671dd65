-- One vote more: where it makes a quorum that was not there, its rows are prepared or waited for. Nothing else
-- changes. Where memory ran out only room was made.
use Rattle.std.proofs.Common.{◌≡◌, refl, sym, ◌∙◌}
use Rattle.protocol_rules.specs.declared.facts.OrderFact.{OrderFact}
use Rattle.protocol_rules.specs.declared.facts.OrderFact.TheVariants as fact
use Rattle.global_order.specs.OrderState.{IsOrderOf}
use Rattle.global_order.specs.Held.{state_of}
use Rattle.global_order.specs.Unsaid.{said_in}
use Rattle.global_order.specs.declared.choices.Choices.{Choices}
use Rattle.global_order.proofs.Alike.{AreAlike, Listed, alike-prepared, choices-alike, inside, keeps-itself, listed}
use Rattle.global_order.proofs.Alike.{places-alike, sound-alike, stays-alike, on-err}
use Rattle.global_order.proofs.Handed.{vote-told}
use Rattle.global_order.proofs.Taking.{choices-prepare, stable-no_mark}
use Rattle.global_order.proofs.Touching.{pending-kept}
use Rattle.global_order.proofs.Viewing.{views-other}
use Rattle.global_order.proofs.Voting.{prepares-push, commits-other, marks-other}
use Rattle.global_order.proofs.order.Order.take_prepare.Goals.{After-make_room, After-make_slot, In_err-note_vote}
use Rattle.global_order.proofs.order.Order.take_prepare.Goals as goal

-- where the quorum waits there is room for it
room_made : (c : After-make_room) →
    AreAlike c.self.inside.choices (record c.self.inside.choices { backed = c.make_room.new.waiting })
room_made c = alike-prepared c.self.inside.choices c.self.inside.choices.prepared c.make_room.new.waiting
    (keeps-itself c.self.inside.choices) c.make_room.ensures.kept

-- and the number has a slot
abbrev slotted : After-make_slot → Choices
slotted c = record c.self.inside.choices { prepared = c.make_slot.new.slots; backed = c.make_room.new.waiting }

slot_made : (c : After-make_slot) → AreAlike c.self.inside.choices (slotted c)
slot_made c = alike-prepared c.self.inside.choices c.make_slot.new.slots c.make_room.new.waiting
    c.make_slot.ensures.kept c.make_room.ensures.kept

-- no vote was noted
prepares_same : (c : In_err-note_vote) →
    record (listed (state_of c.self.inside)) { prepares = c.note_vote.new.votes.entries }
    ≡ listed (state_of c.self.inside)
prepares_same c =
    let k : Listed = listed (state_of c.self.inside) in
    λ i. record k { prepares = c.in_err-note_vote.ensures.refused i }

pub invariant_of-self : goal.invariant_of-self
invariant_of-self c = sound-alike c.self.inside _ refl refl (room_made (goal.at.invariant_of-self c).After-make_room)
    c.self.invariant

pub returns-in_err-make_room-clause-refused : goal.returns-in_err-make_room-clause-refused
returns-in_err-make_room-clause-refused c =
    on-err c.from_residual.result (stays-alike c.self.inside c.args.self.now _ c.self.view_is refl
    (room_made (goal.at.returns-in_err-make_room-clause-refused c).After-make_room))

pub invariant_of-self-in_err-make_slot : goal.invariant_of-self-in_err-make_slot
invariant_of-self-in_err-make_slot c =
    sound-alike c.self.inside _ refl refl (slot_made (goal.at.invariant_of-self-in_err-make_slot c).After-make_slot)
    c.self.invariant

pub returns-in_err-make_slot-clause-refused : goal.returns-in_err-make_slot-clause-refused
returns-in_err-make_slot-clause-refused c =
    on-err c.from_residual-in_err-make_slot.result (stays-alike c.self.inside c.args.self.now _ c.self.view_is refl
    (slot_made (goal.at.returns-in_err-make_slot-clause-refused c).After-make_slot))

pub invariant_of-self-in_err-note_vote : goal.invariant_of-self-in_err-note_vote
invariant_of-self-in_err-note_vote c =
    sound-alike c.self.inside _ (prepares_same (goal.at.invariant_of-self-in_err-note_vote c).In_err-note_vote) refl
    (slot_made (goal.at.invariant_of-self-in_err-note_vote c).After-make_slot) c.self.invariant

pub returns-in_err-note_vote-clause-refused : goal.returns-in_err-note_vote-clause-refused
returns-in_err-note_vote-clause-refused c =
    on-err c.from_residual-in_err-note_vote.result (stays-alike c.self.inside c.args.self.now _ c.self.view_is
    (prepares_same (goal.at.returns-in_err-note_vote-clause-refused c).In_err-note_vote)
    (slot_made (goal.at.returns-in_err-note_vote-clause-refused c).After-make_slot))

pub invariant_of-self-2 : goal.invariant_of-self-2
invariant_of-self-2 c =
    let a = c.self.inside in
    let sound = c.self.invariant in
    record {
      places = c.note_if_prepared.ensures.places
          (places-alike a.choices _ (slot_made (goal.at.invariant_of-self-2 c).After-make_slot) sound.places);
      fit = sound.fit;
      marked = sound.marked;
      stable = sound.stable;
      highest = rw (c.note_if_prepared.ensures.ordered, c.note_if_prepared.ensures.highest) sound.highest;
      gapless = rw c.note_if_prepared.ensures.ordered sound.gapless;
    }

pub returns-clause-taken : goal.returns-clause-taken
returns-clause-taken c g facts said is =
    let a = c.self.inside in
    let held : IsOrderOf g (state_of c.self.inside) facts said =
    inside c.self.inside c.args.self.now c.self.view_is g facts said is in
    let x : OrderFact = fact.Prepare c.args.frame.now in
    let mid : Choices = slotted (goal.at.returns-clause-taken c).After-make_slot in
    let like : AreAlike a.choices mid = slot_made (goal.at.returns-clause-taken c).After-make_slot in
    let new_votes = prepares-push facts c.args.frame.now a.prepares c.note_vote.new.votes
    c.in_ok-note_vote.ensures.noted held.prepares in
    vote-told g (state_of a) c.note_vote.new.votes a.commits a.marks c.note_if_prepared.new.choices a.views a.stable
    facts said x (λ v. refl) (λ v s. refl) new_votes
    (commits-other facts x a.commits (λ v s d m. refl) held.commits)
    (marks-other facts x a.marks (λ s m. refl) held.marks)
    (choices-prepare g a.sizes.n a.sizes.q facts c.args.frame.now a.prepares c.note_vote.new.votes
    c.count_votes-before.result c.count_votes-after.result c.reaches_quorum-is_new.result mid
    c.note_if_prepared.new.choices held.sizes held.prepares new_votes c.count_votes-before.ensures
    c.count_votes-after.ensures c.reaches_quorum-is_new.ensures c.note_if_prepared.ensures.new
    c.note_if_prepared.ensures.old (choices-alike _ _ _ _ _ a.choices mid like held.choices))
    (views-other g facts x a.views (λ v s d m. refl) (λ s d. refl) held.views)
    (held.stable ∙ sym (stable-no_mark g facts x (λ s m. refl)))
    (c.note_if_prepared.ensures.pending (said_in a.told.commits)
    (pending-kept (said_in a.told.commits) a.choices.prepared mid.prepared a.choices.pending
    c.make_slot.ensures.kept held.commits_pending)) held
