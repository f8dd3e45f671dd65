-- One vote more: where it makes a quorum that was not there, the number is ordered or waits for its rows, and
-- the run without a gap may go on. Where memory ran out only room was made.
use Rattle.std.proofs.Common.{◌≡◌, ◌≤◌, is_some, refl, sym, ◌∙◌, ap, arith}
use Rattle.protocol_rules.specs.declared.facts.OrderFact.{OrderFact}
use Rattle.protocol_rules.specs.declared.facts.OrderFact.TheVariants as fact
use Rattle.global_order.specs.OrderState.{IsOrderOf}
use Rattle.global_order.specs.Held.{state_of}
use Rattle.global_order.specs.Unsaid.{said_in}
use Rattle.global_order.specs.declared.choices.Choices.{Choices}
use Rattle.global_order.proofs.Alike.{AreAlike, Listed, alike-ordered, choices-alike, inside, keeps-orders, listed}
use Rattle.global_order.proofs.Alike.{places-alike, sound-alike, stays-alike, on-err}
use Rattle.global_order.proofs.Handed.{sound-grown, vote-told}
use Rattle.global_order.proofs.Highest.{highest-kept}
use Rattle.global_order.proofs.Taking.{choices-commit, stable-no_mark}
use Rattle.global_order.proofs.Viewing.{views-commit}
use Rattle.global_order.proofs.Voting.{prepares-other, commits-push, marks-other}
use Rattle.global_order.proofs.order.Order.take_commit.Goals.{After-make_order, After-make_room, After-reserve}
use Rattle.global_order.proofs.order.Order.take_commit.Goals.{In_err-note_vote}
use Rattle.global_order.proofs.order.Order.take_commit.Goals as goal

-- where the quorum waits there is room for it
room_made : (c : After-make_room) →
    AreAlike c.self.inside.choices (record c.self.inside.choices { committed = c.make_room.new.waiting })
room_made c = alike-ordered c.self.inside.choices c.self.inside.choices.ordered c.make_room.new.waiting
    (keeps-orders c.self.inside.choices) c.make_room.ensures.kept

-- and the number has a place
abbrev placed : After-make_order → Choices
placed c = record c.self.inside.choices { ordered = c.make_order.new.orders; committed = c.make_room.new.waiting }

place_made : (c : After-make_order) → AreAlike c.self.inside.choices (placed c)
place_made c = alike-ordered c.self.inside.choices c.make_order.new.orders c.make_room.new.waiting
    c.make_order.ensures.kept c.make_room.ensures.kept

-- there is room for one more view, and no vote was noted
views_same : (c : After-reserve) →
    record (listed (state_of c.self.inside)) { views = c.reserve.new.self.entries } ≡ listed (state_of c.self.inside)
views_same c = let k : Listed = listed (state_of c.self.inside) in λ i. record k { views = c.reserve.ensures.entries i }

commits_same : (c : In_err-note_vote) →
    record (listed (state_of c.self.inside)) {
      commits = c.note_vote.new.votes.entries;
      views = c.reserve.new.self.entries;
    } ≡ listed (state_of c.self.inside)
commits_same c =
    let k : Listed = listed (state_of c.self.inside) in
    λ i. record k { commits = c.in_err-note_vote.ensures.refused i; views = c.reserve.ensures.entries i }

pub invariant_of-self : goal.invariant_of-self
invariant_of-self c = sound-alike c.self.inside _ refl refl (room_made (goal.at.invariant_of-self c).After-make_room)
    c.self.invariant

pub returns-in_err-make_room-clause-refused : goal.returns-in_err-make_room-clause-refused
returns-in_err-make_room-clause-refused c =
    on-err c.from_residual.result (stays-alike c.self.inside c.args.self.now _ c.self.view_is refl
    (room_made (goal.at.returns-in_err-make_room-clause-refused c).After-make_room))

pub invariant_of-self-in_err-make_order : goal.invariant_of-self-in_err-make_order
invariant_of-self-in_err-make_order c =
    sound-alike c.self.inside _ refl refl
    (place_made (goal.at.invariant_of-self-in_err-make_order c).After-make_order) c.self.invariant

pub returns-in_err-make_order-clause-refused : goal.returns-in_err-make_order-clause-refused
returns-in_err-make_order-clause-refused c =
    on-err c.from_residual-in_err-make_order.result (stays-alike c.self.inside c.args.self.now _ c.self.view_is refl
    (place_made (goal.at.returns-in_err-make_order-clause-refused c).After-make_order))

pub invariant_of-self-in_err-reserve : goal.invariant_of-self-in_err-reserve
invariant_of-self-in_err-reserve c =
    sound-alike c.self.inside _ (views_same (goal.at.invariant_of-self-in_err-reserve c).After-reserve) refl
    (place_made (goal.at.invariant_of-self-in_err-reserve c).After-make_order) c.self.invariant

pub returns-in_err-reserve-clause-refused : goal.returns-in_err-reserve-clause-refused
returns-in_err-reserve-clause-refused c =
    on-err c.from_residual-in_err-reserve.result (stays-alike c.self.inside c.args.self.now _ c.self.view_is
    (views_same (goal.at.returns-in_err-reserve-clause-refused c).After-reserve)
    (place_made (goal.at.returns-in_err-reserve-clause-refused c).After-make_order))

pub invariant_of-self-in_err-note_vote : goal.invariant_of-self-in_err-note_vote
invariant_of-self-in_err-note_vote c =
    sound-alike c.self.inside _ (commits_same (goal.at.invariant_of-self-in_err-note_vote c).In_err-note_vote) refl
    (place_made (goal.at.invariant_of-self-in_err-note_vote c).After-make_order) c.self.invariant

pub returns-in_err-note_vote-clause-refused : goal.returns-in_err-note_vote-clause-refused
returns-in_err-note_vote-clause-refused c =
    on-err c.from_residual-in_err-note_vote.result (stays-alike c.self.inside c.args.self.now _ c.self.view_is
    (commits_same (goal.at.returns-in_err-note_vote-clause-refused c).In_err-note_vote)
    (place_made (goal.at.returns-in_err-note_vote-clause-refused c).After-make_order))

pub invariant_of-self-2 : goal.invariant_of-self-2
invariant_of-self-2 c =
    let a = c.self.inside in
    let sound = c.self.invariant in
    let mid : Choices = placed (goal.at.invariant_of-self-2 c).After-make_order in
    let like : AreAlike a.choices mid = place_made (goal.at.invariant_of-self-2 c).After-make_order in
    sound-grown a _ refl refl (c.note_if_committed.ensures.places (places-alike a.choices mid like sound.places))
    sound.fit
    (c.note_if_committed.ensures.highest
    (highest-kept a.choices.ordered mid.ordered a.choices.highest c.make_order.ensures.kept sound.highest))
    (λ s there. c.note_if_committed.ensures.grow s (ap is_some (like.ordered.order s) ∙ there))
    c.run_end-self-inside.ensures.grows c.run_end-self-inside.ensures.reaches sound

pub returns-clause-taken : goal.returns-clause-taken
returns-clause-taken c g facts said is =
    let a = c.self.inside in
    let held : IsOrderOf g (state_of c.self.inside) facts said =
    inside c.self.inside c.args.self.now c.self.view_is g facts said is in
    let x : OrderFact = fact.Commit c.args.frame.now in
    let mid : Choices = placed (goal.at.returns-clause-taken c).After-make_order in
    let like : AreAlike a.choices mid = place_made (goal.at.returns-clause-taken c).After-make_order in
    let enough : 1 ≤ a.sizes.q = omega arith in
    let new_votes = commits-push facts c.args.frame.now a.commits c.note_vote.new.votes
    c.in_ok-note_vote.ensures.noted held.commits in
    vote-told g (state_of a) a.prepares c.note_vote.new.votes a.marks c.note_if_committed.new.choices
    c.note_view.new.views a.stable facts said x (λ v. refl) (λ v s. refl)
    (prepares-other facts x a.prepares (λ v s d m. refl) held.prepares) new_votes
    (marks-other facts x a.marks (λ s m. refl) held.marks)
    (choices-commit g a.sizes.n a.sizes.q facts c.args.frame.now a.commits c.note_vote.new.votes
    c.count_votes-before.result c.count_votes-after.result c.reaches_quorum-is_new.result mid
    c.note_if_committed.new.choices held.sizes enough held.commits new_votes c.count_votes-before.ensures
    c.count_votes-after.ensures c.reaches_quorum-is_new.ensures c.note_if_committed.ensures.new
    c.note_if_committed.ensures.old (choices-alike _ _ _ _ _ a.choices mid like held.choices))
    (views-commit g a.sizes.n a.sizes.q facts c.args.frame.now c.note_vote.new.votes c.count_votes-after.result
    a.views c.note_view.new.views held.sizes new_votes c.count_votes-after.ensures
    (rw c.reserve.ensures.entries at c.note_view.ensures) held.views)
    (held.stable ∙ sym (stable-no_mark g facts x (λ s m. refl)))
    (c.note_if_committed.ensures.pending (said_in a.told.commits) held.commits_pending) held
