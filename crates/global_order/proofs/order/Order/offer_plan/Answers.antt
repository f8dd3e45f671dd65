-- The plan's rows become known, and the plan is kept unless the view has one: with one fact more the
-- definitions have it so, and no vote changes. Where memory ran out only room was made.
use Rattle.std.proofs.Common.{◌≡◌, refl, ◌∙◌, nat_eq}
use Rattle.protocol_rules.specs.declared.facts.OrderFact.{OrderFact}
use Rattle.protocol_rules.specs.declared.facts.OrderFact.TheVariants as fact
use Rattle.global_order.specs.Index.{TakesFirst}
use Rattle.global_order.specs.OrderState.{IsOrderOf}
use Rattle.global_order.specs.Held.{state_of}
use Rattle.global_order.specs.Unsaid.{said_in}
use Rattle.global_order.specs.declared.choices.Choices.{Choices}
use Rattle.global_order.proofs.Alike.{AreAlike, Listed, alike-rows, choices-alike, inside, listed, sound-alike}
use Rattle.global_order.proofs.Alike.{stays-alike, on-err}
use Rattle.global_order.proofs.Handed.{rows-told, sound-grown}
use Rattle.global_order.proofs.Taking.{IsNoVote, choices-rows, offers-plan, fit-plan, taken-first}
use Rattle.global_order.proofs.Touching.{pending-plan}
use Rattle.global_order.proofs.order.Order.offer_plan.Goals.{After-note_plan, After-reserve, In_err-reserve-2}
use Rattle.global_order.proofs.order.Order.offer_plan.Goals as goal

-- the choices with room for the rows
abbrev roomier : After-reserve → Choices
roomier c = record c.self.inside.choices { rows = c.reserve.new.self }

room_made : (c : After-reserve) → AreAlike c.self.inside.choices (roomier c)
room_made c = alike-rows c.self.inside.choices c.reserve.new.self c.reserve.ensures.entries

-- more room for plans, too
plans_same : (c : In_err-reserve-2) →
    record (listed (state_of c.self.inside)) { plans = c.reserve-2.new.self.entries }
    ≡ listed (state_of c.self.inside)
plans_same c =
    let k : Listed = listed (state_of c.self.inside) in λ i. record k { plans = c.reserve-2.ensures.entries i }

-- the view takes the plan unless it has one
plan_taken : (c : After-note_plan) →
    TakesFirst nat_eq c.self.inside.offers.plans c.note_plan.new.plans c.args.v c.args.plan.now
plan_taken c = taken-first nat_eq c.self.inside.offers.plans c.reserve-2.new.self c.note_plan.new.plans c.args.v
    c.args.plan.now c.reserve-2.ensures.entries (rw c.in_ok-offered.ensures at c.note_plan.ensures.taken)

pub invariant_of-self : goal.invariant_of-self
invariant_of-self c = sound-alike c.self.inside _ refl refl (room_made (goal.at.invariant_of-self c).After-reserve)
    c.self.invariant

pub returns-in_err-reserve-clause-refused : goal.returns-in_err-reserve-clause-refused
returns-in_err-reserve-clause-refused c =
    on-err c.from_residual-in_err-reserve.result (stays-alike c.self.inside c.args.self.now _ c.self.view_is refl
    (room_made (goal.at.returns-in_err-reserve-clause-refused c).After-reserve))

pub invariant_of-self-in_err-reserve-2 : goal.invariant_of-self-in_err-reserve-2
invariant_of-self-in_err-reserve-2 c =
    sound-alike c.self.inside _ (plans_same (goal.at.invariant_of-self-in_err-reserve-2 c).In_err-reserve-2) refl
    (room_made (goal.at.invariant_of-self-in_err-reserve-2 c).After-reserve) c.self.invariant

pub returns-in_err-reserve-2-clause-refused : goal.returns-in_err-reserve-2-clause-refused
returns-in_err-reserve-2-clause-refused c =
    on-err c.from_residual-in_err-reserve-2.result (stays-alike c.self.inside c.args.self.now _ c.self.view_is
    (plans_same (goal.at.returns-in_err-reserve-2-clause-refused c).In_err-reserve-2)
    (room_made (goal.at.returns-in_err-reserve-2-clause-refused c).After-reserve))

pub learn_all-requires-clause-places : goal.learn_all-requires-clause-places
learn_all-requires-clause-places c =
    record { prepared = c.self.invariant.places.prepared; ordered = c.self.invariant.places.ordered }

pub invariant_of-self-2 : goal.invariant_of-self-2
invariant_of-self-2 c =
    sound-grown c.self.inside _ refl refl c.learn_all.ensures.places
    (fit-plan c.args.v c.args.plan.now c.self.inside.offers c.note_plan.new.plans c.note_plan.new.pending c.requires
    (plan_taken (goal.at.invariant_of-self-2 c).After-note_plan) c.self.invariant.fit)
    (c.learn_all.ensures.highest c.self.invariant.highest) c.learn_all.ensures.grow
    c.run_end-self-inside.ensures.grows c.run_end-self-inside.ensures.reaches c.self.invariant

pub returns-clause-taken : goal.returns-clause-taken
returns-clause-taken c g facts said is =
    let a = c.self.inside in
    let held : IsOrderOf g (state_of c.self.inside) facts said =
    inside c.self.inside c.args.self.now c.self.view_is g facts said is in
    let x : OrderFact = fact.Plan c.args.v c.args.plan.now in
    let no_vote : IsNoVote x =
    record { prepare = λ v s d m. refl; commit = λ v s d m. refl; view = λ s d. refl } in
    let rows_are = c.into_vec.ensures ∙ c.in_ok-known.ensures in
    rows-told g (state_of a) c.learn_all.new.choices _ facts said x no_vote (λ s m. refl)
    (choices-rows g facts x c.learn_all.new.choices no_vote
    (rw rows_are at (c.learn_all.ensures.known _ _ _ _ _
    (choices-alike _ _ _ _ _ a.choices _ (room_made (goal.at.returns-clause-taken c).After-reserve) held.choices))))
    (offers-plan facts c.args.v c.args.plan.now a.offers c.note_plan.new.plans c.note_plan.new.pending
    (plan_taken (goal.at.returns-clause-taken c).After-note_plan) held.offers)
    (pending-plan (said_in a.told.prepares) facts c.args.v c.args.plan.now c.reserve-2.new.self
    a.offers.pending c.note_plan.new.pending (λ v. rw c.reserve-2.ensures.entries (held.offers.plans v))
    c.note_plan.ensures.pending held.prepares_pending)
    (c.learn_all.ensures.pending (said_in a.told.commits) held.commits_pending) held
