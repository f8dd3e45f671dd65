-- The rows become known, and what waited for them is settled. No vote and no offer changes. Where memory ran
-- out only room was made.
use Rattle.std.proofs.Common.{refl}
use Rattle.protocol_rules.specs.declared.facts.OrderFact.{OrderFact}
use Rattle.protocol_rules.specs.declared.facts.OrderFact.TheVariants as fact
use Rattle.global_order.specs.OrderState.{IsOrderOf}
use Rattle.global_order.specs.Held.{state_of}
use Rattle.global_order.specs.Unsaid.{said_in}
use Rattle.global_order.specs.declared.choices.Choices.{Choices}
use Rattle.global_order.proofs.Alike.{AreAlike, alike-rows, choices-alike, inside, sound-alike, stays-alike, on-err}
use Rattle.global_order.proofs.Handed.{rows-told, sound-grown}
use Rattle.global_order.proofs.Taking.{IsNoVote, choices-row, offers-other}
use Rattle.global_order.proofs.Touching.{pending-other}
use Rattle.global_order.proofs.order.Order.take_rows.Goals.{After-reserve}
use Rattle.global_order.proofs.order.Order.take_rows.Goals as goal

-- the choices with room for the rows
abbrev roomier : After-reserve → Choices
roomier c = record c.self.inside.choices { rows = c.reserve.new.self }

room_made : (c : After-reserve) → AreAlike c.self.inside.choices (roomier c)
room_made c = alike-rows c.self.inside.choices c.reserve.new.self c.reserve.ensures.entries

pub invariant_of-self : goal.invariant_of-self
invariant_of-self c = sound-alike c.self.inside _ refl refl (room_made (goal.at.invariant_of-self c).After-reserve)
    c.self.invariant

pub returns-in_err-reserve-clause-refused : goal.returns-in_err-reserve-clause-refused
returns-in_err-reserve-clause-refused c =
    on-err c.from_residual-in_err-reserve.result (stays-alike c.self.inside c.args.self.now _ c.self.view_is refl
    (room_made (goal.at.returns-in_err-reserve-clause-refused c).After-reserve))

pub learn-requires-clause-places : goal.learn-requires-clause-places
learn-requires-clause-places c =
    record { prepared = c.self.invariant.places.prepared; ordered = c.self.invariant.places.ordered }

pub invariant_of-self-2 : goal.invariant_of-self-2
invariant_of-self-2 c =
    sound-grown c.self.inside _ refl refl c.learn.ensures.places c.self.invariant.fit
    (c.learn.ensures.highest c.self.invariant.highest) c.learn.ensures.grow c.run_end-self-inside.ensures.grows
    c.run_end-self-inside.ensures.reaches c.self.invariant

pub returns-clause-taken : goal.returns-clause-taken
returns-clause-taken c g facts said is =
    let a = c.self.inside in
    let held : IsOrderOf g (state_of c.self.inside) facts said =
    inside c.self.inside c.args.self.now c.self.view_is g facts said is in
    let x : OrderFact = fact.Rows c.args.rows.now in
    let no_vote : IsNoVote x =
    record { prepare = λ v s d m. refl; commit = λ v s d m. refl; view = λ s d. refl } in
    rows-told g (state_of a) c.learn.new.choices a.offers facts said x no_vote (λ s m. refl)
    (choices-row g facts x c.args.rows.now c.learn.new.choices no_vote refl
    (rw c.in_ok-known.ensures at (c.learn.ensures.known _ _ _ _ _
    (choices-alike _ _ _ _ _ a.choices _ (room_made (goal.at.returns-clause-taken c).After-reserve) held.choices))))
    (offers-other facts x a.offers (λ v. refl) (λ v s. refl) held.offers)
    (pending-other (said_in a.told.prepares) facts x a.offers.pending (λ v. refl) (λ v s. refl) held.prepares_pending)
    (c.learn.ensures.pending (said_in a.told.commits) held.commits_pending) held
