-- What is listed is what the rules make due, and all of it counts as said. A ping said now releases the round
-- trips that waited for it, and what was owed and is now said is owed no more.
use Rattle.std.proofs.Common.{◌≡◌, ◌++◌, ◌||◌, ◌&&◌, not, List, sym, ap, subst, ◌∙◌}
use Rattle.std.specs.List.{list_any, list_all}
use Rattle.message_types.specs.declared.body.Body.{Body}
use Rattle.suspect_leader.specs.Sayings.{says, is_among}
use Rattle.suspect_leader.specs.declared.saying.Saying.{Saying}
use Rattle.suspect_leader.specs.contracts.measure.Measure.{the_view}
use Rattle.suspect_leader.specs.MeasureState.{MeasureState, with_all, due_kept, is_word_in_place}
use Rattle.suspect_leader.proofs.Order.{Rising}
use Rattle.suspect_leader.proofs.Early.{AllEarly, rising_with, moved_same, settled_with, early_not_due, with_owed}
use Rattle.suspect_leader.proofs.Early.{on_any_err}
use Rattle.suspect_leader.proofs.Due.{due_is, all_said}
use Rattle.suspect_leader.proofs.Places.{due_fit}
use Rattle.suspect_leader.proofs.Taken.{viewed}
use Rattle.suspect_leader.proofs.measure.Measure.due.Goals.{After-release}
use Rattle.suspect_leader.proofs.measure.Measure.due.Goals as goal

are_listed : (c : After-release) →
    c.list.new.bodies.items ≡ due_kept c.args.self.now c.args.view c.args.at_tick
are_listed c = c.in_ok-list.ensures
    ∙ ap (λ (l : List Body). l ++ due_kept c.args.self.now c.args.view c.args.at_tick) c.in_ok-bodies.ensures.items

-- what was early or pending still is, as a release only moves
still_owed : (c : After-release) → with_all c.release.new.pending.keys c.release.new.early.keys
    ≡ with_all c.self.inside.pending.keys c.self.inside.early.keys
still_owed c = moved_same c.self.inside.sizes.n c.self.inside.said.keys c.self.inside.pending.keys
    c.self.inside.early.keys c.release.new.pending.keys c.release.new.early.keys c.len.ensures.ordered
    c.self.invariant.3 c.release.ensures.moved

pub returns-clause-bodies : goal.returns-clause-bodies
returns-clause-bodies c = λ g me told known said is.
    let up : Rising c.args.self.now.pending = subst Rising (ap (λ (k : MeasureState). k.pending) c.self.view_is)
    (rising_with c.self.inside.sizes.n c.self.inside.said.keys c.self.inside.pending.keys c.self.inside.early.keys
    c.len.ensures.ordered c.self.invariant.3) in
    are_listed (goal.at.returns-clause-bodies c).After-release
    ∙ due_is g me c.args.self.now told known said c.args.view c.args.at_tick up is

pub returns-clause-counted : goal.returns-clause-counted
returns-clause-counted c = λ g me told known said is.
    let listed : c.list.new.bodies.items ≡ due_kept c.args.self.now c.args.view c.args.at_tick =
    are_listed (goal.at.returns-clause-counted c).After-release in
    let early : AllEarly c.self.inside.sizes.n c.args.self.now.said c.release.new.early.keys =
    subst (λ (k : MeasureState). AllEarly c.self.inside.sizes.n k.said c.release.new.early.keys) c.self.view_is
    (λ s h. c.self.invariant.3 s (c.release.ensures.moved.fewer s h)) in
    all_said g me _ told known said c.list.new.bodies.items
    (with_all c.settle.new.pending.keys c.release.new.early.keys) c.count.new.said.keys
    (λ s. c.in_ok-count.ensures.ok s
    ∙ ap (λ (l : List Body). list_any (says s) l || is_among c.self.inside.said.keys s) c.as_slice-2.ensures.value)
    (λ s. settled_with c.release.new.pending.keys c.settle.new.pending.keys c.release.new.early.keys
    c.list.new.bodies.items s
    (c.settle.ensures s ∙ ap (λ (l : List Body). not (list_any (says s) l) && is_among c.release.new.pending.keys s)
    c.as_slice-3.ensures.value)
    (λ h. ap (list_any (says s)) listed ∙ early_not_due c.self.inside.sizes.n c.args.self.now c.args.view
    c.args.at_tick s (early s h))
    ∙ ap (λ (l : List Saying). not (list_any (says s) c.list.new.bodies.items) && is_among l s)
    (still_owed (goal.at.returns-clause-counted c).After-release))
    (viewed c.self.view_is is)

pub returns-clause-places : goal.returns-clause-places
returns-clause-places c = λ g me told known said is within view.
    ap (list_all (is_word_in_place g me))
    (are_listed (goal.at.returns-clause-places c).After-release
    ∙ ap (λ (k : MeasureState). due_kept k c.args.view c.args.at_tick)
    (sym c.self.view_is))
    ∙ due_fit g me _ told known said c.args.view c.args.at_tick c.self.invariant.0 c.self.invariant.1
    c.self.invariant.2 within view (viewed c.self.view_is is)

pub returns-in_err-release-clause-err : goal.returns-in_err-release-clause-err
returns-in_err-release-clause-err c =
    on_any_err c.from_residual-in_err-release.result
    (ap (λ (l : List Saying). with_owed (the_view c.self.inside) l c.self.inside.said.keys)
    (still_owed (goal.at.returns-in_err-release-clause-err c).After-release) ∙ c.self.view_is)

pub returns-in_err-count-clause-err : goal.returns-in_err-count-clause-err
returns-in_err-count-clause-err c =
    on_any_err c.from_residual-in_err-count.result
    (ap (λ (l : List Saying). with_owed (the_view c.self.inside) l c.count.new.said.keys)
    (still_owed (goal.at.returns-in_err-count-clause-err c).After-release)
    ∙ ap (λ (l : List Saying). with_owed (the_view c.self.inside)
    (with_all c.self.inside.pending.keys c.self.inside.early.keys) l) c.in_err-count.ensures.err ∙ c.self.view_is)
