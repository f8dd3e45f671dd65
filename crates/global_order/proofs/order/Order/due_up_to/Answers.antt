-- What is pushed, kind after kind, is what is due, and is noted as said. So words may still be due for the
-- numbers alone that were not looked at or had nothing to say a word for.
use Rattle.std.proofs.Common.{◌≡◌, ◌+◌, ◌-◌, ◌≤◌, ◌++◌, List, min, nat_eq, refl, ◌∙◌, ap, arith, rules}
use Rattle.std.specs.List.{list_any, flat_map}
use Rattle.indexmap.specs.IndexMap.{get}
use Rattle.message_types.specs.declared.body.Body.{Body}
use Rattle.protocol_rules.specs.Group.{most_number}
use Rattle.protocol_rules.specs.Words.{numbers_from}
use Rattle.protocol_rules.specs.Order.{prepares_said, commits_said, prepare_due, commit_due}
use Rattle.protocol_rules.specs.Order.{commits_due, marks_due, stable}
use Rattle.global_order.specs.Index.{order_in}
use Rattle.global_order.specs.OrderState.{IsOrderOf, bodies_up_to, prepares_up_to}
use Rattle.global_order.specs.Held.{state_of}
use Rattle.global_order.specs.Unsaid.{holds_prepared, offers_rows, said_in}
use Rattle.global_order.specs.declared.pending.PendingNumbers.{PendingNumbers}
use Rattle.global_order.proofs.Runs.{gapless-is}
use Rattle.global_order.proofs.Saying.{commits-are, marks-are, prepares-are, marked-after, said-more, joined}
use Rattle.global_order.proofs.Alike.{choices-alike, inside, keeps-itself, keeps-orders, stays-told, on-err}
use Rattle.global_order.proofs.Touching.{commit-among, pending-said, prepare-among}
use Rattle.global_order.proofs.order.Order.due_up_to.Goals as goal

pub overflow_add-end : goal.overflow_add-end
unfolding most_number
overflow_add-end c = let limit : c.self.inside.stable ≤ 4096 = c.self.invariant.stable in search rules

pub overflow_add-end-2 : goal.overflow_add-end-2
unfolding most_number
overflow_add-end-2 c = let limit : c.self.inside.stable ≤ 4096 = c.self.invariant.stable in search rules

pub overflow_add-self-inside : goal.overflow_add-self-inside
unfolding most_number
overflow_add-self-inside c = let limit : c.self.inside.stable ≤ 4096 = c.self.invariant.stable in search rules

pub overflow_add-prepares_end : goal.overflow_add-prepares_end
unfolding most_number
overflow_add-prepares_end c =
    let limit : c.self.inside.stable ≤ 4096 = c.self.invariant.stable in
    let few : c.min-prepares_end.result ≤ 4112 = omega arith in
    search rules

pub push_marks-requires-clause-reach : goal.push_marks-requires-clause-reach
unfolding most_number
push_marks-requires-clause-reach c = let limit : c.self.inside.gapless ≤ 4096 =
    c.self.invariant.gapless.limit in omega arith

-- where there is no room for more to say, nothing was said
pub returns-in_err-reserve-clause-refused : goal.returns-in_err-reserve-clause-refused
returns-in_err-reserve-clause-refused c = on-err c.from_residual-in_err-reserve.result (λ g facts said is.
    stays-told (state_of c.self.inside) _ c.reserve.ensures.keys.2 (λ k. refl) refl g facts said
    (inside c.self.inside c.args.self.now c.self.view_is g facts said is))

pub returns-in_err-reserve-2-clause-refused : goal.returns-in_err-reserve-2-clause-refused
returns-in_err-reserve-2-clause-refused c = on-err c.from_residual-in_err-reserve-2.result (λ g facts said is.
    stays-told (state_of c.self.inside) _ c.reserve.ensures.keys.2 c.reserve-2.ensures.keys.2 refl g facts said
    (inside c.self.inside c.args.self.now c.self.view_is g facts said is))

pub invariant_of-self-2 : goal.invariant_of-self-2
invariant_of-self-2 c =
    let sound = c.self.invariant in
    record {
      places = record { prepared = sound.places.prepared; ordered = sound.places.ordered };
      fit = record { first = sound.fit.first; plans = sound.fit.plans; proposals = sound.fit.proposals };
      marked = omega arith;
      stable = sound.stable;
      highest = sound.highest;
      gapless = sound.gapless;
    }

pub returns-clause-due : goal.returns-clause-due
returns-clause-due c g facts said is =
    let a = c.self.inside in
    let held : IsOrderOf g (state_of c.self.inside) facts said =
    inside c.self.inside c.args.self.now c.self.view_is g facts said is in
    let reach_is = gapless-is g facts (λ s. order_in (get nat_eq a.choices.ordered s))
    a.gapless held.choices.ordered.choice c.self.invariant.gapless in
    let stable_is : a.stable ≡ stable g facts = held.stable in
    let prepares_pending = c.pending_in-prepares.ensures.pending (said_in a.told.prepares) (offers_rows facts)
    held.prepares_pending in
    let commits_pending = c.pending_in-commits.ensures.pending (said_in a.told.commits)
    (holds_prepared a.choices.prepared) held.commits_pending in
    let count : a.stable + 16 + 1 - 1 ≡ stable g facts + 16 = omega arith in
    let ends : (c.min-prepares_end.result + 1) - 1 ≡ min c.args.last (stable g facts + 16) = omega arith in
    joined c.new-bodies.result.items c.push_pending_prepares.new.bodies.items c.push_pending_commits.new.bodies.items
    c.push_marks.new.bodies.items _ _ _ c.new-bodies.ensures.items
    (c.in_ok-push_pending_prepares.ensures facts said held.offers held.prepares_said prepares_pending
    ∙ ap (λ xs. c.new-bodies.result.items ++ xs)
    (ap (λ v. flat_map (prepare_due facts said v) (numbers_from 1 ((c.min-prepares_end.result + 1) - 1)))
    c.pending_in-prepares.ensures.view ∙ prepares-are g facts said c.args.view c.args.last ((c.min-prepares_end.result + 1) - 1)
    ends))
    (c.in_ok-push_pending_commits.ensures g facts said held.choices.prepared.choice held.commits_said commits_pending
    ∙ ap (λ xs. c.push_pending_prepares.new.bodies.items ++ xs)
    (ap (λ v. flat_map (commit_due g facts said v) (numbers_from 1 (a.stable + 16 + 1 - 1)))
    c.pending_in-commits.ensures.view ∙ commits-are g facts said c.args.view (a.stable + 16 + 1 - 1) count))
    (c.in_ok-push_marks.ensures said held.marked ∙ ap (λ xs. c.push_pending_commits.new.bodies.items ++ xs)
    (marks-are g facts said a.told.marked a.gapless held.marked reach_is))

pub returns-clause-said : goal.returns-clause-said
returns-clause-said c g facts said is =
    let a = c.self.inside in
    let held : IsOrderOf g (state_of c.self.inside) facts said =
    inside c.self.inside c.args.self.now c.self.view_is g facts said is in
    let reach_is = gapless-is g facts (λ s. order_in (get nat_eq a.choices.ordered s))
    a.gapless held.choices.ordered.choice c.self.invariant.gapless in
    let stable_is : a.stable ≡ stable g facts = held.stable in
    let prepares : PendingNumbers = c.pending_in-prepares.result in
    let commits : PendingNumbers = c.pending_in-commits.result in
    let prepares_pending = c.pending_in-prepares.ensures.pending (said_in a.told.prepares) (offers_rows facts)
    held.prepares_pending in
    let commits_pending = c.pending_in-commits.ensures.pending (said_in a.told.commits)
    (holds_prepared a.choices.prepared) held.commits_pending in
    let count : a.stable + 16 + 1 - 1 ≡ stable g facts + 16 = omega arith in
    let ends : (c.min-prepares_end.result + 1) - 1 ≡ min c.args.last (stable g facts + 16) = omega arith in
    let all : c.push_marks.new.bodies.items ≡ bodies_up_to g facts said c.args.view c.args.last =
    returns-clause-due c g facts said is in
    let bodies : List Body = c.push_marks.new.bodies.items in
    record {
      sizes = held.sizes;
      prepares = held.prepares;
      commits = held.commits;
      marks = held.marks;
      choices = choices-alike _ _ _ _ _ a.choices _ record {
        rows = refl;
        prepared = keeps-itself a.choices;
        backed =
            λ d. refl;
        ordered = keeps-orders a.choices;
        committed = λ d. refl;
      } held.choices;
      views = held.views;
      offers = record { first = held.offers.first; plans = held.offers.plans; proposals = held.offers.proposals };
      prepares_said = said-more said bodies c.deref.result.now a.told.prepares c.reserve.new.self
          c.note_said.new.prepares c.reserve.ensures.keys.2 c.deref.ensures.value (λ v s. prepares_said v s)
          held.prepares_said c.note_said.ensures.prepares;
      commits_said = said-more said bodies c.deref.result.now a.told.commits c.reserve-2.new.self
          c.note_said.new.commits c.reserve-2.ensures.keys.2 c.deref.ensures.value (λ v s. commits_said v s)
          held.commits_said c.note_said.ensures.commits;
      marked = marked-after g facts said bodies c.args.view c.args.last a.told.marked a.gapless held.marked
          c.self.invariant.marked reach_is all;
      stable = held.stable;
      prepares_pending = pending-said (λ v s. prepares_said v s) (offers_rows facts) bodies c.deref.result.now
          a.told.prepares c.reserve.new.self c.note_said.new.prepares prepares c.pending_from-self-inside.result
          (c.min-prepares_end.result + 1) c.reserve.ensures.keys.2 c.deref.ensures.value c.note_said.ensures.prepares
          c.pending_from-self-inside.ensures
          (λ s one below unsaid some. ap (list_any (prepares_said prepares.view s)) all
          ∙ prepare-among g facts said a.told.prepares (commits_due g facts said c.args.view)
          (marks_due g facts said) c.args.view prepares.view c.args.last (c.min-prepares_end.result + 1) s
          c.pending_in-prepares.ensures.view held.prepares_said ends one below unsaid some) prepares_pending;
      commits_pending = pending-said (λ v s. commits_said v s) (holds_prepared a.choices.prepared)
          bodies c.deref.result.now a.told.commits c.reserve-2.new.self c.note_said.new.commits commits
          c.pending_from-self-inside-2.result (a.stable + 16 + 1) c.reserve-2.ensures.keys.2 c.deref.ensures.value
          c.note_said.ensures.commits c.pending_from-self-inside-2.ensures
          (λ s one below unsaid some. ap (list_any (commits_said commits.view s)) all
          ∙ commit-among g facts said a.told.commits a.choices.prepared
          (prepares_up_to g facts said c.args.view c.args.last) (marks_due g facts said) c.args.view commits.view
          (a.stable + 16 + 1) s c.pending_in-commits.ensures.view held.commits_said held.choices.prepared.choice
          count one below unsaid some) commits_pending;
    }
