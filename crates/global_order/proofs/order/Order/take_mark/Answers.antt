-- One mark more, which may make a quorum and so raise the stable number. One beyond the last number is passed
-- over. Where memory ran out nothing was noted.
use Rattle.std.proofs.Common.{◌≡◌, ◌≤◌, arith, refl}
use Rattle.protocol_rules.specs.declared.facts.OrderFact.{OrderFact}
use Rattle.protocol_rules.specs.Group.{most_number}
use Rattle.protocol_rules.specs.declared.facts.OrderFact.TheVariants as fact
use Rattle.protocol_rules.proofs.LimitValues.{most_number-is}
use Rattle.global_order.specs.OrderState.{IsOrderOf}
use Rattle.global_order.specs.Held.{state_of}
use Rattle.global_order.proofs.Alike.{Listed, alike-itself, inside, listed, sound-alike, stays-alike, on-err}
use Rattle.global_order.proofs.Handed.{vote-told}
use Rattle.global_order.proofs.Taking.{choices-none, stable-mark, raised-limit}
use Rattle.global_order.proofs.Viewing.{views-other}
use Rattle.global_order.proofs.Voting.{prepares-other, commits-other, marks-push}
use Rattle.global_order.proofs.order.Order.take_mark.Goals as goal

pub invariant_of-self : goal.invariant_of-self
invariant_of-self c =
    let k : Listed = listed (state_of c.self.inside) in
    sound-alike c.self.inside _ (λ i. record k { marks = c.in_err-note_mark.ensures.refused i }) refl
    (alike-itself c.self.inside.choices) c.self.invariant

pub returns-in_err-note_mark-clause-refused : goal.returns-in_err-note_mark-clause-refused
returns-in_err-note_mark-clause-refused c =
    let k : Listed = listed (state_of c.self.inside) in
    on-err c.from_residual.result
    (stays-alike c.self.inside c.args.self.now _ c.self.view_is
    (λ i. record k { marks = c.in_err-note_mark.ensures.refused i }) (alike-itself c.self.inside.choices))

pub invariant_of-self-2 : goal.invariant_of-self-2
invariant_of-self-2 c =
    let a = c.self.inside in
    let sound = c.self.invariant in
    record {
      places = sound.places;
      fit = sound.fit;
      marked = sound.marked;
      stable = rw c.raised-self-inside.ensures
          (raised-limit _ a.stable c.args.frame.now.body.s sound.stable (let limit : most_number ≡ 4096 =
          most_number-is in let low : c.args.frame.now.body.s ≤ 4096 = c.if-s-gt-MOST_NUMBER.false in omega arith));
      highest = sound.highest;
      gapless = sound.gapless;
    }

pub returns-then-s-gt-MOST_NUMBER-clause-taken : goal.returns-then-s-gt-MOST_NUMBER-clause-taken
returns-then-s-gt-MOST_NUMBER-clause-taken c = λ low. let limit : most_number ≡ 4096 = most_number-is in
    absurd (omega (arith, c.if-s-gt-MOST_NUMBER.true))

pub returns-clause-taken : goal.returns-clause-taken
returns-clause-taken c = λ low g facts said is.
    let a = c.self.inside in
    let held : IsOrderOf g (state_of c.self.inside) facts said =
    inside c.self.inside c.args.self.now c.self.view_is g facts said is in
    let x : OrderFact = fact.Mark c.args.frame.now in
    let new_marks = marks-push facts c.args.frame.now a.marks c.note_mark.new.marks
    c.in_ok-note_mark.ensures.noted held.marks in
    vote-told g (state_of a) a.prepares a.commits c.note_mark.new.marks a.choices a.views c.raised-self-inside.result
    facts said x (λ v. refl) (λ v s. refl)
    (prepares-other facts x a.prepares (λ v s d m. refl) held.prepares)
    (commits-other facts x a.commits (λ v s d m. refl) held.commits) new_marks
    (choices-none g facts x a.choices
    record { prepare = λ v s d m. refl; commit = λ v s d m. refl; view = λ s d. refl } refl held.choices)
    (views-other g facts x a.views (λ v s d m. refl) (λ s d. refl) held.views)
    (stable-mark g a.sizes.n a.sizes.q facts c.args.frame.now c.note_mark.new.marks
    c.count_marks-count.result a.stable c.raised-self-inside.result held.sizes new_marks
    c.count_marks-count.ensures held.stable c.raised-self-inside.ensures) held.commits_pending held

pub returns-clause-passed : goal.returns-clause-passed
returns-clause-passed c = λ high. let limit : most_number ≡ 4096 = most_number-is in
    absurd (omega (arith, c.if-s-gt-MOST_NUMBER.false))
