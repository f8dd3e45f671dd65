-- The numbers are gone over from the first that isn't ordered on, 64 at most, and those that aren't ordered are kept.
use Rattle.std.proofs.Common.{◌≡◌, ◌+◌, ◌<◌, ◌≤◌, [], min, max, refl, sym, ◌∙◌, ap, arith}
use Rattle.std.specs.List.{list_any}
use Rattle.protocol_rules.specs.declared.limits.TheConstants.{MOST_NUMBER}
use Rattle.protocol_rules.specs.Group.{most_number}
use Rattle.protocol_rules.specs.Facts.{facts_of}
use Rattle.protocol_rules.specs.Order.{gapless}
use Rattle.protocol_rules.specs.Views.{view, is_open}
use Rattle.protocol_rules.specs.Lacking.{numbers_lacking}
use Rattle.reconcile.proofs.Gathered.{listed_none, pushed_one}
use Rattle.master_answers.specs.Asked.{is_request}
use Rattle.master_answers.proofs.Lacked.{unless_ordered, numbers_done, no_requests}
use Rattle.master_answers.proofs.lacking_words.lacking_numbers.Goals as goal

pub wanted_to-requires : goal.wanted_to-requires
wanted_to-requires c =
    let few : c.standing_of-standing.result.gapless ≤ 4096 = c.standing_of-standing.ensures.few in omega arith

pub loop-before-init : goal.loop-before-init
loop-before-init c =
    let first = c.standing_of-standing.result.gapless in (
      (λ g facts said is. c.new-numbers.ensures.items ∙ sym (listed_none (unless_ordered g facts) first first (omega arith))),
      omega arith,
    )

pub loop-before-preserved : goal.loop-before-preserved
loop-before-preserved c =
    let before : c.loop-before.before < c.min-limit.result = c.loop-before-test.true in (
      (λ g facts said is. pushed_one (unless_ordered g facts) c.standing_of-standing.result.gapless c.loop-before.before []
          c.loop-before.numbers.items c.push_unless_ordered.new.numbers.items
          (unless_ordered g facts (c.loop-before.before + 1)) c.loop-before.auto.before
          (c.loop-before.invariant.0 g facts said is) refl (c.in_ok-push_unless_ordered.ensures g facts said is)),
      omega arith,
    )

pub returns-clause-lacking : goal.returns-clause-lacking
unfolding most_number
returns-clause-lacking c g me taken known past said k =
    let stands = c.standing_of-standing.ensures.stands g me taken known past said k in
    let first = c.standing_of-standing.result.gapless in
    let gone_over : c.min-limit.result ≤ c.loop-before.before = c.loop-before-test.false in
    let bound : c.loop-before.before ≤ max first c.min-limit.result = c.loop-before.invariant.1 in
    let end : c.min-end.result ≡ min c.wanted_to.result MOST_NUMBER = c.min-end.ensures in
    let limit : c.min-limit.result ≡ min c.min-end.result (first + 64) = c.min-limit.ensures in
    numbers_done g (facts_of g known) first c.loop-before.before c.min-limit.result MOST_NUMBER c.wanted_to.result _
    (gapless g (facts_of g known)) c.loop-before.numbers.items (c.loop-before.invariant.0 g (facts_of g known) said k.order)
    gone_over bound (limit ∙ ap (λ n. min n (first + 64)) end) stands.ordered
    (c.wanted_to.ensures g (facts_of g known) said (view g known) (is_open g known) stands)

pub returns-clause-numbers : goal.returns-clause-numbers
returns-clause-numbers c =
    let k = c.requires in
    ap (list_any is_request) (returns-clause-lacking c k.group k.own k.taken k.known k.past k.said k.knows)
    ∙ no_requests (numbers_lacking k.group (facts_of k.group k.known) k.said (view k.group k.known)
    (is_open k.group k.known) c.args.waiting c.args.now)
