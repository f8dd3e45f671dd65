-- By the kind of event: at a poll the proxy says and keeps what its poll gives, a frame or a change of the
-- field only moves it on, and at any other event it says nothing and stays.
use Rattle.std.proofs.Common.{◌∙◌, inl, inr}
use Rattle.vouched_orders.proofs.TallyLaws.{on_err}
use Rattle.field_proxy.proofs.FrontLaws.{front_stays}
use Rattle.client_roles.proofs.Polling.{changed, changed_unsaid, poll_after, poll_said, silent, took, took_unsaid}
use Rattle.client_roles.proofs.Polling.{unmoved}
use Rattle.client_roles.proofs.proxy_role.answer_at_proxy.Goals as goal

pub returns-in_err-updates-in-Poll-clause-err : goal.returns-in_err-updates-in-Poll-clause-err
returns-in_err-updates-in-Poll-clause-err c = on_err c.from_residual.result
    (λ s has. inl (front_stays c.args.proxy.now c.poll.new.self s c.in_err-updates-in-Poll.ensures.err has))

pub returns-in_ok-updates-in-Poll-clause-err : goal.returns-in_ok-updates-in-Poll-clause-err
returns-in_ok-updates-in-Poll-clause-err c =
    on_err c.as_bodies.result (λ s has. inr (c.in_ok-updates-in-Poll.ensures.after s has))

pub returns-in_ok-updates-in-Poll-clause-said : goal.returns-in_ok-updates-in-Poll-clause-said
returns-in_ok-updates-in-Poll-clause-said c =
    poll_said c.as_bodies.result (λ said. said.items) c.args.proxy.now c.args.event.now c.args.room
    c.deref.result.now c.in-Poll.is
    (λ s has. c.deref.ensures.value ∙ c.in_ok-updates-in-Poll.ensures.says s has) c.as_bodies.ensures

pub returns-in_ok-updates-in-Poll-clause-after : goal.returns-in_ok-updates-in-Poll-clause-after
returns-in_ok-updates-in-Poll-clause-after c =
    poll_after c.as_bodies.result (λ said. said.items) c.args.proxy.now c.poll.new.self c.args.event.now c.args.room
    c.deref.result.now c.in-Poll.is
    (λ s has. c.deref.ensures.value ∙ c.in_ok-updates-in-Poll.ensures.says s has)
    c.in_ok-updates-in-Poll.ensures.after c.as_bodies.ensures

pub returns-in_err-hear-in-Took-clause-err : goal.returns-in_err-hear-in-Took-clause-err
returns-in_err-hear-in-Took-clause-err c =
    on_err c.from_residual-in_err-hear-in-Took.result (λ s has. inl (c.in_err-hear-in-Took.ensures.err s has))

pub returns-in_ok-hear-in-Took-clause-said : goal.returns-in_ok-hear-in-Took-clause-said
returns-in_ok-hear-in-Took-clause-said c = λ s has.
    took_unsaid s c.args.event.now c.args.room c.new.result.items c.in-Took.stamp c.in-Took.place c.in-Took.frame
    c.in-Took.is c.new.ensures.items

pub returns-in_ok-hear-in-Took-clause-after : goal.returns-in_ok-hear-in-Took-clause-after
returns-in_ok-hear-in-Took-clause-after c =
    took c.args.proxy.now c.hear.new.proxy c.args.event.now c.new.result.items c.in-Took.stamp c.in-Took.place
    c.in-Took.frame c.frame.result.now
    c.in-Took.is c.frame.ensures.frame c.new.ensures.items c.in_ok-hear-in-Took.ensures.ok

pub returns-in-Field-clause-said : goal.returns-in-Field-clause-said
returns-in-Field-clause-said c = λ s has.
    changed_unsaid s c.args.event.now c.args.room c.new-in-Field.result.items c.in-Field.area c.in-Field.place
    c.in-Field.value c.in-Field.is c.new-in-Field.ensures.items

pub returns-in-Field-clause-after : goal.returns-in-Field-clause-after
returns-in-Field-clause-after c =
    changed c.args.proxy.now c.change_field.new.proxy c.args.event.now c.new-in-Field.result.items c.in-Field.area
    c.in-Field.place c.in-Field.value
    c.in-Field.is c.new-in-Field.ensures.items c.change_field.ensures

pub returns-in_default : goal.returns-in_default
returns-in_default c = record {
  said = λ s has. c.new-in_default.ensures.items ∙ silent s c.args.event.now c.args.room c.in_default.not-Poll;
  after = unmoved c.args.proxy.now c.args.event.now c.new-in_default.result.items c.in_default.not-Poll
      c.in_default.not-Took c.in_default.not-Field c.new-in_default.ensures.items;
  err = tt;
}
