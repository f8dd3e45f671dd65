-- The readings due, cut to the room, are what is said, what is told as last values and what is counted; the
-- line keeps the exchanges of this poll. So the proxy is as the definition has it after a poll.
use Rattle.std.proofs.Common.{arith, ap, sym, ◌∙◌, ◌≡◌, ◌+◌, subst, length, take}
use Rattle.std.proofs.lemmas.List.{take_at, length-take}
use Rattle.field_proxy.specs.contracts.proxy.Proxy.{the_view}
use Rattle.field_proxy.specs.Exchanges.{line_after}
use Rattle.field_proxy.specs.Readings.{poll_requests, readings, last_in, told, numbered}
use Rattle.field_proxy.proofs.LineLaws.{asked_is}
use Rattle.field_proxy.specs.Front.{Front, ProxyState, front_with_votes, poll_says, after_poll}
use Rattle.field_proxy.proofs.ReadingLaws.{length-numbered}
use Rattle.field_proxy.proofs.FrontLaws.{front_is, front_seen, poll_broken_off, front_polls, polled_is, poll_after}
use Rattle.field_proxy.proofs.BeginningLaws.{all_passed}
use Rattle.field_proxy.proofs.proxy.Proxy.poll.Goals as goal

pub returns-clause-says : goal.returns-clause-says
returns-clause-says c = λ s is.
    let read = c.in-Ok.ensures.ops
    ∙ ap (λ points. readings c.self.inside.device c.self.inside.client points (last_in c.deref.result.now))
    c.as_slice.ensures
    ∙ ap (λ lasts. readings c.self.inside.device c.self.inside.client c.self.inside.points (last_in lasts))
    c.deref.ensures.value in
    let ops = polled_is (front_with_votes (the_view c.self.inside) s.votes) c.args.room _ _ read
    (c.deref-2.ensures.value ∙ c.truncate.ensures.items) in
    subst (λ (t : Front). c.in-Ok-as_updates.updates.items ≡ poll_says t c.args.room)
    (front_is (the_view c.self.inside) c.args.self.now s c.self.view_is is)
    (c.in-Ok-as_updates.ensures ∙ ap (numbered c.self.inside.client (c.self.inside.updates + 1)) ops)

pub returns-clause-after : goal.returns-clause-after
returns-clause-after c = λ s is.
    let read = c.in-Ok.ensures.ops
    ∙ ap (λ points. readings c.self.inside.device c.self.inside.client points (last_in c.deref.result.now))
    c.as_slice.ensures
    ∙ ap (λ lasts. readings c.self.inside.device c.self.inside.client c.self.inside.points (last_in lasts))
    c.deref.ensures.value in
    let ops = polled_is (front_with_votes (the_view c.self.inside) s.votes) c.args.room _ _ read
    (c.deref-3.ensures.value ∙ c.truncate.ensures.items) in
    let lasts = take_at c.tell.new.lasts _ c.self.inside.lasts.len
    (omega (arith, c.tell.auto.lasts, c.deref_mut.ensures.len))
    ∙ c.tell.ensures ∙ ap (λ l. told l c.deref-3.result.now) c.deref_mut.ensures.value in
    let passed = c.in-Ok.ensures.line
    ∙ ap (λ points. line_after c.new-line.result c.self.inside.device (poll_requests c.self.inside.client points))
    c.as_slice.ensures in
    let line = asked_is c.self.inside.line c.new-line.result c.due_readings.new.line c.keep.new.self
    c.self.inside.device (poll_requests c.self.inside.client c.self.inside.points)
    c.new-line.ensures passed c.keep.ensures.some c.keep.ensures.none in
    let here = front_seen (the_view c.self.inside) c.args.self.now s c.self.view_is is in
    record {
      same = ap (λ (t : Front). after_poll t c.args.room)
          (sym (front_is (the_view c.self.inside) c.args.self.now s c.self.view_is is))
          ∙ sym (poll_after (front_with_votes (the_view c.self.inside) s.votes) c.args.room _ _ _ _ _ ops
          c.due_readings.ensures.same line lasts (omega (arith, c.len.ensures, c.deref-3.ensures.len)));
      tally = here.tally;
      possible = here.possible;
      written = here.written;
    }

pub returns-clause-room : goal.returns-clause-room
returns-clause-room c =
    let size : length c.in-Ok-as_updates.updates.items ≡ length c.deref-2.result.now = ap length c.in-Ok-as_updates.ensures
    ∙ length-numbered _ _ c.deref-2.result.now in
    let cut : length c.deref-2.result.now ≡ length (take c.args.room c.in-Ok.ops.items) =
    ap length (c.deref-2.ensures.value ∙ c.truncate.ensures.items) in
    omega (arith, size, cut, length-take c.args.room c.in-Ok.ops.items)

pub returns-clause-counted : goal.returns-clause-counted
returns-clause-counted c =
    let size : length c.in-Ok-as_updates.updates.items ≡ length c.deref-2.result.now = ap length c.in-Ok-as_updates.ensures
    ∙ length-numbered _ _ c.deref-2.result.now in
    let before : c.self.inside.updates ≡ c.args.self.now.updates = ap (λ (p : ProxyState). p.updates) c.self.view_is in
    omega (arith, size, before, c.len.ensures, c.deref-2.ensures.len)

-- Where memory was wanted, nothing but what passed is another: a beginning, or all of it where only the words want memory.

pub returns-in-Err-clause-err : goal.returns-in-Err-clause-err
returns-in-Err-clause-err c =
    poll_broken_off (the_view c.self.inside) c.args.self.now _ _ c.self.view_is c.due_readings.ensures.same

pub returns-in-Err-clause-begun : goal.returns-in-Err-clause-begun
returns-in-Err-clause-begun c = λ s is.
    front_polls (the_view c.self.inside) s c.new-line.result c.due_readings.new.line c.as_slice.result.now
    c.into_passed.result (front_seen (the_view c.self.inside) c.args.self.now s c.self.view_is is)
    c.new-line.ensures c.as_slice.ensures c.into_passed.ensures c.in-Err.ensures.begun

pub returns-in-Err-as_updates-clause-err : goal.returns-in-Err-as_updates-clause-err
returns-in-Err-as_updates-clause-err c =
    poll_broken_off (the_view c.self.inside) c.args.self.now _ _ c.self.view_is c.due_readings.ensures.same

pub returns-in-Err-as_updates-clause-begun : goal.returns-in-Err-as_updates-clause-begun
returns-in-Err-as_updates-clause-begun c = λ s is.
    front_polls (the_view c.self.inside) s c.new-line.result c.due_readings.new.line c.as_slice.result.now
    c.into_passed-in-Err-as_updates.result (front_seen (the_view c.self.inside) c.args.self.now s c.self.view_is is)
    c.new-line.ensures c.as_slice.ensures c.into_passed-in-Err-as_updates.ensures
    (all_passed c.due_readings.new.line _ c.in-Ok.ensures.line)
