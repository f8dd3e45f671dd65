-- One more vote makes at most its own voucher settled, so the tally stays that of the votes. The end of the run
-- without a gap is found from where it was.
use Rattle.std.proofs.Common.{ap, nat_lt, subst, sym, arith, ◌<◌, ◌≤◌, ◌^◌}
use Rattle.vouched_orders.specs.Tally.{Tally, IsTallyOf}
use Rattle.vouched_orders.proofs.TallyLaws.{on_err, tally-push, tally-same}
use Rattle.quorum_sets.proofs.Numbered.{masters_few}
use Rattle.vouched_orders.proofs.vouched.Vouched.take.Goals as goal

pub returns-in_err-note-clause-err : goal.returns-in_err-note-clause-err
returns-in_err-note-clause-err c = on_err c.from_residual.result (λ n f votes is.
    let t = subst (λ (v : Tally). IsTallyOf n f votes v) (sym c.self.view_is) is in
    record {
      masters = t.masters;
      intruded = t.intruded;
      tally = tally-same c.self.inside.sizes.n c.self.inside.sizes.f votes c.self.inside.masters c.note.new.masters
          c.self.inside.settled c.note.new.settled c.self.inside.count t.tally
          c.in_err-note.ensures.masters_stay c.in_err-note.ensures.settled_stay;
    })

pub returns-clause-ok : goal.returns-clause-ok
returns-clause-ok c = λ n f votes is.
    let t = subst (λ (v : Tally). IsTallyOf n f votes v) (sym c.self.view_is) is in
    let e = c.end_of_run-self-inside.ensures in
    let few : c.self.inside.sizes.n ≤ 14 = masters_few c.self.inside.sizes in
    let fits : c.args.vote.voucher.number < 2 ^ 64 = omega arith in
    record {
      masters = t.masters;
      intruded = t.intruded;
      tally = tally-push c.self.inside.sizes.n c.self.inside.sizes.f few votes c.args.vote c.self.inside.masters
          c.self.inside.settled c.self.inside.count c.masters_with-masters.result (nat_lt c.self.inside.sizes.f c.len.result)
          c.note.new.masters c.note.new.settled c.end_of_run-self-inside.result t.tally c.masters_with-masters.ensures
          (ap (nat_lt c.self.inside.sizes.f) c.len.ensures) fits
          c.in_ok-note.ensures.masters c.in_ok-note.ensures.settled e.from e.run e.end;
    }
