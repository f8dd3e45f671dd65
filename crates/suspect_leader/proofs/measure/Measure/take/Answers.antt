-- Five kinds of words tell the measures something, each its own table or debt. A word of another kind, or of
-- nobody in the group, tells them nothing.
use Rattle.std.proofs.Common.{◌≤◌, ◌<◌, ℕ, Some, sym, ap, ◌∙◌, subst}
use Rattle.std.proofs.lemmas.Result.{on_ok_weaker}
use Rattle.message_types.specs.declared.body.Body.{Body}
use Rattle.suspect_leader.specs.declared.heard.Heard.TheVariants as heard
use Rattle.suspect_leader.specs.Sayings.{ticks_of_round_trip}
use Rattle.suspect_leader.specs.MeasureState.{MeasureState}
use Rattle.suspect_leader.proofs.Taken.{viewed, stranger_passed, kind_passed, heard_is, at_heard, took_report}
use Rattle.suspect_leader.proofs.Taken.{took_bound}
use Rattle.suspect_leader.proofs.measure.Measure.take.Goals as goal

pub returns-then-signer-self-clause-ok : goal.returns-then-signer-self-clause-ok
returns-then-signer-self-clause-ok c = λ sig g me told known said is.
    stranger_passed g me c.args.self.now told known said record {
      signer = c.args.signer;
      body = c.args.body.now;
      sig = sig;
    } c.self.inside.sizes.n (ap (λ (k : MeasureState). k.group.n) c.self.view_is) c.if-signer-self.true is

pub returns-in-None-clause-ok : goal.returns-in-None-clause-ok
returns-in-None-clause-ok c = λ sig g me told known said is.
    kind_passed g me c.args.self.now told known said record {
      signer = c.args.signer;
      body = c.args.body.now;
      sig =
          sig;
    } (sym c.heard_of.ensures ∙ c.in-None.is) is

pub returns-in-Some-Ping-clause-ok : goal.returns-in-Some-Ping-clause-ok
returns-in-Some-Ping-clause-ok c = on_ok_weaker c.take_ping.result (λ more sig g me told known said is.
    at_heard known c.args.signer sig c.args.body.now (heard.Ping c.in-Some-Ping.word)
    (sym c.heard_of.ensures ∙ c.in-Some-Ping.is ∙ ap Some c.in-Some-Ping.field-0-is)
    (more sig g me told known said is)) c.take_ping.ensures.ok

pub returns-in-Some-Pong-clause-ok : goal.returns-in-Some-Pong-clause-ok
returns-in-Some-Pong-clause-ok c = on_ok_weaker c.take_pong.result (λ more sig g me told known said is.
    at_heard known c.args.signer sig c.args.body.now (heard.Pong c.in-Some-Pong.word)
    (sym c.heard_of.ensures ∙ c.in-Some-Pong.is ∙ ap Some c.in-Some-Pong.field-0-is)
    (more sig g me told known said is)) c.take_pong.ensures.ok

pub returns-in-Some-Report-clause-ok : goal.returns-in-Some-Report-clause-ok
returns-in-Some-Report-clause-ok c = on_ok_weaker c.keep_greatest.result (λ more sig g me told known said is.
    at_heard known c.args.signer sig c.args.body.now (heard.Report c.in-Some-Report.word)
    (sym c.heard_of.ensures ∙ c.in-Some-Report.is ∙ ap Some c.in-Some-Report.field-0-is)
    (took_report g me _ told known said c.args.signer c.in-Some-Report.word sig c.keep_greatest.new.table.entries more
    (viewed c.self.view_is is))) c.keep_greatest.ensures.ok

pub returns-in-Some-Bound-clause-ok : goal.returns-in-Some-Bound-clause-ok
returns-in-Some-Bound-clause-ok c = on_ok_weaker c.keep_first.result (λ more sig g me told known said is.
    at_heard known c.args.signer sig c.args.body.now (heard.Bound c.in-Some-Bound.word)
    (sym c.heard_of.ensures ∙ c.in-Some-Bound.is ∙ ap Some c.in-Some-Bound.field-0-is)
    (took_bound g me _ told known said c.args.signer c.in-Some-Bound.word sig c.keep_first.new.table.entries more
    (viewed c.self.view_is is))) c.keep_first.ensures.ok

pub returns-in-Some-RoundTrip-clause-ok : goal.returns-in-Some-RoundTrip-clause-ok
returns-in-Some-RoundTrip-clause-ok c = λ sig g me told known said is.
    at_heard known c.args.signer sig c.args.body.now (heard.RoundTrip c.in-Some-RoundTrip.word)
    (sym c.heard_of.ensures ∙ c.in-Some-RoundTrip.is ∙ ap Some c.in-Some-RoundTrip.field-0-is)
    (c.take_round_trip.ensures.known sig g me told known said is)

pub take_round_trip-requires : goal.take_round_trip-requires
take_round_trip-requires c = record {
  signer = subst (λ (n : ℕ). c.args.signer < n) (ap (λ (k : MeasureState). k.group.n) c.self.view_is)
      c.if-signer-self.false;
  ticks = subst (λ (w : Body). ticks_of_round_trip w ≤ 4294967296)
      (heard_is c.args.body.now (heard.RoundTrip c.in-Some-RoundTrip.word)
      (sym c.heard_of.ensures ∙ c.in-Some-RoundTrip.is ∙ ap Some c.in-Some-RoundTrip.field-0-is)) c.requires;
}
