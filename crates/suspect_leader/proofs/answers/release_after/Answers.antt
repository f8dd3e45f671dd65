-- A ping releases the round trips of its own number and is a ping of no other; other bodies are pings of none.
use Rattle.std.proofs.Common.{ℕ, ◌∙◌, sym, ap}
use Rattle.std.proofs.lemmas.Bool.{eqb-true}
use Rattle.std.proofs.lemmas.Result.{on_ok_weaker}
use Rattle.protocol_rules.specs.Measures.{pings_said}
use Rattle.suspect_leader.specs.declared.saying.Saying.TheVariants.{RoundTrip}
use Rattle.suspect_leader.specs.Sayings.{is_among}
use Rattle.suspect_leader.proofs.answers.release_after.Goals as goal

pub returns-in-Ping-clause-gone : goal.returns-in-Ping-clause-gone
returns-in-Ping-clause-gone c = on_ok_weaker c.release_number.result (λ gone to number lt h.
    ap (λ (i : ℕ). is_among c.release_number.new.early.keys (RoundTrip to i))
    (sym (eqb-true c.in-Ping.word.number number (ap (pings_said number) (sym c.in-Ping.is) ∙ h))) ∙ gone to lt)
    c.release_number.ensures.gone
