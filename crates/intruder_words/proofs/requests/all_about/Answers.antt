-- The frames so far are those among the ones gone over that are about the request, in their order.
use Rattle.std.proofs.Common.{◌++◌, ◌∷◌, [], cond, filter, sym, ◌∙◌, ap, arith}
use Rattle.std.proofs.lemmas.List.{take_all}
use Rattle.intruder_words.specs.Certifying.{is_about}
use Rattle.intruder_words.proofs.Heard.{filter-next}
use Rattle.intruder_words.proofs.requests.all_about.Goals as goal

pub loop-frame-preserved : goal.loop-frame-preserved
loop-frame-preserved c =
    c.in_ok-push_if.ensures ∙ ap (λ b. c.loop-frame.few.items ++ cond b (c.frame-item.result ∷ []) [])
    c.is_about.ensures
    ∙ ap (λ xs. xs ++ cond (is_about c.args.j c.args.k c.frame-item.result) (c.frame-item.result ∷ []) [])
    c.loop-frame.invariant
    ∙ sym (filter-next (is_about c.args.j c.args.k) c.args.known.now c.loop-frame.frame-index c.frame-item.result
    c.loop-frame-test.true c.frame-item.is)

pub returns : goal.returns
returns c = c.loop-frame.invariant ∙ ap (filter (is_about c.args.j c.args.k))
    (take_all c.loop-frame.frame-index c.args.known.now (omega arith))
