-- The parts given out and those still in the iterator make up the list; what is kept is right for those given
-- out, so at the end for all of them.
use Rattle.std.proofs.Common.{◌≡◌, List, [], ◌∷◌, ◌++◌, length, append_assoc, sym, ◌∙◌, ap, subst, arith}
use Rattle.std.proofs.lemmas.List.{append-nil, nil_from_length}
use Rattle.message_types.specs.declared.signed.Signed.{Signed}
use Rattle.message_types.specs.declared.body.Body.{Body}
use Rattle.blame_check.specs.Slots.{HasTaken}
use Rattle.blame_check.proofs.blame.Blame.take_parts.Goals as goal

pub loop-part-init : goal.loop-part-init
loop-part-init c = record {
  whole = c.into_iter-part-iterator.ensures.into_iter_gives.0;
  taken = λ n words has. subst (λ (ws : List (Signed Body)). HasTaken n ws c.args.self.now)
      (sym (append-nil words)) has;
}

pub loop-part-preserved : goal.loop-part-preserved
loop-part-preserved c = record {
  whole = append_assoc c.loop-part.yielded (c.in-Some.part ∷ []) c.next.new.self.rest.items
      ∙ ap (λ (ws : List (Signed Body)). c.loop-part.yielded ++ ws) (sym c.in-Some.ensures.steps.0)
      ∙ c.loop-part.invariant.whole;
  taken = λ n words has.
      subst (λ (ws : List (Signed Body)). HasTaken n ws c.take_part.new.self)
      (append_assoc words c.loop-part.yielded (c.in-Some.part ∷ []))
      (c.in_ok-take_part.ensures.taken n (words ++ c.loop-part.yielded) (c.loop-part.invariant.taken n words has));
}

pub returns-clause-taken : goal.returns-clause-taken
returns-clause-taken c = λ n words has.
    let none : length c.loop-part.part-iterator.rest.items ≡ 0 =
    omega (arith, c.in-None.ensures.steps, c.loop-part.part-iterator.rest.ok) in
    let whole : c.loop-part.yielded ≡ c.args.parts.items =
    sym (append-nil c.loop-part.yielded) ∙ ap (λ (ws : List (Signed Body)). c.loop-part.yielded ++ ws)
    (sym (nil_from_length c.loop-part.part-iterator.rest.items none)) ∙ c.loop-part.invariant.whole in
    subst (λ (ws : List (Signed Body)). HasTaken n (words ++ ws) c.loop-part.self) whole
    (c.loop-part.invariant.taken n words has)
