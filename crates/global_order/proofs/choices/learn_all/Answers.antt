-- The rows are learned one by one. What the choices agree with after each is the definition over the rows so
-- far, and at the end over all.
use Rattle.std.proofs.Common.{◌≡◌, ◌≤◌, ◌+◌, ◌++◌, ◌∷◌, [], length, sym, ◌∙◌, ap, arith, append_assoc, length-append}
use Rattle.std.proofs.Common.{vec_len}
use Rattle.std.proofs.lemmas.List.{append-nil}
use Rattle.indexmap.specs.IndexMap.{spare}
use Rattle.global_order.proofs.Settling.{agrees-one_more, none_left}
use Rattle.global_order.proofs.choices.learn_all.Goals as goal

pub loop-rows-preserved : goal.loop-rows-preserved
loop-rows-preserved c =
    let longer : length (c.loop-rows.yielded ++ c.in-Some.rows ∷ []) ≡ length c.loop-rows.yielded + 1 =
    length-append c.loop-rows.yielded (c.in-Some.rows ∷ []) in
    let room : vec_len c.args.all ≤ spare c.loop-rows.choices.rows + length c.loop-rows.yielded =
    c.loop-rows.invariant.room in
    let less : spare c.loop-rows.choices.rows ≤ spare c.learn.new.choices.rows + 1 = c.learn.ensures.room in
    let steps = c.in-Some.ensures.steps in
    record {
      whole = append_assoc c.loop-rows.yielded (c.in-Some.rows ∷ []) c.next.new.self.rest.items
          ∙ ap (λ xs. c.loop-rows.yielded ++ xs) (sym steps.0) ∙ c.loop-rows.invariant.whole;
      room = omega arith;
      places = c.learn.ensures.places;
      grow = λ s there. c.learn.ensures.grow s (c.loop-rows.invariant.grow s there);
      pending = λ said has. c.learn.ensures.pending said (c.loop-rows.invariant.pending said has);
      highest = λ has. c.learn.ensures.highest (c.loop-rows.invariant.highest has);
      known = λ known prepares first commits order agrees.
          agrees-one_more known c.loop-rows.yielded c.in-Some.rows prepares first commits order c.learn.new.choices
          (c.learn.ensures.known (known ++ c.loop-rows.yielded) prepares _ commits _
          (c.loop-rows.invariant.known known prepares first commits order agrees));
    }

pub returns-clause-known : goal.returns-clause-known
returns-clause-known c = λ known prepares first commits order agrees.
    let none : length c.loop-rows.rows-iterator.rest.items ≡ 0 =
    omega (arith, c.in-None.ensures.steps, c.loop-rows.rows-iterator.rest.ok) in
    let whole : c.loop-rows.yielded ≡ c.args.all.items = sym (append-nil c.loop-rows.yielded)
    ∙ ap (λ xs. c.loop-rows.yielded ++ xs) (sym (none_left c.loop-rows.rows-iterator.rest.items none))
    ∙ c.loop-rows.invariant.whole in
    rw whole at (c.loop-rows.invariant.known known prepares first commits order agrees)
