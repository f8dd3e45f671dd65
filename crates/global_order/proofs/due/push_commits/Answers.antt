-- Number after number, what is added is what is due for the numbers so far: a range with one number more is the
-- range and then that number.
use Rattle.std.proofs.Common.{◌≡◌, ◌-◌, ◌++◌, ◌∙◌, ap, sym, arith, append_assoc}
use Rattle.std.proofs.lemmas.List.{append-nil}
use Rattle.std.specs.List.{flat_map}
use Rattle.protocol_rules.specs.Words.{numbers_from}
use Rattle.protocol_rules.specs.Order.{commit_due}
use Rattle.global_order.proofs.Ranges.{flat_map-more, flat_map-none}
use Rattle.global_order.proofs.due.push_commits.Goals as goal

pub loop-s-init : goal.loop-s-init
loop-s-init c = record {
  in_range = omega arith;
  added = λ g facts words slots said.
      let none : c.args.low - c.args.low ≡ 0 = omega arith in
      sym (ap (λ n. c.args.bodies.now.items ++ flat_map (commit_due g facts words c.args.v)
      (numbers_from c.args.low n)) none
      ∙ ap (λ xs. c.args.bodies.now.items ++ xs) (flat_map-none (commit_due g facts words c.args.v) c.args.low)
      ∙ append-nil _);
}

pub loop-s-preserved : goal.loop-s-preserved
loop-s-preserved c = record {
  in_range = omega arith;
  added = λ g facts words slots said.
      c.in_ok-push_commit.ensures g facts words slots said
      ∙ ap (λ xs. xs ++ commit_due g facts words c.args.v c.loop-s.s)
      (c.loop-s.invariant.added g facts words slots said)
      ∙ append_assoc c.args.bodies.now.items
      (flat_map (commit_due g facts words c.args.v) (numbers_from c.args.low (c.loop-s.s - c.args.low)))
      (commit_due g facts words c.args.v c.loop-s.s)
      ∙ ap (λ xs. c.args.bodies.now.items ++ xs)
      (sym (flat_map-more (commit_due g facts words c.args.v) c.args.low c.loop-s.s (omega arith)));
}

pub returns : goal.returns
returns c = λ g facts words slots said.
    let in_range = c.loop-s.invariant.in_range in
    let all : c.loop-s.s - c.args.low ≡ c.args.high - c.args.low = omega arith in
    c.loop-s.invariant.added g facts words slots said
    ∙ ap (λ n. c.args.bodies.now.items ++ flat_map (commit_due g facts words c.args.v) (numbers_from c.args.low n)) all
