-- Number after number above the last one marked, what is added is what is due. Up to that one all marks were
-- said, so nothing is due there.
use Rattle.std.proofs.Common.{◌≡◌, ◌+◌, ◌-◌, ◌++◌, ◌∙◌, ap, sym, arith, append_assoc}
use Rattle.std.proofs.lemmas.List.{append-nil}
use Rattle.std.specs.List.{flat_map}
use Rattle.protocol_rules.specs.Words.{numbers_from}
use Rattle.protocol_rules.specs.Order.{mark_due}
use Rattle.global_order.proofs.Ranges.{flat_map-more, flat_map-none}
use Rattle.global_order.proofs.due.push_marks.Goals as goal

pub loop-s-init : goal.loop-s-init
loop-s-init c = record {
  in_range = omega arith;
  added = λ words said.
      let none : (c.args.marked + 1) - (c.args.marked + 1) ≡ 0 = omega arith in
      sym (ap (λ n. c.args.bodies.now.items ++ flat_map (mark_due words) (numbers_from (c.args.marked + 1) n)) none
      ∙ ap (λ xs. c.args.bodies.now.items ++ xs) (flat_map-none (mark_due words) (c.args.marked + 1)) ∙ append-nil _);
}

pub loop-s-preserved : goal.loop-s-preserved
loop-s-preserved c = record {
  in_range = omega arith;
  added = λ words said.
      c.in_ok-push_mark.ensures words said
      ∙ ap (λ xs. xs ++ mark_due words c.loop-s.s) (c.loop-s.invariant.added words said)
      ∙ append_assoc c.args.bodies.now.items
      (flat_map (mark_due words) (numbers_from (c.args.marked + 1) (c.loop-s.s - (c.args.marked + 1))))
      (mark_due words c.loop-s.s)
      ∙ ap (λ xs. c.args.bodies.now.items ++ xs)
      (sym (flat_map-more (mark_due words) (c.args.marked + 1) c.loop-s.s (omega arith)));
}

pub returns : goal.returns
returns c = λ words said.
    let in_range = c.loop-s.invariant.in_range in
    let all : c.loop-s.s - (c.args.marked + 1) ≡ c.args.reach - c.args.marked = omega arith in
    c.loop-s.invariant.added words said
    ∙ ap (λ n. c.args.bodies.now.items ++ flat_map (mark_due words) (numbers_from (c.args.marked + 1) n)) all
