-- Entry by entry what was joined stays that of stations, and at the end nothing is left.
use Rattle.std.proofs.Common.{◌≡◌, ◌∙◌, ℕ, List, Option, length, ap, subst, sym, arith}
use Rattle.std.specs.Prelude.{MatchOption, replicate}
use Rattle.scenario_file.specs.Reading.{contents}
use Rattle.world_rules.specs.Scenarios.{setup_of}
use Rattle.joined_histories.specs.Order.{IsDue, NoneLeft}
use Rattle.joined_histories.proofs.Next.{amid_here, amid_on, at_first, due_here, joint_at_end, ordered_at_end}
use Rattle.joined_histories.proofs.joining.joined.Goals as goal

pub loop-due-init : goal.loop-due-init
loop-due-init c =
    let many : c.len.result ≡ length c.args.kept.now.lists.items =
    omega (arith, c.len.ensures, c.args.kept.now.lists.ok) in (
      at_first (contents c.args.scenario.now) c.args.kept.now.lists.items c.in_ok-next.next.items c.in_ok-so_far.so_far
          c.requires.stations c.requires.few c.in_ok-so_far.ensures
          (c.in_ok-next.ensures.items_if_clones_equal (λ y h. h) ∙ ap (λ (n : ℕ). replicate n 0) many),
      subst (λ (ns : List ℕ). MatchOption c.in_ok-due.due (NoneLeft c.args.kept.now.lists.items ns)
          (IsDue (setup_of (contents c.args.scenario.now)) c.args.kept.now.lists.items ns)) c.as_slice.ensures.value c.in_ok-due.ensures,
    )

pub add_next-requires-clause-amid : goal.add_next-requires-clause-amid
add_next-requires-clause-amid c =
    amid_here (contents c.args.scenario.now) c.args.kept.now.lists.items c.loop-due.next.items c.loop-due.so_far
    c.loop-due.invariant.0

pub loop-due-preserved : goal.loop-due-preserved
loop-due-preserved c = (
  amid_on (contents c.args.scenario.now) c.args.kept.now.lists.items c.loop-due.next.items c.add_next.new.next.items
      c.loop-due.so_far c.add_next.new.so_far c.loop-due.invariant.0 c.in_ok-add_next.ensures.amid,
  subst (λ (ns : List ℕ). MatchOption c.in_ok-later.later (NoneLeft c.args.kept.now.lists.items ns)
      (IsDue (setup_of (contents c.args.scenario.now)) c.args.kept.now.lists.items ns)) c.as_slice-counts.ensures.value c.in_ok-later.ensures,
)

-- at the end no entry is left
abbrev none_left : (c : goal.After-drop-next-2) → NoneLeft c.args.kept.now.lists.items c.loop-due.next.items
none_left c = subst (λ (due : Option ℕ). MatchOption due (NoneLeft c.args.kept.now.lists.items c.loop-due.next.items)
    (IsDue (setup_of (contents c.args.scenario.now)) c.args.kept.now.lists.items c.loop-due.next.items)) c.in_default.is
    c.loop-due.invariant.1

pub returns-clause-at_hand : goal.returns-clause-at_hand
returns-clause-at_hand c = (
  c.loop-due.invariant.0.is_so_far,
  c.loop-due.invariant.0.same,
  c.loop-due.invariant.0.all,
)

pub returns-clause-joint : goal.returns-clause-joint
returns-clause-joint c =
    joint_at_end (contents c.args.scenario.now) c.args.kept.now.lists.items c.loop-due.next.items c.loop-due.so_far
    c.loop-due.invariant.0 (none_left c)

pub returns-clause-order : goal.returns-clause-order
returns-clause-order c =
    ordered_at_end (contents c.args.scenario.now) c.args.kept.now.lists.items c.loop-due.next.items c.loop-due.so_far
    c.loop-due.invariant.0 (none_left c)
