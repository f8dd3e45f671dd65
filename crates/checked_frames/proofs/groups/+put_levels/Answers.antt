use Rattle.std.proofs.Common.{◌≡◌, ◌≤◌, ◌-◌, ap, sym, ◌∙◌, subst, arith, IfOk}
use Rattle.checked_frames.specs.Groups.{level_above, raised}
use Rattle.checked_frames.proofs.GroupSteps.{raised_more}
use Rattle.checked_frames.proofs.groups.+put_levels.Goals as goal

pub returns-clause-top : goal.returns-clause-top
returns-clause-top t c =
    let some : 1 ≤ c.args.count = omega arith in
    let above = c.in_ok-above.ensures ∙ ap level_above c.as_slice.ensures in
    let e = ap (raised (c.args.count - 1)) above ∙ sym (raised_more c.args.count c.args.nodes some) in
    subst (λ x. IfOk c.put_levels.result (λ top. top ≡ x)) e c.put_levels.ensures.top
