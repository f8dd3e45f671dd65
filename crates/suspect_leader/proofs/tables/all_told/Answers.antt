-- Putting the figure of each master into a rising list gives all of them in order.
use Rattle.std.proofs.Common.{◌≡◌, ℕ, length, map, sym, ap, ◌∙◌, arith}
use Rattle.std.specs.Option.{unwrap_or}
use Rattle.quorum_sets.specs.Masters.{numbers_below}
use Rattle.protocol_rules.specs.Words.{in_order, put_in_order}
use Rattle.suspect_leader.specs.MeasureState.{told_at}
use Rattle.suspect_leader.proofs.Ranks.{one_more, nothing_in_order}
use Rattle.suspect_leader.proofs.Masters.{ranked_length}
use Rattle.quorum_sets.proofs.Numbered.{map_more, map_start}
use Rattle.suspect_leader.proofs.tables.all_told.Goals.{Start}
use Rattle.suspect_leader.proofs.tables.all_told.Goals as goal

-- the figure of a master
abbrev figure : Start → ℕ → ℕ
figure c master = unwrap_or (told_at c.args.table.now.entries c.args.v master) c.args.untold

pub loop-master-init : goal.loop-master-init
loop-master-init c = c.new-figures.ensures
    ∙ sym (ap in_order (map_start (figure (goal.at.loop-master-init c).Start)) ∙ nothing_in_order)

pub put-requires : goal.put-requires
put-requires c =
    let count : length c.loop-master.figures ≡ c.loop-master.master = ap length c.loop-master.invariant
    ∙ ranked_length (figure (goal.at.put-requires c).Start) c.loop-master.master in
    omega arith

pub loop-master-preserved : goal.loop-master-preserved
loop-master-preserved c =
    c.put.ensures
    ∙ ap (λ (x : ℕ). put_in_order x c.loop-master.figures)
    (c.unwrap_or.ensures ∙ ap (λ o. unwrap_or o c.args.untold) c.told.ensures)
    ∙ ap (put_in_order (figure (goal.at.loop-master-preserved c).Start c.loop-master.master)) c.loop-master.invariant
    ∙ sym (ap in_order (map_more (figure (goal.at.loop-master-preserved c).Start) c.loop-master.master)
    ∙ one_more (map (figure (goal.at.loop-master-preserved c).Start) (numbers_below c.loop-master.master))
    (figure (goal.at.loop-master-preserved c).Start c.loop-master.master))

pub returns : goal.returns
returns c =
    let ended : c.loop-master.master ≡ c.args.masters = omega arith in
    c.loop-master.invariant ∙ ap (λ (n : ℕ). in_order (map (figure (goal.at.returns c).Start) (numbers_below n))) ended
