-- The text of a history's delays. Each line ends with a line feed, and one space stands between its words. (This
-- project's own.)
use Rattle.std.specs.Prelude.{ℕ, ◌+◌, ◌%◌, List, ◌++◌, Option, Some, None, [], length, codes, decimal}
use Rattle.std.specs.List.{flat_map}
use Rattle.scenario_file.specs.declared.actors.Cast.{Cast}
use Rattle.scenario_file.specs.Actors.{actor_name}
use Rattle.delay_times.specs.declared.happening.Name.{Name}
use Rattle.delay_times.specs.declared.unexecuted.Unexecuted.{Unexecuted}
use Rattle.delay_times.specs.declared.reigns.Reign.{Reign}
use Rattle.delay_times.specs.declared.spreads.Figures.{Figures}
use Rattle.delay_times.specs.declared.spreads.Spread.{Spread}
use Rattle.delay_times.specs.declared.table.Delays.{Delays}
use Rattle.delay_times.specs.declared.outcomes.Delay.{Delay}
use Rattle.delay_times.specs.declared.outcomes.Outcome.{Outcome}

-- a view with its leader, master v modulo n in view v
unfoldable pub view_text : Cast → Reign → List ℕ
view_text cast x = codes "view " ++ decimal x.view ++ codes " leader m" ++ decimal (x.view % cast.masters)
    ++ codes " from " ++ decimal x.from

abbrev pub to_text : Option ℕ → List ℕ
to_text None = []
to_text (Some stamp) = codes " to " ++ decimal stamp

unfoldable pub reign_text : Cast → Reign → List ℕ
reign_text cast x =
    view_text cast x ++ to_text x.to ++ codes " votes " ++ decimal x.votes ++ codes " idle " ++ decimal x.idle
    ++ codes "\n"

unfoldable pub reigns_text : Cast → List Reign → List ℕ
reigns_text cast reigns = codes "views " ++ decimal (length reigns) ++ codes "\n" ++ flat_map (reign_text cast) reigns

unfoldable pub figures_text : Figures → List ℕ
figures_text x =
    codes " " ++ decimal x.median ++ codes " " ++ decimal x.ninetieth ++ codes " " ++ decimal x.ninety_ninth
    ++ codes " " ++ decimal x.greatest

unfoldable pub spread_head : Cast → Spread → List ℕ
spread_head cast x =
    actor_name cast (cast.masters + x.client) ++ codes " at " ++ actor_name cast x.actor ++ codes " said "
    ++ decimal x.said ++ codes " ended " ++ decimal x.ended

unfoldable pub spread_text : Cast → Spread → List ℕ
spread_text cast x =
    spread_head cast x ++ codes " entries" ++ figures_text x.entries ++ codes " ticks" ++ figures_text x.ticks
    ++ codes "\n"

unfoldable pub spreads_text : Cast → List Spread → List ℕ
spreads_text cast spreads =
    codes "spreads " ++ decimal (length spreads) ++ codes "\n" ++ flat_map (spread_text cast) spreads

-- an update, and the stamp at which it was said; clients come after the masters
unfoldable pub name_text : Cast → Name → ℕ → List ℕ
name_text cast u said =
    actor_name cast (cast.masters + u.client) ++ codes " " ++ decimal u.t ++ codes " said " ++ decimal said

unfoldable pub unexecuted_line : Cast → Unexecuted → List ℕ
unexecuted_line cast x = name_text cast x.name x.said ++ codes " executed " ++ decimal x.executed ++ codes "\n"

unfoldable pub unexecuted_count : ℕ → List ℕ
unexecuted_count count = codes "unexecuted " ++ decimal count ++ codes "\n"

unfoldable pub unexecuted_text : Cast → List Unexecuted → List ℕ
unexecuted_text cast unexecuted = unexecuted_count (length unexecuted) ++ flat_map (unexecuted_line cast) unexecuted

abbrev pub delay_text : Option Delay → List ℕ
delay_text None = codes " never\n"
delay_text (Some d) =
    codes " ended " ++ decimal d.stamp ++ codes " entries " ++ decimal d.entries ++ codes " ticks "
    ++ decimal d.ticks ++ codes "\n"

unfoldable pub outcome_head : Cast → Outcome → List ℕ
outcome_head cast x =
    name_text cast x.name x.said ++ codes " at " ++ actor_name cast x.actor ++ codes " tick " ++ decimal x.tick

unfoldable pub outcome_text : Cast → Outcome → List ℕ
outcome_text cast x = outcome_head cast x ++ delay_text x.delay

unfoldable pub outcomes_text : Cast → List Outcome → List ℕ
outcomes_text cast outcomes = codes "outcomes " ++ decimal (length outcomes) ++ codes "\n" ++ flat_map (outcome_text cast) outcomes

-- the whole text, in four parts, each behind how many lines it has
unfoldable pub delays_text : Cast → Delays → List ℕ
delays_text cast x =
    reigns_text cast x.reigns ++ spreads_text cast x.spreads ++ unexecuted_text cast x.unexecuted ++ outcomes_text cast x.outcomes
