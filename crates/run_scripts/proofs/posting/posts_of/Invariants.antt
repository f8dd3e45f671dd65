-- The posts so far, with those of the frames left behind them, are always all posts of the entry. The frames
-- left still stand, which is what posting the next one asks.
use Rattle.std.proofs.Common.{◌≡◌, ◌++◌, true, length}
use Rattle.std.specs.List.{list_all}
use Rattle.std.specs.Vec.Iter.{into_iter_items, into_iter_len}
use Rattle.scenario_file.specs.Reading.{contents}
use Rattle.history_rules.specs.Setup.{stands}
use Rattle.world_rules.specs.Scenarios.{setup_of}
use Rattle.run_scripts.specs.Mail.{posts_from}
use Rattle.run_scripts.proofs.posting.posts_of.Given as goal

-- with the posts of the rest all would be there, and the rest stands
abbrev pub invariant-loop-frame : goal.invariant-loop-frame
invariant-loop-frame l =
    (l.posts.items ++ posts_from (setup_of (contents l.world.scenario.now)) l.from l.stamp (length l.posts.items)
    (into_iter_items l.frame-iterator)
    ≡ posts_from (setup_of (contents l.world.scenario.now)) l.from l.stamp 0 (into_iter_items l.initial.frame-iterator))
    × (list_all (stands (setup_of (contents l.world.scenario.now))) (into_iter_items l.frame-iterator) ≡ true)
    × (into_iter_len l.frame-iterator ≡ length (into_iter_items l.frame-iterator))
