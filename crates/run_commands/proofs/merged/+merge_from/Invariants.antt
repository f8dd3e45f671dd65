-- Each call has one file less to load.
use Rattle.std.proofs.Common.{◌-◌, length}
use Rattle.run_commands.proofs.merged.+merge_from.Given as goal

abbrev pub decreases-merge_from : goal.decreases-merge_from
decreases-merge_from g l = length l.keeps.now - length l.loaded.items
