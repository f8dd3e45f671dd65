-- What contracts see of a node.
use Rattle.std.specs.Prelude.{◌≡◌, Bool, false}
use Rattle.master_node.specs.declared.running.Running.{Running}
use Rattle.master_node.specs.Running.{IsSomeRunning}

-- its state, and whether memory ran out under it
pub record NodeState : Type 0 where
  pub running : Running
  pub is_spent : Bool

-- unless it is spent, its state is that of some master after some events
abbrev pub IsWorking : NodeState → Type 0
IsWorking node = node.is_spent ≡ false → IsSomeRunning node.running
