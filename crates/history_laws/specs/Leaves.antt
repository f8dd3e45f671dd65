-- Over a whole history no leaf of a one-time key signs two groups of bodies. (RFC 8554 section 9 asks for it; which leaf signs
-- which group is this project's own.)
use Rattle.std.specs.Prelude.{◌≡◌, ℕ, ◌+◌, ◌<◌, List, length}
use Rattle.history_rules.specs.Events.{Entry}
use Rattle.history_rules.specs.Setup.{Setup, own, leaves_used}
use Rattle.history_rules.specs.Leaves.{leaves_for}
use Rattle.history_rules.specs.Legal.{Stands}

-- The leaf signs group number `group` of what an actor said at an entry that came behind `before` among its own: the leaves
-- that its entries use follow one another.
pub record SignsGroup (w : Setup) (before : List Entry) (e : Entry) (group leaf : ℕ) : Type 0 where
  pub there : group < leaves_for w.shared_leaves (length e.said)
  pub next : leaf ≡ leaves_used w before + group

-- One leaf of an actor's key signs one group of one of its entries, whatever became of its keeper.
abbrev pub LeafSignsOneGroup : Type 0
LeafSignsOneGroup =
    (w : Setup) (history : List Entry) (actor : ℕ) (before later : List Entry) (d e : Entry) (group other leaf : ℕ)
    → Stands (own history actor) before d → Stands (own history actor) later e
    → SignsGroup w before d group leaf → SignsGroup w later e other leaf
    → (before ≡ later) × (d ≡ e) × (group ≡ other)
