-- An `and` that would bring more than 64 nodes has no state after it, by the definition as by the code.
use Rattle.std.proofs.Common.{◌≡◌, ◌<◌, ◌+◌, nat_le, Bool, true, false, ◌&&◌, if◌then◌else◌, Option, None, Some, not}
use Rattle.std.proofs.Common.{refl, is_none, is_some}
use Rattle.std.proofs.lemmas.Bool.{lt-leb}
use Rattle.interlocks.specs.declared.reader.State.{State}
use Rattle.interlocks.specs.Desk.{Desk}
use Rattle.interlocks.specs.Part.{Part}
use Rattle.interlocks.specs.Reading.{after_and, one_if}

none_unless : (a b : Bool) (x : Option State) → a ≡ false → (if a && b then x else None) ≡ None
none_unless true b x h = absurd (cc)
none_unless false b x h = refl

-- an `and` has no room where the nodes are used up
pub after_and-full : (d : Desk) (p : Part) → 64 < d.nodes + one_if (is_none d.scope.all) → after_and d p ≡ None
after_and-full d p h = none_unless (nat_le (d.nodes + one_if (is_none d.scope.all)) 64) _ _ (lt-leb _ _ h)

-- what `is_none` says, by `is_some`
pub none_is : (o : Option Part) (b : Bool) → is_some o ≡ not b → b ≡ is_none o
none_is None true h = refl
none_is None false h = absurd (cc)
none_is (Some p) true h = absurd (cc)
none_is (Some p) false h = refl
