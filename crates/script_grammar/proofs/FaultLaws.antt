-- Lists of parts, read one by one: what is read so far and what is left make what all say, where an actor who wasn't
-- there leaves only the question whether the form of what is left is right.
use Rattle.std.proofs.Common.{◌≡◌, ◌+◌, Bool, true, false, List, ◌++◌}
use Rattle.std.proofs.Common.{Result, Ok, Err, ap}
use Rattle.script_grammar.specs.declared.fault.LineRefusal.{LineRefusal}
use Rattle.script_grammar.specs.declared.fault.LineRefusal.TheVariants as fault
use Rattle.script_grammar.specs.Faults.{both, Answer}

-- what all say, after some were read
abbrev pub onward : {A : Type 0} → Bool → List A → Result (List A) LineRefusal → Result (List A) LineRefusal
onward false front (Ok rest) = Ok (front ++ rest)
onward false front (Err e) = Err e
onward true front (Ok rest) = Err fault.NoActor
onward true front (Err e) = Err e

pub both_read : {A B : Type 0} (a : Answer A) (b : Answer B) (p : A × B) → both a b ≡ Ok p → (a ≡ Ok p.0) × (b ≡ Ok p.1)
both_read (Ok x) (Ok y) p is = let same : (x, y) ≡ p = cc in (ap (λ q. Ok q.0) same, ap (λ q. Ok q.1) same)
both_read (Ok x) (Err e) p is = absurd (cc)
both_read (Err e) (Ok y) p is = absurd (cc)
both_read (Err e) (Err d) p is = absurd (cc)
