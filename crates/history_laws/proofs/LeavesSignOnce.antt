-- No leaf signs twice: of two entries of one list one comes before the other, and the leaves of the later one begin where those
-- of all before it end.
use Rattle.std.proofs.Common.{◌≡◌, ◌+◌, ◌≤◌, List, ◌∷◌, length, sym, ◌∙◌, ap, inl, inr, arith}
use Rattle.history_rules.specs.Events.{Entry}
use Rattle.history_rules.specs.Setup.{Setup, leaves_used}
use Rattle.history_rules.specs.Leaves.{leaves_for}
use Rattle.history_rules.specs.Legal.{Stands}
use Rattle.history_rules.proofs.Uncut.{used_then}
use Rattle.agreement.proofs.Places.{two_places}
use Rattle.history_laws.specs.Leaves.{LeafSignsOneGroup}

-- what an entry used was used before each later one
used_before : (w : Setup) (later before : List Entry) (d : Entry) → Stands later before d →
    leaves_used w before + leaves_for w.shared_leaves (length d.said) ≤ leaves_used w later
used_before w later before d s =
    let whole : leaves_used w later ≡ leaves_used w before + (leaves_for w.shared_leaves (length d.said)
    + leaves_used w s.after) = ap (leaves_used w) s.whole ∙ used_then w before (d ∷ s.after) in
    omega arith

pub leaf_signs_one_group : LeafSignsOneGroup
leaf_signs_one_group w history actor before later d e group other leaf at then signs again =
    let low = signs.there in
    let high = again.there in
    let first : leaf ≡ leaves_used w before + group = signs.next in
    let second : leaf ≡ leaves_used w later + other = again.next in
    elim (two_places before later d e at.after then.after (sym at.whole ∙ then.whole)) [
      | inl alike ↦
          let used : leaves_used w before ≡ leaves_used w later = ap (leaves_used w) alike.0 in
          (alike.0, alike.1, omega arith)
      | inr apart ↦ elim apart [
        | inl s ↦ let below = used_before w later before d s in absurd (omega arith)
        | inr s ↦ let below = used_before w before later e s in absurd (omega arith)
      ]
    ]
