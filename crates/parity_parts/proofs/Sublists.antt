-- What holds of parts holds of some of them: of those at the front, of all but one, of those that pass a test, of the
-- first.
use Rattle.std.proofs.Common.{◌≡◌, ◌≢◌, ◌≤◌, ◌++◌, ℕ, zero, suc, Bool, true, false, cond, List, [], ◌∷◌, take}
use Rattle.std.proofs.Common.{◌-◌, ◌∙◌, ap, drop, get_or, length, refl, arith, sym, subst}
use Rattle.std.proofs.lemmas.List.{take_all}
use Rattle.std.specs.List.{AllByRecursion, filter}
use Rattle.parity_parts.specs.Parts.{AreDifferent, AreSmall, DiffersFrom, masters}
use Rattle.parity_parts.specs.Rebuilding.{CanBePart}
use Rattle.parity_parts.specs.declared.part.Part.{Part}

-- ---- Facts of each part.

pub all_front : (P : Part → Type 0) (a b : List Part) → AllByRecursion P (a ++ b) → AllByRecursion P a
all_front P [] b h = tt
all_front P (p ∷ a) b h = (h.0, all_front P a b h.1)

pub all_without : (P : Part → Type 0) (a : List Part) (p : Part) (b : List Part) → AllByRecursion P (a ++ p ∷ b)
    → AllByRecursion P (a ++ b)
all_without P [] p b h = h.1
all_without P (q ∷ a) p b h = (h.0, all_without P a p b h.1)

pub all_take : (P : Part → Type 0) (count : ℕ) (ps : List Part) → AllByRecursion P ps → AllByRecursion P (take count ps)
all_take P zero ps h = tt
all_take P (suc count) [] h = tt
all_take P (suc count) (p ∷ ps) h = (h.0, all_take P count ps h.1)

all_passing_step : (P : Part → Type 0) (passes : Bool) (p : Part) (ps : List Part) → P p → AllByRecursion P ps
    → AllByRecursion P (cond passes (p ∷ ps) ps)
all_passing_step P true p ps one all = (one, all)
all_passing_step P false p ps one all = all

pub all_passing : (P : Part → Type 0) (test : Part → Bool) (ps : List Part) → AllByRecursion P ps
    → AllByRecursion P (filter test ps)
all_passing P test [] h = tt
all_passing P test (p ∷ ps) h = all_passing_step P (test p) p (filter test ps) h.0 (all_passing P test ps h.1)

passing_step : (test : Part → Bool) (passes : Bool) (p : Part) (ps : List Part) → test p ≡ passes
    → AllByRecursion (λ q. test q ≡ true) ps → AllByRecursion (λ q. test q ≡ true) (cond passes (p ∷ ps) ps)
passing_step test true p ps is all = (is, all)
passing_step test false p ps is all = all

pub passing : (test : Part → Bool) (ps : List Part) → AllByRecursion (λ q. test q ≡ true) (filter test ps)
passing test [] = tt
passing test (p ∷ ps) = passing_step test (test p) p (filter test ps) refl (passing test ps)

-- ---- Different masters.

differs_front : (x : ℕ) (a b : List Part) → DiffersFrom x (masters (a ++ b)) → DiffersFrom x (masters a)
differs_front x [] b h = tt
differs_front x (p ∷ a) b h = (h.0, differs_front x a b h.1)

pub different_front : (a b : List Part) → AreDifferent (masters (a ++ b)) → AreDifferent (masters a)
different_front [] b h = tt
different_front (p ∷ a) b h = (differs_front p.master a b h.0, different_front a b h.1)

differs_without : (x : ℕ) (a : List Part) (p : Part) (b : List Part) → DiffersFrom x (masters (a ++ p ∷ b))
    → DiffersFrom x (masters (a ++ b))
differs_without x [] p b h = h.1
differs_without x (q ∷ a) p b h = (h.0, differs_without x a p b h.1)

pub different_without : (a : List Part) (p : Part) (b : List Part) → AreDifferent (masters (a ++ p ∷ b))
    → AreDifferent (masters (a ++ b))
different_without [] p b h = h.1
different_without (q ∷ a) p b h = (differs_without q.master a p b h.0, different_without a p b h.1)

differs_take : (x count : ℕ) (ps : List Part) → DiffersFrom x (masters ps) → DiffersFrom x (masters (take count ps))
differs_take x zero ps h = tt
differs_take x (suc count) [] h = tt
differs_take x (suc count) (p ∷ ps) h = (h.0, differs_take x count ps h.1)

pub different_take : (count : ℕ) (ps : List Part) → AreDifferent (masters ps) → AreDifferent (masters (take count ps))
different_take zero ps h = tt
different_take (suc count) [] h = tt
different_take (suc count) (p ∷ ps) h = (differs_take p.master count ps h.0, different_take count ps h.1)

differs_step : (x : ℕ) (passes : Bool) (p : Part) (ps : List Part) → (x ≢ p.master) → DiffersFrom x (masters ps)
    → DiffersFrom x (masters (cond passes (p ∷ ps) ps))
differs_step x true p ps one all = (one, all)
differs_step x false p ps one all = all

differs_passing : (x : ℕ) (test : Part → Bool) (ps : List Part) → DiffersFrom x (masters ps)
    → DiffersFrom x (masters (filter test ps))
differs_passing x test [] h = tt
differs_passing x test (p ∷ ps) h =
    differs_step x (test p) p (filter test ps) h.0 (differs_passing x test ps h.1)

different_step : (passes : Bool) (p : Part) (ps : List Part) → DiffersFrom p.master (masters ps)
    → AreDifferent (masters ps) → AreDifferent (masters (cond passes (p ∷ ps) ps))
different_step true p ps one all = (one, all)
different_step false p ps one all = all

pub different_passing : (test : Part → Bool) (ps : List Part) → AreDifferent (masters ps)
    → AreDifferent (masters (filter test ps))
different_passing test [] h = tt
different_passing test (p ∷ ps) h =
    different_step (test p) p (filter test ps) (differs_passing p.master test ps h.0) (different_passing test ps h.1)

-- ---- Small masters.

pub small_ones : (n f : ℕ) (ps : List Part) → n ≤ 16 → AllByRecursion (CanBePart n f) ps → AreSmall (masters ps)
small_ones n f [] h can = tt
small_ones n f (p ∷ ps) h can = let below = can.0.2.0 in (omega arith, small_ones n f ps h can.1)

-- ---- The first part and the rest.

pub first_and_rest : (ps : List Part) (p : Part) → 1 ≤ length ps → p ≡ get_or ps 0 p
    → ps ≡ p ∷ take (length ps - 1) (drop 1 ps)
first_and_rest [] p some is = absurd (omega arith)
first_and_rest (q ∷ qs) p some is =
    let less : length (q ∷ qs) - 1 ≡ length qs = omega arith in
    ap (λ (r : Part). r ∷ qs) (sym is) ∙ ap (λ (rs : List Part). p ∷ rs)
    (sym (ap (λ n. take n qs) less ∙ take_all (length qs) qs (omega arith)))

pub all_rest : (P : Part → Type 0) (chosen ps : List Part) (p : Part) → 1 ≤ length ps → p ≡ get_or ps 0 p
    → AllByRecursion P (chosen ++ ps) → AllByRecursion P (chosen ++ take (length ps - 1) (drop 1 ps))
all_rest P chosen ps p some is all =
    all_without P chosen p (take (length ps - 1) (drop 1 ps))
    (subst (λ (qs : List Part). AllByRecursion P (chosen ++ qs)) (first_and_rest ps p some is) all)

pub different_rest : (chosen ps : List Part) (p : Part) → 1 ≤ length ps → p ≡ get_or ps 0 p
    → AreDifferent (masters (chosen ++ ps)) → AreDifferent (masters (chosen ++ take (length ps - 1) (drop 1 ps)))
different_rest chosen ps p some is different =
    different_without chosen p (take (length ps - 1) (drop 1 ps))
    (subst (λ (qs : List Part). AreDifferent (masters (chosen ++ qs))) (first_and_rest ps p some is) different)
