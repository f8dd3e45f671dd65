-- One moment more: what was kept of the moments before is what was shown before it, and at a tick that is a multiple of 4 what
-- is shown at it is kept.
use Rattle.std.proofs.Common.{◌≡◌, ℕ, ◌+◌, ◌-◌, ◌%◌, ◌<◌, ◌≤◌, Bool, true, false, cond, ◌&&◌, List, [], ◌∷◌, ◌++◌, filter}
use Rattle.std.proofs.Common.{length, reverse, get_or, nat_eq, refl, sym, ◌∙◌, ap, arith}
use Rattle.std.proofs.lemmas.List.{reverse-append, length-append}
use Rattle.std.proofs.lemmas.List.Elements.{filter-append}
use Rattle.protocol_rules.specs.Group.{Group}
use Rattle.protocol_rules.specs.Patience.{Moment, ticks_in}
use Rattle.protocol_rules.specs.Lacking.{before_fourth, shown_before}
use Rattle.summary_matrix.specs.declared.reach.Reach.{Reach}
use Rattle.lacking.specs.Earlier.{EarlierState, IsShownOf, TellsBelow, shown_first}

ticks-push : (moments : List Moment) (m : Moment) → ticks_in (moments ++ m ∷ []) ≡ ticks_in moments + cond m.is_tick 1 0
ticks-push moments m =
    ap length (filter-append (λ e. e.is_tick) moments (m ∷ []))
    ∙ length-append (filter (λ e. e.is_tick) moments) (filter (λ e. e.is_tick) (m ∷ []))
    ∙ ap (λ k. ticks_in moments + k) (by m.is_tick)
  where
    by : (b : Bool) → length (cond b (m ∷ []) []) ≡ cond b 1 0
    by true = refl
    by false = refl

ticks_before : (moments : List Moment) (m : Moment) (now : ℕ) → ticks_in (moments ++ m ∷ []) ≡ now →
    cond m.is_tick (now - 1) now ≡ ticks_in moments
ticks_before moments m now e = by m.is_tick (sym e ∙ ticks-push moments m)
  where
    by : (b : Bool) → now ≡ ticks_in moments + cond b 1 0 → cond b (now - 1) now ≡ ticks_in moments
    by true h = omega arith
    by false h = omega arith

first-is : (ms : List Moment) → (elim ms [ [] ↦ [] | m ∷ rest ↦ m.shown ]) ≡ shown_first ms
first-is [] = refl
first-is (m ∷ rest) = refl

turned : (moments : List Moment) (m : Moment) → reverse (moments ++ m ∷ []) ≡ m ∷ reverse moments
turned moments m = reverse-append moments (m ∷ [])

pub shown_told : (g : Group) (old new : EarlierState) (now : ℕ) (at_tick : Bool) (shown : List ℕ)
    (moments : List Moment) (m : Moment) → new.before ≡ old.latest →
    new.latest ≡ cond (at_tick && nat_eq (now % 4) 0) shown old.latest → ticks_in (moments ++ m ∷ []) ≡ now →
    m.is_tick ≡ at_tick → TellsBelow g.n shown m.shown → IsShownOf g old moments → IsShownOf g new (moments ++ m ∷ [])
shown_told g old new now at_tick shown moments m before latest ticks tick same is =
    record {
      latest = λ j lt. ap (λ (l : List ℕ). get_or l j 0) latest ∙ kept j lt (at_tick && nat_eq (now % 4) 0)
          ∙ sym (ap (λ (l : List ℕ). get_or l j 0) now_first);
      before = λ j lt. ap (λ (l : List ℕ). get_or l j 0) before ∙ is.latest j lt
          ∙ sym (ap (λ (l : List ℕ). get_or l j 0) then_first);
    }
  where
    earlier : List Moment
    earlier = before_fourth (ticks_in moments) (reverse moments)

    kept : (j : ℕ) → j < g.n → (b : Bool) →
        get_or (cond b shown old.latest) j 0 ≡ get_or (shown_first (cond b (m ∷ reverse moments) earlier)) j 0
    kept j lt true = same j lt
    kept j lt false = is.latest j lt

    now_first : shown_first (before_fourth (ticks_in (moments ++ m ∷ [])) (reverse (moments ++ m ∷ []))) ≡ shown_first
        (cond (at_tick && nat_eq (now % 4) 0) (m ∷ reverse moments) earlier)
    now_first =
        ap (λ t. shown_first (before_fourth t (reverse (moments ++ m ∷ [])))) ticks
        ∙ ap (λ ms. shown_first (before_fourth now ms)) (turned moments m)
        ∙ ap (λ b. shown_first (cond (b && nat_eq (now % 4) 0) (m ∷ reverse moments)
        (before_fourth (cond m.is_tick (now - 1) now) (reverse moments)))) tick
        ∙ ap (λ t. shown_first (cond (at_tick && nat_eq (now % 4) 0) (m ∷ reverse moments)
        (before_fourth t (reverse moments)))) (ticks_before moments m now ticks)

    then_first : shown_before (reverse (moments ++ m ∷ [])) (ticks_in (moments ++ m ∷ [])) ≡ shown_first earlier
    then_first =
        ap (shown_before (reverse (moments ++ m ∷ []))) ticks
        ∙ ap (λ ms. shown_before ms now) (turned moments m)
        ∙ first-is (before_fourth (cond m.is_tick (now - 1) now) (reverse moments))
        ∙ ap (λ t. shown_first (before_fourth t (reverse moments))) (ticks_before moments m now ticks)

pub none_shown : (g : Group) (kept : EarlierState) → ((j : ℕ) → j < 14 → get_or kept.latest j 0 ≡ 0)
    → ((j : ℕ) → j < 14 → get_or kept.before j 0 ≡ 0) → g.n ≤ 14 → IsShownOf g kept []
none_shown g kept latest before few =
    record { latest = λ j lt. latest j (omega arith); before = λ j lt. before j (omega arith) }

pub numbers_kept : (b : Bool) (r s : Reach) → (cond b r s).numbers ≡ cond b r.numbers s.numbers
numbers_kept true r s = refl
numbers_kept false r s = refl
