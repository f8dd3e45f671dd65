-- What is computed of an example of the rules that stay alive, and what follows of it: that it is sound.
use Rattle.std.proofs.Common.{◌≡◌, ◌≤◌, ◌<◌, ℕ, zero, suc, true, List, [], ◌∷◌, ◌++◌, subst, sym, arith, inl, inr}
use Rattle.std.proofs.lemmas.Bool.{cases_lt}
use Rattle.plain_lists.specs.Lists.{IsIn, here}
use Rattle.plain_lists.proofs.Members.{in_left, in_right}
use Rattle.quorum_sets.specs.Masters.{numbers_below}
use Rattle.protocol_rules.specs.Group.{is_live}
use Rattle.protocol_rules.specs.Patience.{wait}
use Rattle.history_rules.specs.Events.{Entry}
use Rattle.history_rules.specs.Setup.{Setup}
use Rattle.history_rules.specs.Counts.{forged, alike, intruded_masters}
use Rattle.agreement.specs.Laws.{HasSizes, IsSound}
use Rattle.history_laws.proofs.Sound.{sound_by_counts}
use Rattle.history_examples.proofs.Entries.{each_may_come, legal_by_says}
use Rattle.history_examples.proofs.Computing.{computing}
use Rattle.progress_examples.proofs.Live.{live_answers, live_says, each_says_live, says_by_live}

-- `unfolding computing_live` opens all that the computation of an example goes through.
unfoldable pub computing_live : Unit {0}
unfolding computing wait is_live live_answers live_says
computing_live = tt

-- Each entry may come where it stands, and says what it is to say; and the counts are these.
pub record IsComputed (w : Setup) (history : List Entry) (masters : ℕ) : Type 0 where
  pub live : is_live w.group ≡ true
  pub come : each_may_come w [] history ≡ true
  pub say : each_says_live w [] history ≡ true
  pub intruded : intruded_masters w ≡ masters
  pub forged : forged w history ≡ 0
  pub alike : alike w.group history ≡ 0

pub is_sound : (w : Setup) (history : List Entry) (masters : ℕ) → HasSizes w.group → masters ≤ w.group.f →
    IsComputed w history masters → IsSound w history
is_sound w history masters sizes few c =
    sound_by_counts w history (legal_by_says w history c.come (says_by_live w [] history c.live c.say)) sizes
    (subst (λ (m : ℕ). m ≤ w.group.f) (sym c.intruded) few) c.forged c.alike

-- each number below is among the numbers below
pub below_in : (n m : ℕ) → m < n → IsIn m (numbers_below n)
unfolding numbers_below
below_in zero m lt = absurd (omega arith)
below_in (suc n) m lt = elim (cases_lt m n) [
  | inl less ↦ in_left (n ∷ []) (below_in n m less)
  | inr not_less ↦
      let same : n ≡ m = omega arith in
      subst (λ (x : ℕ). IsIn m (numbers_below n ++ x ∷ [])) (sym same) (in_right (numbers_below n) (here []))
]
