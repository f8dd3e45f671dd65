-- That a value leaves an alarm's limit is decided as the definition says, for each kind of alarm. One rule at a
-- time, a new value settles the next state and tells the next change.
use Rattle.std.proofs.Common.{◌≡◌, ◌<◌, ℕ, zero, suc, true, List, [], ◌∷◌, ◌++◌, length, take, drop, get_or, set}
use Rattle.std.proofs.Common.{refl, ap, arith, ℤ, ◌+ℤ◌, ◌-ℤ◌}
use Rattle.std.specs.Option.{option_to_list}
use lib.Signed.{lt_z}
use Rattle.alarm_rules.specs.declared.alarm.AlarmRule.{AlarmRule}
use Rattle.alarm_rules.specs.declared.alarm.AlarmKind.TheVariants.{High, Low}
use Rattle.alarm_rules.specs.declared.alarm.AlarmState.{AlarmState}
use Rattle.alarm_rules.specs.Alarm.{leaves}
use Rattle.alarm_rules.specs.Board.{seen, state_after, changes, change, is_raised_at}

pub leaves-High : (r : AlarmRule) (v a b : ℤ) → a ≡ v → b ≡ r.limit -ℤ r.band → r.kind ≡ High → lt_z a b ≡ leaves r v
leaves-High r v a b e f k = rw k (rw e (rw f refl))

pub leaves-Low : (r : AlarmRule) (v a b : ℤ) → a ≡ v → b ≡ r.limit +ℤ r.band → r.kind ≡ Low → lt_z b a ≡ leaves r v
leaves-Low r v a b e f k = rw k (rw e (rw f refl))

-- what is raised is there
pub raised_within : (ss : List AlarmState) (i : ℕ) → is_raised_at ss i ≡ true → i < length ss
raised_within [] i h = absurd (cc)
raised_within (s ∷ ss) zero h = omega arith
raised_within (s ∷ ss) (suc i) h = let below = raised_within ss i h in omega arith

-- one more state is settled
pub settle_step : (p : ℕ) (v : ℤ) (rs : List AlarmRule) (ss : List AlarmState) (i : ℕ) (r : AlarmRule)
    (s : AlarmState) → i < length rs → i < length ss → r ≡ get_or rs i r → s ≡ get_or ss i s
    → take (suc i) (set ss i (state_after p v r s)) ++ seen p v (drop (suc i) rs)
    (drop (suc i) (set ss i (state_after p v r s))) ≡ take i ss ++ seen p v (drop i rs) (drop i ss)
settle_step p v [] ss i r s low high at on = absurd (omega arith)
settle_step p v (q ∷ rs) [] i r s low high at on = absurd (omega arith)
settle_step p v (q ∷ rs) (t ∷ ss) zero r s low high at on = let there : r ≡ q = at in let state : s ≡ t =
    on in rw (there, state) refl
settle_step p v (q ∷ rs) (t ∷ ss) (suc i) r s low high at on =
    ap (λ (rest : List AlarmState). t ∷ rest) (settle_step p v rs ss i r s (omega arith) (omega arith) at on)

-- one more alarm has told its change
pub told_step : (p : ℕ) (v : ℤ) (rs : List AlarmRule) (ss : List AlarmState) (i n : ℕ) (r : AlarmRule)
    (s : AlarmState) → i < length rs → i < length ss → r ≡ get_or rs i r → s ≡ get_or ss i s
    → changes p v n (drop i rs) (drop i ss) ≡ option_to_list (change p v n r s)
    ++ changes p v (suc n) (drop (suc i) rs) (drop (suc i) ss)
told_step p v [] ss i n r s low high at on = absurd (omega arith)
told_step p v (q ∷ rs) [] i n r s low high at on = absurd (omega arith)
told_step p v (q ∷ rs) (t ∷ ss) zero n r s low high at on = let there : r ≡ q = at in let state : s ≡ t =
    on in rw (there, state) refl
told_step p v (q ∷ rs) (t ∷ ss) (suc i) n r s low high at on =
    told_step p v rs ss i n r s (omega arith) (omega arith) at on
