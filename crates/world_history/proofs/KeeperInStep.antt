-- A keeper goes with its actor's list, call by call: while none of the actor's calls failed, the next one fails where
-- the actor is halted at it.
use Rattle.std.proofs.Common.{◌≡◌, ℕ, zero, suc, ◌+◌, ◌<◌, ◌^◌, Bool, true, false, cond, ◌&&◌, ◌||◌, List, [], ◌∷◌}
use Rattle.std.proofs.Common.{◌++◌, length, nat_le, nat_eq, refl, sym, ◌∙◌, ap, subst, arith, length-append}
use Rattle.std.specs.List.{list_any, flat_map}
use Rattle.std.proofs.lemmas.List.{map-append}
use Rattle.std.proofs.lemmas.List.Concat.{flat_map-append}
use Rattle.std.proofs.lemmas.Bool.{false≢true}
use Rattle.std.proofs.lemmas.Bool.Decides.{nat_tests}
use Rattle.outside.specs.Shelf.{next_call}
use Rattle.outside.specs.Keepers.{Binder, call_fails, after_call, after_fault}
use Rattle.history_rules.specs.Events.{Entry, is_restart}
use Rattle.history_rules.specs.Setup.{Setup}
use Rattle.history_rules.specs.Keeping.{Reading, Append, calls_at, keeper_calls, is_halted}
use Rattle.entry_texts.specs.Texts.{kept_text}
use Rattle.world_history.specs.Lists.{before_last, texts_of}
use Rattle.world_history.specs.Keeping.{fails_within, calls_made, GoesWith, Appended, HasRead}
use Rattle.world_history.proofs.LastEntry.{before_grown}

or_false : (a b : Bool) → (a || b) ≡ false → (a ≡ false) × (b ≡ false)
or_false true b e = absurd (cc)
or_false false b e = (refl, e)

one_more : (x n : ℕ) → (nat_le 1 x && nat_le x n) ≡ false → (nat_le 1 x && nat_le x (suc n)) ≡ nat_eq (suc n) x
one_more x n none = grind (arith, nat_tests)

one_less : (x n : ℕ) → (nat_le 1 x && nat_le x (suc n)) ≡ false → (nat_le 1 x && nat_le x n) ≡ false
one_less x n none = grind (arith, nat_tests)

pub fails_more : (fs : List ℕ) (n : ℕ) → fails_within fs n ≡ false →
    fails_within fs (suc n) ≡ list_any (nat_eq (suc n)) fs
fails_more [] n none = refl
fails_more (x ∷ fs) n none =
    let both = or_false (nat_le 1 x && nat_le x n) (fails_within fs n) none in
    ap (λ b. b || fails_within fs (suc n)) (one_more x n both.0)
    ∙ ap (λ b. nat_eq (suc n) x || b) (fails_more fs n both.1)

pub fails_less : (fs : List ℕ) (n : ℕ) → fails_within fs (suc n) ≡ false → fails_within fs n ≡ false
fails_less [] n none = refl
fails_less (x ∷ fs) n none =
    let both = or_false (nat_le 1 x && nat_le x (suc n)) (fails_within fs (suc n)) none in
    ap (λ b. b || fails_within fs n) (one_less x n both.0) ∙ fails_less fs n both.1

pub none_failed : (fs : List ℕ) (n : ℕ) → fails_within fs n ≡ false → calls_made fs n ≡ n
none_failed fs zero none = refl
none_failed fs (suc n) none = ap (λ b. cond b (calls_made fs n) (suc n)) (fails_less fs n none)

-- up to one call more
pub one_call_more : (fs : List ℕ) (n : ℕ) → fails_within fs n ≡ false → calls_made fs (suc n) ≡ suc n
one_call_more fs n none = ap (λ b. cond b (calls_made fs n) (suc n)) none

-- a second call isn't made after one that failed
pub failed_call_last : (fs : List ℕ) (n : ℕ) → fails_within fs n ≡ false → fails_within fs (suc n) ≡ true →
    calls_made fs (suc (suc n)) ≡ suc n
failed_call_last fs n none failed = ap (λ b. cond b (calls_made fs (suc n)) (suc (suc n))) failed
    ∙ one_call_more fs n none

pub calls_grown : (list : List Entry) (e : Entry) →
    length (keeper_calls (list ++ e ∷ [])) ≡ length (keeper_calls list) + length (calls_at e)
calls_grown list e = omega (
  arith,
  ap length (flat_map-append calls_at list (e ∷ [])),
  length-append (keeper_calls list) (flat_map calls_at (e ∷ [])),
  length-append (calls_at e) [],
)

-- what fails within some calls fails within more
pub fails_on : (fs : List ℕ) (n : ℕ) → fails_within fs n ≡ true → fails_within fs (suc n) ≡ true
fails_on fs n failed = by (fails_within fs (suc n)) refl
  where
    by : (b : Bool) → fails_within fs (suc n) ≡ b → b ≡ true
    by true is = refl
    by false is = absurd (false≢true (sym (fails_less fs n is) ∙ failed))

-- A keeper that has had so many calls, of which none failed, with these entries.
pub record HasHad (w : Setup) (actor : ℕ) (list : List Entry) (n : ℕ) (k : Binder) : Type 0 where
  pub failing : k.failing ≡ w.failing actor
  pub calls : k.calls ≡ n
  pub none : fails_within (w.failing actor) n ≡ false
  pub entries : k.entries ≡ texts_of list

pub had_of_goes : (w : Setup) (actor : ℕ) (list : List Entry) (k : Binder) → is_halted w actor list ≡ false →
    GoesWith w actor list k
    → HasHad w actor list (length (keeper_calls list)) k
had_of_goes w actor list k running goes = record {
  failing = goes.failing;
  calls = goes.calls ∙ none_failed (w.failing actor) (length (keeper_calls list)) running;
  none = running;
  entries = goes.entries ∙ ap (λ b. texts_of (cond b (before_last list) list)) running;
}

pub one_append : (e : Entry) → is_restart e.event ≡ false → length (calls_at e) ≡ 1
one_append e other = ap (λ b. length (cond b (Reading ∷ Append ∷ []) (Append ∷ []))) other

pub read_and_append : (e : Entry) → is_restart e.event ≡ true → length (calls_at e) ≡ 2
read_and_append e restart = ap (λ b. length (cond b (Reading ∷ Append ∷ []) (Append ∷ []))) restart

next_is : (calls n : ℕ) → calls ≡ n → n < 2 ^ 63 → next_call calls ≡ suc n
next_is calls n is few = omega arith

pub next_fails : (w : Setup) (actor : ℕ) (list : List Entry) (n : ℕ) (k : Binder) → HasHad w actor list n k → n < 2 ^ 63
    → call_fails k ≡ fails_within (w.failing actor) (suc n)
next_fails w actor list n k had few =
    ap (λ x. list_any (nat_eq x) k.failing) (next_is k.calls n had.calls few)
    ∙ ap (λ (fs : List ℕ). list_any (nat_eq (suc n)) fs) had.failing
    ∙ sym (fails_more (w.failing actor) n had.none)

pub had_read : (w : Setup) (actor : ℕ) (list : List Entry) (n : ℕ) (k after : Binder) → HasHad w actor list n k →
    n < 2 ^ 63 → HasRead k true after
    → HasHad w actor list (suc n) after
had_read w actor list n k after had few read =
    let next : next_call k.calls ≡ suc n = next_is k.calls n had.calls few in
    let none : fails_within (w.failing actor) (suc n) ≡ false = sym (next_fails w actor list n k had few) ∙ read.0 in
    subst (λ (b : Binder). HasHad w actor list (suc n) b) (sym read.1)
    (record { failing = had.failing; calls = next; none = none; entries = had.entries })

-- the keeper of a list with one more entry, at which the actor is halted or not
goes_grown : (w : Setup) (actor : ℕ) (list : List Entry) (e : Entry) (k : Binder) (halted : Bool) →
    is_halted w actor (list ++ e ∷ []) ≡ halted
    → k.failing ≡ w.failing actor → k.calls ≡ calls_made (w.failing actor) (length (keeper_calls (list ++ e ∷ [])))
    → k.entries ≡ texts_of (cond halted list (list ++ e ∷ [])) → GoesWith w actor (list ++ e ∷ []) k
goes_grown w actor list e k halted is failing calls entries = record {
  failing = failing;
  calls = calls;
  entries = entries
      ∙ ap (λ (xs : List Entry). texts_of (cond halted xs (list ++ e ∷ []))) (sym (before_grown list e))
      ∙ ap (λ b. texts_of (cond b (before_last (list ++ e ∷ [])) (list ++ e ∷ []))) (sym is);
}

-- what becomes of list and keeper
pub record IsNext (w : Setup) (actor : ℕ) (list : List Entry) (e : Entry) (k : Binder) (halted : Bool) : Type 0 where
  pub keeper : GoesWith w actor (list ++ e ∷ []) k
  pub is : is_halted w actor (list ++ e ∷ []) ≡ halted

halted_at : (w : Setup) (actor : ℕ) (list : List Entry) (e : Entry) (n : ℕ) (b : Bool) →
    length (keeper_calls (list ++ e ∷ [])) ≡ n
    → fails_within (w.failing actor) n ≡ b → is_halted w actor (list ++ e ∷ []) ≡ b
halted_at w actor list e n b many is = ap (fails_within (w.failing actor)) many ∙ is

-- the entry was kept
pub next_kept : (w : Setup) (actor : ℕ) (list : List Entry) (e : Entry) (n : ℕ) (k after : Binder) →
    HasHad w actor list n k → n < 2 ^ 63
    → length (keeper_calls (list ++ e ∷ [])) ≡ suc n → Appended k (kept_text e) true after →
    IsNext w actor list e after false
next_kept w actor list e n k after had few many kept =
    let is = halted_at w actor list e (suc n) false many (sym (next_fails w actor list n k had few) ∙ kept.0) in
    let next : next_call k.calls ≡ suc n = next_is k.calls n had.calls few in
    let calls = next ∙ sym (one_call_more (w.failing actor) n had.none)
    ∙ ap (calls_made (w.failing actor)) (sym many) in
    record {
      keeper = subst (λ (b : Binder). GoesWith w actor (list ++ e ∷ []) b) (sym kept.1)
          (goes_grown w actor list e (record (after_call k) { entries = k.entries ++ kept_text e ∷ [] })
          false is had.failing calls
          (ap (λ (ts : List (List ℕ)). ts ++ kept_text e ∷ []) had.entries ∙ sym (map-append kept_text list (e ∷ []))));
      is = is;
    }

-- the append failed
pub next_not_kept : (w : Setup) (actor : ℕ) (list : List Entry) (e : Entry) (n : ℕ) (k after : Binder) →
    HasHad w actor list n k → n < 2 ^ 63
    → length (keeper_calls (list ++ e ∷ [])) ≡ suc n → Appended k (kept_text e) false after →
    IsNext w actor list e after true
next_not_kept w actor list e n k after had few many failed =
    let is = halted_at w actor list e (suc n) true many (sym (next_fails w actor list n k had few) ∙ failed.0) in
    let next : next_call k.calls ≡ suc n = next_is k.calls n had.calls few in
    let calls = next ∙ sym (one_call_more (w.failing actor) n had.none)
    ∙ ap (calls_made (w.failing actor)) (sym many) in
    record {
      keeper = subst (λ (b : Binder). GoesWith w actor (list ++ e ∷ []) b) (sym failed.1)
          (goes_grown w actor list e (after_fault k) true is had.failing calls had.entries);
      is = is;
    }

-- the reading before it failed
pub next_not_read : (w : Setup) (actor : ℕ) (list : List Entry) (e : Entry) (n : ℕ) (k after : Binder) →
    HasHad w actor list n k → n < 2 ^ 63
    → length (keeper_calls (list ++ e ∷ [])) ≡ suc (suc n) → HasRead k false after → IsNext w actor list e after true
next_not_read w actor list e n k after had few many failed =
    let first = sym (next_fails w actor list n k had few) ∙ failed.0 in
    let is = halted_at w actor list e (suc (suc n)) true many (fails_on (w.failing actor) (suc n) first) in
    let next : next_call k.calls ≡ suc n = next_is k.calls n had.calls few in
    let calls = next ∙ sym (failed_call_last (w.failing actor) n had.none first)
    ∙ ap (calls_made (w.failing actor)) (sym many) in
    record {
      keeper = subst (λ (b : Binder). GoesWith w actor (list ++ e ∷ []) b) (sym failed.1)
          (goes_grown w actor list e (after_fault k) true is had.failing calls had.entries);
      is = is;
    }
