-- The greatest number ordered, and whether there is a gap below it.
use Rattle.std.proofs.Common.{◌≡◌, ℕ, zero, suc, ◌+◌, ◌≤◌, ◌<◌, ◌⊎◌, inl, inr, max, Bool, true, false, cond, ◌&&◌}
use Rattle.std.proofs.Common.{◌||◌, List, Option, Some, None, is_some, nat_eq, nat_lt, refl, sym, ◌∙◌, ap, arith}
use Rattle.std.proofs.Common.{true≢false}
use Rattle.std.specs.List.{list_any}
use Rattle.std.specs.Option.{option_map}
use Rattle.std.proofs.lemmas.Bool.{cases_lt, lt-ltb, le-ltb, eq-eqb}
use Rattle.std.proofs.Math.Bool.{or-true, and-false}
use Rattle.indexmap.specs.IndexMap.{get}
use Rattle.message_types.specs.Digests.{digest_of_rows}
use Rattle.protocol_rules.specs.declared.facts.OrderFact.{OrderFact}
use Rattle.protocol_rules.specs.Group.{Group, most_number}
use Rattle.protocol_rules.specs.Words.{or_else, numbers_from}
use Rattle.protocol_rules.specs.Order.{ordered, gapless}
use Rattle.protocol_rules.specs.Master.{gap_of}
use Rattle.global_order.specs.Index.{Map, HasHighest, KeepsOrders, RisesTo, TakesOrder, order_in, ordered_in}
use Rattle.global_order.proofs.Booleans.{nat_eq-same}

pub rises-max : (s h : ℕ) → s ≤ most_number → RisesTo (nat_eq s) h (max h s)
rises-max s h le = record {
  from = omega arith;
  limit = λ limit. omega arith;
  one_of = by (cases_lt h s);
  covers = λ t pass limit. let same : s ≡ t = nat_eq-same s t pass in omega arith;
}
  where
    by : (h < s) ⊎ (s ≤ h) → (max h s ≡ h) ⊎ (nat_eq s (max h s) ≡ true)
    by (inl less) = let is : max h s ≡ s = omega arith in inr (eq-eqb s (max h s) (sym is))
    by (inr more) = inl (omega arith)

pub rises-beyond : (s h : ℕ) → most_number < s → RisesTo (nat_eq s) h h
rises-beyond s h beyond = record {
  from = omega arith;
  limit = λ limit. limit;
  one_of = inl refl;
  covers = λ t pass limit. let same : s ≡ t = nat_eq-same s t pass in absurd (omega arith);
}

-- the greatest number stays the greatest, where it rises to those that take a digest
pub highest-takes : (passes : ℕ → Bool) (d : List ℕ) (old new : Map ℕ (Option (List ℕ))) (h raised : ℕ) →
    TakesOrder passes d old new → RisesTo passes h raised →
    HasHighest (λ s. order_in (get nat_eq old s)) h → HasHighest (λ s. order_in (get nat_eq new s)) raised
highest-takes passes d old new h raised takes rises has = record {
  limit = rises.limit has.limit;
  there = λ low. ap is_some (takes.order raised) ∙ there (passes raised) refl (order_in (get nat_eq old raised))
      low rises.one_of;
  above = λ s high le. takes.order s ∙ above s (passes s) refl high le;
}
  where
    some : (o : Option (List ℕ)) → is_some (or_else o (Some d)) ≡ true
    some None = refl
    some (Some x) = refl

    there : (b : Bool) → passes raised ≡ b → (o : Option (List ℕ)) → 1 ≤ raised →
        (raised ≡ h) ⊎ (passes raised ≡ true) →
        is_some (cond b (or_else (order_in (get nat_eq old raised)) (Some d)) (order_in (get nat_eq old raised))) ≡ true
    there true e o low which = some (order_in (get nat_eq old raised))
    there false e o low (inr pass) = absurd (true≢false (sym pass ∙ e))
    there false e o low (inl same) = ap (λ s. is_some (order_in (get nat_eq old s))) same ∙ has.there (omega arith)

    above : (s : ℕ) (b : Bool) → passes s ≡ b → raised < s → s ≤ most_number →
        cond b (or_else (order_in (get nat_eq old s)) (Some d)) (order_in (get nat_eq old s)) ≡ None
    above s true e high le = let within : s ≤ raised = rises.covers s e le in absurd (omega arith)
    above s false e high le = has.above s (omega (arith, rises.from)) le

pub highest-kept : (old new : Map ℕ (Option (List ℕ))) (h : ℕ) → KeepsOrders old new →
    HasHighest (λ s. order_in (get nat_eq old s)) h → HasHighest (λ s. order_in (get nat_eq new s)) h
highest-kept old new h keeps has = record {
  limit = has.limit;
  there = λ low. ap is_some (keeps.order h) ∙ has.there low;
  above = λ s high le. keeps.order s ∙ has.above s high le;
}

none-above : (p : ℕ → Bool) (start count : ℕ) → ((s : ℕ) → start ≤ s → s < start + count → p s ≡ false) →
    list_any p (numbers_from start count) ≡ false
unfolding numbers_from
none-above p start zero none = refl
none-above p start (suc count) none =
    (λ i. none start (omega arith) (omega arith) i || none-above p (suc start) count
    (λ s low high. none s (omega arith) (omega arith)) i)

one-above : (p : ℕ → Bool) (h start count : ℕ) → p h ≡ true → start ≤ h → h < start + count →
    list_any p (numbers_from start count) ≡ true
unfolding numbers_from
one-above p h start zero pass le within = absurd (omega arith)
one-above p h start (suc count) pass le within =
    on (cases_lt start h) (λ less. one-above p h (suc start) count pass less (omega arith))
  where
    on : (start < h) ⊎ (h ≤ start) → (suc start ≤ h → list_any p (numbers_from (suc start) count) ≡ true) →
        (p start || list_any p (numbers_from (suc start) count)) ≡ true
    on (inl less) more = ap (λ b. p start || b) (more less) ∙ or-true (p start)
    on (inr le_h) more = let same : h ≡ start = omega arith in
        ap (λ b. b || list_any p (numbers_from (suc start) count)) (ap p (sym same) ∙ pass)

-- a number above `low` passes exactly where the greatest is above it
any-above : (f : ℕ → Option (List ℕ)) (h low : ℕ) (p : ℕ → Bool) → ((s : ℕ) → p s ≡ (nat_lt low s && is_some (f s))) →
    HasHighest f h → list_any p (numbers_from 1 most_number) ≡ nat_lt low h
any-above f h low p is has = by (cases_lt low h)
  where
    none : h ≤ low → (s : ℕ) → (low < s) ⊎ (s ≤ low) → s ≤ most_number → p s ≡ false
    none le s (inl above) within = is s ∙ (λ i. nat_lt low s && is_some (has.above s (omega arith) within i))
        ∙ and-false (nat_lt low s)
    none le s (inr below) within = is s ∙ ap (λ b. b && is_some (f s)) (le-ltb low s below)

    by : (low < h) ⊎ (h ≤ low) → list_any p (numbers_from 1 most_number) ≡ nat_lt low h
    by (inl less) =
        let there : is_some (f h) ≡ true = has.there (omega arith) in
        let pass : p h ≡ true = is h ∙ (λ i. lt-ltb low h less i && there i) in
        one-above p h 1 most_number pass (omega arith) (omega (arith, has.limit)) ∙ sym (lt-ltb low h less)
    by (inr le) = none-above p 1 most_number (λ s low_is high. none le s (cases_lt low s) (omega arith))
        ∙ sym (le-ltb low h le)

gap-is : (g : Group) (facts : List OrderFact) (held : ℕ → Option (List ℕ)) (reach h : ℕ) →
    ((s : ℕ) → held s ≡ ordered_in g facts s) → reach ≡ gapless g facts → HasHighest held h →
    cond (nat_lt (reach + 1) h) (Some (reach + 1)) None ≡ gap_of g facts
gap-is g facts held reach h same reached has =
    (λ i. cond (nat_lt (reached i + 1) h) (Some (reached i + 1)) None)
    ∙ ap (λ b. cond b (Some (gapless g facts + 1)) None)
    (sym (any-above held h (gapless g facts + 1) _
    (λ s. ap (λ b. nat_lt (gapless g facts + 1) s && b) (by (ordered g facts s) ∙ sym (ap is_some (same s)))) has))
  where
    by : (o : Option (List (List ℕ))) → (elim o [ None ↦ false | Some rows ↦ true ]) ≡ is_some
        (option_map digest_of_rows o)
    by None = refl
    by (Some rows) = refl

pub gap-some : (g : Group) (facts : List OrderFact) (held : ℕ → Option (List ℕ)) (reach h : ℕ) →
    ((s : ℕ) → held s ≡ ordered_in g facts s) → reach ≡ gapless g facts → HasHighest held h → reach + 1 < h →
    Some (reach + 1) ≡ gap_of g facts
gap-some g facts held reach h same reached has less =
    ap (λ b. cond b (Some (reach + 1)) None) (sym (lt-ltb (reach + 1) h less))
    ∙ gap-is g facts held reach h same reached has

pub gap-none : (g : Group) (facts : List OrderFact) (held : ℕ → Option (List ℕ)) (reach h : ℕ) →
    ((s : ℕ) → held s ≡ ordered_in g facts s) → reach ≡ gapless g facts → HasHighest held h →
    h ≤ reach + 1 → None ≡ gap_of g facts
gap-none g facts held reach h same reached has le =
    ap (λ b. cond b (Some (reach + 1)) None) (sym (le-ltb (reach + 1) h le))
    ∙ gap-is g facts held reach h same reached has
