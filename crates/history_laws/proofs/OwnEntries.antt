-- The places of an actor's own entries in a history.
use Rattle.std.proofs.Common.{◌≡◌, ℕ, ◌+◌, ◌<◌, Bool, true, false, cond, List, [], ◌∷◌, ◌++◌, length, filter, nat_eq}
use Rattle.std.proofs.Common.{nat_lt, refl, sym, ◌∙◌, ap, subst, arith, eqb-true}
use Rattle.std.proofs.lemmas.Bool.Decides.{Decides-ltb}
use Rattle.std.proofs.lemmas.List.{length-append}
use Rattle.plain_lists.specs.Lists.{IsIn}
use Rattle.plain_lists.proofs.Members.{none_in, in_filter_from}
use Rattle.history_rules.specs.Events.{Entry}
use Rattle.history_rules.specs.Setup.{Setup, own}
use Rattle.history_rules.specs.Keeping.{is_halted}
use Rattle.history_rules.specs.Legal.{says_in, TakesWell, Stands, IsLegalEntry, IsLegal}
use Rattle.agreement.proofs.Places.{heads_same, tails_same, stands_behind, stands_on, stands_in}
use Rattle.agreement.proofs.KnownAsItGrows.{own-append, own_first}
use Rattle.history_laws.proofs.Forged.{in_of_stands}
use Rattle.history_laws.specs.Own.{IsOwnEntry, IsOwnHistory}
use Rattle.history_rules.proofs.Entries.{all_from}

-- an entry of a history stands among its actor's own ones behind those of the history before it
pub own_stands : {history before : List Entry} {e : Entry} → Stands history before e
    → Stands (own history e.actor) (own before e.actor) e
own_stands {history} {before} {e} s = record {
  after = own s.after e.actor;
  whole = ap (λ (xs : List Entry). own xs e.actor) s.whole ∙ own-append before (e ∷ s.after) e.actor
      ∙ ap (λ (zs : List Entry). own before e.actor ++ zs) (own_first e s.after e.actor refl);
}

-- what stands in a filtered list stands in the whole one, behind just what is left before it
pub place_in_whole : (f : Entry → Bool) (xs before : List Entry) (e : Entry) → Stands (filter f xs) before e
    → (front : List Entry) × Stands xs front e × (filter f front ≡ before)
place_in_whole f [] before e s = absurd (none_in (in_of_stands s))
place_in_whole f (x ∷ xs) before e s = by (λ rest t. place_in_whole f xs rest e t) (f x) refl before s
  where
    by : ((rest : List Entry) → Stands (filter f xs) rest e → (front : List Entry) × Stands xs front e
        × (filter f front ≡ rest))
        → (b : Bool) → f x ≡ b → (before : List Entry) → Stands (cond (f x) (x ∷ filter f xs) (filter f xs)) before e
        → (front : List Entry) × Stands (x ∷ xs) front e × (filter f front ≡ before)
    by deeper true is [] t =
        let whole : x ∷ filter f xs ≡ e ∷ t.after =
        ap (λ c. cond c (x ∷ filter f xs) (filter f xs)) (sym is) ∙ t.whole in
        ([], record { after = xs; whole = ap (λ (z : Entry). z ∷ xs) (heads_same whole) }, refl)
    by deeper true is (y ∷ rest) t =
        let whole : x ∷ filter f xs ≡ y ∷ (rest ++ e ∷ t.after) =
        ap (λ c. cond c (x ∷ filter f xs) (filter f xs)) (sym is) ∙ t.whole in
        let found = deeper rest record { after = t.after; whole = tails_same whole } in (
          x ∷ found.0,
          stands_behind x found.1,
          ap (λ c. cond c (x ∷ filter f found.0) (filter f found.0)) is ∙ ap (λ (zs : List Entry). x ∷ zs) found.2
              ∙ ap (λ (z : Entry). z ∷ rest) (heads_same whole),
        )
    by deeper false is before t =
        let whole : filter f xs ≡ before ++ e ∷ t.after =
        ap (λ c. cond c (x ∷ filter f xs) (filter f xs)) (sym is) ∙ t.whole in
        let found = deeper before record { after = t.after; whole = whole } in
        (x ∷ found.0, stands_behind x found.1, ap (λ c. cond c (x ∷ filter f found.0) (filter f found.0)) is ∙ found.2)

-- the entries before a legal one bear lower stamps
stamps_below : (w : Setup) (history before : List Entry) (e : Entry) → IsLegal w history → Stands history before e
    → (b : Entry) → IsIn b before → b.stamp < e.stamp
stamps_below w history before e legal s b h =
    let place = stands_in before h in
    let its : b.stamp ≡ length place.0 =
    (legal.entries place.0 b (subst (λ (xs : List Entry). Stands xs place.0 b) (sym s.whole)
    (stands_on (e ∷ s.after) place.1))).stamp in
    let last : e.stamp ≡ length before = (legal.entries before e s).stamp in
    let long : length before ≡ length place.0 + length (b ∷ place.1.after) = ap length place.1.whole
    ∙ length-append place.0 (b ∷ place.1.after) in
    omega arith

pub own_of_legal : (w : Setup) (history : List Entry) (actor : ℕ) → IsLegal w history
    → IsOwnHistory w actor (own history actor)
unfolding own
own_of_legal w history actor legal = record { entries = λ before e s. entry before e s }
  where
    entry : (before : List Entry) (e : Entry) → Stands (own history actor) before e → IsOwnEntry w actor before e
    entry before e s =
        let place = place_in_whole (λ (x : Entry). nat_eq x.actor actor) history before e s in
        let may : IsLegalEntry w place.0 e = legal.entries place.0 e place.1 in
        let by : e.actor ≡ actor =
        eqb-true e.actor actor (in_filter_from (λ (x : Entry). nat_eq x.actor actor) history (in_of_stands s)).1 in
        let same : own place.0 e.actor ≡ before = ap (own place.0) by ∙ place.2 in
        record {
          by = by;
          later = all_from (λ b. nat_lt b.stamp e.stamp) before (λ b h.
              (Decides-ltb b.stamp e.stamp).1 (stamps_below w history place.0 e legal place.1 b
              (in_filter_from (λ (x : Entry). nat_eq x.actor actor) place.0
              (subst (λ (xs : List Entry). IsIn b xs) (sym place.2) h)).0));
          running = (λ i. is_halted w (sym by i) (sym same i)) ∙ may.running;
          role = ap (λ a. w.fits a e.event) (sym by) ∙ may.role;
          taken = subst (λ now. TakesWell w now e.event) (sym may.stamp) may.taken;
          said = may.said ∙ (λ i. says_in w (by i) (same i) e.event);
        }
