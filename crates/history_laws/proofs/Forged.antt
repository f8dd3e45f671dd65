-- No word counts as forged exactly where nothing is forged.
use Rattle.std.proofs.Common.{◌≡◌, ◌↔◌, ℕ, Bool, true, false, ◌&&◌, not, cond, List, [], ◌∷◌, ◌++◌, length, filter}
use Rattle.std.proofs.Common.{refl, sym, ap, subst, inl, inr, append_assoc, nat_eq, arith}
use Rattle.std.proofs.lemmas.Bool.{false≢true, and_parts, eqb-true, eq-eqb, cases_Bool}
use Rattle.std.proofs.lemmas.List.{append-nil, nil_from_length}
use Rattle.std.specs.List.{list_any}
use Rattle.plain_lists.specs.Lists.{IsIn, here, there}
use Rattle.plain_lists.proofs.Members.{none_in, in_first, in_filter, any_from, any_in}
use Rattle.message_types.specs.declared.signed.Signed.{Signed}
use Rattle.message_types.specs.declared.body.Body.{Body}
use Rattle.history_rules.specs.Events.{Entry}
use Rattle.history_rules.specs.Setup.{Setup, is_correct}
use Rattle.history_rules.specs.Legal.{Stands}
use Rattle.history_rules.specs.Audit.{HasSaid, parts_taken, NothingForged}
use Rattle.history_rules.specs.Sameness.{is_same_body}
use Rattle.history_rules.specs.Counts.{has_said, is_forged, forged_from, forged}
use Rattle.history_laws.proofs.Same.{body_test}
use Rattle.agreement.proofs.Places.{tails_same, heads_same, stands_behind, stands_in}

pub in_of_stands : {history before : List Entry} {e : Entry} → Stands history before e → IsIn e history
in_of_stands {before = before} {e} s = subst (λ (xs : List Entry). IsIn e xs) (sym s.whole) (in_first before s.after)

pub has_said_from : (before : List Entry) (actor : ℕ) (b : Body) → has_said before actor b ≡ true →
    HasSaid before actor b
has_said_from before actor b said =
    let found = any_from (λ e. nat_eq e.actor actor && list_any (is_same_body b) e.said) before said in
    let both = and_parts (nat_eq found.0.actor actor) (list_any (is_same_body b) found.0.said) found.2 in
    let word = any_from (is_same_body b) found.0.said both.1 in
    let place = stands_in before found.1 in
    record {
      before = place.0;
      entry = found.0;
      place = place.1;
      by = eqb-true found.0.actor actor both.0;
      among = subst (λ (x : Body). IsIn x found.0.said) (sym ((body_test b word.0).0 word.2)) word.1;
    }

pub has_said_of : (before : List Entry) (actor : ℕ) (b : Body) → HasSaid before actor b → has_said before actor b ≡ true
has_said_of before actor b h =
    let by : nat_eq h.entry.actor actor ≡ true = eq-eqb h.entry.actor actor h.by in
    let among : list_any (is_same_body b) h.entry.said ≡ true =
    any_in (is_same_body b) h.among ((body_test b b).1 refl) in
    any_in (λ e. nat_eq e.actor actor && list_any (is_same_body b) e.said) (in_of_stands h.place) (λ i. by i && among i)

-- a filter that keeps nothing
kept_by : {X : Type 0} (x : X) (ys : List X) (b : Bool) → b ≡ false → ys ≡ [] → cond b (x ∷ ys) ys ≡ []
kept_by x ys true e none = absurd (false≢true (sym e))
kept_by x ys false e none = none

pub filter_none : {X : Type 0} (f : X → Bool) (xs : List X) → ((x : X) → IsIn x xs → f x ≡ false) → filter f xs ≡ []
filter_none f [] all = refl
filter_none f (x ∷ xs) all =
    kept_by x (filter f xs) (f x) (all x (here xs)) (filter_none f xs (λ y h. all y (there x xs h)))

none_filtered : {X : Type 0} (f : X → Bool) (x : X) (xs : List X) → length (filter f xs) ≡ 0 → IsIn x xs → f x ≡ false
none_filtered {X} f x xs none h = elim (cases_Bool (f x)) [
  | inl t ↦ absurd (none_in (subst (λ (ys : List X). IsIn x ys) (nil_from_length (filter f xs) none) (in_filter f h t)))
  | inr t ↦ t
]

none_forged : (w : Setup) (seen rest : List Entry) → forged_from w seen rest ≡ 0
    → (before : List Entry) (e : Entry) → Stands rest before e → (p : Signed Body) → IsIn p (parts_taken e) →
    is_forged w (seen ++ before) p ≡ false
none_forged w seen [] none before e s p h = absurd (none_in (in_of_stands s))
none_forged w seen (x ∷ rest) none [] e s p h =
    subst (λ (bs : List Entry). is_forged w bs p ≡ false) (sym (append-nil seen))
    (none_filtered (is_forged w seen) p (parts_taken x) (omega arith)
    (subst (λ (z : Entry). IsIn p (parts_taken z)) (sym (heads_same s.whole)) h))
none_forged w seen (x ∷ rest) none (y ∷ before) e s p h =
    let later : is_forged w ((seen ++ x ∷ []) ++ before) p ≡ false =
    none_forged w (seen ++ x ∷ []) rest (omega arith) before e record {
      after = s.after;
      whole =
          tails_same s.whole;
    } p h in
    subst (λ (z : Entry). is_forged w (seen ++ z ∷ before) p ≡ false) (heads_same s.whole)
    (subst (λ (bs : List Entry). is_forged w bs p ≡ false) (append_assoc seen (x ∷ []) before) later)

forged_none : (w : Setup) (seen rest : List Entry)
    → ((before : List Entry) (e : Entry) → Stands rest before e → (p : Signed Body) → IsIn p (parts_taken e) →
    is_forged w (seen ++ before) p ≡ false)
    → forged_from w seen rest ≡ 0
forged_none w seen [] all = refl
forged_none w seen (x ∷ rest) all =
    let now : length (filter (is_forged w seen) (parts_taken x)) ≡ 0 =
    ap length (filter_none (is_forged w seen) (parts_taken x)
    (λ p h. subst (λ (bs : List Entry). is_forged w bs p ≡ false) (append-nil seen)
    (all [] x record { after = rest; whole = refl } p h))) in
    let later : forged_from w (seen ++ x ∷ []) rest ≡ 0 =
    forged_none w (seen ++ x ∷ []) rest (λ before e s p h. subst (λ (bs : List Entry). is_forged w bs p ≡ false)
    (sym (append_assoc seen (x ∷ []) before)) (all (x ∷ before) e (stands_behind x s) p h)) in
    omega arith

borne_out : (correct said : Bool) → (correct && not said) ≡ false → correct ≡ true → said ≡ true
borne_out true true e right = refl
borne_out true false e right = absurd (false≢true (sym e))
borne_out false said e right = absurd (false≢true right)

not_forged : (correct said : Bool) → (correct ≡ true → said ≡ true) → (correct && not said) ≡ false
not_forged true true h = refl
not_forged true false h = absurd (false≢true (h refl))
not_forged false said h = refl

pub forged_counts : (w : Setup) (history : List Entry) → (forged w history ≡ 0) ↔ NothingForged w history
forged_counts w history = (
  (λ none. record {
    said = λ before e s p h right. has_said_from before p.signer p.body
        (borne_out (is_correct w p.signer) (has_said before p.signer p.body)
        (none_forged w [] history none before e s p h) right);
  }),
  (λ unforged. forged_none w [] history
      (λ before e s p h. not_forged (is_correct w p.signer) (has_said before p.signer p.body)
      (λ right. has_said_of before p.signer p.body (unforged.said before e s p h right)))),
)
