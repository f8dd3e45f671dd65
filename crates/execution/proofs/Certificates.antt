-- One certificate more.
use Rattle.std.proofs.Common.{◌≡◌, ℕ, ◌<◌, Bool, true, false, cond, ◌&&◌, List, ◌∷◌, Option, Some, None, is_some}
use Rattle.std.proofs.Common.{nat_eq, refl, sym, ◌∙◌, ap, subst, arith}
use Rattle.std.specs.Map.{lookup}
use Rattle.std.proofs.lemmas.Bool.{and_parts, eqb-true}
use Rattle.message_types.specs.declared.updates.Update.{Update}
use Rattle.protocol_rules.specs.Words.{or_else}
use Rattle.protocol_rules.specs.Execution.{Request}
use Rattle.protocol_rules.specs.Keys.{same_pair}
use Rattle.execution.specs.Ran.{certificate, with_certificate}
use Rattle.execution.specs.Progress.{HasClients}

-- the certificates after are those before with one for a request that had none
pub record IsAdded (before after : List ((ℕ × ℕ) × Update)) (j k : ℕ) (u : Update) : Type 0 where
  pub none : lookup (same_pair (j, k)) before ≡ None
  pub each : (p : ℕ × ℕ) → lookup (same_pair p) after ≡ cond (same_pair (j, k) p) (Some u) (lookup (same_pair p) before)

found_alike : (certificates : List ((ℕ × ℕ) × Update)) (j k : ℕ) (r : Request) → same_pair (j, k) (r.j, r.k) ≡ true →
    certificate certificates r ≡ lookup (same_pair (j, k)) certificates
found_alike certificates j k r same =
    let both : (nat_eq j r.j ≡ true) × (nat_eq k r.k ≡ true) = and_parts (nat_eq j r.j) (nat_eq k r.k) same in
    ap (λ x. lookup (same_pair (x, r.k)) certificates) (sym (eqb-true j r.j both.0))
    ∙ ap (λ x. lookup (same_pair (j, x)) certificates) (sym (eqb-true k r.k both.1))

pub added-stays : (before after : List ((ℕ × ℕ) × Update)) (j k : ℕ) (u : Update) → IsAdded before after j k u →
    (r : Request) (v : Update) → certificate before r ≡ Some v → certificate after r ≡ Some v
added-stays before after j k u added r v found = by_place (same_pair (j, k) (r.j, r.k)) refl
  where
    by_place : (b : Bool) → same_pair (j, k) (r.j, r.k) ≡ b → certificate after r ≡ Some v
    by_place true e = let no : Some v ≡ None = sym found ∙ found_alike before j k r e ∙ added.none in absurd (cc)
    by_place false e = added.each (r.j, r.k) ∙ ap (λ b. cond b (Some u) (certificate before r)) e ∙ found

pub added-clients : (before after : List ((ℕ × ℕ) × Update)) (j k : ℕ) (u : Update) → IsAdded before after j k u →
    u.client < 12 → HasClients before → HasClients after
added-clients before after j k u added below all r v found = by_place (same_pair (j, k) (r.j, r.k)) refl
  where
    by_place : (b : Bool) → same_pair (j, k) (r.j, r.k) ≡ b → v.client < 12
    by_place true e =
        let here : Some v ≡ Some u = sym found ∙ added.each (r.j, r.k)
        ∙ ap (λ b. cond b (Some u) (certificate before r)) e in
        let same : v ≡ u = cc in
        let client : v.client ≡ u.client = ap (λ w. w.client) same in
        omega arith
    by_place false e = all r v (sym (ap (λ b. cond b (Some u) (certificate before r)) e)
        ∙ sym (added.each (r.j, r.k)) ∙ found)

pub added-is : (before after : List ((ℕ × ℕ) × Update)) (j k : ℕ) (u : Update) (certified : Request → Option Update) →
    IsAdded before after j k u → ((r : Request) → certificate before r ≡ certified r) → (r : Request) →
    certificate after r ≡ with_certificate certified j k u r
added-is before after j k u certified added same r = added.each (r.j, r.k) ∙ by_place (same_pair (j, k) (r.j, r.k)) refl
  where
    nothing : (o : Option Update) → o ≡ or_else o None
    nothing None = refl
    nothing (Some v) = refl

    by_place : (b : Bool) → same_pair (j, k) (r.j, r.k) ≡ b →
        cond (same_pair (j, k) (r.j, r.k)) (Some u) (certificate before r) ≡ or_else (certified r)
        (cond (same_pair (j, k) (r.j, r.k)) (Some u) None)
    by_place true e =
        let none : certified r ≡ None = sym (same r) ∙ found_alike before j k r e ∙ added.none in
        rw (e, none) refl
    by_place false e = rw e (same r ∙ nothing (certified r))

-- a request that has a certificate keeps it
pub there-is : (certificates : List ((ℕ × ℕ) × Update)) (j k : ℕ) (u : Update) (certified : Request → Option Update) →
    is_some (lookup (same_pair (j, k)) certificates) ≡ true →
    ((r : Request) → certificate certificates r ≡ certified r) → (r : Request) →
    certificate certificates r ≡ with_certificate certified j k u r
there-is certificates j k u certified there same r = by_place (same_pair (j, k) (r.j, r.k)) refl (certified r) refl
  where
    by_place : (b : Bool) → same_pair (j, k) (r.j, r.k) ≡ b → (o : Option Update) → certified r ≡ o →
        certificate certificates r ≡ or_else (certified r) (cond (same_pair (j, k) (r.j, r.k)) (Some u) None)
    by_place b e (Some v) is = rw is (same r ∙ is)
    by_place true e None is = let no : false ≡ true =
        ap is_some (sym (sym (found_alike certificates j k r e) ∙ same r ∙ is)) ∙ there in absurd (cc)
    by_place false e None is = rw (is, e) (same r ∙ is)

pub none_there : (o : Option Update) → false ≡ is_some o → o ≡ None
none_there None e = refl
none_there (Some u) e = absurd (cc)
