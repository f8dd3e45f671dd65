-- How far the numbers of a master are certified without a gap, and that a certificate more keeps this true.
use Rattle.std.proofs.Common.{◌≡◌, ◌≢◌, ℕ, suc, ◌+◌, ◌≤◌, ◌<◌, ◌⊎◌, inl, inr, Bool, true, false, cond, List, Option}
use Rattle.std.proofs.Common.{Some, None, is_some, refl, sym, ◌∙◌, ap, subst, arith, true≢false}
use Rattle.std.specs.Prelude.{IsSome, slice_index}
use Rattle.std.proofs.lemmas.Bool.{cases_eq, cases_lt, ne_eqb, and_left}
use Rattle.std.specs.Prelude.{nat_eq}
use Rattle.message_types.specs.declared.signed.Signed.{Signed}
use Rattle.message_types.specs.declared.updates.Update.{Update}
use Rattle.message_types.specs.declared.body.Body.{Body}
use Rattle.protocol_rules.specs.Group.{Group, most_number}
use Rattle.protocol_rules.specs.Words.{or_else}
use Rattle.protocol_rules.specs.Preorder.{certified}
use Rattle.preorder.specs.Index.{PairMap, same_pair, at_pair, Reaches, ReachesLess, SameElsewhere, HasCertified}
use Rattle.preorder.specs.Index.{HasReach, CertifiesAt}
use Rattle.protocol_rules.proofs.Keys.{same_pair-same}
use Rattle.protocol_rules.proofs.FirstMet.{none_there}

pub reaches-more : (f : ℕ → Option Update) (reach : ℕ) → ReachesLess f reach → reach < 4096 →
    true ≡ is_some (f (reach + 1)) → ReachesLess f (reach + 1)
unfolding most_number
reaches-more f reach old room next = record {
  limit = omega arith;
  without_gap = λ k low high. at k low (cases_lt k (reach + 1)) high;
}
  where
    at : (k : ℕ) → 1 ≤ k → (k < reach + 1) ⊎ (reach + 1 ≤ k) → k ≤ reach + 1 → IsSome (f k)
    at k low (inl below) high = old.without_gap k low (omega arith)
    at k low (inr above) high = let same : k ≡ reach + 1 = omega arith in rw same (sym next)

pub reaches-stop : (f : ℕ → Option Update) (reach : ℕ) → ReachesLess f reach →
    (4096 ≤ reach) ⊎ (false ≡ is_some (f (reach + 1))) → Reaches f reach
unfolding most_number
reaches-stop f reach old (inl full) = record {
  limit = old.limit;
  without_gap = old.without_gap;
  stops =
      λ less. absurd (omega arith);
}
reaches-stop f reach old (inr none) = record {
  limit = old.limit;
  without_gap = old.without_gap;
  stops =
      λ less. let e : suc reach ≡ reach + 1 = omega arith in ap f e ∙ none_there (f (reach + 1)) none;
}

pub reaches-same : (f h : ℕ → Option Update) (reach : ℕ) → ((k : ℕ) → f k ≡ h k) → Reaches f reach → Reaches h reach
reaches-same f h reach same old = record {
  limit = old.limit;
  without_gap = λ k low high. ap is_some (sym (same k)) ∙ old.without_gap k low high;
  stops = λ less. sym (same (suc reach)) ∙ old.stops less;
}

keeps : (here : Bool) (old candidate : Option Update) → (here ≡ true → is_some old ≡ true) →
    old ≡ cond here (or_else old candidate) old
keeps true (Some u) candidate there = refl
keeps true None candidate there = absurd (true≢false (sym (there refl)))
keeps false old candidate there = refl

nothing : (here : Bool) (old : Option Update) → old ≡ cond here (or_else old None) old
nothing true (Some u) = refl
nothing true None = refl
nothing false old = refl

takes : (here : Bool) (old : Option Update) (u : Update) → (here ≡ true → old ≡ None) →
    cond here (Some u) old ≡ cond here (or_else old (Some u)) old
takes true (Some v) u none = absurd (true≢false (ap is_some (none refl)))
takes true None u none = refl
takes false old u none = refl

-- what is certified stays where (j, k) was
pub certify-known : (g : Group) (known after : List (Signed Body)) (j k : ℕ) (candidate : Option Update)
    (map : PairMap Update) (reach : List ℕ) →
    CertifiesAt g known after j k candidate → true ≡ is_some (at_pair map (j, k)) → HasCertified g known map →
    HasReach g known reach →
    HasCertified g after map × HasReach g after reach
certify-known g known after j k candidate map reach step there has reached = (
  λ i h. has i h ∙ same i h,
  λ i below. reaches-same (certified g known i) (certified g after i)
      (slice_index reach i) (same i) (reached i below),
)
  where
    same : (i h : ℕ) → certified g known i h ≡ certified g after i h
    same i h = keeps (same_pair (j, k) (i, h)) (certified g known i h) candidate
        (λ e. ap is_some (sym (has i h)) ∙ ap (λ key. is_some (at_pair map key))
        (sym (same_pair-same (j, k) (i, h) e)) ∙ sym there)
        ∙ sym (step i h)

-- and where there is no candidate
pub certify-nothing : (g : Group) (known after : List (Signed Body)) (j k : ℕ) (map : PairMap Update) (reach : List ℕ) →
    CertifiesAt g known after j k None → HasCertified g known map → HasReach g known reach →
    HasCertified g after map × HasReach g after reach
certify-nothing g known after j k map reach step has reached = (
  λ i h. has i h ∙ same i h,
  λ i below. reaches-same (certified g known i) (certified g after i)
      (slice_index reach i) (same i) (reached i below),
)
  where
    same : (i h : ℕ) → certified g known i h ≡ certified g after i h
    same i h = nothing (same_pair (j, k) (i, h)) (certified g known i h) ∙ sym (step i h)

pub certify-new : (g : Group) (known after : List (Signed Body)) (j k : ℕ) (u : Update) (map new : PairMap Update)
    (reach more : List ℕ) →
    CertifiesAt g known after j k (Some u) → false ≡ is_some (at_pair map (j, k)) → j < 14 →
    ((key : ℕ × ℕ) → at_pair new key ≡ cond (same_pair (j, k) key) (Some u) (at_pair map key)) →
    SameElsewhere reach more j →
    (ReachesLess (λ h. at_pair new (j, h)) (slice_index reach j) →
    Reaches (λ h. at_pair new (j, h)) (slice_index more j)) →
    HasCertified g known map → HasReach g known reach → HasCertified g after new × HasReach g after more
certify-new g known after j k u map new reach more step none small put others goes_on has reached =
    (has_new, λ i below. at i below (cases_eq i j))
  where
    has_new : HasCertified g after new
    has_new i h = put (i, h)
        ∙ takes (same_pair (j, k) (i, h)) (at_pair map (i, h)) u
        (λ e. ap (at_pair map) (sym (same_pair-same (j, k) (i, h) e)) ∙ none_there _ none)
        ∙ ap (λ old. cond (same_pair (j, k) (i, h)) (or_else old (Some u)) old) (has i h) ∙ sym (step i h)

    more_there : (here : Bool) (old : Option Update) → is_some old ≡ true → is_some (cond here (Some u) old) ≡ true
    more_there true old there = refl
    more_there false old there = there

    at : (i : ℕ) → i < 14 → (i ≡ j) ⊎ (i ≢ j) → Reaches (certified g after i) (slice_index more i)
    at i below (inl e) = subst (λ x. Reaches (certified g after x) (slice_index more x)) (sym e)
        (reaches-same (λ h. at_pair new (j, h)) (certified g after j) (slice_index more j)
        (λ h. has_new j h) (goes_on (record {
          limit = (reached j small).limit;
          without_gap = λ h low high. ap is_some (put (j, h)) ∙ more_there (same_pair (j, k) (j, h))
              (at_pair map (j, h)) (ap is_some (has j h) ∙ (reached j small).without_gap h low high);
        })))
    at i below (inr ne) = subst (Reaches (certified g after i)) (sym (others i ne))
        (reaches-same (certified g known i) (certified g after i) (slice_index reach i)
        (λ h. ap (λ b. cond b (or_else (certified g known i h) (Some u)) (certified g known i h)) (sym (apart h))
        ∙ sym (step i h)) (reached i below))
      where
        apart : (h : ℕ) → same_pair (j, k) (i, h) ≡ false
        apart h = and_left (nat_eq j i) (nat_eq k h) (ne_eqb j i (λ e. ne (sym e)))
