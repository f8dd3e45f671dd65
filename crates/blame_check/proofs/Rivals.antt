-- Rival words, as bodies and as what their keys say.
use Rattle.std.proofs.Common.{◌≡◌, ◌↔◌, ℕ, Bool, true, false, ◌&&◌, not, Option, Some, None, nat_eq, refl, sym, ◌∙◌}
use Rattle.std.proofs.Common.{ap, eqb-true, eq-eqb}
use Rattle.std.proofs.lemmas.Bool.{true≢false, false≢true, and_parts, and_from, not-true}
use Rattle.std.specs.Option.{option_map_or}
use Rattle.message_types.specs.declared.signed.Signed.{Signed}
use Rattle.message_types.specs.declared.body.Body.{Body}
use Rattle.message_types.specs.declared.body.Body.TheVariants as body
use Rattle.history_rules.specs.Sameness.{is_same_body}
use Rattle.history_laws.proofs.Same.{body_test}
use Rattle.blame_check.specs.Contradictions.{are_rivals, contradict}
use Rattle.protocol_rules.specs.Keys.{Key, same_key}
use Rattle.blame_check.specs.Slots.{Slot, key_for, slot_of, fills}
use Rattle.plain_lists.proofs.Booleans.{same_truth}

pub word_tested : (r : Bool) (a b : Body) → (r ≡ true) ↔ (a ≡ b) → r ≡ is_same_body a b
word_tested r a b h = same_truth r (is_same_body a b) (λ t. (body_test a b).1 (h.0 t)) (λ t. h.1 ((body_test a b).0 t))

swapped : (a b c d : ℕ) → (nat_eq a b && nat_eq c d) ≡ true → (nat_eq b a && nat_eq d c) ≡ true
swapped a b c d e =
    let both = and_parts (nat_eq a b) (nat_eq c d) e in
    and_from (nat_eq b a) (nat_eq d c) (eq-eqb b a (sym (eqb-true a b both.0))) (eq-eqb d c (sym (eqb-true c d both.1)))

pub rivals_swap : (a b : Body) → are_rivals a b ≡ true → are_rivals b a ≡ true
rivals_swap (body.PoAck a) (body.PoAck b) e = swapped a.j b.j a.k b.k e
rivals_swap (body.PrePrepare a) (body.PrePrepare b) e = swapped a.v b.v a.s b.s e
rivals_swap (body.Prepare a) (body.Prepare b) e = swapped a.v b.v a.s b.s e
rivals_swap (body.Commit a) (body.Commit b) e = swapped a.v b.v a.s b.s e
rivals_swap _ _ e = absurd (false≢true e)

-- keys of two words are the same, x being that their signers are
abbrev by_slots : Bool → Option Slot → Option Slot → Bool
by_slots x a b = option_map_or
    (λ (s : Slot). option_map_or (λ (t : Slot). ((x && nat_eq s.0 t.0) && nat_eq s.1 t.1) && nat_eq s.2 t.2) b false)
    a false

by_bodies : (a b : Body) → by_slots true (slot_of a) (slot_of b) ≡ are_rivals a b
by_bodies (body.PoAck a) (body.PoAck b) = refl
by_bodies (body.PrePrepare a) (body.PrePrepare b) = refl
by_bodies (body.Prepare a) (body.Prepare b) = refl
by_bodies (body.Commit a) (body.Commit b) = refl
by_bodies _ _ = refl

none_by_slots : (a b : Option Slot) → by_slots false a b ≡ false
none_by_slots None b = refl
none_by_slots (Some s) None = refl
none_by_slots (Some s) (Some t) = refl

none_behind : (a : Option Slot) → by_slots true a None ≡ false
none_behind None = refl
none_behind (Some s) = refl

by_either : (x : Bool) (a b : Body) → by_slots x (slot_of a) (slot_of b) ≡ (x && are_rivals a b)
by_either true a b = by_bodies a b
by_either false a b = none_by_slots (slot_of a) (slot_of b)

pub fills_rivals : (p q : Signed Body) (s : Slot) → slot_of q.body ≡ Some s →
    fills (key_for q.signer s) p ≡ (nat_eq p.signer q.signer && are_rivals p.body q.body)
fills_rivals p q s e = ap (by_slots (nat_eq p.signer q.signer) (slot_of p.body)) (sym e)
    ∙ by_either (nat_eq p.signer q.signer) p.body q.body

-- a word without numbers has no rivals
pub no_rivals : (p q : Signed Body) → slot_of q.body ≡ None → contradict p q ≡ false
no_rivals p q e = none (nat_eq p.signer q.signer) (are_rivals p.body q.body) (not (is_same_body p.body q.body))
    (sym (by_bodies p.body q.body) ∙ ap (by_slots true (slot_of p.body)) e ∙ none_behind (slot_of p.body))
  where
    none : (x y z : Bool) → y ≡ false → (x && (y && z)) ≡ false
    none true true z h = absurd (true≢false h)
    none true false z h = refl
    none false y z h = refl

-- what a word of this slot fills
pub fills_its : (key : Key) (q : Signed Body) (s : Slot) → slot_of q.body ≡ Some s →
    fills key q ≡ same_key (key_for q.signer s) key
fills_its key q s e = ap (λ (o : Option Slot). option_map_or (λ (t : Slot). same_key (key_for q.signer t) key)
    o false) e

pub fills_none : (key : Key) (q : Signed Body) → slot_of q.body ≡ None → fills key q ≡ false
fills_none key q e = ap (λ (o : Option Slot). option_map_or (λ (t : Slot). same_key (key_for q.signer t) key) o false) e

-- words that contradict each other, and two words of which a correct master says one
same_from : (x y s : Bool) → x ≡ true → y ≡ true → (x && (y && not s)) ≡ false → s ≡ true
same_from true true true a b e = refl
same_from true true false a b e = absurd (true≢false e)
same_from true false s a b e = absurd (false≢true b)
same_from false y s a b e = absurd (false≢true a)

pub not_contrary : (p q : Signed Body) → p.signer ≡ q.signer → are_rivals p.body q.body ≡ true →
    contradict p q ≡ false → p.body ≡ q.body
not_contrary p q by rivals e =
    (body_test p.body q.body).0 (same_from (nat_eq p.signer q.signer) (are_rivals p.body q.body)
    (is_same_body p.body q.body) (eq-eqb p.signer q.signer by) rivals e)

pub contrary_parts : (p q : Signed Body) → contradict p q ≡ true → (p.signer ≡ q.signer)
    × (are_rivals p.body q.body ≡ true) × (p.body ≡ q.body → ⊥)
contrary_parts p q e =
    let both = and_parts (nat_eq p.signer q.signer) (are_rivals p.body q.body && not (is_same_body p.body q.body)) e in
    let rest = and_parts (are_rivals p.body q.body) (not (is_same_body p.body q.body)) both.1 in (
      eqb-true p.signer q.signer both.0,
      rest.0,
      λ same. true≢false (sym ((body_test p.body q.body).1 same) ∙ not-true (is_same_body p.body q.body) rest.1),
    )
