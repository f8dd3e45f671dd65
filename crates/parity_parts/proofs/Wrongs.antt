-- One part more among those that are looked at: its master, where the part is wrong.
use Rattle.std.proofs.Common.{◌≡◌, ◌∙◌, ◌<◌, ◌++◌, ℕ, Bool, true, false, List, [], ◌∷◌, ◌&&◌, ◌||◌, not}
use Rattle.std.proofs.Common.{◌+◌, length, get_or, take, nat_eq, if◌then◌else◌, refl, sym, ap}
use Rattle.std.proofs.lemmas.List.{take_more}
use Rattle.std.specs.List.{list_any}
use Rattle.std.proofs.lemmas.Bool.{false≢true, true≢false}
use Rattle.std.proofs.lemmas.List.Folds.{list_any-append}
use Rattle.quorum_sets.specs.Masters.{has_master, with_master}
use Rattle.quorum_sets.proofs.MastersLemmas.{has_master-voters_below, voters_same}
use Rattle.parity_parts.specs.Parts.{is_part_of}
use Rattle.parity_parts.specs.Rebuilding.{wrong_masters}
use Rattle.parity_parts.specs.declared.part.Part.{Part}
use Rattle.plain_lists.proofs.Booleans.{nat_eq-flipped}

one_more : (here before is_wrong : Bool) → is_wrong ≡ true →
    (here || before) ≡ (before || ((here && is_wrong) || false))
one_more true true is_wrong is = refl
one_more true false true is = refl
one_more true false false is = absurd (false≢true is)
one_more false true is_wrong is = refl
one_more false false is_wrong is = refl

no_more : (here before is_wrong : Bool) → is_wrong ≡ false → before ≡ (before || ((here && is_wrong) || false))
no_more here true is_wrong is = refl
no_more true false false is = refl
no_more true false true is = absurd (true≢false is)
no_more false false is_wrong is = refl

-- whether a part is this master's and wrong
abbrev is_wrong_at : ℕ → List ℕ → ℕ → Part → Bool
is_wrong_at f text m part = nat_eq part.master m && not (is_part_of f text part)

wrong_more_at : (f : ℕ) (text : List ℕ) (parts : List Part) (p : Part) (told : Bool) → not (is_part_of f text p) ≡ told
    → (if told then with_master (wrong_masters f text parts) p.master else wrong_masters f text parts)
    ≡ wrong_masters f text (parts ++ p ∷ [])
wrong_more_at f text parts p true is =
    voters_same (λ x. nat_eq x p.master || has_master (wrong_masters f text parts) x)
    (λ x. list_any (is_wrong_at f text x) (parts ++ p ∷ [])) 14
    (λ x below. ap (λ b. nat_eq x p.master || b)
    (has_master-voters_below (λ y. list_any (is_wrong_at f text y) parts) 14 x below)
    ∙ ap (λ b. b || list_any (is_wrong_at f text x) parts) (nat_eq-flipped x p.master)
    ∙ one_more (nat_eq p.master x) (list_any (is_wrong_at f text x) parts) (not (is_part_of f text p)) is
    ∙ sym (list_any-append (is_wrong_at f text x) parts (p ∷ [])))
wrong_more_at f text parts p false is =
    voters_same (λ x. list_any (is_wrong_at f text x) parts) (λ x. list_any (is_wrong_at f text x) (parts ++ p ∷ [])) 14
    (λ x below. no_more (nat_eq p.master x) (list_any (is_wrong_at f text x) parts) (not (is_part_of f text p)) is
    ∙ sym (list_any-append (is_wrong_at f text x) parts (p ∷ [])))

wrong_more : (f : ℕ) (text : List ℕ) (parts : List Part) (p : Part) (old new : List ℕ) (is_right : Bool)
    → old ≡ wrong_masters f text parts → is_right ≡ is_part_of f text p
    → new ≡ (if not is_right then with_master old p.master else old) → new ≡ wrong_masters f text (parts ++ p ∷ [])
wrong_more f text parts p old new is_right before told is =
    is ∙ ap (λ (b : Bool). if not b then with_master old p.master else old) told
    ∙ ap (λ (masters : List ℕ). if not (is_part_of f text p) then with_master masters p.master else masters) before
    ∙ wrong_more_at f text parts p (not (is_part_of f text p)) refl

pub wrong_more_taken : (f : ℕ) (text : List ℕ) (parts : List Part) (i : ℕ) (p : Part)
    (old new : List ℕ) (is_right : Bool)
    → i < length parts → p ≡ get_or parts i p → old ≡ wrong_masters f text (take i parts) →
    is_right ≡ is_part_of f text p
    → new ≡ (if not is_right then with_master old p.master else old) → new ≡ wrong_masters f text (take (i + 1) parts)
wrong_more_taken f text parts i p old new is_right below is before told added =
    wrong_more f text (take i parts) p old new is_right before told added
    ∙ ap (λ (q : Part). wrong_masters f text (take i parts ++ q ∷ [])) is
    ∙ ap (wrong_masters f text) (sym (take_more parts i p below))
