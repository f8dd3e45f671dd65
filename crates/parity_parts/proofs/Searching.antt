-- The search over sets: with parts chosen already it goes through the sets that begin with them.
use Rattle.std.proofs.Common.{◌≡◌, ◌≢◌, ◌∙◌, ◌+◌, ◌-◌, ◌≤◌, ◌++◌, ℕ, zero, suc, List, [], ◌∷◌}
use Rattle.std.proofs.Common.{Option, Some, None, map, length, refl, sym, ap, ap₂, append_assoc, length-append, arith}
use Rattle.std.proofs.lemmas.List.{append-nil}
use Rattle.parity_parts.specs.Rebuilding.{behind_chosen, else_by, first_text, rebuilt, sets, text_of}
use Rattle.parity_parts.specs.declared.part.Part.{Part}

else_assoc : (a b c : Option (List ℕ)) → else_by (else_by a b) c ≡ else_by a (else_by b c)
else_assoc None b c = refl
else_assoc (Some x) b c = refl

else_none : (a : Option (List ℕ)) → else_by a None ≡ a
else_none None = refl
else_none (Some x) = refl

first_text-append : (f : ℕ) (digest : List ℕ) (a b : List (List Part))
    → first_text f digest (a ++ b) ≡ else_by (first_text f digest a) (first_text f digest b)
first_text-append f digest [] b = refl
first_text-append f digest (s ∷ a) b =
    ap (else_by (text_of f digest s)) (first_text-append f digest a b)
    ∙ sym (else_assoc (text_of f digest s) (first_text f digest a) (first_text f digest b))

behind_append : (chosen : List Part) (a b : List (List Part))
    → behind_chosen chosen (a ++ b) ≡ behind_chosen chosen a ++ behind_chosen chosen b
behind_append chosen [] b = refl
behind_append chosen (s ∷ a) b = ap (λ ss. (chosen ++ s) ∷ ss) (behind_append chosen a b)

behind_first : (chosen : List Part) (p : Part) (a : List (List Part))
    → behind_chosen chosen (map (λ set. p ∷ set) a) ≡ behind_chosen (chosen ++ p ∷ []) a
behind_first chosen p [] = refl
behind_first chosen p (s ∷ a) =
    ap₂ (λ (x : List Part) (xs : List (List Part)). x ∷ xs) (sym (append_assoc chosen (p ∷ []) s))
    (behind_first chosen p a)

behind_nothing : (a : List (List Part)) → behind_chosen [] a ≡ a
behind_nothing [] = refl
behind_nothing (s ∷ a) = ap (λ ss. s ∷ ss) (behind_nothing a)

-- one step of the search: with the first part chosen, and else without it
search_step : (f : ℕ) (digest : List ℕ) (chosen : List Part) (count : ℕ) (p : Part) (ps : List Part)
    → first_text f digest (behind_chosen chosen (sets (suc count) (p ∷ ps)))
    ≡ else_by (first_text f digest (behind_chosen (chosen ++ p ∷ []) (sets count ps)))
    (first_text f digest (behind_chosen chosen (sets (suc count) ps)))
search_step f digest chosen count p ps =
    ap (first_text f digest) (behind_append chosen (map (λ set. p ∷ set) (sets count ps)) (sets (suc count) ps))
    ∙ first_text-append f digest (behind_chosen chosen (map (λ set. p ∷ set) (sets count ps)))
    (behind_chosen chosen (sets (suc count) ps))
    ∙ ap (λ ss. else_by (first_text f digest ss) (first_text f digest (behind_chosen chosen (sets (suc count) ps))))
    (behind_first chosen p (sets count ps))

-- ---- The ways in which the search ends.

all_chosen_at : (f : ℕ) (digest : List ℕ) (chosen others : List Part) (missing : ℕ) (text : Option (List ℕ)) →
    missing ≡ 0
    → text ≡ text_of f digest chosen → text ≡ first_text f digest (behind_chosen chosen (sets missing others))
all_chosen_at f digest chosen others zero text none is =
    is ∙ sym (else_none (text_of f digest chosen))
    ∙ ap (λ s. else_by (text_of f digest s) None) (sym (append-nil chosen))
all_chosen_at f digest chosen others (suc missing) text none is = absurd (omega arith)

pub all_chosen : (f : ℕ) (digest : List ℕ) (chosen others : List Part) (text : Option (List ℕ)) → length chosen ≡ f + 1
    → text ≡ text_of f digest chosen
    → text ≡ first_text f digest (behind_chosen chosen (sets (f + 1 - length chosen) others))
all_chosen f digest chosen others text all is =
    all_chosen_at f digest chosen others (f + 1 - length chosen) text (omega arith) is

none_left_at : (f : ℕ) (digest : List ℕ) (chosen : List Part) (missing : ℕ) → missing ≢ 0
    → None ≡ first_text f digest (behind_chosen chosen (sets missing []))
none_left_at f digest chosen zero some = absurd (some refl)
none_left_at f digest chosen (suc missing) some = refl

pub none_left : (f : ℕ) (digest : List ℕ) (chosen : List Part) → length chosen ≤ f
    → None ≡ first_text f digest (behind_chosen chosen (sets (f + 1 - length chosen) []))
none_left f digest chosen few =
    let some : f + 1 - length chosen ≢ 0 = omega arith in
    none_left_at f digest chosen (f + 1 - length chosen) some

one_chosen : (f : ℕ) (chosen : List Part) (p : Part) → length chosen ≤ f
    → f + 1 - length chosen ≡ suc (f + 1 - length (chosen ++ p ∷ []))
one_chosen f chosen p few =
    let more : length (chosen ++ p ∷ []) ≡ length chosen + 1 = length-append chosen (p ∷ []) in
    omega arith

step_at : (f : ℕ) (digest : List ℕ) (chosen : List Part) (p : Part) (ps : List Part) → length chosen ≤ f
    → first_text f digest (behind_chosen chosen (sets (f + 1 - length chosen) (p ∷ ps)))
    ≡ else_by
    (first_text f digest (behind_chosen (chosen ++ p ∷ []) (sets (f + 1 - length (chosen ++ p ∷ [])) ps)))
    (first_text f digest (behind_chosen chosen (sets (f + 1 - length chosen) ps)))
step_at f digest chosen p ps few =
    let less : ℕ = f + 1 - length (chosen ++ p ∷ []) in
    let counts : f + 1 - length chosen ≡ suc less = one_chosen f chosen p few in
    ap (λ count. first_text f digest (behind_chosen chosen (sets count (p ∷ ps)))) counts
    ∙ search_step f digest chosen less p ps
    ∙ ap (λ count. else_by (first_text f digest (behind_chosen (chosen ++ p ∷ []) (sets less ps)))
    (first_text f digest (behind_chosen chosen (sets count ps)))) (sym counts)

pub found_with : (f : ℕ) (digest : List ℕ) (chosen more : List Part) (p : Part) (others ps : List Part)
    (found : Option (List ℕ)) (text : List ℕ) → length chosen ≤ f → others ≡ p ∷ ps → more ≡ chosen ++ p ∷ []
    → found ≡ first_text f digest (behind_chosen more (sets (f + 1 - length more) ps)) → found ≡ Some text
    → Some text ≡ first_text f digest (behind_chosen chosen (sets (f + 1 - length chosen) others))
found_with f digest chosen more p others ps found text few whole is with_first there =
    let first : Some text
    ≡ first_text f digest (behind_chosen (chosen ++ p ∷ []) (sets (f + 1 - length (chosen ++ p ∷ [])) ps)) =
    sym there ∙ with_first ∙ ap (λ m. first_text f digest (behind_chosen m (sets (f + 1 - length m) ps))) is in
    ap (λ a. else_by a (first_text f digest (behind_chosen chosen (sets (f + 1 - length chosen) ps)))) first
    ∙ sym (step_at f digest chosen p ps few)
    ∙ ap (λ qs. first_text f digest (behind_chosen chosen (sets (f + 1 - length chosen) qs))) (sym whole)

pub found_without : (f : ℕ) (digest : List ℕ) (chosen more : List Part) (p : Part) (others ps : List Part)
    (found text : Option (List ℕ)) → length chosen ≤ f → others ≡ p ∷ ps → more ≡ chosen ++ p ∷ []
    → found ≡ first_text f digest (behind_chosen more (sets (f + 1 - length more) ps)) → found ≡ None
    → text ≡ first_text f digest (behind_chosen chosen (sets (f + 1 - length chosen) ps))
    → text ≡ first_text f digest (behind_chosen chosen (sets (f + 1 - length chosen) others))
found_without f digest chosen more p others ps found text few whole is with_first none without =
    let first : None
    ≡ first_text f digest (behind_chosen (chosen ++ p ∷ []) (sets (f + 1 - length (chosen ++ p ∷ [])) ps)) =
    sym none ∙ with_first ∙ ap (λ m. first_text f digest (behind_chosen m (sets (f + 1 - length m) ps))) is in
    without ∙ ap (λ a. else_by a (first_text f digest (behind_chosen chosen (sets (f + 1 - length chosen) ps)))) first
    ∙ sym (step_at f digest chosen p ps few)
    ∙ ap (λ qs. first_text f digest (behind_chosen chosen (sets (f + 1 - length chosen) qs))) (sym whole)

-- with nothing chosen it goes through all sets
pub all_searched : (f : ℕ) (digest : List ℕ) (parts : List Part) (text : Option (List ℕ))
    → text ≡ first_text f digest (behind_chosen [] (sets (f + 1 - 0) parts)) → rebuilt f digest parts ≡ text
all_searched f digest parts text is =
    let all : suc f ≡ f + 1 - 0 = omega arith in
    ap (λ count. first_text f digest (sets count parts)) all
    ∙ ap (first_text f digest) (sym (behind_nothing (sets (f + 1 - 0) parts))) ∙ sym is
