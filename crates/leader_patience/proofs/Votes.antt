-- How far each master voted, as words become known: a vote goes as far as its signer's greatest, and no other word counts.
-- Of the bodies said only votes count.
use Rattle.std.proofs.Common.{◌≡◌, ℕ, zero, suc, ◌+◌, ◌<◌, ◌≤◌, Bool, true, false, cond, ◌||◌, List, [], ◌∷◌, ◌++◌}
use Rattle.std.proofs.Common.{Option, Some, None, filter, max, nat_eq, length, get_or, set, get_or-set_same}
use Rattle.std.proofs.Common.{get_or-set_other, refl, sym, ◌∙◌, ap, subst, arith}
use Rattle.std.specs.Prelude.{replicate}
use Rattle.std.specs.List.{list_any, filter_map, cons_option, slice_index_or}
use Rattle.std.proofs.lemmas.Bool.{eqb-true, eqb-false, ne_eqb, true≢false}
use Rattle.message_types.specs.declared.signed.Signed.{Signed}
use Rattle.message_types.specs.declared.measures.Suspect.{Suspect}
use Rattle.message_types.specs.declared.body.Body.{Body}
use Rattle.message_types.specs.declared.body.Body.TheVariants as body
use Rattle.protocol_rules.specs.Words.{greatest_of}
use Rattle.protocol_rules.specs.Group.{Group}
use Rattle.protocol_rules.specs.Measures.{suspects_said}
use Rattle.protocol_rules.specs.Patience.{vote_of, voted_to}
use Rattle.suspect_leader.proofs.Words.{told_after, same_after, greatest_if}
use Rattle.leader_patience.specs.PatienceState.{PatienceState, IsPatienceOf, is_vote, is_known_vote}

-- a patience where nothing is known or said
pub all_alike : (n j x : ℕ) → get_or (replicate n x) j x ≡ x
all_alike zero j x = refl
all_alike (suc n) zero x = refl
all_alike (suc n) (suc j) x = all_alike n j x

-- the same patience where other words are known
pub with_voted : {g : Group} {kept : PatienceState} {known words : List (Signed Body)} {said : List Body} {voted : List ℕ}
    → ((master : ℕ) → master < g.n → slice_index_or voted master 0 ≡ voted_to words master)
    → IsPatienceOf g kept known said → IsPatienceOf g record kept { voted = voted } words said
with_voted of_voted is = record {
  masters = is.masters;
  intruded = is.intruded;
  away = is.away;
  voted = of_voted;
  own = is.own;
}

-- a word that is no vote of a master of the group
pub passed : (g : Group) (kept : PatienceState) (known : List (Signed Body)) (said : List Body) (f : Signed Body)
    → ((master : ℕ) → master < g.n → vote_of master f ≡ None)
    → IsPatienceOf g kept known said → IsPatienceOf g kept (known ++ f ∷ []) said
passed g kept known said f none is = with_voted (λ master lt.
    is.voted master lt ∙ ap greatest_of (sym (same_after (vote_of master) known f (none master lt)))) is

stranger : (master : ℕ) (f : Signed Body) → nat_eq f.signer master ≡ false → vote_of master f ≡ None
stranger master f other = at f.body
  where
    at : (word : Body) → vote_of master record f { body = word } ≡ None
    at word = elim word as (λ w. vote_of master record f { body = w } ≡ None)
        [ body.Suspect b ↦ ap (λ t. cond t (Some (b.v + 1)) None) other | _ ↦ refl ]

below_isnt : (signer master n : ℕ) → n ≤ signer → master < n → nat_eq signer master ≡ false
below_isnt signer master n le lt = ne_eqb signer master (λ e. omega (arith, le, lt, e))

pub stranger_passed : (g : Group) (kept : PatienceState) (known : List (Signed Body)) (said : List Body)
    (f : Signed Body) (n : ℕ) → n ≡ kept.group.n → n ≤ f.signer
    → IsPatienceOf g kept known said → IsPatienceOf g kept (known ++ f ∷ []) said
stranger_passed g kept known said f n same above is =
    passed g kept known said f
    (λ master lt. stranger master f
    (below_isnt f.signer master g.n (subst (λ m. m ≤ f.signer) (same ∙ is.masters) above) lt)) is

-- a vote
pub took_vote : (g : Group) (kept : PatienceState) (known : List (Signed Body)) (said : List Body) (signer : ℕ)
    (b : Suspect) (sig : List ℕ) (voted : List ℕ)
    → ((j : ℕ) → j < g.n → slice_index_or voted j 0 ≡ cond (nat_eq signer j)
    (max (slice_index_or kept.voted j 0) (b.v + 1)) (slice_index_or kept.voted j 0))
    → IsPatienceOf g kept known said
    → IsPatienceOf g record kept { voted = voted }
    (known ++ record { signer = signer; body = body.Suspect b; sig = sig } ∷ []) said
took_vote g kept known said signer b sig voted more is = with_voted (λ master lt.
    more master lt ∙ ap (λ x. cond (nat_eq signer master) (max x (b.v + 1)) x) (is.voted master lt)
    ∙ sym (ap greatest_of (told_after (vote_of master) known
    record { signer = signer; body = body.Suspect b; sig = sig }
    (cond (nat_eq signer master) (Some (b.v + 1)) None) refl)
    ∙ greatest_if (filter_map (vote_of master) known) (nat_eq signer master) (b.v + 1))) is

-- a word that is a vote
pub at_vote : {g : Group} {kept : PatienceState} {said : List Body} (known : List (Signed Body)) (signer : ℕ)
    (sig : List ℕ) (word : Body) (b : Suspect) → word ≡ body.Suspect b
    → IsPatienceOf g kept (known ++ record { signer = signer; body = body.Suspect b; sig = sig } ∷ []) said
    → IsPatienceOf g kept (known ++ record { signer = signer; body = word; sig = sig } ∷ []) said
at_vote {g} {kept} {said} known signer sig word b e is =
    subst (λ w. IsPatienceOf g kept (known ++ record { signer = signer; body = w; sig = sig } ∷ []) said) (sym e) is

-- the patience as the fields give it
pub viewed : {g : Group} {a b : PatienceState} {known : List (Signed Body)} {said : List Body} → a ≡ b
    → IsPatienceOf g b known said → IsPatienceOf g a known said
viewed {g} {a} {b} {known} {said} e is = subst (λ k. IsPatienceOf g k known said) (sym e) is

-- a table with a place set by what was there
pub place_set : (table : List ℕ) (place j x : ℕ) (f : ℕ → ℕ) → place < length table → x ≡ f (get_or table place 0)
    → get_or (set table place x) j 0 ≡ cond (nat_eq place j) (f (get_or table j 0)) (get_or table j 0)
place_set table place j x f within is = at (nat_eq place j) refl
  where
    at : (c : Bool) → nat_eq place j ≡ c →
        get_or (set table place x) j 0 ≡ cond c (f (get_or table j 0)) (get_or table j 0)
    at true e = ap (λ k. get_or (set table place x) k 0) (sym (eqb-true place j e))
        ∙ get_or-set_same table place x 0 within ∙ is ∙ ap (λ k. f (get_or table k 0)) (eqb-true place j e)
    at false e = get_or-set_other table place j x 0 (λ h. eqb-false place j e (sym h))

-- only votes count
told_of_these : {X Y : Type 0} (p : X → Option Y) (q : X → Bool) → ((x : X) → q x ≡ false → p x ≡ None) → (xs : List X) →
    filter_map p (filter q xs) ≡ filter_map p xs
told_of_these p q none [] = refl
told_of_these {X} {Y} p q none (x ∷ rest) = at (q x) refl (told_of_these p q none rest)
  where
    at : (b : Bool) → q x ≡ b → filter_map p (filter q rest) ≡ filter_map p rest →
        filter_map p (cond (q x) (x ∷ filter q rest) (filter q rest)) ≡ cons_option (p x) (filter_map p rest)
    at true e more = ap (λ b. filter_map p (cond b (x ∷ filter q rest) (filter q rest))) e
        ∙ ap (cons_option (p x)) more
    at false e more = ap (λ b. filter_map p (cond b (x ∷ filter q rest) (filter q rest))) e ∙ more
        ∙ ap (λ o. cons_option o (filter_map p rest)) (sym (none x e))

any_of_these : {X : Type 0} (p q : X → Bool) → ((x : X) → q x ≡ false → p x ≡ false) → (xs : List X) →
    list_any p (filter q xs) ≡ list_any p xs
any_of_these p q none [] = refl
any_of_these {X} p q none (x ∷ rest) = at (q x) refl (any_of_these p q none rest)
  where
    at : (b : Bool) → q x ≡ b → list_any p (filter q rest) ≡ list_any p rest →
        list_any p (cond (q x) (x ∷ filter q rest) (filter q rest)) ≡ (p x || list_any p rest)
    at true e more = ap (λ b. list_any p (cond b (x ∷ filter q rest) (filter q rest))) e ∙ ap (λ b. p x || b) more
    at false e more = ap (λ b. list_any p (cond b (x ∷ filter q rest) (filter q rest))) e ∙ more
        ∙ ap (λ b. b || list_any p rest) (sym (none x e))

other_known : (master : ℕ) (f : Signed Body) → is_known_vote f ≡ false → vote_of master f ≡ None
other_known master f = at f.body
  where
    at : (word : Body) → is_vote word ≡ false → vote_of master record f { body = word } ≡ None
    at word = elim word as (λ w. is_vote w ≡ false → vote_of master record f { body = w } ≡ None)
        [ body.Suspect b ↦ λ e. absurd (true≢false e) | _ ↦ λ e. refl ]

other_said : (v : ℕ) (word : Body) → is_vote word ≡ false → suspects_said v word ≡ false
other_said v word = elim word as (λ w. is_vote w ≡ false → suspects_said v w ≡ false)
    [ body.Suspect b ↦ λ e. absurd (true≢false e) | _ ↦ λ e. refl ]

pub only_votes_known : (g : Group) (kept : PatienceState) (known : List (Signed Body)) (said : List Body) →
    IsPatienceOf g kept (filter is_known_vote known) said → IsPatienceOf g kept known said
only_votes_known g kept known said is = with_voted (λ master lt.
    is.voted master lt ∙ ap greatest_of (told_of_these (vote_of master) is_known_vote (other_known master) known)) is

pub only_votes_said : (g : Group) (kept : PatienceState) (known : List (Signed Body)) (said : List Body) →
    IsPatienceOf g kept known (filter is_vote said) → IsPatienceOf g kept known said
only_votes_said g kept known said is = record {
  masters = is.masters;
  intruded = is.intruded;
  away = is.away;
  voted = is.voted;
  own = λ v. sym (any_of_these (suspects_said v) is_vote (other_said v) said) ∙ is.own v;
}
