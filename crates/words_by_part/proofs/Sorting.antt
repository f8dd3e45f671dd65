-- Lists of words that are all of one kind.
use Rattle.std.proofs.Common.{◌≡◌, ℕ, Bool, true, false, cond, List, [], ◌∷◌, ◌++◌, filter, nat_eq, refl, ◌∙◌}
use Rattle.std.proofs.Common.{ap}
use Rattle.std.proofs.lemmas.List.Elements.{filter-append}
use Rattle.std.specs.List.{list_any}
use Rattle.plain_lists.specs.Lists.{here, there, Each}
use Rattle.message_types.specs.declared.body.Body.{Body}
use Rattle.message_types.specs.Kinds.{kind_number}
use Rattle.words_by_part.specs.Kinds.{is_of}

-- the word is of this kind
abbrev pub Of : ℕ → Body → Type 0
Of k word = kind_number word ≡ k

pub all_kept : (kinds : List ℕ) (k : ℕ) (words : List Body) → list_any (nat_eq k) kinds ≡ true → Each (Of k) words →
    filter (is_of kinds) words ≡ words
all_kept kinds k [] own each = refl
all_kept kinds k (w ∷ rest) own each =
    ap (λ b. cond b (w ∷ filter (is_of kinds) rest) (filter (is_of kinds) rest))
    (ap (λ n. list_any (nat_eq n) kinds) (each w (here rest)) ∙ own)
    ∙ ap (λ (ws : List Body). w ∷ ws) (all_kept kinds k rest own (λ v h. each v (there w rest h)))

pub none_kept : (kinds : List ℕ) (k : ℕ) (words : List Body) → list_any (nat_eq k) kinds ≡ false → Each (Of k) words →
    filter (is_of kinds) words ≡ []
none_kept kinds k [] other each = refl
none_kept kinds k (w ∷ rest) other each =
    ap (λ b. cond b (w ∷ filter (is_of kinds) rest) (filter (is_of kinds) rest))
    (ap (λ n. list_any (nat_eq n) kinds) (each w (here rest)) ∙ other)
    ∙ none_kept kinds k rest other (λ v h. each v (there w rest h))

-- one list more at the end, that is kept or not
and_kept : (kinds : List ℕ) (k : ℕ) (before kept words : List Body) → filter (is_of kinds) before ≡ kept →
    list_any (nat_eq k) kinds ≡ true → Each (Of k) words
    → filter (is_of kinds) (before ++ words) ≡ kept ++ words
and_kept kinds k before kept words was own each =
    filter-append (is_of kinds) before words ∙ ap (λ ws. ws ++ filter (is_of kinds) words) was
    ∙ ap (λ ws. kept ++ ws) (all_kept kinds k words own each)

and_passed : (kinds : List ℕ) (k : ℕ) (before kept words : List Body) → filter (is_of kinds) before ≡ kept →
    list_any (nat_eq k) kinds ≡ false → Each (Of k) words
    → filter (is_of kinds) (before ++ words) ≡ kept
and_passed kinds k before kept words was other each =
    filter-append (is_of kinds) before words ∙ ap (λ ws. ws ++ filter (is_of kinds) words) was
    ∙ ap (λ ws. kept ++ ws) (none_kept kinds k words other each) ∙ Rattle.std.proofs.lemmas.List.append-nil kept

-- words that are all of one kind
pub record OneKind : Type 0 where
  pub number : ℕ
  pub words : List Body
  pub own : Each (Of number) words

abbrev pub of_kind : (k : ℕ) {words : List Body} → Each (Of k) words → OneKind
of_kind k {words} own = record { number = k; words = words; own = own }

-- lists joined, one behind the other
abbrev pub joined : List Body → List OneKind → List Body
joined before [] = before
joined before (p ∷ parts) = joined (before ++ p.words) parts

-- the lists of these kinds alone, joined
abbrev pub joined_of : List ℕ → List Body → List OneKind → List Body
joined_of kinds kept [] = kept
joined_of kinds kept (p ∷ parts) =
    joined_of kinds (cond (list_any (nat_eq p.number) kinds) (kept ++ p.words) kept) parts

one_more : (kinds : List ℕ) (before kept : List Body) (p : OneKind) → filter (is_of kinds) before ≡ kept
    → filter (is_of kinds) (before ++ p.words) ≡ cond (list_any (nat_eq p.number) kinds) (kept ++ p.words) kept
one_more kinds before kept p was = by (list_any (nat_eq p.number) kinds) refl
  where
    by : (b : Bool) → list_any (nat_eq p.number) kinds ≡ b →
        filter (is_of kinds) (before ++ p.words) ≡ cond b (kept ++ p.words) kept
    by true own = and_kept kinds p.number before kept p.words was own p.own
    by false other = and_passed kinds p.number before kept p.words was other p.own

-- of lists of one kind each, those of some kinds are all that is of these kinds
pub among : (kinds : List ℕ) (before kept : List Body) (parts : List OneKind) → filter (is_of kinds) before ≡ kept →
    filter (is_of kinds) (joined before parts) ≡ joined_of kinds kept parts
among kinds before kept [] was = was
among kinds before kept (p ∷ parts) was =
    among kinds (before ++ p.words) (cond (list_any (nat_eq p.number) kinds) (kept ++ p.words) kept) parts
    (one_more kinds before kept p was)
