-- Words of each kind that come early or late.
use Rattle.std.proofs.Common.{◌≡◌, ℕ, true, false, cond, not, List, [], ◌∷◌, ◌++◌, filter, nat_eq, refl, ◌∙◌, ap}
use Rattle.std.specs.List.{list_any}
use Rattle.std.proofs.lemmas.List.{append-nil}
use Rattle.std.proofs.lemmas.List.Elements.{filter-append}
use Rattle.plain_lists.specs.Lists.{here, there, Each}
use Rattle.message_types.specs.declared.body.Body.{Body}
use Rattle.words_by_part.specs.Kinds.{is_of}
use Rattle.words_by_part.proofs.Sorting.{Of, all_kept, none_kept}

not_kept : (kinds : List ℕ) (k : ℕ) (words : List Body) → list_any (nat_eq k) kinds ≡ true → Each (Of k) words →
    filter (λ word. not (is_of kinds word)) words ≡ []
not_kept kinds k [] own each = refl
not_kept kinds k (w ∷ rest) own each =
    ap (λ b. cond (not b) (w ∷ filter (λ word. not (is_of kinds word)) rest)
    (filter (λ word. not (is_of kinds word)) rest)) (ap (λ n. list_any (nat_eq n) kinds) (each w (here rest)) ∙ own)
    ∙ not_kept kinds k rest own (λ v h. each v (there w rest h))

not_passed : (kinds : List ℕ) (k : ℕ) (words : List Body) → list_any (nat_eq k) kinds ≡ false → Each (Of k) words →
    filter (λ word. not (is_of kinds word)) words ≡ words
not_passed kinds k [] other each = refl
not_passed kinds k (w ∷ rest) other each =
    ap (λ b. cond (not b) (w ∷ filter (λ word. not (is_of kinds word)) rest)
    (filter (λ word. not (is_of kinds word)) rest))
    (ap (λ n. list_any (nat_eq n) kinds) (each w (here rest)) ∙ other)
    ∙ ap (λ (ws : List Body). w ∷ ws) (not_passed kinds k rest other (λ v h. each v (there w rest h)))

-- words of one kind that come early before others that come late
module _ (kinds : List ℕ) (a b : ℕ) (xs ys : List Body) (early : list_any (nat_eq a) kinds ≡ false)
    (late : list_any (nat_eq b) kinds ≡ true) (are : Each (Of a) xs) (come : Each (Of b) ys) where
  pub early_of_two : filter (λ word. not (is_of kinds word)) (xs ++ ys) ≡ xs
  early_of_two = filter-append (λ word. not (is_of kinds word)) xs ys
      ∙ ap (λ zs. zs ++ filter (λ word. not (is_of kinds word)) ys) (not_passed kinds a xs early are)
      ∙ ap (λ zs. xs ++ zs) (not_kept kinds b ys late come) ∙ append-nil xs

  pub late_of_two : filter (is_of kinds) (xs ++ ys) ≡ ys
  late_of_two = filter-append (is_of kinds) xs ys ∙ ap (λ zs. zs ++ filter (is_of kinds) ys)
      (none_kept kinds a xs early are) ∙ all_kept kinds b ys late come

-- the same with early words of two kinds
module _ (kinds : List ℕ) (a b c : ℕ) (xs ys zs : List Body) (early : list_any (nat_eq a) kinds ≡ false)
    (early_too : list_any (nat_eq b) kinds ≡ false) (late : list_any (nat_eq c) kinds ≡ true) (are : Each (Of a) xs)
    (are_too : Each (Of b) ys) (come : Each (Of c) zs) where
  pub early_of_three : filter (λ word. not (is_of kinds word)) (xs ++ ys ++ zs) ≡ xs ++ ys
  early_of_three =
      filter-append (λ word. not (is_of kinds word)) (xs ++ ys) zs
      ∙ ap (λ ws. ws ++ filter (λ word. not (is_of kinds word)) zs)
      (filter-append (λ word. not (is_of kinds word)) xs ys)
      ∙ ap (λ ws. ws ++ filter (λ word. not (is_of kinds word)) ys ++ filter (λ word. not (is_of kinds word)) zs)
      (not_passed kinds a xs early are)
      ∙ ap (λ ws. xs ++ ws ++ filter (λ word. not (is_of kinds word)) zs) (not_passed kinds b ys early_too are_too)
      ∙ ap (λ ws. xs ++ ys ++ ws) (not_kept kinds c zs late come) ∙ append-nil (xs ++ ys)

  pub late_of_three : filter (is_of kinds) (xs ++ ys ++ zs) ≡ zs
  late_of_three =
      filter-append (is_of kinds) (xs ++ ys) zs ∙ ap (λ ws. ws ++ filter (is_of kinds) zs)
      (filter-append (is_of kinds) xs ys)
      ∙ ap (λ ws. ws ++ filter (is_of kinds) ys ++ filter (is_of kinds) zs) (none_kept kinds a xs early are)
      ∙ ap (λ ws. ws ++ filter (is_of kinds) zs) (none_kept kinds b ys early_too are_too)
      ∙ all_kept kinds c zs late come
