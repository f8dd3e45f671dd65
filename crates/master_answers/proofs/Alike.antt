-- Of all words that a master says each part is asked about its own kinds alone.
use Rattle.std.proofs.Common.{◌≡◌, Bool, true, false, cond, ◌||◌, List, [], ◌∷◌, ◌++◌, Option, filter, refl}
use Rattle.std.proofs.Common.{sym, ◌∙◌, ap}
use Rattle.std.specs.List.{list_any, filter_map}
use Rattle.std.proofs.lemmas.List.Elements.{filter-append, filter_map-append}
use Rattle.std.proofs.lemmas.List.Folds.{list_any-append}
use Rattle.plain_lists.proofs.Lists.{filter-again}

-- a test, or what is made of words, that goes by the words of some kinds alone answers alike where these are the same
pub any_alike : {X : Type 0} (t own : X → Bool) (said all part : List X) →
    list_any t (filter own all) ≡ list_any t all → filter own all ≡ part →
    list_any t (said ++ all) ≡ list_any t (said ++ part)
any_alike t own said all part tells is = list_any-append t said all ∙ ap (λ b. list_any t said || b)
    (sym tells ∙ ap (list_any t) is) ∙ sym (list_any-append t said part)

pub some_alike : {X Y : Type 0} (t : X → Option Y) (own : X → Bool) (said all part : List X) →
    filter_map t (filter own all) ≡ filter_map t all → filter own all ≡ part →
    filter_map t (said ++ all) ≡ filter_map t (said ++ part)
some_alike t own said all part tells is = filter_map-append t said all ∙ ap (λ ys. filter_map t said ++ ys)
    (sym tells ∙ ap (filter_map t) is) ∙ sym (filter_map-append t said part)

pub filter_same : {X : Type 0} (t own : X → Bool) → ((x : X) → t x ≡ own x) → (xs : List X) →
    filter t xs ≡ filter own xs
filter_same t own same [] = refl
filter_same {X} t own same (x ∷ rest) =
    ap (λ b. cond b (x ∷ filter t rest) (filter t rest)) (same x)
    ∙ ap (λ (ys : List X). cond (own x) (x ∷ ys) ys) (filter_same t own same rest)

-- the words that pass are the same where the part is those of its kinds
pub kept_alike : {X : Type 0} (t own : X → Bool) (said all part : List X) → ((x : X) → t x ≡ own x) →
    filter own all ≡ part → filter t (said ++ all) ≡ filter t (said ++ part)
kept_alike t own said all part same is =
    filter-append t said all
    ∙ ap (λ ys. filter t said ++ ys) (filter_same t own same all ∙ sym (filter-again own all) ∙ ap (filter own) is
    ∙ sym (filter_same t own same part))
    ∙ sym (filter-append t said part)

-- a test that passes words of some kinds alone
pub any_own : {X : Type 0} (t own : X → Bool) → ((x : X) → own x ≡ false → t x ≡ false) → (xs : List X) →
    list_any t (filter own xs) ≡ list_any t xs
any_own t own passes [] = refl
any_own t own passes (x ∷ rest) = by (own x) refl (any_own t own passes rest)
  where
    by : (b : Bool) → own x ≡ b → list_any t (filter own rest) ≡ list_any t rest →
        list_any t (cond b (x ∷ filter own rest) (filter own rest)) ≡ (t x || list_any t rest)
    by true e later = ap (λ b. t x || b) later
    by false e later = later ∙ ap (λ b. b || list_any t rest) (sym (passes x e))
