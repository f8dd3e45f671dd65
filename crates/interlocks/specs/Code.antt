-- A rule as a list, operands first, and the way back: by this a proof tells rules apart.
use Rattle.std.specs.Prelude.{◌≡◌, ℕ, zero, suc, List, [], ◌∷◌, ◌++◌, ℤ, pos, refl}
use Rattle.std.specs.Coded.{Coded, code_by, coded×, coded_ℕ, coded_ℤ, coded_list}
use Rattle.std.proofs.Common.{ap, ◌∙◌, sym, append_assoc, append-nil}
use Rattle.interlocks.specs.declared.tree.Comparison.{Comparison}
use Rattle.interlocks.specs.declared.tree.Comparison.TheVariants.{Equal, NotEqual, Below, AtMost, Above, AtLeast}
use Rattle.interlocks.specs.Formula.{Formula, alarm, compare, negation, bracket, both, either}

abbrev pub index_of : Comparison → ℕ
index_of Equal = 0
index_of NotEqual = 1
index_of Below = 2
index_of AtMost = 3
index_of Above = 4
index_of AtLeast = 5

abbrev pub comparison_at : ℕ → Comparison
comparison_at zero = Equal
comparison_at (suc zero) = NotEqual
comparison_at (suc (suc zero)) = Below
comparison_at (suc (suc (suc zero))) = AtMost
comparison_at (suc (suc (suc (suc zero)))) = Above
comparison_at (suc (suc (suc (suc (suc n))))) = AtLeast

abbrev pub Word : Type 0
Word = ℕ × (ℕ × (ℕ × ℤ))

abbrev pub sign : ℕ → Word
sign kind = (kind, (0, (0, pos 0)))

abbrev pub words : Formula → List Word
words (alarm n) = (0, (n, (0, pos 0))) ∷ []
words (compare p c z) = (1, (p, (index_of c, z))) ∷ []
words (negation f) = words f ++ sign 2 ∷ []
words (bracket f) = words f ++ sign 3 ∷ []
words (both f g) = words f ++ (words g ++ sign 4 ∷ [])
words (either f g) = words f ++ (words g ++ sign 5 ∷ [])

abbrev pub unary : (Formula → Formula) → List Formula → List Formula
unary make [] = []
unary make (f ∷ fs) = make f ∷ fs

abbrev pub binary : (Formula → Formula → Formula) → List Formula → List Formula
binary make [] = []
binary make (g ∷ []) = []
binary make (g ∷ f ∷ fs) = make f g ∷ fs

abbrev pub put : ℕ → ℕ → ℕ → ℤ → List Formula → List Formula
put zero n c z fs = alarm n ∷ fs
put (suc zero) n c z fs = compare n (comparison_at c) z ∷ fs
put (suc (suc zero)) n c z fs = unary negation fs
put (suc (suc (suc zero))) n c z fs = unary bracket fs
put (suc (suc (suc (suc zero)))) n c z fs = binary both fs
put (suc (suc (suc (suc (suc k))))) n c z fs = binary either fs

abbrev pub put_all : List Word → List Formula → List Formula
put_all [] fs = fs
put_all (w ∷ ws) fs = put_all ws (put w.0 w.1.0 w.1.1.0 w.1.1.1 fs)

abbrev pub first_of_list : List Formula → Formula
first_of_list [] = alarm 0
first_of_list (f ∷ fs) = f

abbrev pub from_words : List Word → Formula
from_words ws = first_of_list (put_all ws [])

abbrev pub same_comparison : (c : Comparison) → comparison_at (index_of c) ≡ c
same_comparison Equal = refl
same_comparison NotEqual = refl
same_comparison Below = refl
same_comparison AtMost = refl
same_comparison Above = refl
same_comparison AtLeast = refl

abbrev pub put_words : (f : Formula) (ws : List Word) (fs : List Formula) →
    put_all (words f ++ ws) fs ≡ put_all ws (f ∷ fs)
put_words (alarm n) ws fs = refl
put_words (compare p c z) ws fs = ap (λ (d : Comparison). put_all ws (compare p d z ∷ fs)) (same_comparison c)
put_words (negation f) ws fs = ap (λ (x : List Word). put_all x fs) (append_assoc (words f) (sign 2 ∷ []) ws)
    ∙ put_words f (sign 2 ∷ ws) fs
put_words (bracket f) ws fs = ap (λ (x : List Word). put_all x fs) (append_assoc (words f) (sign 3 ∷ []) ws)
    ∙ put_words f (sign 3 ∷ ws) fs
put_words (both f g) ws fs =
    ap (λ (x : List Word). put_all x fs) (append_assoc (words f) (words g ++ sign 4 ∷ []) ws)
    ∙ (put_words f ((words g ++ sign 4 ∷ []) ++ ws) fs
    ∙ (ap (λ (x : List Word). put_all x (f ∷ fs)) (append_assoc (words g) (sign 4 ∷ []) ws)
    ∙ put_words g (sign 4 ∷ ws) (f ∷ fs)))
put_words (either f g) ws fs =
    ap (λ (x : List Word). put_all x fs) (append_assoc (words f) (words g ++ sign 5 ∷ []) ws)
    ∙ (put_words f ((words g ++ sign 5 ∷ []) ++ ws) fs
    ∙ (ap (λ (x : List Word). put_all x (f ∷ fs)) (append_assoc (words g) (sign 5 ∷ []) ws)
    ∙ put_words g (sign 5 ∷ ws) (f ∷ fs)))

abbrev pub same_formula : (f : Formula) → from_words (words f) ≡ f
same_formula f = ap from_words (sym (append-nil (words f))) ∙ ap first_of_list (put_words f [] [])

abbrev pub formula_code : Coded Formula
formula_code = code_by (List Word) (coded_list (coded× coded_ℕ (coded× coded_ℕ (coded× coded_ℕ coded_ℤ))))
    words from_words same_formula
