-- Pieces that are joined from the right are joined from the left: a macro writes its pieces one by one.
use Rattle.std.proofs.Common.{◌≡◌, ℕ, List, ◌++◌, append_assoc, sym, ◌∙◌}

pub three-parts : (a b c : List ℕ) → a ++ (b ++ c) ≡ a ++ b ++ c
three-parts a b c = sym (append_assoc a b c)

pub five-parts : (a b c d e : List ℕ) → a ++ (b ++ (c ++ (d ++ e))) ≡ a ++ b ++ c ++ d ++ e
five-parts a b c d e = three-parts a b (c ++ (d ++ e)) ∙ three-parts (a ++ b) c (d ++ e) ∙ three-parts (a ++ b ++ c) d e

pub seven-parts : (a b c d e f g : List ℕ) → a ++ (b ++ (c ++ (d ++ (e ++ (f ++ g))))) ≡ a ++ b ++ c ++ d ++ e ++ f ++ g
seven-parts a b c d e f g =
    five-parts a b c d (e ++ (f ++ g)) ∙ three-parts (a ++ b ++ c ++ d) e (f ++ g)
    ∙ three-parts (a ++ b ++ c ++ d ++ e) f g

pub nine-parts : (a b c d e f g h i : List ℕ) → a ++ (b ++ (c ++ (d ++ (e ++ (f ++ (g ++ (h ++ i))))))) ≡ a ++ b ++ c
    ++ d ++ e ++ f ++ g ++ h ++ i
nine-parts a b c d e f g h i =
    seven-parts a b c d e f (g ++ (h ++ i)) ∙ three-parts (a ++ b ++ c ++ d ++ e ++ f) g (h ++ i)
    ∙ three-parts (a ++ b ++ c ++ d ++ e ++ f ++ g) h i

pub eleven-parts : (a b c d e f g h i j k : List ℕ)
    → a ++ (b ++ (c ++ (d ++ (e ++ (f ++ (g ++ (h ++ (i ++ (j ++ k))))))))) ≡ a ++ b ++ c ++ d ++ e
    ++ f ++ g ++ h ++ i ++ j ++ k
eleven-parts a b c d e f g h i j k =
    nine-parts a b c d e f g h (i ++ (j ++ k)) ∙ three-parts (a ++ b ++ c ++ d ++ e ++ f ++ g ++ h) i (j ++ k)
    ∙ three-parts (a ++ b ++ c ++ d ++ e ++ f ++ g ++ h ++ i) j k
