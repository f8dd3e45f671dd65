-- What was read ahead waits before what the reader gives, so bytes that are taken of the one or read from the other leave what
-- waits as it is, but for the byte that is given.
use Rattle.std.proofs.Common.{◌≡◌, ℕ, List, [], ◌∷◌, ◌++◌, Option, None, Some, sym, ◌∙◌, ap, subst}
use Rattle.std.specs.Io.KnownBytes.{Consumes, Keeps, IsAtEnd, prepend_known}

-- a byte that was read ahead is given
pub first_given : (ahead left : List ℕ) (before after : Option (List ℕ)) (b : ℕ) → ahead ≡ b ∷ left → after ≡ before →
    Consumes (prepend_known ahead before) (prepend_known left after) (b ∷ [])
first_given ahead left before after b first same =
    subst (λ (x : Option (List ℕ)). Consumes (prepend_known ahead before) (prepend_known left x) (b ∷ [])) (sym same)
    (at before)
  where
    at : (rest : Option (List ℕ)) → Consumes (prepend_known ahead rest) (prepend_known left rest) (b ∷ [])
    at None = tt
    at (Some xs) = ap (λ ys. ys ++ xs) first

-- a byte that was just read is given
pub read_given : (ahead left : List ℕ) (before mid after : Option (List ℕ)) (b : ℕ) → Consumes before mid ahead →
    ahead ≡ b ∷ left → after ≡ mid → Consumes (prepend_known [] before) (prepend_known left after) (b ∷ [])
read_given ahead left None mid after b read first same = tt
read_given ahead left (Some xs) None after b read first same = absurd read
read_given ahead left (Some xs) (Some ys) None b read first same = absurd (cc)
read_given ahead left (Some xs) (Some ys) (Some zs) b read first same =
    let its : zs ≡ ys = cc in
    read ∙ ap (λ front. front ++ ys) first ∙ ap (λ back. b ∷ (left ++ back)) (sym its)

-- nothing was read, so all is at its end
pub nothing_waits : (ahead : List ℕ) (before mid : Option (List ℕ)) → Consumes before mid ahead → ahead ≡ [] →
    IsAtEnd mid → IsAtEnd (prepend_known [] before) × IsAtEnd (prepend_known ahead mid)
    × Keeps (prepend_known [] before) (prepend_known ahead mid)
nothing_waits ahead None None read none ends = (tt, tt, tt)
nothing_waits ahead None (Some ys) read none ends = (tt, ap (λ front. front ++ ys) none ∙ ends, tt)
nothing_waits ahead (Some xs) None read none ends = absurd read
nothing_waits ahead (Some xs) (Some ys) read none ends =
    let first : xs ≡ [] = read ∙ ap (λ front. front ++ ys) none ∙ ends in
    let last : ahead ++ ys ≡ [] = ap (λ front. front ++ ys) none ∙ ends in
    (first, last, last ∙ sym first)

-- after a fault of the reader
pub all_waits : (ahead : List ℕ) (before mid : Option (List ℕ)) → ahead ≡ [] → Keeps before mid →
    Keeps (prepend_known [] before) (prepend_known ahead mid)
all_waits ahead None mid none keeps = tt
all_waits ahead (Some xs) None none keeps = absurd keeps
all_waits ahead (Some xs) (Some ys) none keeps = ap (λ front. front ++ ys) none ∙ keeps
