-- What is kept of a list is what is kept of its beginning, and then of its rest.
use Rattle.std.proofs.Common.{◌≡◌, ℕ, ◌+◌, ◌≤◌, ◌-◌, zero, suc, List, [], ◌∷◌, ◌++◌, length, take, codes, append_assoc, append-nil}
use Rattle.std.proofs.Common.{refl, sym, ◌∙◌, ap, arith, drop}
use Rattle.std.proofs.lemmas.List.{length-append, take_all, take-append-drop}
use Rattle.plain_lists.specs.Lists.{Begins}
use Rattle.plain_lists.proofs.Lists.{take_left}
use Rattle.scenario_file.specs.Reading.{Contents}
use Rattle.history_rules.specs.Events.{Entry}
use Rattle.kept_lines.specs.Lines.{kept_line, kept_from, kept_file}

pub kept_behind : (c : Contents) (before xs ys : List Entry) →
    kept_from c before (xs ++ ys) ≡ kept_from c before xs ++ kept_from c (before ++ xs) ys
kept_behind c before [] ys = ap (λ (es : List Entry). kept_from c es ys) (sym (append-nil before))
kept_behind c before (x ∷ xs) ys =
    ap (λ (bs : List ℕ). (kept_line c before x ++ codes "\n") ++ bs)
    (kept_behind c (before ++ x ∷ []) xs ys
    ∙ ap (λ (es : List Entry). kept_from c (before ++ x ∷ []) xs ++ kept_from c es ys)
    (append_assoc before (x ∷ []) xs))
    ∙ sym (append_assoc (kept_line c before x ++ codes "\n") (kept_from c (before ++ x ∷ []) xs)
    (kept_from c (before ++ x ∷ xs) ys))

pub kept_more : (c : Contents) (xs ys : List Entry) → kept_file c (xs ++ ys) ≡ kept_file c xs ++ kept_from c xs ys
kept_more c xs ys = kept_behind c [] xs ys

-- of one entry
pub kept_one : (c : Contents) (before : List Entry) (e : Entry) →
    kept_from c before (e ∷ []) ≡ kept_line c before e ++ codes "\n"
kept_one c before e = append-nil (kept_line c before e ++ codes "\n")

-- each entry takes a byte at least
pub kept_long : (c : Contents) (before xs : List Entry) → length xs ≤ length (kept_from c before xs)
kept_long c before [] = omega arith
kept_long c before (x ∷ xs) =
    let rest : length xs ≤ length (kept_from c (before ++ x ∷ []) xs) = kept_long c (before ++ x ∷ []) xs in
    let line : length (kept_line c before x ++ codes "\n") ≡ length (kept_line c before x) + 1 =
    length-append (kept_line c before x) (codes "\n") in
    let whole = length-append (kept_line c before x ++ codes "\n") (kept_from c (before ++ x ∷ []) xs) in
    omega arith

-- of beginnings
pub begins_all : {X : Type 0} (xs : List X) → Begins xs xs
begins_all xs = record { rest = []; same = sym (append-nil xs) }

pub begins_front : {X : Type 0} (xs ys : List X) → Begins xs (xs ++ ys)
begins_front xs ys = record { rest = ys; same = refl }

pub begins_more : {X : Type 0} (xs ys zs : List X) → Begins xs ys → Begins xs (ys ++ zs)
begins_more {X} xs ys zs begins = record {
  rest = begins.rest ++ zs;
  same = ap (λ (us : List X). us ++ zs) begins.same ∙ append_assoc xs begins.rest zs;
}

-- a beginning of what is behind
pub begins_behind : {X : Type 0} (xs ys : List X) (count : ℕ) → Begins (xs ++ take count ys) (xs ++ ys)
begins_behind {X} xs ys count = record {
  rest = drop count ys;
  same = ap (λ (zs : List X). xs ++ zs) (sym (take-append-drop count ys))
      ∙ sym (append_assoc xs (take count ys) (drop count ys));
}

-- what is durable of a text has its beginning that is
pub begins_durable : {X : Type 0} (xs ys : List X) (count : ℕ) → length xs ≤ count → Begins xs (take count (xs ++ ys))
begins_durable {X} xs ys count within = record {
  rest = drop (length xs) (take count (xs ++ ys));
  same =
      sym (take-append-drop (length xs) (take count (xs ++ ys)))
      ∙ ap (λ (zs : List X). zs ++ drop (length xs) (take count (xs ++ ys)))
      (front xs ys count within);
}
  where
    front : (us vs : List X) (n : ℕ) → length us ≤ n → take (length us) (take n (us ++ vs)) ≡ us
    front [] vs n low = refl
    front (u ∷ us) vs zero low = absurd (omega arith)
    front (u ∷ us) vs (suc n) low = ap (λ (zs : List X). u ∷ zs) (front us vs n (omega arith))

-- the first of a list are its beginning
pub first_are : {X : Type 0} (xs ys : List X) → take (length xs) (xs ++ ys) ≡ xs
first_are xs ys = take_left xs ys (length xs) (omega arith) ∙ take_all (length xs) xs (omega arith)
