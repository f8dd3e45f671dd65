-- Bodies beside their signatures: the pairs of the lists' beginnings grow by one, and end as those of the whole lists.
use Rattle.std.proofs.Common.{◌≡◌, ℕ, ◌+◌, ◌<◌, List, [], ◌∷◌, ◌++◌, zero, suc, length, map, min, get_or, take, refl}
use Rattle.std.proofs.Common.{sym, ◌∙◌, ap, arith}
use Rattle.std.specs.List.{zip}
use Rattle.std.proofs.lemmas.List.{map-append}
use Rattle.message_types.specs.declared.signed.Signed.{Signed}
use Rattle.message_types.specs.declared.body.Body.{Body}
use Rattle.world_history.specs.Signed.{frames_with}

pairs_more : {A B : Type 0} (xs : List A) (ys : List B) (i : ℕ) (d : A) (e : B) → i < length xs → i < length ys
    → zip (take (suc i) xs) (take (suc i) ys) ≡ zip (take i xs) (take i ys) ++ (get_or xs i d, get_or ys i e) ∷ []
pairs_more [] ys i d e low there = absurd (omega arith)
pairs_more (x ∷ xs) [] i d e low there = absurd (omega arith)
pairs_more (x ∷ xs) (y ∷ ys) zero d e low there = refl
pairs_more (x ∷ xs) (y ∷ ys) (suc i) d e low there =
    ap (λ ps. (x, y) ∷ ps) (pairs_more xs ys i d e (omega arith) (omega arith))

pairs_whole : {A B : Type 0} (xs : List A) (ys : List B) (n : ℕ) → n ≡ min (length xs) (length ys) →
    zip (take n xs) (take n ys) ≡ zip xs ys
pairs_whole [] ys n is = let none : n ≡ zero = omega arith in ap (λ k. zip (take k []) (take k ys)) none
pairs_whole (x ∷ xs) [] n is = let none : n ≡ zero = omega arith in ap (λ k. zip (take k (x ∷ xs)) (take k [])) none
pairs_whole (x ∷ xs) (y ∷ ys) n is =
    let more : n ≡ suc (min (length xs) (length ys)) = omega arith in
    ap (λ k. zip (take k (x ∷ xs)) (take k (y ∷ ys))) more
    ∙ ap (λ ps. (x, y) ∷ ps) (pairs_whole xs ys (min (length xs) (length ys)) refl)

pub frames_more : (actor i : ℕ) (bodies : List Body) (signatures : List (List ℕ)) (b d : Body) (s e : List ℕ) →
    i < length bodies → i < length signatures
    → b ≡ get_or bodies i d → s ≡ get_or signatures i e
    → frames_with actor (take (i + 1) bodies) (take (i + 1) signatures)
    ≡ frames_with actor (take i bodies) (take i signatures) ++ record { signer = actor; body = b; sig = s } ∷ []
frames_more actor i bodies signatures b d s e low there body sig =
    let next : i + 1 ≡ suc i = omega arith in
    ap (λ k. frames_with actor (take k bodies) (take k signatures)) next
    ∙ ap (map made) (pairs_more bodies signatures i d e low there)
    ∙ map-append made (zip (take i bodies) (take i signatures)) ((get_or bodies i d, get_or signatures i e) ∷ [])
    ∙ ap (λ f. frames_with actor (take i bodies) (take i signatures) ++ f ∷ [])
    (ap (λ x. made (x, get_or signatures i e)) (sym body) ∙ ap (λ x. made (b, x)) (sym sig))
  where
    made : Body × List ℕ → Signed Body
    made p = record { signer = actor; body = p.0; sig = p.1 }

pub frames_whole : (actor n : ℕ) (bodies : List Body) (signatures : List (List ℕ)) →
    n ≡ min (length bodies) (length signatures)
    → frames_with actor (take n bodies) (take n signatures) ≡ frames_with actor bodies signatures
frames_whole actor n bodies signatures is = ap (map (λ p. record { signer = actor; body = p.0; sig = p.1 }))
    (pairs_whole bodies signatures n is)
