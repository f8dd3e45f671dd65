-- What is first in a list, and the first answer that a growing list gives.
use Rattle.std.proofs.Common.{◌≡◌, true, List, [], ◌∷◌, ◌++◌, Option, None, Some, is_some, refl, sym, ◌∙◌, ap}
use Rattle.std.proofs.Common.{append_assoc, true≢false, false, Bool, cond, subst}
use Rattle.std.proofs.lemmas.List.{append-nil}
use Rattle.std.specs.Option.{option_map}
use Rattle.std.specs.List.{cons_option, filter_map}
use Rattle.plain_lists.specs.Lists.{IsIn, here, there, Within}
use Rattle.plain_lists.proofs.Members.{in_left, some_same, none_some}
use Rattle.protocol_rules.specs.Words.{or_else, first_met, first_of_list}

pub or_else-assoc : {X : Type 0} (a b c : Option X) → or_else (or_else a b) c ≡ or_else a (or_else b c)
or_else-assoc None b c = refl
or_else-assoc (Some x) b c = refl

-- one element more
pub first_met-push : {F X : Type 0} (met : List F → Option X) (seen known : List F) (x : F) →
    first_met met seen (known ++ x ∷ []) ≡ or_else (first_met met seen known) (met (seen ++ (known ++ x ∷ [])))
unfolding first_met
first_met-push met seen [] x = refl
first_met-push met seen (y ∷ known) x =
    ap (or_else (met seen)) (first_met-push met (seen ++ y ∷ []) known x
    ∙ ap (λ all. or_else (first_met met (seen ++ y ∷ []) known) (met all))
    (append_assoc seen (y ∷ []) (known ++ x ∷ [])))
    ∙ sym (or_else-assoc (met seen) _ _)

pub first_met-none : {F X : Type 0} (met : List F → Option X) (seen known : List F) →
    first_met met seen known ≡ None → met (seen ++ known) ≡ None
unfolding first_met
first_met-none met seen [] none = ap met (append-nil seen) ∙ none
first_met-none {X = X} met seen (y ∷ known) none =
    ap met (sym (append_assoc seen (y ∷ []) known)) ∙ first_met-none met (seen ++ y ∷ []) known (second (met seen) none)
  where
    second : (a : Option X) → or_else a (first_met met (seen ++ y ∷ []) known) ≡ None →
        first_met met (seen ++ y ∷ []) known ≡ None
    second None e = e
    second (Some v) e = absurd (true≢false (ap is_some e))

-- where a list's beginning has its answer already, asking it again changes nothing
pub met-again : {F X : Type 0} (met : List F → Option X) (seen xs : List F) →
    or_else (met seen) (first_met met seen xs) ≡ first_met met seen xs
unfolding first_met
met-again met seen [] = same (met seen)
  where
    same : {X : Type 0} (o : Option X) → or_else o o ≡ o
    same None = refl
    same (Some x) = refl
met-again met seen (x ∷ xs) = again (met seen) (first_met met (seen ++ x ∷ []) xs)
  where
    again : {X : Type 0} (o rest : Option X) → or_else o (or_else o rest) ≡ or_else o rest
    again None rest = refl
    again (Some y) rest = refl

pub none_there : {X : Type 0} (o : Option X) → false ≡ is_some o → o ≡ None
none_there None e = refl
none_there (Some x) e = absurd (true≢false (sym e))

pub or_else-none : {X : Type 0} (o : Option X) → or_else o None ≡ o
or_else-none None = refl
or_else-none (Some x) = refl

pub option_map-or_else : {X Y : Type 0} (f : X → Y) (a b : Option X) →
    option_map f (or_else a b) ≡ or_else (option_map f a) (option_map f b)
option_map-or_else f None b = refl
option_map-or_else f (Some x) b = refl

-- a value that is there stays
pub stays : {X : Type 0} (given : Bool) (old : Option X) (x : X) → (given ≡ true → is_some old ≡ true) →
    old ≡ or_else old (cond given (Some x) None)
stays true (Some v) x held = refl
stays true None x held = absurd (true≢false (sym (held refl)))
stays false (Some v) x held = refl
stays false None x held = refl

-- a value that wasn't there is taken
pub taken : {X : Type 0} (given : Bool) (old : Option X) (x : X) → (given ≡ true → old ≡ None) →
    cond given (Some x) old ≡ or_else old (cond given (Some x) None)
taken true (Some v) x absent = absurd (true≢false (ap is_some (absent refl)))
taken true None x absent = refl
taken false (Some v) x absent = refl
taken false None x absent = refl

first-alone : {X : Type 0} (o : Option X) → first_of_list (cons_option o []) ≡ o
first-alone None = refl
first-alone (Some x) = refl

first-cons : {X : Type 0} (o : Option X) (xs ys : List X) (last : Option X) →
    first_of_list xs ≡ or_else (first_of_list ys) last →
    first_of_list (cons_option o xs) ≡ or_else (first_of_list (cons_option o ys)) last
first-cons None xs ys last more = more
first-cons (Some x) xs ys last more = refl

pub first_of_list-push : {F X : Type 0} (f : F → Option X) (xs : List F) (x : F) →
    first_of_list (filter_map f (xs ++ x ∷ [])) ≡ or_else (first_of_list (filter_map f xs)) (f x)
first_of_list-push f [] x = first-alone (f x)
first_of_list-push f (y ∷ ys) x = first-cons (f y) (filter_map f (ys ++ x ∷ [])) (filter_map f ys)
    (f x) (first_of_list-push f ys x)

pub first_in : {X : Type 0} {x : X} (xs : List X) → first_of_list xs ≡ Some x → IsIn x xs
first_in [] e = absurd (none_some e)
first_in (y ∷ xs) e = subst (λ z. IsIn z (y ∷ xs)) (some_same e) (here xs)

-- what a nonempty list has a first of
pub first_there : {X : Type 0} {x : X} {xs : List X} → IsIn x xs → (y : X) × (first_of_list xs ≡ Some y)
first_there (here rest) = (_, refl)
first_there (there y rest h) = (y, refl)

-- the lists' beginnings: what is met first is met of some beginning
pub first_met_from : {F X : Type 0} (met : List F → Option X) {x : X} (seen rest : List F) →
    first_met met seen rest ≡ Some x
    → (beginning : List F) × Within beginning (seen ++ rest) × (met beginning ≡ Some x)
unfolding first_met
first_met_from met seen [] e = (seen, (λ y h. in_left [] h), e)
first_met_from {F} {X} met {x} seen (f ∷ rest) e =
    by_first (met seen) refl e (λ later. first_met_from met (seen ++ f ∷ []) rest later)
  where
    by_first : (o : Option X) → met seen ≡ o → or_else o (first_met met (seen ++ f ∷ []) rest) ≡ Some x
        → (first_met met (seen ++ f ∷ []) rest ≡ Some x → (beginning : List F)
        × Within beginning ((seen ++ f ∷ []) ++ rest) × (met beginning ≡ Some x))
        → (beginning : List F) × Within beginning (seen ++ f ∷ rest) × (met beginning ≡ Some x)
    by_first (Some y) was e later = (seen, (λ z h. in_left (f ∷ rest) h), was ∙ e)
    by_first None was e later = let found = later e in
        (found.0, (λ z h. subst (λ (zs : List F). IsIn z zs) (append_assoc seen (f ∷ []) rest) (found.1 z h)), found.2)

-- what was met of a list is met of a longer one
pub first_met-more : {F X : Type 0} (met : List F → Option X) {x : X} (seen first more : List F) →
    first_met met seen first ≡ Some x → first_met met seen (first ++ more) ≡ Some x
unfolding first_met
first_met-more met seen [] [] e = e
first_met-more {F} {X} met {x} seen [] (y ∷ more) e =
    ap (λ (o : Option X). or_else o (first_met met (seen ++ y ∷ []) more)) e
first_met-more {F} {X} met {x} seen (f ∷ first) more e =
    by_first (met seen) e (λ later. first_met-more met (seen ++ f ∷ []) first more later)
  where
    by_first : (o : Option X) → or_else o (first_met met (seen ++ f ∷ []) first) ≡ Some x
        → (first_met met (seen ++ f ∷ []) first ≡ Some x → first_met met (seen ++ f ∷ []) (first ++ more) ≡ Some x) →
        or_else o (first_met met (seen ++ f ∷ []) (first ++ more)) ≡ Some x
    by_first (Some y) e later = e
    by_first None e later = later e
