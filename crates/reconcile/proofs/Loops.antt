-- One thing wanted more, and what comes of one gift.
use Rattle.std.proofs.Common.{◌≡◌, ℕ, ◌+◌, ◌<◌, false, List, [], ◌∷◌, ◌++◌, ◌||◌, Option, Some, None, Result, Ok, Err}
use Rattle.std.proofs.Common.{IfOk, OnOk, OnErr, length, take, get_or, refl, sym, ◌∙◌, ap}
use Rattle.std.specs.List.{list_any, flat_map}
use Rattle.std.specs.Option.{option_map, option_to_list, option_and_then}
use Rattle.std.proofs.lemmas.List.{take_more, append-nil}
use Rattle.std.proofs.lemmas.List.Elements.{filter_map-append}
use Rattle.std.proofs.lemmas.List.Folds.{list_any-append}
use Rattle.std.proofs.lemmas.Grind.{flat_map-append}
use Rattle.message_types.specs.declared.signed.Signed.{Signed}
use Rattle.message_types.specs.declared.updates.Update.{Update}
use Rattle.message_types.specs.declared.reconciling.Give.{Give}
use Rattle.message_types.specs.declared.body.Body.{Body}
use Rattle.message_types.specs.declared.body.Body.TheVariants as body
use Rattle.protocol_rules.specs.Group.{Group}
use Rattle.protocol_rules.specs.Preorder.{certified}
use Rattle.reconcile.specs.declared.wanted.Wanted.{Wanted}
use Rattle.reconcile.specs.declared.wanted.Wanted.TheVariants.{Request, Number}
use Rattle.reconcile.specs.Asking.{asks}
use Rattle.reconcile.specs.Giving.{gift_of, give_of, given_of, number_in, numbers_in}
use Rattle.plain_lists.proofs.Lists.{one_listed}

pub numbers_more : (list : List Wanted) (i : ℕ) (d : Wanted) → i < length list →
    numbers_in (take (i + 1) list) ≡ numbers_in (take i list) ++ option_to_list (number_in (get_or list i d))
numbers_more list i d within =
    ap numbers_in (take_more list i d within) ∙ filter_map-append number_in (take i list) (get_or list i d ∷ [])
    ∙ ap (λ xs. numbers_in (take i list) ++ xs) (one_listed (number_in (get_or list i d)))

pub given_more : (g : Group) (known : List (Signed Body)) (list : List Wanted) (i : ℕ) (d : Wanted) → i < length list →
    flat_map (given_of g known) (take (i + 1) list) ≡ flat_map (given_of g known) (take i list)
    ++ given_of g known (get_or list i d)
given_more g known list i d within =
    ap (flat_map (given_of g known)) (take_more list i d within) ∙ flat_map-append (given_of g known)
    (take i list) (get_or list i d ∷ [])
    ∙ ap (λ xs. flat_map (given_of g known) (take i list) ++ xs) (append-nil (given_of g known (get_or list i d)))

no_ask : (w : Wanted) (gift : Option Give) →
    list_any (asks w) (option_to_list (option_map (λ give. body.Give give) gift)) ≡ false
no_ask (Request j k) None = refl
no_ask (Request j k) (Some give) = refl
no_ask (Number s) None = refl
no_ask (Number s) (Some give) = refl

pub asks_no_more : (w : Wanted) (bodies : List Body) (gift : Option Give) → list_any (asks w) bodies ≡ false →
    list_any (asks w) (bodies ++ option_to_list (option_map (λ give. body.Give give) gift)) ≡ false
asks_no_more w bodies gift none =
    list_any-append (asks w) bodies (option_to_list (option_map (λ give. body.Give give) gift))
    ∙ ap (λ b. b || list_any (asks w) (option_to_list (option_map (λ give. body.Give give) gift))) none ∙ no_ask w gift

pub ok_kept : {A E : Type 0} (P Q : A → Type 0) (r : Result A E) → ((a : A) → P a → Q a) → IfOk r P → IfOk r Q
ok_kept P Q (Ok a) implies holds = implies a holds
ok_kept P Q (Err e) implies holds = tt

pub give_certified : (g : Group) (known : List (Signed Body)) (j k : ℕ) (u : Update) (gift : Option Give) →
    certified g known j k ≡ Some u → gift ≡ gift_of g known j k u →
    option_to_list (option_map (λ give. body.Give give) gift) ≡ give_of g known j k
give_certified g known j k u gift found is =
    ap (λ o. option_to_list (option_map (λ give. body.Give give) o))
    (is ∙ ap (option_and_then (gift_of g known j k)) (sym found))

pub nothing_certified : (g : Group) (known : List (Signed Body)) (j k : ℕ) → certified g known j k ≡ None →
    [] ≡ give_of g known j k
nothing_certified g known j k none =
    ap (λ o. option_to_list (option_map (λ give. body.Give give) (option_and_then (gift_of g known j k) o))) (sym none)

pub done_kept : {A E : Type 0} (P Q : Type 0) (r : Result A E) → (P → Q) → OnOk r P → OnOk r Q
done_kept P Q (Ok a) implies holds = implies holds
done_kept P Q (Err e) implies holds = tt

pub spent_kept : {A E : Type 0} (P : Type 0) (r : Result A E) → P → OnErr r P
spent_kept P (Ok a) holds = tt
spent_kept P (Err e) holds = holds
