-- The audit of a history, without where its frames were said.
use Rattle.std.proofs.Common.{◌≡◌, ℕ, ◌+◌, Bool, ◌&&◌, ◌||◌, not, List, [], ◌∷◌, ◌++◌, length, map, filter, nat_eq}
use Rattle.std.proofs.Common.{refl, sym, ◌∙◌, ap}
use Rattle.std.specs.List.{list_all, list_any, flat_map}
use Rattle.std.proofs.lemmas.List.{map-append}
use Rattle.message_types.specs.declared.body.Body.{Body}
use Rattle.quorum_sets.specs.Masters.{numbers_below}
use Rattle.protocol_rules.specs.Group.{Group}
use Rattle.history_rules.specs.Events.{Entry}
use Rattle.history_rules.specs.Setup.{Setup, is_correct, is_correct_master, own}
use Rattle.history_rules.specs.Legal.{executions, executions_in}
use Rattle.history_rules.specs.Audit.{parts_taken, texts_of, history_texts}
use Rattle.history_rules.specs.Counts.{has_said, is_forged, forged_from, forged, alike_from, alike}
use Rattle.history_rules.specs.Sameness.{is_same_body}
use Rattle.world_rules.specs.Headline.{are_prefixes, agrees}
use Rattle.printed_laws.specs.AlikeLaws.{bare}
use Rattle.printed_laws.proofs.BareEvents.{parts_bare}
use Rattle.printed_laws.proofs.BareLists.{own_bare, executed_bare}

said_before : (before : List Entry) (actor : ℕ) (b : Body) →
    has_said (map bare before) actor b ≡ has_said before actor b
said_before [] actor b = refl
said_before (e ∷ before) actor b = ap (λ (x : Bool). (nat_eq e.actor actor && list_any (is_same_body b) e.said) || x)
    (said_before before actor b)

forged_at : (w : Setup) (before : List Entry) (e : Entry) →
    length (filter (is_forged w (map bare before)) (parts_taken (bare e))) ≡ length
    (filter (is_forged w before) (parts_taken e))
forged_at w before e = λ i. length
    (filter (λ p. is_correct w p.signer && not (said_before before p.signer p.body i)) (parts_bare e i))

forged_since : (w : Setup) (before rest : List Entry) →
    forged_from w (map bare before) (map bare rest) ≡ forged_from w before rest
forged_since w before [] = refl
forged_since w before (e ∷ rest) =
    ap (λ (xs : List Entry). length (filter (is_forged w (map bare before)) (parts_taken (bare e))) + forged_from w xs
    (map bare rest)) (sym (map-append bare before (e ∷ [])))
    ∙ (λ i. forged_at w before e i + forged_since w (before ++ e ∷ []) rest i)

pub forged_bare : (w : Setup) (history : List Entry) → forged w (map bare history) ≡ forged w history
forged_bare w history = forged_since w [] history

texts_bare : (g : Group) (history : List Entry) → history_texts g (map bare history) ≡ history_texts g history
texts_bare g [] = refl
texts_bare g (e ∷ history) = λ i. flat_map (texts_of g) (map (λ p. p.body) (parts_bare e i) ++ e.said)
    ++ texts_bare g history i

pub alike_bare : (g : Group) (history : List Entry) → alike g (map bare history) ≡ alike g history
alike_bare g history = ap (alike_from []) (texts_bare g history)

pub executions_bare : (w : Setup) (history : List Entry) (master : ℕ) →
    executions w (map bare history) master ≡ executions w history master
executions_bare w history master = ap (executions_in w master) (own_bare history master)
    ∙ executed_bare w master (own history master)

pub agrees_bare : (w : Setup) (history : List Entry) → agrees w (map bare history) ≡ agrees w history
unfolding agrees
agrees_bare w history =
    let correct : List ℕ = filter (is_correct_master w) (numbers_below w.group.n) in
    λ k. list_all (λ i. list_all (λ j. are_prefixes (executions_bare w history i k) (executions_bare w history j k))
    correct) correct
