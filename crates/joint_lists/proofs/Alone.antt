-- The entries of a station are its own.
use Rattle.std.proofs.Common.{◌≡◌, ℕ, true, ◌&&◌, List, [], ◌∷◌, ◌++◌, nat_eq, ◌∙◌, ap, arith}
use Rattle.std.proofs.lemmas.Bool.{and_parts, eq-eqb}
use Rattle.std.proofs.lemmas.List.Folds.{list_all-append}
use Rattle.agreement.proofs.KnownAsItGrows.{own_first, own_none}
use Rattle.history_rules.specs.Events.{Entry}
use Rattle.history_rules.specs.Setup.{own}
use Rattle.joint_lists.specs.Stations.{acts_alone}

pub own_alone : (actor : ℕ) (list : List Entry) → acts_alone actor list ≡ true → own list actor ≡ list
own_alone actor [] all = own_none actor
own_alone actor (e ∷ rest) all =
    let both = and_parts (nat_eq e.actor actor) (acts_alone actor rest) all in
    own_first e rest actor (grind (arith, both.0)) ∙ ap (λ (xs : List Entry). e ∷ xs) (own_alone actor rest both.1)

pub alone_more : (actor : ℕ) (list : List Entry) (e : Entry) → acts_alone actor list ≡ true → e.actor ≡ actor →
    acts_alone actor (list ++ e ∷ []) ≡ true
alone_more actor list e all by =
    list_all-append (λ (x : Entry). nat_eq x.actor actor) list (e ∷ [])
    ∙ ap (λ b. b && (nat_eq e.actor actor && true)) all
    ∙ ap (λ b. b && true) (eq-eqb e.actor actor by)
