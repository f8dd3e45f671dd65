-- Each entry of a list in which one actor acts is that actor's.
use Rattle.std.proofs.Common.{◌≡◌, ℕ, Bool, true, ◌&&◌, List, [], ◌∷◌, ◌++◌, nat_eq, sym, ◌∙◌, ap, arith}
use Rattle.std.specs.List.{list_all}
use Rattle.std.proofs.lemmas.Bool.{and_parts}
use Rattle.std.proofs.lemmas.List.Folds.{list_all-append}
use Rattle.history_rules.specs.Events.{Entry}
use Rattle.history_rules.specs.Legal.{Stands}
use Rattle.joint_lists.specs.Stations.{acts_alone}

pub its_own : (actor : ℕ) (list before : List Entry) (e : Entry) → acts_alone actor list ≡ true → Stands list before e →
    e.actor ≡ actor
its_own actor list before e alone at =
    let own : Entry → Bool = λ x. nat_eq x.actor actor in
    let parts : (list_all own before && list_all own (e ∷ at.after)) ≡ true =
    sym (list_all-append own before (e ∷ at.after)) ∙ ap (list_all own) (sym at.whole) ∙ alone in
    let later = and_parts (list_all own before) (list_all own (e ∷ at.after)) parts in
    let here = and_parts (nat_eq e.actor actor) (list_all own at.after) later.1 in
    grind (arith, here.0)

-- and so are those of the rest of it
pub rest_alone : (actor : ℕ) (e : Entry) (rest : List Entry) → acts_alone actor (e ∷ rest) ≡ true →
    (e.actor ≡ actor) × (acts_alone actor rest ≡ true)
rest_alone actor e rest alone =
    let both = and_parts (nat_eq e.actor actor) (acts_alone actor rest) alone in
    (grind (arith, both.0), both.1)
