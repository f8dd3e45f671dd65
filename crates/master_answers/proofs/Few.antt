-- All rows that whole words tell are few.
use Rattle.std.proofs.Common.{◌≡◌, ◌≤◌, true, ◌&&◌, List, [], ◌∷◌, ◌++◌, sym, ◌∙◌, ap}
use Rattle.std.specs.List.{list_all, flat_map}
use Rattle.std.proofs.lemmas.Bool.{and_parts, and_from}
use Rattle.std.proofs.lemmas.Grind.{flat_map-append}
use Rattle.std.proofs.lemmas.List.Folds.{list_all-append}
use Rattle.message_types.specs.declared.signed.Signed.{Signed}
use Rattle.message_types.specs.declared.body.Body.{Body}
use Rattle.message_types.specs.Parts.{inside}
use Rattle.protocol_rules.specs.declared.facts.OrderFact.{OrderFact}
use Rattle.protocol_rules.specs.Group.{Group}
use Rattle.protocol_rules.specs.Facts.{tells, facts_of, rows_in, rows_known}
use Rattle.leader_proposals.specs.Counting.{are_few}
use Rattle.leader_proposals.proofs.Standing.{few-start, frame-few}
use Rattle.master_knowledge.specs.Whole.{is_whole}

rows_joined : (facts more : List OrderFact) →
    list_all are_few (rows_known (facts ++ more)) ≡ (list_all are_few (rows_known facts)
    && list_all are_few (rows_known more))
unfolding rows_known
rows_joined facts more = ap (list_all are_few) (flat_map-append rows_in facts more)
    ∙ list_all-append are_few (flat_map rows_in facts) (flat_map rows_in more)

first_few : (g : Group) (f : Signed Body) → g.n ≤ 14 → is_whole g f ≡ true →
    list_all are_few (rows_known (tells g f)) ≡ true
unfolding facts_of
first_few g f few whole =
    (and_parts (list_all are_few (rows_known (tells g f)))
    (list_all are_few (rows_known (flat_map (tells g) (inside f.body))))
    (sym (rows_joined (tells g f) (flat_map (tells g) (inside f.body))) ∙ frame-few g [] f few whole (few-start g))).0

pub rows_few : (g : Group) (known : List (Signed Body)) → g.n ≤ 14 → list_all (is_whole g) known ≡ true →
    list_all are_few (rows_known (facts_of g known)) ≡ true
unfolding facts_of
rows_few g [] few whole = few-start g
rows_few g (f ∷ rest) few whole =
    let both = and_parts (is_whole g f) (list_all (is_whole g) rest) whole in
    rows_joined (tells g f) (flat_map (tells g) rest)
    ∙ and_from (list_all are_few (rows_known (tells g f))) (list_all are_few (rows_known (flat_map (tells g) rest)))
    (first_few g f few both.0) (rows_few g rest few both.1)
