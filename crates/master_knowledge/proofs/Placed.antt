-- All rows that whole words tell are in their places.
use Rattle.std.proofs.Common.{◌≡◌, ℕ, true, List, [], ◌∷◌, ◌++◌, Some, refl, sym, ◌∙◌, ap, subst}
use Rattle.std.specs.List.{list_all, flat_map}
use Rattle.plain_lists.specs.Lists.{IsIn, here}
use Rattle.plain_lists.proofs.Members.{none_in, in_left, in_map_from, in_flat_map, in_map, all_at}
use Rattle.message_types.specs.declared.signed.Signed.{Signed}
use Rattle.message_types.specs.declared.ordering.Certificate.{Certificate}
use Rattle.message_types.specs.declared.body.Body.{Body}
use Rattle.message_types.specs.declared.body.Body.TheVariants as body
use Rattle.message_types.specs.Parts.{parts, inside}
use Rattle.protocol_rules.specs.declared.facts.OrderFact.TheVariants as fact
use Rattle.protocol_rules.specs.Group.{Group}
use Rattle.protocol_rules.specs.Places.{in_place, are_rows}
use Rattle.protocol_rules.specs.Facts.{tells, facts_of, rows_in, rows_known}
use Rattle.protocol_rules.specs.Order.{ordered}
use Rattle.history_rules.specs.Audit.{rows_held}
use Rattle.agreement.proofs.FramesInside.{parts_closed, rows_from}
use Rattle.agreement.proofs.LearnedInPlace.{ordered_from}
use Rattle.words_in_place.proofs.Speaking.{rows_are_in_place}
use Rattle.master_knowledge.specs.Whole.{is_whole}

-- rows that a word holds are among those that it tells
held_told : (g : Group) (signer : ℕ) (word : Body) (sig : List ℕ) (rows : List (List ℕ)) →
    IsIn rows (rows_held g word) →
    IsIn rows (flat_map rows_in (tells g record { signer = signer; body = word; sig = sig }))
held_told g signer (body.PrePrepare b) sig rows h = in_left [] h
held_told g signer (body.Report b) sig rows h =
    let found = in_map_from (λ (c : Certificate). c.rows) b.certificates h in
    in_flat_map rows_in (in_map (λ (c : Certificate). fact.Rows c.rows) found.1)
    (subst (λ (r : List (List ℕ)). IsIn rows (r ∷ [])) found.2 (here []))
held_told g signer (body.GiveOrdered b) sig rows h = in_left [] h
held_told g signer (body.NewView b) sig rows h = in_left [] h
held_told g signer _ sig rows h = absurd (none_in h)

in_known : (g : Group) (known : List (Signed Body)) (p : Signed Body) (rows : List (List ℕ)) → IsIn p known →
    IsIn rows (rows_held g p.body) → IsIn rows (rows_known (facts_of g known))
unfolding rows_known facts_of
in_known g known p rows h k = in_facts known h
  where
    in_facts : (known : List (Signed Body)) → IsIn p known → IsIn rows (flat_map rows_in (flat_map (tells g) known))
    in_facts known h = subst (λ (xs : List (List (List ℕ))). IsIn rows xs) (nested known)
        (in_flat_map (λ (f : Signed Body). flat_map rows_in (tells g f)) h (held_told g p.signer p.body p.sig rows k))
      where
        nested : (known : List (Signed Body)) → flat_map (λ (f : Signed Body). flat_map rows_in (tells g f))
            known ≡ flat_map rows_in (flat_map (tells g) known)
        nested [] = refl
        nested (f ∷ rest) = ap (λ xs. flat_map rows_in (tells g f) ++ xs) (nested rest)
            ∙ sym (Rattle.std.proofs.lemmas.Grind.flat_map-append rows_in (tells g f) (flat_map (tells g) rest))

pub ordered_placed : (g : Group) (known : List (Signed Body)) → list_all (is_whole g) known ≡ true →
    (s : ℕ) (rows : List (List ℕ)) → ordered g (facts_of g known) s ≡ Some rows → are_rows g rows ≡ true
ordered_placed g known whole s rows e =
    let met = ordered_from g (facts_of g known) s rows e in
    let found = rows_from g known rows met.0 in
    let placed : list_all (in_place g) (parts found.0) ≡ true = all_at (is_whole g) found.1 whole in
    all_at (are_rows g) (in_known g (parts found.0) found.0 rows (here (inside found.0.body)) found.2)
    (rows_are_in_place g (parts found.0) ((λ q r h k. parts_closed found.0 q r h k), placed))
