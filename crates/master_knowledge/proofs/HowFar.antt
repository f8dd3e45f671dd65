-- What a word known changes in how far masters have come: only commits and marks tell it.
use Rattle.std.proofs.Common.{◌≡◌, ◌≢◌, ℕ, List, [], ◌∷◌, ◌++◌, refl, sym, ◌∙◌, ap}
use Rattle.std.specs.List.{filter_map}
use Rattle.std.specs.Prelude.{map}
use Rattle.std.proofs.lemmas.List.{append-nil}
use Rattle.std.proofs.lemmas.List.Elements.{filter_map-append}
use Rattle.message_types.specs.declared.ordering.Certificate.{Certificate}
use Rattle.message_types.specs.declared.ordering.Commit.{Commit}
use Rattle.message_types.specs.declared.ordering.Mark.{Mark}
use Rattle.message_types.specs.declared.body.Body.{Body}
use Rattle.message_types.specs.declared.body.Body.TheVariants as body
use Rattle.protocol_rules.specs.declared.facts.OrderFact.{OrderFact}
use Rattle.protocol_rules.specs.declared.facts.OrderFact.TheVariants as fact
use Rattle.protocol_rules.specs.Group.{Group}
use Rattle.protocol_rules.specs.Words.{greatest_of}
use Rattle.protocol_rules.specs.Facts.{tells}
use Rattle.protocol_rules.specs.Lacking.{reached_by}
use Rattle.lacking.specs.Come.{FurthestState, IsFurthestOf}

pub come_alike : (g : Group) (kept : FurthestState) (facts more : List OrderFact)
    → ((j : ℕ) → filter_map (reached_by j) more ≡ []) → IsFurthestOf g kept facts → IsFurthestOf g kept (facts ++ more)
come_alike g kept facts more none is = record {
  masters = is.masters;
  intruded = is.intruded;
  numbers = λ j lt. is.numbers j lt ∙ sym (ap greatest_of
      (filter_map-append (reached_by j) facts more ∙ ap (λ xs. filter_map (reached_by j) facts ++ xs) (none j)
      ∙ append-nil (filter_map (reached_by j) facts)));
}

rows_tell_nobody : (j : ℕ) (cs : List Certificate) →
    filter_map (reached_by j) (map (λ (c : Certificate). fact.Rows c.rows) cs) ≡ []
rows_tell_nobody j [] = refl
rows_tell_nobody j (c ∷ rest) = rows_tell_nobody j rest

pub tells_nobody : (g : Group) (signer : ℕ) (word : Body) (sig : List ℕ) →
    ((x : Commit) → word ≢ body.Commit x) → ((x : Mark) → word ≢ body.Mark x) → (j : ℕ) →
    filter_map (reached_by j) (tells g record { signer = signer; body = word; sig = sig }) ≡ []
tells_nobody g signer (body.PrePrepare b) sig p q j = refl
tells_nobody g signer (body.Prepare b) sig p q j = refl
tells_nobody g signer (body.Commit b) sig p q j = absurd (p b refl)
tells_nobody g signer (body.Mark b) sig p q j = absurd (q b refl)
tells_nobody g signer (body.Report b) sig p q j = rows_tell_nobody j b.certificates
tells_nobody g signer (body.GiveOrdered b) sig p q j = refl
tells_nobody g signer (body.NewView b) sig p q j = refl
tells_nobody g signer _ sig p q j = refl
