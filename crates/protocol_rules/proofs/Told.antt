-- What words tell the global order, word by word.
use Rattle.std.proofs.Common.{◌≡◌, [], refl, List, ◌++◌}
use Rattle.std.proofs.lemmas.Grind.{flat_map-append}
use Rattle.protocol_rules.specs.Group.{Group}
use Rattle.protocol_rules.specs.Facts.{facts_of, tells}
use Rattle.message_types.specs.declared.signed.Signed.{Signed}
use Rattle.message_types.specs.declared.body.Body.{Body}

pub none_told : (g : Group) → facts_of g [] ≡ []
unfolding facts_of
none_told g = refl

pub told_more : (g : Group) (known more : List (Signed Body)) →
    facts_of g (known ++ more) ≡ facts_of g known ++ facts_of g more
unfolding facts_of
told_more g known more = flat_map-append (tells g) known more
