-- Reads one after the other.
use Rattle.std.specs.Prelude.{ℕ, List, ◌++◌}
use Rattle.std.proofs.Common.{sym, ap, ◌∙◌, arith, length-append, append_assoc}
use Rattle.wire_parts.specs.View.{View, Takes}

-- two fields that were read one after the other were read as one
pub Takes-append : (before between after : View) (first second : List ℕ)
    → Takes before between first → Takes between after second → Takes before after (first ++ second)
Takes-append before between after first second a b = record {
  bytes = a.bytes ∙ ap (λ bytes. first ++ bytes) b.bytes ∙ sym (append_assoc first second after.rest);
  place = let p = a.place in let q = b.place in omega (arith, length-append first second);
}
