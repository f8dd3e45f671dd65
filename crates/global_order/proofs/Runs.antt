-- How far the numbers are ordered without a gap.
use Rattle.std.proofs.Common.{◌≡◌, ℕ, suc, ◌+◌, ◌≤◌, ◌<◌, ◌⊎◌, inl, inr, true, false, List, Option, Some, None}
use Rattle.std.proofs.Common.{is_some, refl, sym, ◌∙◌, ap, arith}
use Rattle.std.specs.Prelude.{IsSome}
use Rattle.std.specs.Option.{option_map}
use Rattle.std.proofs.lemmas.Bool.{cases_lt}
use Rattle.message_types.specs.Digests.{digest_of_rows}
use Rattle.protocol_rules.specs.declared.facts.OrderFact.{OrderFact}
use Rattle.protocol_rules.specs.Group.{Group, most_number}
use Rattle.protocol_rules.specs.Order.{ordered, ordered_run, gapless}
use Rattle.global_order.specs.Index.{Reaches, ReachesLess, ordered_in}
use Rattle.global_order.proofs.Booleans.{none_there, option_map-none}
use Rattle.protocol_rules.proofs.Numbers.{run-length}

pub reaches-more : (f : ℕ → Option (List ℕ)) (reach : ℕ) → ReachesLess f reach → reach < 4096 →
    true ≡ is_some (f (reach + 1)) → ReachesLess f (reach + 1)
unfolding most_number
reaches-more f reach old room next = record {
  limit = omega arith;
  without_gap = λ s low high. at s low (cases_lt s (reach + 1)) high;
}
  where
    at : (s : ℕ) → 1 ≤ s → (s < reach + 1) ⊎ (reach + 1 ≤ s) → s ≤ reach + 1 → IsSome (f s)
    at s low (inl below) high = old.without_gap s low (omega arith)
    at s low (inr above) high = let same : s ≡ reach + 1 = omega arith in rw same (sym next)

pub reaches-stop : (f : ℕ → Option (List ℕ)) (reach : ℕ) → ReachesLess f reach →
    (4096 ≤ reach) ⊎ (false ≡ is_some (f (reach + 1))) → Reaches f reach
unfolding most_number
reaches-stop f reach old (inl full) = record {
  limit = old.limit;
  without_gap = old.without_gap;
  stops =
      λ less. absurd (omega arith);
}
reaches-stop f reach old (inr none) = record {
  limit = old.limit;
  without_gap = old.without_gap;
  stops =
      λ less. let e : suc reach ≡ reach + 1 = omega arith in ap f e ∙ none_there (f (reach + 1)) none;
}

-- the numbers that are ordered
pub gapless-is : (g : Group) (facts : List OrderFact) (held : ℕ → Option (List ℕ)) (reach : ℕ) →
    ((s : ℕ) → held s ≡ ordered_in g facts s) → Reaches held reach → reach ≡ gapless g facts
unfolding ordered_run
gapless-is g facts held reach same reached =
    sym (run-length (ordered g facts) 1 most_number reach reached.limit
    (λ k low high. some (ordered g facts k) (sym (ap is_some (same k)) ∙ reached.without_gap k low (omega arith)))
    (λ less. let e : 1 + reach ≡ suc reach = omega arith in ap (ordered g facts) e ∙ option_map-none digest_of_rows
    (ordered g facts (suc reach)) (sym (same (suc reach)) ∙ reached.stops less)))
  where
    some : (o : Option (List (List ℕ))) → IsSome (option_map digest_of_rows o) → IsSome o
    some None e = e
    some (Some rows) e = refl

pub reaches-same : (f h : ℕ → Option (List ℕ)) (reach : ℕ) → ((s : ℕ) → f s ≡ h s) → Reaches f reach → Reaches h reach
reaches-same f h reach same old = record {
  limit = old.limit;
  without_gap = λ s low high. ap is_some (sym (same s)) ∙ old.without_gap s low high;
  stops = λ less. sym (same (suc reach)) ∙ old.stops less;
}

pub reaches-still : (f h : ℕ → Option (List ℕ)) (reach : ℕ) → ((s : ℕ) → IsSome (f s) → IsSome (h s)) →
    Reaches f reach → ReachesLess h reach
reaches-still f h reach more old =
    record { limit = old.limit; without_gap = λ s low high. more s (old.without_gap s low high) }
