-- What an order is told where a question goes by a few of the votes known alone, and by as few rows as give its answer.
-- A new view's plan may go up to any number, and so have more rows than there is memory.
use Rattle.std.specs.Prelude.{◌≡◌, ℕ, Bool, false, ◌&&◌, List, [], ◌∷◌, ◌++◌, Option, filter, nat_eq, ◌⊎◌}
use Rattle.std.specs.List.{list_any, find}
use Rattle.message_types.specs.declared.ordering.Certificate.{Certificate}
use Rattle.message_types.specs.declared.views.Report.{Report}
use Rattle.message_types.specs.Digests.{digest_of_rows}
use Rattle.protocol_rules.specs.declared.facts.OrderFact.{OrderFact}
use Rattle.protocol_rules.specs.declared.facts.OrderFact.TheVariants as fact
use Rattle.protocol_rules.specs.Words.{first_met}
use Rattle.protocol_rules.specs.Group.{Group}
use Rattle.protocol_rules.specs.Facts.{rows_known}
use Rattle.protocol_rules.specs.Plans.{planned}
use Rattle.global_order.specs.OrderState.{OrderState, IsOrderOf, Learns}
use Rattle.play_words.specs.declared.words.Item.{Item}
use Rattle.intruder_words.specs.declared.asked.Asked.{Asked}
use Rattle.intruder_words.specs.declared.asked.Asked.TheVariants as asked

-- the item is for this number and view
abbrev pub is_item : ℕ → ℕ → Item → Bool
is_item s v item = nat_eq item.s s && nat_eq item.v v

-- the question goes by the prepares for this number in this view, or by the commits for this number
abbrev pub asks_prepare : Asked → ℕ → ℕ → Bool
asks_prepare (asked.Prepares items) s v = list_any (is_item s v) items
asks_prepare (asked.Commits number) s v = false

abbrev pub asks_commit : Asked → ℕ → Bool
asks_commit (asked.Prepares items) s = false
asks_commit (asked.Commits number) s = nat_eq s number

-- the fact is a vote that the question goes by
abbrev pub asks : Asked → OrderFact → Bool
asks question (fact.Prepare f) = asks_prepare question f.body.s f.body.v
asks question (fact.Commit f) = asks_commit question f.body.s
asks question _ = false

-- whichever digests are looked for, the first rows found are the same
abbrev pub HasSameRows : List (List (List ℕ)) → List (List (List ℕ)) → Type 0
HasSameRows xs ys = (test : List ℕ → Bool) → find (λ rows. test (digest_of_rows rows)) xs ≡ find
    (λ rows. test (digest_of_rows rows)) ys

-- facts that are one alone, or of which none is a vote asked for: no answer can change between them
abbrev pub IsBlock : Asked → List OrderFact → Type 0
IsBlock question facts = (filter (asks question) facts ≡ []) ⊎ ((x : OrderFact) × (facts ≡ x ∷ []))

-- facts told in place of others, at once
pub record IsToldFor (question : Asked) (told facts : List OrderFact) : Type 0 where
  pub votes : filter (asks question) told ≡ filter (asks question) facts
  pub rows : HasSameRows (rows_known told) (rows_known facts)
  pub block : IsBlock question told

-- the order learns facts in place of these
abbrev pub IsTold : Asked → OrderState → OrderState → List OrderFact → Type 0
IsTold question before after facts = (told : List OrderFact) × Learns before after told × IsToldFor question told facts

-- the rows whose digest passes a test of votes, those known first
abbrev pub rows_passing : (List OrderFact → List ℕ → Bool) → List OrderFact → Option (List (List ℕ))
rows_passing test facts = find (λ rows. test facts (digest_of_rows rows)) (rows_known facts)

-- the test goes by the votes asked for alone
abbrev pub GoesBy : Asked → (List OrderFact → List ℕ → Bool) → Type 0
GoesBy question test = (facts : List OrderFact) (digest : List ℕ) →
    test (filter (asks question) facts) digest ≡ test facts digest

-- all that was told gives the answers of all that there was to tell
pub record IsAlike (question : Asked) (told facts : List OrderFact) : Type 0 where
  pub votes : filter (asks question) told ≡ filter (asks question) facts
  pub rows : HasSameRows (rows_known told) (rows_known facts)
  pub first : (test : List OrderFact → List ℕ → Bool) → GoesBy question test →
      first_met (rows_passing test) [] told ≡ first_met (rows_passing test) [] facts

-- The order of a master of the group that was told what gives the answers of these facts, and said nothing.
pub record KnowsAlike (question : Asked) (g : Group) (order : OrderState) (facts : List OrderFact) : Type 0 where
  pub told : List OrderFact
  pub is : IsOrderOf g order told []
  pub alike : IsAlike question told facts

-- a certificate without its prepares
abbrev pub bare : Certificate → Certificate
bare c = record { s = c.s; v = c.v; rows = c.rows; prepares = [] }

-- a report that brings these certificates alone
abbrev pub report_on : ℕ → List Certificate → Report
report_on base certificates = record { v = 0; base = base; marks = []; certificates = certificates }

-- the rows that a plan of these certificates has for a number
abbrev pub rows_for : Group → List Certificate → ℕ → List (List ℕ)
rows_for g certificates s = planned g (report_on 0 certificates ∷ []) s
