-- The kinds of bodies, one by one.
use Rattle.std.proofs.Common.{◌≡◌, ℕ, ◌+◌, ◌<◌, ◌≤◌, true, false, List, length, map, take, get_or, sym, ◌∙◌, ap}
use Rattle.std.proofs.Common.{arith}
use Rattle.std.proofs.lemmas.Bool.{false_from_ne_true}
use Rattle.std.proofs.lemmas.List.{length-map, take_all, take_more_same, get_or_default}
use Rattle.std.proofs.lemmas.Slice.Eq.{bytes_eq-Decides}
use Rattle.message_types.specs.declared.body.Body.{Body}
use Rattle.script_grammar.specs.declared.kinds.Kind.{Kind}
use Rattle.script_grammar.specs.Kinds.{kind_number}
use Rattle.run_lines.specs.Names.{kind_of}
use Rattle.printed_history.specs.Histories.{are_kinds}
use Rattle.plain_lists.proofs.Lists.{mapped_at}

abbrev number_of : Body → ℕ
number_of b = kind_number (kind_of b)

-- all kinds are those of the bodies
pub all_kinds : (kinds : List Kind) (said : List Body) (place : ℕ) → length kinds ≡ length said → length kinds ≤ place
    → take place (map kind_number kinds) ≡ take place (map (λ b. kind_number (kind_of b)) said) →
    true ≡ are_kinds kinds said
all_kinds kinds said place many past same =
    let long : length (map kind_number kinds) ≡ length kinds = length-map kinds kind_number in
    let wide : length (map number_of said) ≡ length said = length-map said number_of in
    sym ((bytes_eq-Decides (map kind_number kinds) (map number_of said)).1
    (sym (take_all place (map kind_number kinds) (omega arith)) ∙ same
    ∙ take_all place (map number_of said) (omega arith)))

-- lists of other lengths aren't
pub other_length : (kinds : List Kind) (said : List Body) → (length kinds ≡ length said → ⊥) →
    false ≡ are_kinds kinds said
other_length kinds said apart = sym (false_from_ne_true (are_kinds kinds said) (λ yes.
    apart (sym (length-map kinds kind_number)
    ∙ ap length ((bytes_eq-Decides (map kind_number kinds) (map number_of said)).0 yes)
    ∙ length-map said number_of)))

-- a body of another kind
pub other_kind : (kinds : List Kind) (said : List Body) (place : ℕ) (k : Kind) (b : Body) → place < length kinds →
    place < length said → k ≡ get_or kinds place k
    → b ≡ get_or said place b → (kind_number k ≡ kind_number (kind_of b) → ⊥) → false ≡ are_kinds kinds said
other_kind kinds said place k b low below here there apart = sym (false_from_ne_true (are_kinds kinds said) (λ yes.
    let same : map kind_number kinds ≡ map number_of said =
    (bytes_eq-Decides (map kind_number kinds) (map number_of said)).0 yes in
    let long : length (map number_of said) ≡ length said = length-map said number_of in
    apart (mapped_at kind_number kinds place k low here ∙ ap (λ (ns : List ℕ). get_or ns place (kind_number k)) same
    ∙ get_or_default (map number_of said) place (kind_number k) (number_of b) (omega arith)
    ∙ sym (mapped_at number_of said place b below there))))

-- one body more of its kind
pub one_kind : (kinds : List Kind) (said : List Body) (place : ℕ) (k : Kind) (b : Body) → place < length kinds →
    place < length said → k ≡ get_or kinds place k
    → b ≡ get_or said place b → kind_number k ≡ kind_number (kind_of b) →
    take place (map kind_number kinds) ≡ take place (map (λ b. kind_number (kind_of b)) said)
    → take (place + 1) (map kind_number kinds) ≡ take (place + 1) (map (λ b. kind_number (kind_of b)) said)
one_kind kinds said place k b low below here there same front =
    let long : length (map kind_number kinds) ≡ length kinds = length-map kinds kind_number in
    let wide : length (map number_of said) ≡ length said = length-map said number_of in
    take_more_same (map kind_number kinds) (map number_of said) place (kind_number k) (omega arith) (omega arith) front
    (sym (mapped_at kind_number kinds place k low here) ∙ same ∙ mapped_at number_of said place b below there
    ∙ get_or_default (map number_of said) place (number_of b) (kind_number k) (omega arith))
