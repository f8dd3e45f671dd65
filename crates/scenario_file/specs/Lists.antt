-- Lists of numbers, and lists of tables. A list's type is looked at first, then its length, then its elements in
-- order; an element that is no number that may stand there, or no table, is a fault of the list's key.
use Rattle.std.specs.Prelude.{ℕ, ◌++◌, codes, decimal, Bool, false, if◌then◌else◌, List, [], ◌∷◌, length, nat_lt}
use Rattle.std.specs.Prelude.{Option, Result, Ok, Err}
use Rattle.std.specs.Option.{option_map_or}
use Rattle.toml.specs.Data.{Data, array, as_array, as_table, Items, no_items, item, Members}
use Rattle.scenario_file.specs.declared.refusal.ScenarioRefusal.{ScenarioRefusal}
use Rattle.scenario_file.specs.declared.refusal.ScenarioRefusal.TheVariants as refusal
use Rattle.scenario_file.specs.Answers.{Answer, ◌>>=◌, bad, kept, or_bad}
use Rattle.scenario_file.specs.Values.{or_default, count_in, greatest_count}

abbrev pub list_of : Items → List Data
list_of no_items = []
list_of (item d ds) = d ∷ list_of ds

-- whether a list is longer than it may be; some may have any length
abbrev pub is_above : Option ℕ → ℕ → Bool
is_above most n = option_map_or (λ m. nat_lt m n) most false

-- a list that is too short is no value of its key, one that is too long has too many
abbrev pub sized : List ℕ → ℕ → Option ℕ → List Data → Answer (List Data)
sized name fewest most ds = if nat_lt (length ds) fewest then bad name else if is_above most (length ds) then Err
    (refusal.TooMany name) else Ok ds

unfoldable pub list_in : List ℕ → ℕ → Option ℕ → Data → Answer (List Data)
list_in name fewest most d = or_bad name (as_array d) >>= (λ ds. sized name fewest most (list_of ds))

-- the elements of a list, each read behind those before it
abbrev pub gathered : {D A : Type 0} → (List A → D → Result A ScenarioRefusal) → List A → List D →
    Result (List A) ScenarioRefusal
gathered next before [] = Ok before
gathered next before (d ∷ ds) = next before d >>= (λ x. gathered next (before ++ x ∷ []) ds)

-- a number that may stand behind others
unfoldable pub number_after : List ℕ → (List ℕ → ℕ → Bool) → List ℕ → Data → Answer ℕ
number_after name may_follow before d = count_in name 0 greatest_count d >>= (λ n. kept name (may_follow before n) n)

abbrev pub numbers_in : List ℕ → (List ℕ → ℕ → Bool) → List Data → Answer (List ℕ)
numbers_in name may_follow ds = gathered (number_after name may_follow) [] ds

abbrev pub table_in : List ℕ → List Members → Data → Answer Members
table_in key before d = or_bad key (as_table d)

-- the tables at a key of the document, at most so many; none where it isn't there
unfoldable pub rows_at : List ℕ → Option ℕ → Members → Answer (List Members)
rows_at key most doc = list_in key 0 most (or_default key (array no_items) doc) >>= gathered (table_in key) []

-- what stands before the keys of a row, as `point[2].`
abbrev pub row_name : List ℕ → ℕ → List ℕ
row_name key place = key ++ codes "[" ++ decimal place ++ codes "]."

-- rows by what each of them says behind those before it
abbrev pub each : {A : Type 0} → (List A → List ℕ → Members → Result A ScenarioRefusal) → List ℕ → List Members →
    Result (List A) ScenarioRefusal
each row key ts = gathered (λ before t. row before (row_name key (length before)) t) [] ts

-- the rows at a key of the document
unfoldable pub rows_of : {A : Type 0} → (List A → List ℕ → Members → Result A ScenarioRefusal) → List ℕ → Option ℕ →
    Members → Result (List A) ScenarioRefusal
rows_of row key most doc = rows_at key most doc >>= each row key
