-- That of any two correct masters' executions one begins the other, as the test that is printed.
use Rattle.std.proofs.Common.{◌≡◌, ◌⊎◌, ℕ, Bool, true, List, filter, refl, inl, inr}
use Rattle.std.specs.List.{list_all, starts_with}
use Rattle.std.proofs.lemmas.Bool.{or_left, or_right}
use Rattle.std.proofs.lemmas.Slice.Eq.{starts_is}
use Rattle.plain_lists.specs.Lists.{Begins}
use Rattle.plain_lists.proofs.Members.{in_filter_from}
use Rattle.message_types.specs.declared.updates.Update.{Update}
use Rattle.quorum_sets.specs.Masters.{numbers_below}
use Rattle.history_laws.proofs.Same.{update_test}
use Rattle.words_in_place.proofs.Limits.{all_from}
use Rattle.history_rules.specs.Events.{Entry}
use Rattle.history_rules.specs.Setup.{Setup, is_correct_master}
use Rattle.history_rules.specs.Legal.{executions}
use Rattle.history_rules.specs.Sameness.{is_same_update}
use Rattle.world_rules.specs.Headline.{are_prefixes, agrees}

begins_test : (xs ys : List Update) → Begins xs ys → starts_with is_same_update ys xs ≡ true
begins_test xs ys begins =
    (starts_is {E = is_same_update} update_test ys xs (starts_with is_same_update ys xs) refl).1 begins.rest begins.same

prefixes_test : (xs ys : List Update) → Begins xs ys ⊎ Begins ys xs → are_prefixes xs ys ≡ true
prefixes_test xs ys (inl first) = or_left (starts_with is_same_update ys xs) (starts_with is_same_update xs ys)
    (begins_test xs ys first)
prefixes_test xs ys (inr second) = or_right (starts_with is_same_update ys xs) (starts_with is_same_update xs ys)
    (begins_test ys xs second)

-- what is so of all that pass a test is so all over the list of these
all_passing : {X : Type 0} (passes good : X → Bool) (xs : List X) → ((x : X) → passes x ≡ true → good x ≡ true) →
    list_all good (filter passes xs) ≡ true
all_passing passes good xs each = all_from good (filter passes xs) (λ x h. each x (in_filter_from passes xs h).1)

pub agrees_where_prefixes : (w : Setup) (history : List Entry)
    → ((i j : ℕ) → is_correct_master w i ≡ true → is_correct_master w j ≡ true
    → Begins (executions w history i) (executions w history j)
    ⊎ Begins (executions w history j) (executions w history i))
    → agrees w history ≡ true
unfolding agrees
agrees_where_prefixes w history prefixes =
    all_passing (is_correct_master w)
    (λ i. list_all (λ j. are_prefixes (executions w history i) (executions w history j))
    (filter (is_correct_master w) (numbers_below w.group.n)))
    (numbers_below w.group.n) (λ i ci.
    all_passing (is_correct_master w) (λ j. are_prefixes (executions w history i) (executions w history j))
    (numbers_below w.group.n) (λ j cj.
    prefixes_test (executions w history i) (executions w history j) (prefixes i j ci cj)))
