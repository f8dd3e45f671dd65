-- Lists of which, of any two, one begins the other.
use Rattle.std.specs.Prelude.{◌≡◌, Bool, true, List, [], Option, Some, None, filter, fold, length, map, nat_lt}
use Rattle.std.specs.Prelude.{if◌then◌else◌}
use Rattle.std.specs.List.{list_all, starts_with}
use Rattle.message_types.specs.declared.updates.Update.{Update}
use Rattle.quorum_sets.specs.Masters.{numbers_below}
use Rattle.history_rules.specs.Events.{Entry}
use Rattle.history_rules.specs.Setup.{Setup, is_correct_master}
use Rattle.history_rules.specs.Legal.{executions}
use Rattle.history_rules.specs.Sameness.{is_same_update}
use Rattle.world_rules.specs.Headline.{are_prefixes, agrees}

-- of any two of the lists one begins the other
abbrev pub all_prefixes : List (List Update) → Bool
all_prefixes lists = list_all (λ a. list_all (λ b. are_prefixes a b) lists) lists

-- the longer of two lists, the first where they are equally long or there is no other
abbrev pub longer_of : List Update → Option (List Update) → List Update
longer_of best None = best
longer_of best (Some list) = if nat_lt (length best) (length list) then list else best

-- the first of the longest lists, the empty one where there is none
abbrev pub longest : List (List Update) → List Update
longest lists = fold (λ best list. longer_of best (Some list)) [] lists

-- the list begins the other, where there is one
abbrev pub begins_if : List Update → Option (List Update) → Bool
begins_if whole None = true
begins_if whole (Some list) = starts_with is_same_update whole list

-- That the correct masters of a history agree is that of any two of their executions one begins the other.
abbrev pub AgreesByLists : Type 0
AgreesByLists =
    (w : Setup) (history : List Entry)
    → agrees w history ≡ all_prefixes
    (map (executions w history) (filter (is_correct_master w) (numbers_below w.group.n)))
