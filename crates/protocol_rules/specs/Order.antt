-- The global order, after Prime and PBFT: prepares of a quorum make a certificate, commits of a quorum order a number,
-- marks of a quorum make a number stable. All over the facts that the known words tell, in their order.
use Rattle.std.specs.Prelude.{ℕ, ◌+◌, ◌-◌, ◌%◌, Bool, false, ◌&&◌, ◌||◌, not, List, [], ◌∷◌, Option, Some, None}
use Rattle.std.specs.Prelude.{length, filter, take, nat_eq, nat_le, if◌then◌else◌, slice_get}
use Rattle.std.specs.List.{list_any, find, filter_map, flat_map}
use Rattle.std.specs.Option.{option_map}
use Rattle.std.specs.Str.{bytes_eq}
use Rattle.message_types.specs.declared.signed.Signed.{Signed}
use Rattle.message_types.specs.declared.ordering.Prepare.{Prepare}
use Rattle.message_types.specs.declared.ordering.Commit.{Commit}
use Rattle.message_types.specs.declared.ordering.Mark.{Mark}
use Rattle.message_types.specs.declared.ordering.Certificate.{Certificate}
use Rattle.message_types.specs.declared.views.Plan.{Plan}
use Rattle.message_types.specs.declared.body.Body.{Body}
use Rattle.message_types.specs.declared.body.Body.TheVariants as body
use Rattle.message_types.specs.Digests.{digest_of_rows}
use Rattle.quorum_sets.specs.Masters.{numbers_below}
use Rattle.protocol_rules.specs.declared.facts.OrderFact.{OrderFact}
use Rattle.protocol_rules.specs.declared.facts.OrderFact.TheVariants as fact
use Rattle.protocol_rules.specs.Words.{first_met, greatest_of, run_from, numbers_from, last_below, best_by}
use Rattle.protocol_rules.specs.Words.{first_of_list}
use Rattle.protocol_rules.specs.Group.{Group, most_number, window, mark_step}
use Rattle.protocol_rules.specs.Facts.{rows_known}
use Rattle.protocol_rules.specs.Plans.{digest_below, first_plan}

-- the fact is the master's prepare, commit or mark
abbrev pub prepare_by : ℕ → ℕ → List ℕ → ℕ → OrderFact → Option (Signed Prepare)
prepare_by v s digest master (fact.Prepare f) =
    if nat_eq f.signer master && nat_eq f.body.v v && nat_eq f.body.s s
    && bytes_eq f.body.digest digest then Some f else None
prepare_by v s digest master _ = None

abbrev pub commit_by : ℕ → ℕ → List ℕ → ℕ → OrderFact → Option (Signed Commit)
commit_by v s digest master (fact.Commit f) =
    if nat_eq f.signer master && nat_eq f.body.v v && nat_eq f.body.s s
    && bytes_eq f.body.digest digest then Some f else None
commit_by v s digest master _ = None

abbrev pub mark_by : ℕ → ℕ → OrderFact → Option (Signed Mark)
mark_by s master (fact.Mark f) = if nat_eq f.signer master && nat_eq f.body.s s then Some f else None
mark_by s master _ = None

-- the first vote of each master below n, by rising master: `vote` says which facts are the master's votes
abbrev pub first_votes : {X : Type 0} → Group → (ℕ → OrderFact → Option X) → List OrderFact → List X
first_votes g vote facts = filter_map (λ master. first_of_list (filter_map (vote master) facts)) (numbers_below g.n)

-- at least q masters voted so
unfoldable pub is_voted : {X : Type 0} → Group → (ℕ → OrderFact → Option X) → List OrderFact → Bool
is_voted g vote facts = nat_le g.q (length (first_votes g vote facts))

-- the votes of the q lowest masters
abbrev pub quorum_of : {X : Type 0} → Group → (ℕ → OrderFact → Option X) → List OrderFact → List X
quorum_of g vote facts = take g.q (first_votes g vote facts)

-- the rows prepared for (v, s): those known rows of whose digest there first was a quorum of prepares
unfoldable pub prepared : Group → List OrderFact → ℕ → ℕ → Option (List (List ℕ))
prepared g facts v s = first_met
    (λ beginning. find (λ rows. is_voted g (prepare_by v s (digest_of_rows rows)) beginning) (rows_known beginning))
    [] facts

-- the views for which there is a commit for s with this digest
abbrev pub commit_views : List OrderFact → ℕ → List ℕ → List ℕ
commit_views facts s digest =
    filter_map (λ f. elim f [
      | fact.Commit c ↦ if nat_eq c.body.s s
          && bytes_eq c.body.digest digest then Some c.body.v else None
      | _ ↦ None
    ]) facts

-- in some view a quorum committed s with this digest
abbrev pub is_committed : Group → List OrderFact → ℕ → List ℕ → Bool
is_committed g facts s digest = list_any (λ v. is_voted g (commit_by v s digest) facts) (commit_views facts s digest)

-- the rows ordered as s: those known rows of whose digest there first was, in one view, a quorum of commits
unfoldable pub ordered : Group → List OrderFact → ℕ → Option (List (List ℕ))
ordered g facts s = first_met (λ beginning. find (λ rows. is_committed g beginning s (digest_of_rows rows))
    (rows_known beginning)) [] facts

-- the rows of the numbers ordered from 1 on without a gap, and how many there are
unfoldable pub ordered_run : Group → List OrderFact → List (List (List ℕ))
ordered_run g facts = run_from (ordered g facts) 1 most_number

abbrev pub gapless : Group → List OrderFact → ℕ
gapless g facts = length (ordered_run g facts)

-- the number that a known mark shows, where a quorum's marks do
abbrev pub number_marked : Group → List OrderFact → OrderFact → Option ℕ
number_marked g facts (fact.Mark f) = if is_voted g (mark_by f.body.s) facts then Some f.body.s else None
number_marked g facts _ = None

-- the greatest number for which a quorum of marks is known, 0 where there is none
unfoldable pub stable : Group → List OrderFact → ℕ
stable g facts = greatest_of (filter_map (number_marked g facts) facts)

-- the marks that show a base: those of the q lowest masters, none for 0
abbrev pub marks_for : Group → List OrderFact → ℕ → List (Signed Mark)
marks_for g facts s = if nat_eq s 0 then [] else quorum_of g (mark_by s) facts

-- the marks that show a base, where it is 0 or a quorum's marks of it are known
abbrev pub marks_at : Group → List OrderFact → ℕ → Option (List (Signed Mark))
marks_at g facts s = if nat_eq s 0 || is_voted g (mark_by s) facts then Some (marks_for g facts s) else None

-- among the rows with a quorum of prepares for (v, s) those of the least digest, the first known among equals
abbrev pub least_prepared : Group → List OrderFact → ℕ → ℕ → Option (List (List ℕ))
least_prepared g facts v s = best_by (λ a b. digest_below (digest_of_rows a) (digest_of_rows b))
    (filter (λ rows. is_voted g (prepare_by v s (digest_of_rows rows)) facts) (rows_known facts))

abbrev pub certificate_of : Group → List OrderFact → ℕ → ℕ → List (List ℕ) → Certificate
certificate_of g facts s v rows =
    record { s = s; v = v; rows = rows; prepares = quorum_of g (prepare_by v s (digest_of_rows rows)) facts }

-- the known certificate for (v, s) that was complete first
abbrev pub certificate_at : Group → List OrderFact → ℕ → ℕ → Option Certificate
certificate_at g facts s v = option_map (certificate_of g facts s v) (prepared g facts v s)

-- the known certificate for s of the highest view below v
unfoldable pub last_certificate : Group → List OrderFact → ℕ → ℕ → Option Certificate
last_certificate g facts v s = last_below (λ w. option_map (certificate_of g facts s w) (least_prepared g facts w s)) v

-- what a report of view v brings: for each number of the window above the stable one its last certificate
abbrev pub certificates_below : Group → List OrderFact → ℕ → List Certificate
certificates_below g facts v = filter_map (last_certificate g facts v) (numbers_from (stable g facts + 1) window)

-- the plan of the first known new view v
abbrev pub plan_in : ℕ → OrderFact → Option Plan
plan_in v (fact.Plan w plan) = if nat_eq w v then Some plan else None
plan_in v _ = None

abbrev pub plan_known : List OrderFact → ℕ → Option Plan
plan_known facts v = if nat_eq v 0 then Some first_plan else first_of_list (filter_map (plan_in v) facts)

-- the rows of the first known preprepare (v, s)
abbrev pub proposal_in : ℕ → ℕ → OrderFact → Option (List (List ℕ))
proposal_in v s (fact.Proposal w t rows) = if nat_eq w v && nat_eq t s then Some rows else None
proposal_in v s _ = None

-- What view v offers as number s, once it is the present view and open: above the base of its plan the plan's rows as
-- far as it goes, then those of the first known preprepare. Nothing at or below the base.
unfoldable pub offered : List OrderFact → ℕ → ℕ → Option (List (List ℕ))
offered facts v s = elim (plan_known facts v) [
  | None ↦ None
  | Some plan ↦
      if nat_le s plan.base then None
      else if nat_le s (plan.base + length plan.rows) then slice_get plan.rows (s - plan.base - 1)
      else first_of_list (filter_map (proposal_in v s) facts)
]

-- what was said already
abbrev pub prepares_said : ℕ → ℕ → Body → Bool
prepares_said v s word = elim word [ body.Prepare b ↦ nat_eq b.v v && nat_eq b.s s | _ ↦ false ]

abbrev pub commits_said : ℕ → ℕ → Body → Bool
commits_said v s word = elim word [ body.Commit b ↦ nat_eq b.v v && nat_eq b.s s | _ ↦ false ]

abbrev pub marks_said : ℕ → Body → Bool
marks_said s word = elim word [ body.Mark b ↦ nat_eq b.s s | _ ↦ false ]

-- the numbers that the window allows
abbrev pub in_window : Group → List OrderFact → List ℕ
in_window g facts = numbers_from 1 (stable g facts + window)

-- in the open view v: a prepare for each number that it offers and that none was said for
abbrev pub prepare_due : List OrderFact → List Body → ℕ → ℕ → List Body
prepare_due facts said v s =
    if list_any (prepares_said v s) said
    then []
    else (elim (offered facts v s) [
      | Some rows ↦ body.Prepare record { v = v; s = s; digest = digest_of_rows rows }
          ∷ []
      | None ↦ []
    ])

abbrev pub prepares_due : Group → List OrderFact → List Body → ℕ → Bool → List Body
prepares_due g facts said v is_open = if is_open then flat_map (prepare_due facts said v) (in_window g facts) else []

-- in view v, open or not: a commit for each number prepared in it that none was said for
abbrev pub commit_due : Group → List OrderFact → List Body → ℕ → ℕ → List Body
commit_due g facts said v s =
    if list_any (commits_said v s) said
    then []
    else (elim (prepared g facts v s) [
      | Some rows ↦ body.Commit record { v = v; s = s; digest = digest_of_rows rows }
          ∷ []
      | None ↦ []
    ])

abbrev pub commits_due : Group → List OrderFact → List Body → ℕ → List Body
commits_due g facts said v = flat_map (commit_due g facts said v) (in_window g facts)

-- a mark for each multiple of the step up to which all is ordered and that none was said for
abbrev pub mark_due : List Body → ℕ → List Body
mark_due said s = if nat_eq (s % mark_step) 0 && not (list_any (marks_said s) said) then body.Mark record { s = s }
    ∷ [] else []

abbrev pub marks_due : Group → List OrderFact → List Body → List Body
marks_due g facts said = flat_map (mark_due said) (numbers_from 1 (gapless g facts))
