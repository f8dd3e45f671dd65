-- Over the lives of a file: what was durable of any of them begins what is durable in the end. So each word that was said is
-- there in the end, and no leaf signs two groups, as in any one history.
use Rattle.std.proofs.Common.{ℕ, List, [], ◌∷◌, ◌++◌, refl, sym, ◌∙◌, ap, subst, inl, inr}
use Rattle.std.proofs.Common.{append_assoc, append-nil}
use Rattle.plain_lists.specs.Lists.{IsIn, here, Begins}
use Rattle.plain_lists.proofs.Members.{in_cons_cases, none_in}
use Rattle.scenario_file.specs.Reading.{Contents}
use Rattle.history_rules.specs.Events.{Entry}
use Rattle.history_rules.specs.Setup.{own}
use Rattle.history_rules.specs.Legal.{Stands}
use Rattle.history_laws.proofs.LeavesSignOnce.{leaf_signs_one_group}
use Rattle.agreement.proofs.Places.{stands_on}
use Rattle.world_rules.specs.Scenarios.{setup_of}
use Rattle.station_lives.specs.Saying.{BeginsToSay}
use Rattle.joint_lists.specs.Stations.{IsStation}
use Rattle.joint_lists.proofs.Alone.{own_alone}
use Rattle.station_lives.specs.Lives.{Life, kept_by, IsLife, AreLives, kept_last}
use Rattle.station_lives.specs.Laws.{LivesSayOfTheLast, LivesSignOnce, SaidStays, SaidTogether, WordsAreSaid}
use Rattle.station_lives.proofs.Beginnings.{beginning_is_station}
use Rattle.station_lives.proofs.Saying.{begun_more, said_more, said_after, entry_said, since_said}

begins_itself : (list : List Entry) → Begins list list
begins_itself list = record { rest = []; same = sym (append-nil list) }

begins_through : {xs ys zs : List Entry} → Begins xs ys → Begins ys zs → Begins xs zs
begins_through {xs} first second = record {
  rest = first.rest ++ second.rest;
  same = second.same ∙ ap (λ (front : List Entry). front ++ second.rest) first.same
      ∙ append_assoc xs first.rest second.rest;
}

kept_lasts : (c : Contents) (actor : ℕ) (lives : List Life) (life : Life) → AreLives c actor lives → IsIn life lives →
    Begins (kept_by life) (kept_last lives)
kept_lasts c actor [] life are at = absurd (none_in at)
kept_lasts c actor (first ∷ []) life are at = elim (in_cons_cases at) [
  | inl same ↦ subst (λ (x : Life). Begins (kept_by x) (kept_by first)) (sym same) (begins_itself (kept_by first))
  | inr none ↦ absurd (none_in none)
]
kept_lasts c actor (first ∷ next ∷ rest) life are at = elim (in_cons_cases at) [
  | inl same ↦
      subst (λ (x : Life). Begins (kept_by x) (kept_last (next ∷ rest))) (sym same)
      (begins_through are.1 (kept_lasts c actor (next ∷ rest) next are.2 (here rest)))
  | inr later ↦ kept_lasts c actor (next ∷ rest) life are.2 later
]

is_life : (c : Contents) (actor : ℕ) (lives : List Life) (life : Life) → AreLives c actor lives → IsIn life lives →
    IsLife c actor life
is_life c actor [] life are at = absurd (none_in at)
is_life c actor (first ∷ []) life are at = elim (in_cons_cases at) [
  | inl same ↦ subst (IsLife c actor) (sym same) are
  | inr none ↦ absurd (none_in none)
]
is_life c actor (first ∷ next ∷ rest) life are at = elim (in_cons_cases at) [
  | inl same ↦ subst (IsLife c actor) (sym same) are.0
  | inr later ↦ is_life c actor (next ∷ rest) life are.2 later
]

last_is_station : (c : Contents) (actor : ℕ) (lives : List Life) (life : Life) → AreLives c actor lives →
    IsIn life lives → IsStation c actor (kept_last lives)
last_is_station c actor [] life are at = absurd (none_in at)
last_is_station c actor (first ∷ []) life are at = beginning_is_station c actor first.list first.durable are.station
last_is_station c actor (first ∷ next ∷ rest) life are at =
    last_is_station c actor (next ∷ rest) next are.2 (here rest)

-- an entry that was durable in a life stands in the end, as the actor's own
stands_in_end : (c : Contents) (actor : ℕ) (lives : List Life) (life : Life) (before : List Entry) (e : Entry) →
    AreLives c actor lives → IsIn life lives → Stands (kept_by life) before e →
    Stands (own (kept_last lives) actor) before e
stands_in_end c actor lives life before e are at stands =
    let begins = kept_lasts c actor lives life are at in
    let all = own_alone actor (kept_last lives) (last_is_station c actor lives life are at).alone in
    subst (λ (list : List Entry). Stands list before e) (sym (all ∙ begins.same)) (stands_on begins.rest stands)

pub lives_say_of_the_last : LivesSayOfTheLast
lives_say_of_the_last c actor lives life are at =
    let begins = kept_lasts c actor lives life are at in
    subst (λ (list : List Entry). BeginsToSay c list life.out) (sym begins.same)
    (begun_more begins.rest (is_life c actor lives life are at).said)

pub lives_sign_once : LivesSignOnce
lives_sign_once c actor lives one other before later d e group again leaf are at then first second signs twice =
    leaf_signs_one_group (setup_of c) (kept_last lives) actor before later d e group again leaf
    (stands_in_end c actor lives one before d are at first) (stands_in_end c actor lives other later e are then second)
    signs twice

pub said_stays : SaidStays
said_stays c durable more out said = said_more more said

pub said_together : SaidTogether
said_together c durable out more first second = said_after out first second

pub words_are_said : WordsAreSaid
words_are_said c durable before e stamp at = (entry_said c durable before e at, since_said c durable stamp [] durable refl)
