-- What a master hears along its own list.
use Rattle.std.proofs.Common.{◌≡◌, ℕ, ◌+◌, ◌≤◌, Bool, true, false, cond, ◌&&◌, not, List, [], ◌∷◌, ◌++◌, length}
use Rattle.std.proofs.Common.{length-append, take, nat_lt, refl, ◌∙◌, ap, inl, inr, ◌⊎◌}
use Rattle.std.proofs.Common.{arith}
use Rattle.std.proofs.lemmas.Bool.{false≢true, cases_Bool}
use Rattle.std.proofs.lemmas.List.{append-nil}
use Rattle.std.proofs.Math.Seq.{take-nil}
use Rattle.message_types.specs.declared.body.Body.{Body}
use Rattle.protocol_rules.specs.Master.{Heard, answers}
use Rattle.history_rules.specs.Events.{Entry, frame_taken, is_tick, is_silent}
use Rattle.history_rules.specs.Leaves.{leaves_for}
use Rattle.history_rules.specs.Setup.{Setup, is_correct_master, heard_from, leaves_used, room}
use Rattle.history_rules.specs.Legal.{heard_in, says_in}
use Rattle.agreement.proofs.KnownAsItGrows.{hears, heard_step}
use Rattle.agreement.proofs.Places.{by_growth}
use Rattle.words_in_place.specs.Laws.{ticks_heard}
use Rattle.words_in_place.proofs.Limits.{filter_more}
use Rattle.history_laws.specs.BenchLists.{AddsEntry}
use Rattle.bench_rules.specs.Laws.{FewTicks, SilentSaysNothing, HeardNext, HeardSame}
use Rattle.quorum_sets.proofs.MastersLemmas.{at_most_one}
use Rattle.words_in_place.proofs.Signing.{rule_of as rule_if}

-- the last entry's event is heard behind those of the list
heard_end : (w : Setup) (i used : ℕ) (list : List Entry) (e : Entry) →
    heard_from w i used (list ++ e ∷ []) ≡ heard_from w i used list
    ++ heard_from w i (used + leaves_used w list) (e ∷ [])
heard_end w i used [] e = ap (λ (k : ℕ). heard_from w i k (e ∷ [])) (omega arith)
heard_end w i used (x ∷ rest) e =
    let next : ℕ = used + leaves_for w.shared_leaves (length x.said) in
    let last : List Heard = heard_from w i (next + leaves_used w rest) (e ∷ []) in
    let same : next + leaves_used w rest ≡ used + leaves_used w (x ∷ rest) = omega arith in
    ap (λ (zs : List Heard). cond (is_silent x.event) zs (hears w i used x ∷ zs)) (heard_end w i next rest e)
    ∙ heard_step w i used x (is_silent x.event) (heard_from w i next rest) last refl
    ∙ ap (λ (k : ℕ). heard_from w i used (x ∷ rest) ++ heard_from w i k (e ∷ [])) same

from_none : (w : Setup) (i : ℕ) (list : List Entry) (e : Entry) → heard_in w i (list ++ e ∷ []) ≡ heard_in w i list
    ++ heard_from w i (leaves_used w list) (e ∷ [])
unfolding heard_in
from_none w i list e =
    let none : 0 + leaves_used w list ≡ leaves_used w list = omega arith in
    heard_end w i 0 list e ∙ ap (λ (k : ℕ). heard_from w i 0 list ++ heard_from w i k (e ∷ [])) none

pub heard_next : HeardNext
heard_next w i list e loud =
    from_none w i list e ∙ ap (λ (b : Bool). heard_in w i list ++ cond b [] (hears w i (leaves_used w list) e ∷ []))
    loud

pub heard_same : HeardSame
heard_same w i list e silent =
    from_none w i list e ∙ ap (λ (b : Bool). heard_in w i list ++ cond b [] (hears w i (leaves_used w list) e ∷ []))
    silent ∙ append-nil (heard_in w i list)

pub heard_none : (w : Setup) (i : ℕ) → heard_in w i [] ≡ []
unfolding heard_in
heard_none w i = refl

pub few_ticks : FewTicks
few_ticks w i = by_growth (λ (list : List Entry). ticks_heard (heard_in w i list) ≤ length list) none more
  where
    none : ticks_heard (heard_in w i []) ≤ 0
    none = let nothing : ticks_heard (heard_in w i []) ≡ 0 = ap ticks_heard (heard_none w i) in omega arith

    more : (list : List Entry) (e : Entry) → ticks_heard (heard_in w i list) ≤ length list →
        ticks_heard (heard_in w i (list ++ e ∷ [])) ≤ length (list ++ e ∷ [])
    more list e few = by (cases_Bool (is_silent e.event))
      where
        longer : length (list ++ e ∷ []) ≡ length list + 1
        longer = length-append list (e ∷ [])

        by : (is_silent e.event ≡ true) ⊎ (is_silent e.event ≡ false) →
            ticks_heard (heard_in w i (list ++ e ∷ [])) ≤ length (list ++ e ∷ [])
        by (inl silent) =
            let same : ticks_heard (heard_in w i (list ++ e ∷ [])) ≡ ticks_heard (heard_in w i list) =
            ap ticks_heard (heard_same w i list e silent) in
            omega (arith, longer)
        by (inr loud) =
            let last : Heard = hears w i (leaves_used w list) e in
            let counted : ticks_heard (heard_in w i (list ++ e ∷ [])) ≡ ticks_heard (heard_in w i list) + cond
            (is_tick e.event) 1 0 =
            ap ticks_heard (heard_next w i list e loud) ∙ filter_more (λ (x : Heard). x.is_tick)
            (heard_in w i list) last in
            let one = at_most_one (is_tick e.event) in
            omega (arith, longer)

not_in_nothing : (r : ℕ) (a x : Bool) (due other said : List Body) →
    said ≡ take r (cond a (cond x [] (cond true [] due)) other) → (a && not x) ≡ true → said ≡ []
not_in_nothing r true false due other said is correct = is ∙ take-nil r
not_in_nothing r true true due other said is correct = absurd (false≢true correct)
not_in_nothing r false x due other said is correct = absurd (false≢true correct)

pub silent_says_nothing : SilentSaysNothing
unfolding says_in
silent_says_nothing w i list e correct adds silent =
    let due : List Body = answers w.group w.orders i (heard_in w i list) (frame_taken e.event) (is_tick e.event) in
    let other : List Body = w.client_says i list e.event in
    let said : e.said ≡ take (room w list)
    (cond (nat_lt i w.group.n) (cond (w.intruded i) [] (cond true [] due)) other) =
    adds.said ∙ ap (λ (s : Bool). take (room w list)
    (cond (nat_lt i w.group.n) (cond (w.intruded i) [] (cond s [] due)) other)) silent in
    not_in_nothing (room w list) (nat_lt i w.group.n) (w.intruded i) due other e.said said correct

-- what a correct master says at an entry is what the rules make it say, cut to its room
pub rule_of : (w : Setup) (i : ℕ) (list : List Entry) (e : Entry) → AddsEntry w i list e →
    is_correct_master w i ≡ true → is_silent e.event ≡ false
    → e.said ≡ take (room w list)
    (answers w.group w.orders i (heard_in w i list) (frame_taken e.event) (is_tick e.event))
unfolding says_in
rule_of w i list e adds correct loud =
    adds.said ∙ rule_if (room w list) (nat_lt i w.group.n) (w.intruded i) (is_silent e.event)
    (answers w.group w.orders i (heard_in w i list) (frame_taken e.event) (is_tick e.event))
    (w.client_says i list e.event) correct loud
