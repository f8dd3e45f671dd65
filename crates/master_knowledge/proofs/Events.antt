-- What a master keeps of its events: how many ticks there were, and its wait, which stays what it is as more is ordered.
use Rattle.std.proofs.Common.{◌≡◌, ℕ, ◌+◌, ◌^◌, ◌<◌, ◌≤◌, Bool, true, false, cond, List, [], ◌∷◌, ◌++◌, length, filter, refl}
use Rattle.std.proofs.Common.{sym, ◌∙◌, ap, subst, arith}
use Rattle.std.proofs.lemmas.List.{append-nil, length-append}
use Rattle.std.proofs.lemmas.List.Elements.{filter-append}
use Rattle.message_types.specs.declared.signed.Signed.{Signed}
use Rattle.message_types.specs.declared.body.Body.{Body}
use Rattle.protocol_rules.specs.Group.{Group}
use Rattle.protocol_rules.specs.Matrix.{reach}
use Rattle.protocol_rules.specs.Facts.{facts_of}
use Rattle.protocol_rules.specs.Order.{ordered_run}
use Rattle.protocol_rules.specs.Measures.{Told, ticks_of}
use Rattle.protocol_rules.specs.Patience.{Moment, ticks_in}
use Rattle.leader_wait.specs.Waiting.{Waiting, IsWaitOf}
use Rattle.leader_wait.proofs.Stretches.{rising}
use Rattle.master_knowledge.specs.Knows.{ordered_reach}
use Rattle.master_knowledge.proofs.Growing.{run_grows}

pub told-push : (told : List Told) (e : Told) → ticks_of (told ++ e ∷ []) ≡ ticks_of told + cond e.is_tick 1 0
told-push told e =
    ap length (filter-append (λ (m : Told). m.is_tick) told (e ∷ []))
    ∙ length-append (filter (λ (m : Told). m.is_tick) told) (filter (λ (m : Told). m.is_tick) (e ∷ []))
    ∙ ap (λ k. ticks_of told + k) (by e.is_tick)
  where
    by : (b : Bool) → length (cond b (e ∷ []) []) ≡ cond b 1 0
    by true = refl
    by false = refl

pub moments-push : (moments : List Moment) (m : Moment) →
    ticks_in (moments ++ m ∷ []) ≡ ticks_in moments + cond m.is_tick 1 0
moments-push moments m =
    ap length (filter-append (λ (e : Moment). e.is_tick) moments (m ∷ []))
    ∙ length-append (filter (λ (e : Moment). e.is_tick) moments) (filter (λ (e : Moment). e.is_tick) (m ∷ []))
    ∙ ap (λ k. ticks_in moments + k) (by m.is_tick)
  where
    by : (b : Bool) → length (cond b (m ∷ []) []) ≡ cond b 1 0
    by true = refl
    by false = refl

reach_more : (g : Group) (runs more : List (List (List ℕ))) (j : ℕ) → reach g runs j ≤ reach g (runs ++ more) j
reach_more g [] more j = omega arith
reach_more g (rows ∷ rest) more j =
    let later : reach g rest j ≤ reach g (rest ++ more) j = reach_more g rest more j in
    omega arith

pub reach_rises : (g : Group) (known more : List (Signed Body)) (j : ℕ) →
    ordered_reach g known j ≤ ordered_reach g (known ++ more) j
reach_rises g known more j =
    let run : List (List (List ℕ)) = ordered_run g (facts_of g known) in
    let grown = run_grows g known more run [] (sym (append-nil run)) in
    subst (λ (rs : List (List (List ℕ))). reach g run j ≤ reach g rs j) (sym grown.1) (reach_more g run grown.0 j)

pub wait_stays : (g : Group) (kept : Waiting) (known more : List (Signed Body)) (moments : List Moment) →
    IsWaitOf g kept (ordered_reach g known) moments → IsWaitOf g kept (ordered_reach g (known ++ more)) moments
wait_stays g kept known more moments is =
    rising g kept (ordered_reach g known) (ordered_reach g (known ++ more)) moments (λ j lt. reach_rises g known more j) is

abbrev pub told_event : Bool → ℕ → Bool → Told
told_event is_tick view waits = record { is_tick = is_tick; view = view; waits = waits }

pub same_event : (at_tick : Bool) (v w : ℕ) (x y : Bool) → v ≡ w → x ≡ y → told_event at_tick v x ≡ told_event at_tick w y
same_event at_tick v w x y f h = ap (λ n. told_event at_tick n x) f ∙ ap (λ t. told_event at_tick w t) h

-- the wait has had as many ticks as the measures
pub few_ticks : (g : Group) (kept : Waiting) (ordered : ℕ → ℕ) (moments : List Moment) (ticks : ℕ) →
    ticks ≡ ticks_in moments → ticks < 2 ^ 32 → IsWaitOf g kept ordered moments → kept.ticks < 2 ^ 32
few_ticks g kept ordered moments ticks same few is =
    let own : kept.ticks ≡ ticks_in moments = is.ticks in
    omega arith

pub none_more : (ticks : ℕ) → ticks ≡ ticks + 0
none_more ticks = omega arith
