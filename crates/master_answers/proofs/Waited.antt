-- How long a master has waited in the view that it is in: the wait is that of the last moment's view, and the last moment is
-- the present event.
use Rattle.std.proofs.Common.{◌≡◌, ℕ, ◌+◌, Bool, cond, List, [], ◌∷◌, ◌++◌, Option, length, length-append, refl, sym, ◌∙◌}
use Rattle.std.proofs.Common.{ap, inl, inr, ◌⊎◌, subst, append_assoc, arith}
use Rattle.std.proofs.lemmas.List.{append-nil}
use Rattle.std.proofs.lemmas.Bool.{cases_eq, eq-eqb}
use Rattle.message_types.specs.declared.signed.Signed.{Signed}
use Rattle.message_types.specs.declared.body.Body.{Body}
use Rattle.protocol_rules.specs.Group.{Group}
use Rattle.protocol_rules.specs.Patience.{Moment, stretch, wait}
use Rattle.protocol_rules.specs.Views.{view}
use Rattle.protocol_rules.specs.Master.{Heard, known_at, moments_of, moment}
use Rattle.words_by_part.specs.Laws.{moments_at, waiting_at}
use Rattle.master_knowledge.specs.Knows.{ordered_reach}
use Rattle.leader_wait.specs.Waiting.{Waiting, IsWaitOf}
use Rattle.leader_wait.proofs.Stretches.{stretch-push}

not_none : {X : Type 0} (xs : List X) (x : X) → xs ++ x ∷ [] ≡ [] → ⊥
not_none xs x e =
    let many : length xs + 1 ≡ 0 = sym (length-append xs (x ∷ [])) ∙ ap length e in
    omega arith

-- the wait is of the view of the last moment
pub last_view : (g : Group) (kept : Waiting) (ordered : ℕ → ℕ) (moments : List Moment) (m : Moment) →
    IsWaitOf g kept ordered (moments ++ m ∷ []) → kept.view ≡ m.view
last_view g kept ordered moments m is = by (cases_eq kept.view m.view)
  where
    by : (kept.view ≡ m.view) ⊎ (kept.view ≡ m.view → ⊥) → kept.view ≡ m.view
    by (inl same) = same
    by (inr apart) = absurd (not_none (stretch m.view moments) m
        (sym (ap (λ b. cond b (stretch m.view moments ++ m ∷ []) []) (eq-eqb m.view m.view refl))
        ∙ sym (stretch-push m.view moments m) ∙ is.others m.view apart))

-- the moments of all events are those of the events before and the present one
pub moments_more : (g : Group) (first before : List Heard) (e : Heard) →
    moments_of g first (before ++ e ∷ []) ≡ moments_of g first before
    ++ moment g (known_at (first ++ before) e.took) e.is_tick ∷ []
moments_more g first [] e = ap (λ (hs : List Heard). moment g (known_at hs e.took) e.is_tick ∷ [])
    (sym (append-nil first))
moments_more g first (h ∷ rest) e =
    ap (λ (ms : List Moment). moment g (known_at first h.took) h.is_tick ∷ ms)
    (moments_more g (first ++ h ∷ []) rest e
    ∙ ap (λ (hs : List Heard). moments_of g (first ++ h ∷ []) rest ++ moment g (known_at hs e.took) e.is_tick ∷ [])
    (append_assoc first (h ∷ []) rest))

pub moments_at_end : (g : Group) (before : List Heard) (took : Option (Signed Body)) (at_tick : Bool)
    → moments_at g before took at_tick ≡ moments_of g [] before ++ moment g (known_at before took) at_tick ∷ []
moments_at_end g before took at_tick = moments_more g [] before record { took = took; is_tick = at_tick; said = [] }

-- so a wait in the view that is kept is the wait in the present view
pub waited_so : (g : Group) (kept : Waiting) (before : List Heard) (took : Option (Signed Body)) (at_tick : Bool)
    (waiting : ℕ) → IsWaitOf g kept (ordered_reach g (known_at before took)) (moments_at g before took at_tick) →
    waiting ≡ wait g kept.view (ordered_reach g (known_at before took)) (moments_at g before took at_tick) →
    waiting ≡ waiting_at g (known_at before took) (moments_at g before took at_tick)
waited_so g kept before took at_tick waiting is so =
    so ∙ ap (λ v. wait g v (ordered_reach g (known_at before took)) (moments_at g before took at_tick))
    (last_view g kept (ordered_reach g (known_at before took)) (moments_of g [] before)
    (moment g (known_at before took) at_tick)
    (subst (IsWaitOf g kept (ordered_reach g (known_at before took))) (moments_at_end g before took at_tick) is))
