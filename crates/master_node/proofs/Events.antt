-- What one event more adds to what a master took, knows, was told of and said.
use Rattle.std.proofs.Common.{◌≡◌, ℕ, ◌+◌, Bool, true, false, cond, ◌||◌, List, [], ◌∷◌, ◌++◌, Option, Some, None, length}
use Rattle.std.proofs.Common.{map, refl, sym, ◌∙◌, ap, arith}
use Rattle.std.proofs.Common.{append_assoc}
use Rattle.std.specs.List.{list_any, filter_map, flat_map}
use Rattle.std.proofs.lemmas.List.{append-nil}
use Rattle.std.proofs.lemmas.List.Elements.{filter_map-append}
use Rattle.message_types.specs.declared.signed.Signed.{Signed}
use Rattle.message_types.specs.declared.body.Body.{Body}
use Rattle.message_types.specs.Parts.{parts}
use Rattle.protocol_rules.specs.Group.{Group}
use Rattle.protocol_rules.specs.Measures.{Told}
use Rattle.protocol_rules.specs.Views.{view}
use Rattle.protocol_rules.specs.Lacking.{answers_ask}
use Rattle.protocol_rules.specs.Master.{Heard, learned, taken_frames, known_at, taken_at, said_before, told_of, waits}
use Rattle.protocol_rules.specs.Master.{moments_of, answered_in}
use Rattle.words_by_part.specs.Laws.{told_at, moments_at}
use Rattle.master_knowledge.specs.Past.{past_with}
use Rattle.master_answers.specs.Asked.{answered_by}
use Rattle.master_answers.specs.Replica.{past_at}
use Rattle.master_answers.proofs.Waited.{moments_more, moments_at_end}
use Rattle.history_rules.specs.Leaves.{leaves_for}
use Rattle.master_node.specs.Charge.{leaves_used, taken_by}
use Rattle.master_node.specs.Running.{past_then}

abbrev pub told_event : Bool → ℕ → Bool → Told
told_event is_tick view waits = record { is_tick = is_tick; view = view; waits = waits }

-- an event as the measures are told of it
abbrev pub told_now : Group → List (Signed Body) → Bool → Told
told_now g known is_tick = record { is_tick = is_tick; view = view g known; waits = waits g known }

pub same_told : (a b : Bool) (v w : ℕ) (x y : Bool) → a ≡ b → v ≡ w → x ≡ y → told_event a v x ≡ told_event b w y
same_told a b v w x y e f h = ap (λ t. told_event t v x) e ∙ ap (λ n. told_event b n x) f ∙ ap (λ t. told_event b w t) h

told_more : (g : Group) (first before : List Heard) (e : Heard) →
    told_of g first (before ++ e ∷ []) ≡ told_of g first before
    ++ told_now g (known_at (first ++ before) e.took) e.is_tick ∷ []
told_more g first [] e = ap (λ (hs : List Heard). told_now g (known_at hs e.took) e.is_tick ∷ [])
    (sym (append-nil first))
told_more g first (h ∷ rest) e =
    ap (λ (ts : List Told). told_now g (known_at first h.took) h.is_tick ∷ ts)
    (told_more g (first ++ h ∷ []) rest e
    ∙ ap (λ (hs : List Heard). told_of g (first ++ h ∷ []) rest ++ told_now g (known_at hs e.took) e.is_tick ∷ [])
    (append_assoc first (h ∷ []) rest))

-- the events told are those before and the present one
pub told_at_end : (g : Group) (before : List Heard) (took : Option (Signed Body)) (at_tick : Bool)
    → told_at g before took at_tick ≡ told_of g [] before ++ told_now g (known_at before took) at_tick ∷ []
told_at_end g before took at_tick = told_more g [] before record { took = took; is_tick = at_tick; said = [] }

-- what was said at the last event doesn't matter to them
pub told_with : (g : Group) (before : List Heard) (took : Option (Signed Body)) (at_tick : Bool)
    (frames : List (Signed Body))
    → told_at g before took at_tick ≡ told_of g []
    (before ++ record { took = took; is_tick = at_tick; said = frames } ∷ [])
told_with g before took at_tick frames = told_at_end g before took at_tick
    ∙ sym (told_more g [] before record { took = took; is_tick = at_tick; said = frames })

-- the same of the moments
moments_with : (g : Group) (before : List Heard) (took : Option (Signed Body)) (at_tick : Bool)
    (frames : List (Signed Body))
    → moments_at g before took at_tick ≡ moments_of g []
    (before ++ record { took = took; is_tick = at_tick; said = frames } ∷ [])
moments_with g before took at_tick frames = moments_at_end g before took at_tick
    ∙ sym (moments_more g [] before record { took = took; is_tick = at_tick; said = frames })

-- the past with the present event is that before and the event
pub past_at_end : (g : Group) (before : List Heard) (took : Option (Signed Body)) (at_tick : Bool) (answered : List ℕ)
    → (record (past_at g before took at_tick) { answered = answered })
    ≡ past_with g (known_at before took) at_tick (past_then g before answered)
past_at_end g before took at_tick answered = λ i. record {
  told = told_at_end g before took at_tick i;
  moments = moments_at_end g before took at_tick i;
  answered = answered;
}

-- and what was said at it doesn't matter to what was told
pub past_said : (g : Group) (before : List Heard) (took : Option (Signed Body)) (at_tick : Bool)
    (frames : List (Signed Body)) (answered : List ℕ)
    → (record (past_at g before took at_tick) { answered = answered })
    ≡ past_then g (before ++ record { took = took; is_tick = at_tick; said = frames } ∷ []) answered
past_said g before took at_tick frames answered = λ i. record {
  told = told_with g before took at_tick frames i;
  moments = moments_with g before took at_tick frames i;
  answered = answered;
}

any_body : (p : Body → Bool) (frames : List (Signed Body)) →
    list_any (λ (f : Signed Body). p f.body) frames ≡ list_any p (map (λ f. f.body) frames)
any_body p [] = refl
any_body p (f ∷ rest) = ap (λ b. p f.body || b) (any_body p rest)

-- the asks answered with one event more
pub answered_more : (before : List Heard) (e : Heard) →
    answered_in (before ++ e ∷ []) ≡ answered_in before ++ answered_by e.took (map (λ f. f.body) e.said)
answered_more before e = filter_map-append _ before (e ∷ []) ∙ ap (λ (xs : List ℕ). answered_in before ++ xs) (last e.took)
  where
    last : (took : Option (Signed Body)) →
        answered_in (record { took = took; is_tick = e.is_tick; said = e.said } ∷ [])
        ≡ answered_by took (map (λ f. f.body) e.said)
    last None = refl
    last (Some f) = by (list_any (λ (said : Signed Body). answers_ask f.body said.body) e.said)
        (list_any (answers_ask f.body) (map (λ f. f.body) e.said)) (any_body (answers_ask f.body) e.said)
      where
        by : (a b : Bool) → a ≡ b → filter_map (λ (o : Option ℕ). o) (cond a (Some f.signer) None ∷ []) ≡ cond b (f.signer ∷ []) []
        by true b same = ap (λ c. cond c (f.signer ∷ []) []) same
        by false b same = ap (λ c. cond c (f.signer ∷ []) []) same

pub flat_more : {X Y : Type 0} (f : X → List Y) (xs : List X) (x : X) → flat_map f (xs ++ x ∷ []) ≡ flat_map f xs ++ f x
flat_more {X} {Y} f [] x = append-nil (f x)
flat_more {X} {Y} f (y ∷ rest) x = ap (λ (ys : List Y). f y ++ ys) (flat_more f rest x)
    ∙ sym (append_assoc (f y) (flat_map f rest) (f x))

pub taken_more : (before : List Heard) (e : Heard) → taken_by (before ++ e ∷ []) ≡ taken_at before e.took
taken_more before e = flat_more (λ (h : Heard). taken_frames h.took) before e

pub said_more : (before : List Heard) (e : Heard) → said_before (before ++ e ∷ []) ≡ said_before before
    ++ map (λ f. f.body) e.said
said_more before e = flat_more (λ (h : Heard). map (λ f. f.body) h.said) before e

pub learned_more : (before : List Heard) (e : Heard) → flat_map learned (before ++ e ∷ []) ≡ known_at before e.took
    ++ flat_map parts e.said
unfolding known_at
learned_more before e = flat_more learned before e
    ∙ sym (append_assoc (flat_map learned before) (flat_map parts (taken_frames e.took)) (flat_map parts e.said))

pub used_more : (shared : Bool) (before : List Heard) (e : Heard) →
    leaves_used shared (before ++ e ∷ []) ≡ leaves_used shared before + leaves_for shared (length e.said)
used_more shared [] e = omega arith
used_more shared (h ∷ rest) e =
    let later : leaves_used shared (rest ++ e ∷ []) ≡ leaves_used shared rest + leaves_for shared (length e.said) =
    used_more shared rest e in
    omega arith
