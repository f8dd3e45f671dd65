-- What a master lacks, as its parts tell it: the requests of each master up to where it wants them, and the numbers from the
-- first that isn't ordered on.
use Rattle.std.proofs.Common.{◌≡◌, ℕ, ◌+◌, ◌-◌, ◌≤◌, Bool, true, false, ◌&&◌, cond, not, List, [], ◌∷◌, ◌++◌, Option, Some, None}
use Rattle.std.proofs.Common.{Bor, is_some, map, filter, min, max, refl, sym, ◌∙◌, ap, arith}
use Rattle.std.specs.Option.{option_copied}
use Rattle.std.specs.List.{cons_option, list_all, list_any, flat_map, filter_map}
use Rattle.std.proofs.lemmas.List.{map-append}
use Rattle.message_types.specs.declared.signed.Signed.{Signed}
use Rattle.message_types.specs.declared.updates.Update.{Update}
use Rattle.message_types.specs.declared.views.Plan.{Plan}
use Rattle.message_types.specs.declared.body.Body.{Body}
use Rattle.protocol_rules.specs.declared.facts.OrderFact.{OrderFact}
use Rattle.protocol_rules.specs.Words.{numbers_from}
use Rattle.protocol_rules.specs.Group.{Group}
use Rattle.protocol_rules.specs.Preorder.{certified, vector}
use Rattle.protocol_rules.specs.Order.{ordered, plan_known}
use Rattle.protocol_rules.specs.Lacking.{open_base}
use Rattle.protocol_rules.specs.Execution.{Request as Eligible}
use Rattle.reconcile.specs.declared.wanted.Wanted.{Wanted}
use Rattle.reconcile.specs.declared.wanted.Wanted.TheVariants.{Request, Number}
use Rattle.reconcile.specs.Lacked.{unless_certified, lacking_of}
use Rattle.reconcile.proofs.Gathered.{listed}
use Rattle.master_answers.specs.Asked.{is_request}

-- a request that isn't certified
abbrev pub lacked_at : ℕ → ℕ → Option Update → Option Eligible
lacked_at j k held = elim held [ None ↦ Some record { j = j; k = k } | Some u ↦ None ]

-- those of master j up to a number
abbrev pub uncertified : Group → List (Signed Body) → (ℕ → ℕ) → ℕ → List Eligible
uncertified g known to j = filter_map (λ k. lacked_at j k (certified g known j k))
    (numbers_from (vector g known j + 1) (to j - vector g known j))

abbrev pub wanting : Eligible → Wanted
wanting r = Request r.j r.k

of_numbers : (g : Group) (known : List (Signed Body)) (j : ℕ) (ks : List ℕ) →
    flat_map (λ k. unless_certified j k (certified g known j k)) ks
    ≡ map wanting (filter_map (λ k. lacked_at j k (certified g known j k)) ks)
of_numbers g known j [] = refl
of_numbers g known j (k ∷ rest) = by (certified g known j k) (of_numbers g known j rest)
  where
    by : (held : Option Update) → flat_map (λ i. unless_certified j i (certified g known j i)) rest
        ≡ map wanting (filter_map (λ i. lacked_at j i (certified g known j i)) rest)
        → unless_certified j k held ++ flat_map (λ i. unless_certified j i (certified g known j i)) rest
        ≡ map wanting (cons_option (lacked_at j k held)
        (filter_map (λ i. lacked_at j i (certified g known j i)) rest))
    by None more = ap (λ ws. Request j k ∷ ws) more
    by (Some u) more = more

-- what is lacking is what isn't certified, as it is wanted
pub of_masters : (g : Group) (known : List (Signed Body)) (to : ℕ → ℕ) (js : List ℕ) →
    flat_map (lacking_of g known to) js ≡ map wanting (flat_map (uncertified g known to) js)
of_masters g known to [] = refl
of_masters g known to (j ∷ rest) =
    ap (λ ws. ws ++ flat_map (lacking_of g known to) rest)
    (of_numbers g known j (numbers_from (vector g known j + 1) (to j - vector g known j)))
    ∙ ap (λ ws. map wanting (uncertified g known to j) ++ ws) (of_masters g known to rest)
    ∙ sym (map-append wanting (uncertified g known to j) (flat_map (uncertified g known to) rest))

pub all_requests : (rs : List Eligible) → list_all is_request (map wanting rs) ≡ true
all_requests [] = refl
all_requests (r ∷ rest) = all_requests rest

pub no_requests : (ns : List ℕ) → list_any is_request (map (λ s. Number s) ns) ≡ false
no_requests [] = refl
no_requests (s ∷ rest) = no_requests rest

-- A number that isn't ordered.
abbrev pub unless_ordered : Group → List OrderFact → ℕ → List Wanted
unless_ordered g facts s = cond (is_some (ordered g facts s)) [] (Number s ∷ [])

kept_numbers : (g : Group) (facts : List OrderFact) (ns : List ℕ) → flat_map (unless_ordered g facts) ns
    ≡ map (λ s. Number s) (filter (λ s. not (is_some (ordered g facts s))) ns)
kept_numbers g facts [] = refl
kept_numbers g facts (s ∷ rest) = by (is_some (ordered g facts s)) (kept_numbers g facts rest)
  where
    by : (b : Bool) → flat_map (unless_ordered g facts) rest
        ≡ map (λ t. Number t) (filter (λ t. not (is_some (ordered g facts t))) rest)
        → cond b [] (Number s ∷ []) ++ flat_map (unless_ordered g facts) rest
        ≡ map (λ t. Number t) (cond (not b) (s ∷ filter (λ t. not (is_some (ordered g facts t))) rest)
        (filter (λ t. not (is_some (ordered g facts t))) rest))
    by true more = more
    by false more = ap (λ ws. Number s ∷ ws) more

-- one that isn't ordered, as the order answers for it
pub pushed_unless : (old new : List Wanted) (s : ℕ) (rows : Option (Bor (List (List ℕ))))
    (held : Option (List (List ℕ))) (there : Bool) → is_some rows ≡ there → option_copied rows ≡ held →
    new ≡ old ++ cond there [] (Number s ∷ []) → new ≡ old ++ cond (is_some held) [] (Number s ∷ [])
pushed_unless old new s rows held there at copied is =
    is ∙ ap (λ b. old ++ cond b [] (Number s ∷ [])) (sym at ∙ sym (kept rows) ∙ ap is_some copied)
  where
    kept : (r : Option (Bor (List (List ℕ)))) → is_some (option_copied r) ≡ is_some r
    kept None = refl
    kept (Some x) = refl

-- those gone over up to the last one, where no more than 64 are looked at
pub numbers_done : (g : Group) (facts : List OrderFact) (first last limit most want wanted gapless : ℕ)
    (list : List Wanted) → list ≡ listed (unless_ordered g facts) first last → limit ≤ last → last ≤ max first limit →
    limit ≡ min (min want most) (first + 64) → first ≡ gapless → want ≡ wanted →
    list ≡ map (λ s. Number s) (filter (λ s. not (is_some (ordered g facts s)))
    (numbers_from (gapless + 1) (min 64 (min wanted most - gapless))))
numbers_done g facts first last limit most want wanted gapless list is past within lim at so =
    let count : last - first ≡ min 64 (min wanted most - first) = omega arith in
    is ∙ ap (λ n. flat_map (unless_ordered g facts) (numbers_from (first + 1) n)) count
    ∙ ap (λ v. flat_map (unless_ordered g facts) (numbers_from (v + 1) (min 64 (min wanted most - v)))) at
    ∙ kept_numbers g facts (numbers_from (gapless + 1) (min 64 (min wanted most - gapless)))

-- an ask for the next number is due where the one before was asked for
pub next_asked : (had has had_said has_said : Bool) → had ≡ true → had ≡ had_said → has ≡ has_said →
    not has ≡ (had_said && not has_said)
next_asked had has had_said has_said is a b = ap not b ∙ ap (λ x. x && not has_said) (sym is ∙ a)

pub not_next_asked : (had had_said has_said : Bool) → had ≡ false → had ≡ had_said → had ≡ (had_said && not has_said)
not_next_asked had had_said has_said is a = is ∙ ap (λ x. x && not has_said) (sym is ∙ a)

pub raised_none : (x : ℕ) → x ≡ max x 0
raised_none x = omega arith

-- The base of the plan, where the view is closed and where it is open.
pub base_closed : (facts : List OrderFact) (v : ℕ) (is_open : Bool) → is_open ≡ false → 0 ≡ open_base facts v is_open
base_closed facts v is_open e = sym (ap (open_base facts v) e)

abbrev pub base_of : Option Plan → ℕ
base_of held = elim held [ None ↦ 0 | Some plan ↦ plan.base ]

pub base_open : (facts : List OrderFact) (v own : ℕ) (is_open : Bool) (held : Option Plan) → is_open ≡ true → own ≡ v →
    held ≡ plan_known facts own → base_of held ≡ open_base facts v is_open
base_open facts v own is_open held e at is =
    ap base_of (is ∙ ap (plan_known facts) at) ∙ sym (ap (open_base facts v) e)
