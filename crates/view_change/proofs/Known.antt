-- What a word known changes.
use Rattle.std.proofs.Common.{◌≡◌, ℕ, ◌+◌, ◌-◌, ◌<◌, ◌≤◌, Bool, true, false, ◌||◌, ◌&&◌, List, [], ◌∷◌, ◌++◌, Option}
use Rattle.std.proofs.Common.{Some, None, max, nat_eq, refl, sym, ◌∙◌, ap, inl, inr, ◌⊎◌, arith, if◌then◌else◌}
use Rattle.std.proofs.Common.{unwrap_or, slice_index_or}
use Rattle.std.specs.List.{list_any, filter_map}
use Rattle.std.specs.Option.{option_map, is_some}
use Rattle.std.proofs.lemmas.Bool.{cases_eq, eq-eqb, ne_eqb, eqb-true, and_parts}
use Rattle.std.proofs.lemmas.List.Folds.{list_any-append}
use Rattle.message_types.specs.declared.signed.Signed.{Signed}
use Rattle.message_types.specs.declared.views.Report.{Report}
use Rattle.message_types.specs.declared.views.NewView.{NewView}
use Rattle.message_types.specs.declared.views.Plan.{Plan}
use Rattle.message_types.specs.declared.body.Body.{Body}
use Rattle.message_types.specs.declared.body.Body.TheVariants as body
use Rattle.message_types.specs.Parts.{as_frame}
use Rattle.quorum_sets.specs.Masters.{has_master, with_master}
use Rattle.quorum_sets.specs.Quorum.{has_quorum}
use Rattle.protocol_rules.specs.Words.{first_of_list, greatest_of, or_else}
use Rattle.protocol_rules.specs.Group.{Group, most_view}
use Rattle.protocol_rules.specs.Views.{view, view_shown, is_suspect, is_suspected, is_opened, report_by, new_view_in}
use Rattle.protocol_rules.proofs.Greatest.{or_zero, greatest-push, greatest-more, greatest-covers, greatest-same}
use Rattle.protocol_rules.proofs.LimitValues.{most_view-is}
use Rattle.view_change.specs.ViewState.{ViewState, AreViewsOf, at_view, at_place, suspects_of, first_report}
use Rattle.view_change.specs.ViewState.{first_new_view, plan_in_new_view}
use Rattle.view_change.proofs.Reached.{quorum-same, quorum-fewer, quorum-none, has_with_master}
use Rattle.plain_lists.proofs.Booleans.{nat_eq-flipped}
use Rattle.protocol_rules.proofs.FirstMet.{first_of_list-push, or_else-none}

pub first_report-more : (known : List (Signed Body)) (f : Signed Body) (v j : ℕ) →
    first_report (known ++ f ∷ []) v j ≡ or_else (first_report known v j) (report_by v j f)
unfolding first_report
first_report-more known f v j = first_of_list-push (report_by v j) known f

pub first_new_view-more : (known : List (Signed Body)) (f : Signed Body) (v : ℕ) →
    first_new_view (known ++ f ∷ []) v ≡ or_else (first_new_view known v) (new_view_in v f)
unfolding first_new_view
first_new_view-more known f v = first_of_list-push (new_view_in v) known f

some_first : {X Y : Type 0} (h : X → Option Y) (xs : List X) →
    list_any (λ x. is_some (h x)) xs ≡ is_some (first_of_list (filter_map h xs))
some_first h [] = refl
some_first h (x ∷ xs) = at (h x) refl (some_first h xs)
  where
    at : (o : Option _) → h x ≡ o → list_any (λ y. is_some (h y)) xs ≡ is_some (first_of_list (filter_map h xs)) →
        list_any (λ y. is_some (h y)) (x ∷ xs) ≡ is_some (first_of_list (filter_map h (x ∷ xs)))
    at None e less = rw e less
    at (Some y) e less = rw e refl

pub opened-is : (known : List (Signed Body)) (v : ℕ) → is_opened known v ≡ is_some (first_new_view known v)
unfolding first_new_view
opened-is known v = some_first (new_view_in v) known

pub view-is : (g : Group) (known : List (Signed Body)) →
    view g known ≡ greatest_of (filter_map (view_shown g known) known)
unfolding view
view-is g known = refl

-- a frame shows the same view where the same views' leaders are suspected
shown-same : (g : Group) (known more : List (Signed Body)) →
    ((v : ℕ) → is_suspected g known v ≡ is_suspected g more v) → (f : Signed Body) →
    view_shown g more f ≡ view_shown g known f
shown-same g known more same f = at f.body refl
  where
    at : (b : Body) → f.body ≡ b → view_shown g more f ≡ view_shown g known f
    at (body.Suspect b) e = rw e (ap (λ s. if s then Some (b.v + 1) else None) (sym (same b.v)))
    at _ e = rw e refl

pub view-same : (g : Group) (known more words : List (Signed Body)) →
    ((v : ℕ) → is_suspected g known v ≡ is_suspected g more v)
    → greatest_of (filter_map (view_shown g more) words) ≡ greatest_of (filter_map (view_shown g known) words)
view-same g known more words same = greatest-same (view_shown g known) (view_shown g more)
    (shown-same g known more same) words

-- the view with one word more, by which no more leaders are suspected
view-pushed : (g : Group) (known : List (Signed Body)) (f : Signed Body) →
    ((v : ℕ) → is_suspected g known v ≡ is_suspected g (known ++ f ∷ []) v) →
    view g (known ++ f ∷ []) ≡ max (view g known) (or_zero (view_shown g known f))
view-pushed g known f same =
    view-is g (known ++ f ∷ []) ∙ view-same g known (known ++ f ∷ []) (known ++ f ∷ []) same
    ∙ greatest-push (view_shown g known) known f
    ∙ ap (λ k. max k (or_zero (view_shown g known f))) (sym (view-is g known))

-- an open view is shown
pub opened-shown : (g : Group) (known : List (Signed Body)) (v : ℕ) → is_opened known v ≡ true → v ≤ view g known
opened-shown g known v is_open =
    let covered : v ≤ greatest_of (filter_map (view_shown g known) known) =
    greatest-covers (view_shown g known) (λ f. is_some (new_view_in v f)) v given known is_open in
    let is : view g known ≡ greatest_of (filter_map (view_shown g known) known) = view-is g known in
    omega arith
  where
    there : (w : ℕ) (x : Signed NewView) (b : Bool) → nat_eq w v ≡ b → is_some (if b then Some x else None) ≡ true →
        Some w ≡ Some v
    there w x true e some = ap Some (eqb-true w v e)
    there w x false e some = absurd (let h : false ≡ true = some in cc)

    given : (f : Signed Body) → is_some (new_view_in v f) ≡ true → view_shown g known f ≡ Some v
    given f = at f.body refl
      where
        at : (b : Body) → f.body ≡ b → is_some (new_view_in v f) ≡ true → view_shown g known f ≡ Some v
        at (body.NewView b) e = rw e
            (λ some. there b.v record { signer = f.signer; body = b; sig = f.sig } (nat_eq b.v v) refl some)
        at _ e = rw e (λ some. absurd (let h : false ≡ true = some in cc))

-- the frame is somebody's vote against the leader of view v
abbrev suspects : ℕ → Signed Body → Bool
suspects v f = elim f.body [ body.Suspect b ↦ nat_eq b.v v | _ ↦ false ]

no_vote_of : (v j : ℕ) (known : List (Signed Body)) → list_any (suspects v) known ≡ false →
    list_any (is_suspect v j) known ≡ false
no_vote_of v j [] none = refl
no_vote_of v j (f ∷ rest) none = by (suspects v f) refl none (no_vote_of v j rest)
  where
    other : (a b : Bool) → b ≡ false → (a && b) ≡ false
    other true b e = e
    other false b e = refl

    here : suspects v f ≡ false → is_suspect v j f ≡ false
    here = at f.body refl
      where
        at : (b : Body) → f.body ≡ b → suspects v f ≡ false → is_suspect v j f ≡ false
        at (body.Suspect b) e = rw e (other (nat_eq f.signer j) (nat_eq b.v v))
        at _ e = rw e (λ h. refl)

    by : (b : Bool) → suspects v f ≡ b → (b || list_any (suspects v) rest) ≡ false →
        (list_any (suspects v) rest ≡ false → list_any (is_suspect v j) rest ≡ false) →
        list_any (is_suspect v j) (f ∷ rest) ≡ false
    by true e h less = absurd (let no : true ≡ false = h in cc)
    by false e h less = ap (λ b. b || list_any (is_suspect v j) rest) (here e) ∙ less h

-- where a quorum suspects a view's leader, the view after it is shown
pub suspected-shown : (g : Group) (known : List (Signed Body)) (v : ℕ) → 1 ≤ g.q → is_suspected g known v ≡ true →
    v + 1 ≤ view g known
suspected-shown g known v some enough = by (list_any (suspects v) known) refl
  where
    there : (w : ℕ) (b : Bool) → nat_eq w v ≡ b → b ≡ true →
        (if is_suspected g known w then Some (w + 1) else None) ≡ Some (v + 1)
    there w true e is = ap (λ u. if is_suspected g known u then Some (u + 1) else None) (eqb-true w v e)
        ∙ ap (λ s. if s then Some (v + 1) else None) enough
    there w false e is = absurd (let h : false ≡ true = is in cc)

    given : (f : Signed Body) → suspects v f ≡ true → view_shown g known f ≡ Some (v + 1)
    given f = at f.body refl
      where
        at : (b : Body) → f.body ≡ b → suspects v f ≡ true → view_shown g known f ≡ Some (v + 1)
        at (body.Suspect b) e = rw e (λ is. there b.v (nat_eq b.v v) refl is)
        at _ e = rw e (λ is. absurd (let h : false ≡ true = is in cc))

    by : (b : Bool) → list_any (suspects v) known ≡ b → v + 1 ≤ view g known
    by true e =
        let covered : v + 1 ≤ greatest_of (filter_map (view_shown g known) known) =
        greatest-covers (view_shown g known) (suspects v) (v + 1) given known e in
        let is : view g known ≡ greatest_of (filter_map (view_shown g known) known) = view-is g known in
        omega arith
    by false e =
        let nobody : is_suspected g known v ≡ false = quorum-same g.n g.q (λ j. list_any (is_suspect v j) known)
        (has_master []) (λ j lt. no_vote_of v j known e) ∙ quorum-none g.n g.q some in
        absurd (let h : true ≡ false = sym enough ∙ nobody in cc)

-- a word that is no vote of the group
abbrev pub NoVote : Group → Signed Body → Type 0
NoVote g f = (v j : ℕ) → j < g.n → is_suspect v j f ≡ false

or_false : (b : Bool) → (b || (false || false)) ≡ b
or_false true = refl
or_false false = refl

votes-passed : (g : Group) (known : List (Signed Body)) (f : Signed Body) → NoVote g f → (v j : ℕ) → j < g.n →
    list_any (is_suspect v j) (known ++ f ∷ []) ≡ list_any (is_suspect v j) known
votes-passed g known f none v j few = list_any-append (is_suspect v j) known (f ∷ [])
    ∙ ap (λ b. list_any (is_suspect v j) known || (b || false)) (none v j few)
    ∙ or_false (list_any (is_suspect v j) known)

suspected-passed : (g : Group) (known : List (Signed Body)) (f : Signed Body) → NoVote g f → (v : ℕ) →
    is_suspected g known v ≡ is_suspected g (known ++ f ∷ []) v
suspected-passed g known f none v = quorum-same g.n g.q (λ j. list_any (is_suspect v j) known)
    (λ j. list_any (is_suspect v j) (known ++ f ∷ [])) (λ j few. sym (votes-passed g known f none v j few))

view-passed : (g : Group) (known : List (Signed Body)) (f : Signed Body) → NoVote g f →
    or_zero (view_shown g known f) ≤ view g known → view g (known ++ f ∷ []) ≡ view g known
view-passed g known f none low =
    let pushed : view g (known ++ f ∷ []) ≡ max (view g known) (or_zero (view_shown g known f)) =
    view-pushed g known f (suspected-passed g known f none) in
    omega arith

-- a word that changes nothing
pub passed : (g : Group) (me : ℕ) (kept : ViewState) (known : List (Signed Body)) (said : List Body)
    (f : Signed Body) → NoVote g f → or_zero (view_shown g known f) ≤ view g known
    → ((v j : ℕ) → or_else (first_report known v j) (report_by v j f) ≡ first_report known v j) →
    ((v : ℕ) → or_else (first_new_view known v) (new_view_in v f) ≡ first_new_view known v)
    → AreViewsOf g me kept known said → AreViewsOf g me kept (known ++ f ∷ []) said
passed g me kept known said f none shown reports opens is = record {
  masters = is.masters;
  quorum = is.quorum;
  own = is.own;
  view = is.view ∙ sym (view-passed g known f none shown);
  limit = is.limit;
  suspects = λ v j low few. is.suspects v j low few ∙ sym (votes-passed g known f none v j few);
  reports = λ v j. is.reports v j ∙ sym (first_report-more known f v j ∙ reports v j);
  plans = λ v. is.plans v ∙ ap (option_map (plan_in_new_view g)) (sym (first_new_view-more known f v ∙ opens v));
  reported = is.reported;
  opened = is.opened;
}

abbrev pub suspect_of : ℕ → ℕ → List ℕ → Signed Body
suspect_of signer v sig = record { signer = signer; body = body.Suspect record { v = v }; sig = sig }

-- a vote of no master of the group
pub suspect-passed : (g : Group) (me : ℕ) (kept : ViewState) (known : List (Signed Body)) (said : List Body)
    (signer v : ℕ) (sig : List ℕ) → 1 ≤ g.q → g.n ≤ signer
    → AreViewsOf g me kept known said → AreViewsOf g me kept (known ++ suspect_of signer v sig ∷ []) said
suspect-passed g me kept known said signer v sig some out is =
    passed g me kept known said (suspect_of signer v sig)
    (λ w j few. ap (λ b. b && nat_eq v w) (ne_eqb signer j (λ (e : signer ≡ j). omega arith)))
    (shown (is_suspected g known v) refl)
    (λ w j. or_else-none (first_report known w j)) (λ w. or_else-none (first_new_view known w)) is
  where
    shown : (b : Bool) → is_suspected g known v ≡ b → or_zero (if b then Some (v + 1) else None) ≤ view g known
    shown true e = suspected-shown g known v some e
    shown false e = omega arith

-- the votes with one more
voted : (known : List (Signed Body)) (signer v : ℕ) (sig : List ℕ) (w j : ℕ) →
    list_any (is_suspect w j) (known ++ suspect_of signer v sig ∷ []) ≡ (list_any (is_suspect w j) known
    || ((nat_eq signer j && nat_eq v w) || false))
voted known signer v sig w j = list_any-append (is_suspect w j) known (suspect_of signer v sig ∷ [])

own_vote : (a b c : Bool) → c ≡ true → (b || a) ≡ (a || ((b && c) || false))
own_vote true true true e = refl
own_vote true false true e = refl
own_vote false true true e = refl
own_vote false false true e = refl
own_vote a b false e = absurd (let f : false ≡ true = e in cc)

other_vote : (a b c : Bool) → c ≡ false → a ≡ (a || ((b && c) || false))
other_vote true b false e = refl
other_vote false true false e = refl
other_vote false false false e = refl
other_vote a b true e = absurd (let f : true ≡ false = e in cc)

-- a vote for another view
vote-elsewhere : (known : List (Signed Body)) (signer v : ℕ) (sig : List ℕ) (w j : ℕ) → (v ≡ w → ⊥) →
    list_any (is_suspect w j) known ≡ list_any (is_suspect w j) (known ++ suspect_of signer v sig ∷ [])
vote-elsewhere known signer v sig w j ne = other_vote (list_any (is_suspect w j) known) (nat_eq signer j) (nat_eq v w)
    (ne_eqb v w ne) ∙ sym (voted known signer v sig w j)

suspected-elsewhere : (g : Group) (known : List (Signed Body)) (signer v : ℕ) (sig : List ℕ) (w : ℕ) → (v ≡ w → ⊥) →
    is_suspected g known w ≡ is_suspected g (known ++ suspect_of signer v sig ∷ []) w
suspected-elsewhere g known signer v sig w ne = quorum-same g.n g.q (λ j. list_any (is_suspect w j) known)
    (λ j. list_any (is_suspect w j) (known ++ suspect_of signer v sig ∷ []))
    (λ j few. vote-elsewhere known signer v sig w j ne)

-- a set that was the voters before is, with the signer, that of the voters now
vote-here : (known : List (Signed Body)) (signer v : ℕ) (sig : List ℕ) (before masters : List ℕ) (j : ℕ) → j < 14 →
    masters ≡ with_master before signer → has_master before j ≡ list_any (is_suspect v j) known
    → has_master masters j ≡ list_any (is_suspect v j) (known ++ suspect_of signer v sig ∷ [])
vote-here known signer v sig before masters j few joined was =
    ap (λ ms. has_master ms j) joined ∙ has_with_master before signer j few ∙ ap (λ b. b || has_master before j)
    (nat_eq-flipped j signer) ∙ ap (λ b. nat_eq signer j || b) was
    ∙ own_vote (list_any (is_suspect v j) known) (nat_eq signer j) (nat_eq v v) (eq-eqb v v refl)
    ∙ sym (voted known signer v sig v j)

still_voted : (a b : Bool) → a ≡ true → (a || (b || false)) ≡ true
still_voted true b e = refl
still_voted false b e = absurd (let f : false ≡ true = e in cc)

-- the view once a quorum suspects its leader, and while none does
view-raised : (g : Group) (known : List (Signed Body)) (signer v : ℕ) (sig : List ℕ) →
    is_suspected g (known ++ suspect_of signer v sig ∷ []) v ≡ true →
    view g (known ++ suspect_of signer v sig ∷ []) ≡ max (view g known) (v + 1)
view-raised g known signer v sig enough =
    view-is g now ∙ greatest-push (view_shown g now) known (suspect_of signer v sig)
    ∙ ap (λ s. max (greatest_of (filter_map (view_shown g now) known)) (or_zero (if s then Some (v + 1) else None)))
    enough
    ∙ greatest-more (view_shown g known) (view_shown g now) (v + 1) more known
    ∙ ap (λ k. max k (v + 1)) (sym (view-is g known))
  where
    now : List (Signed Body)
    now = known ++ suspect_of signer v sig ∷ []

    shows : ℕ → Bool → Option ℕ
    shows w s = if s then Some (w + 1) else None

    voted_for : (w : ℕ) → (v ≡ w) ⊎ (v ≡ w → ⊥)
        → (shows w (is_suspected g now w) ≡ shows w (is_suspected g known w))
        ⊎ ((shows w (is_suspected g known w) ≡ None) × (shows w (is_suspected g now w) ≡ Some (v + 1)))
    voted_for w (inl e) = by (is_suspected g known w) refl
      where
        is_now : shows w (is_suspected g now w) ≡ Some (w + 1)
        is_now = ap (shows w) (ap (is_suspected g now) (sym e) ∙ enough)

        by : (b : Bool) → is_suspected g known w ≡ b →
            (shows w (is_suspected g now w) ≡ shows w (is_suspected g known w))
            ⊎ ((shows w (is_suspected g known w) ≡ None) × (shows w (is_suspected g now w) ≡ Some (v + 1)))
        by true was = inl (is_now ∙ sym (ap (shows w) was))
        by false was = inr (ap (shows w) was, is_now ∙ ap (λ u. Some (u + 1)) (sym e))
    voted_for w (inr ne) = inl (ap (shows w) (sym (suspected-elsewhere g known signer v sig w ne)))

    more : (f : Signed Body) → (view_shown g now f ≡ view_shown g known f)
        ⊎ ((view_shown g known f ≡ None) × (view_shown g now f ≡ Some (v + 1)))
    more f = at f.body refl
      where
        at : (b : Body) → f.body ≡ b → (view_shown g now f ≡ view_shown g known f)
            ⊎ ((view_shown g known f ≡ None) × (view_shown g now f ≡ Some (v + 1)))
        at (body.Suspect b) e = rw e (voted_for b.v (cases_eq v b.v))
        at _ e = rw e (inl refl)

view-stays : (g : Group) (known : List (Signed Body)) (signer v : ℕ) (sig : List ℕ) →
    is_suspected g (known ++ suspect_of signer v sig ∷ []) v ≡ false →
    view g (known ++ suspect_of signer v sig ∷ []) ≡ view g known
view-stays g known signer v sig few =
    let pushed : view g (known ++ suspect_of signer v sig ∷ []) ≡ max (view g known)
    (or_zero (view_shown g known (suspect_of signer v sig))) =
    view-pushed g known (suspect_of signer v sig) (λ w. same w (cases_eq v w)) in
    pushed ∙ ap (λ s. max (view g known) (or_zero (if s then Some (v + 1) else None))) failed ∙ none (view g known)
  where
    none : (k : ℕ) → max k 0 ≡ k
    none k = omega arith

    failed : is_suspected g known v ≡ false
    failed = quorum-fewer g.n g.q (λ j. list_any (is_suspect v j) known)
        (λ j. list_any (is_suspect v j) (known ++ suspect_of signer v sig ∷ []))
        (λ j below is. voted known signer v sig v j ∙ still_voted (list_any (is_suspect v j) known)
        (nat_eq signer j && nat_eq v v) is) few

    same : (w : ℕ) → (v ≡ w) ⊎ (v ≡ w → ⊥) →
        is_suspected g known w ≡ is_suspected g (known ++ suspect_of signer v sig ∷ []) w
    same w (inl e) = ap (is_suspected g known) (sym e) ∙ failed ∙ sym few
        ∙ ap (is_suspected g (known ++ suspect_of signer v sig ∷ [])) e
    same w (inr ne) = suspected-elsewhere g known signer v sig w ne

view-voted : (g : Group) (known : List (Signed Body)) (signer v : ℕ) (sig : List ℕ) (r : Bool) (old new : ℕ) →
    r ≡ is_suspected g (known ++ suspect_of signer v sig ∷ []) v → old ≡ view g known →
    new ≡ (if r then max old (v + 1) else old)
    → new ≡ view g (known ++ suspect_of signer v sig ∷ [])
view-voted g known signer v sig true old new e was now = now ∙ ap (λ k. max k (v + 1)) was
    ∙ sym (view-raised g known signer v sig (sym e))
view-voted g known signer v sig false old new e was now = now ∙ was ∙ sym (view-stays g known signer v sig (sym e))

view-limited : (r : Bool) (old new v : ℕ) → v < 255 → old ≤ most_view → new ≡ (if r then max old (v + 1) else old) →
    new ≤ most_view
view-limited true old new v low was now = let top : most_view ≡ 255 = most_view-is in omega arith
view-limited false old new v low was now = omega arith

pub suspect-taken : (g : Group) (me : ℕ) (kept new : ViewState) (known : List (Signed Body)) (said : List Body)
    (signer v : ℕ) (sig masters : List ℕ) (r : Bool) → g.n ≤ 14 → v < 255
    → masters ≡ with_master (suspects_of kept v) signer → r ≡ has_quorum g.n g.q (has_master masters)
    → new.group ≡ kept.group → new.me ≡ kept.me → new.view ≡ (if r then max kept.view (v + 1) else kept.view) →
    ((w : ℕ) → at_view new.suspects w ≡ (if nat_eq v w then Some masters else at_view kept.suspects w))
    → new.reports ≡ kept.reports → new.plans ≡ kept.plans → new.reported ≡ kept.reported → new.opened ≡ kept.opened
    → AreViewsOf g me kept known said → AreViewsOf g me new (known ++ suspect_of signer v sig ∷ []) said
suspect-taken g me kept new known said signer v sig masters r few low joined enough group own now votes reports plans
    reported opened is = record {
      masters = ap (λ (h : Group). h.n) group ∙ is.masters;
      quorum = ap (λ (h : Group). h.q) group ∙ is.quorum;
      own = own ∙ is.own;
      view = view-voted g known signer v sig r kept.view new.view
          (enough ∙ quorum-same g.n g.q (has_master masters)
          (λ j. list_any (is_suspect v j) (known ++ suspect_of signer v sig ∷ [])) here) is.view now;
      limit = view-limited r kept.view new.view v low is.limit now;
      suspects = λ w j below small. ap (λ o. has_master (unwrap_or o []) j) (votes w)
          ∙ at w j below small (cases_eq v w);
      reports = λ w j. ap (λ es. at_place es w j) reports ∙ is.reports w j
          ∙ sym (first_report-more known (suspect_of signer v sig) w j ∙ or_else-none (first_report known w j));
      plans = λ w. ap (λ es. at_view es w) plans ∙ is.plans w ∙ ap (option_map (plan_in_new_view g))
          (sym (first_new_view-more known (suspect_of signer v sig) w ∙ or_else-none (first_new_view known w)));
      reported = λ w most. ap (λ bs. slice_index_or bs w false) reported ∙ is.reported w most;
      opened = λ w most. ap (λ bs. slice_index_or bs w false) opened ∙ is.opened w most;
    }
  where
    top : most_view ≡ 255
    top = most_view-is

    here : (j : ℕ) → j < g.n → has_master masters j ≡ list_any (is_suspect v j) (known ++ suspect_of signer v sig ∷ [])
    here j small = let most : most_view ≡ 255 = top in vote-here known signer v sig (suspects_of kept v) masters j
        (omega arith) joined (is.suspects v j (omega arith) small)

    at : (w j : ℕ) → w < most_view → j < g.n → (v ≡ w) ⊎ (v ≡ w → ⊥) →
        has_master (unwrap_or (if nat_eq v w then Some masters else at_view kept.suspects w) []) j ≡ list_any
        (is_suspect w j) (known ++ suspect_of signer v sig ∷ [])
    at w j below small (inl e) =
        ap (λ b. has_master (unwrap_or (if b then Some masters else at_view kept.suspects w) []) j) (eq-eqb v w e)
        ∙ here j small ∙ ap (λ u. list_any (is_suspect u j) (known ++ suspect_of signer v sig ∷ [])) e
    at w j below small (inr ne) =
        ap (λ b. has_master (unwrap_or (if b then Some masters else at_view kept.suspects w) []) j) (ne_eqb v w ne)
        ∙ is.suspects w j below small ∙ vote-elsewhere known signer v sig w j ne

-- a report
abbrev pub report_word : Signed Report → Signed Body
report_word f = as_frame body.Report f

report_kept : {X : Type 0} (o p : Option X) → is_some o ≡ true → or_else o p ≡ o
report_kept None p e = absurd (let f : false ≡ true = e in cc)
report_kept (Some x) p e = refl

by_report : (f : Signed Report) (v j : ℕ) →
    report_by v j (report_word f) ≡ (if nat_eq f.signer j && nat_eq f.body.v v then Some f else None)
by_report f v j = refl

own_place : (f : Signed Report) (v j : ℕ) → (nat_eq f.signer j && nat_eq f.body.v v) ≡ true →
    (f.signer ≡ j) × (f.body.v ≡ v)
own_place f v j e = let both : (nat_eq f.signer j ≡ true) × (nat_eq f.body.v v ≡ true) =
    and_parts (nat_eq f.signer j) (nat_eq f.body.v v) e in (eqb-true f.signer j both.0, eqb-true f.body.v v both.1)

-- one of a master that has one of that view
pub report-passed : (g : Group) (me : ℕ) (kept : ViewState) (known : List (Signed Body)) (said : List Body)
    (f : Signed Report) → is_some (at_place kept.reports f.body.v f.signer) ≡ true
    → AreViewsOf g me kept known said → AreViewsOf g me kept (known ++ report_word f ∷ []) said
report-passed g me kept known said f there is = passed g me kept known said (report_word f) (λ w j few. refl)
    (omega arith) (λ w j. at w j (nat_eq f.signer j && nat_eq f.body.v w) refl)
    (λ w. or_else-none (first_new_view known w)) is
  where
    at : (w j : ℕ) (b : Bool) → (nat_eq f.signer j && nat_eq f.body.v w) ≡ b →
        or_else (first_report known w j) (report_by w j (report_word f)) ≡ first_report known w j
    at w j true e =
        let place : (f.signer ≡ j) × (f.body.v ≡ w) = own_place f w j e in
        report_kept (first_report known w j) (report_by w j (report_word f)) (ap is_some (sym (is.reports w j))
        ∙ ap (λ u. is_some (at_place kept.reports u j)) (sym place.1)
        ∙ ap (λ i. is_some (at_place kept.reports f.body.v i)) (sym place.0) ∙ there)
    at w j false e = ap (λ b. or_else (first_report known w j) (if b then Some f else None)) e
        ∙ or_else-none (first_report known w j)

-- the first of its master for its view
pub report-taken : (g : Group) (me : ℕ) (kept new : ViewState) (known : List (Signed Body)) (said : List Body)
    (f : Signed Report) → is_some (at_place kept.reports f.body.v f.signer) ≡ false
    → new.group ≡ kept.group → new.me ≡ kept.me → new.view ≡ kept.view → new.suspects ≡ kept.suspects
    → ((w j : ℕ) → at_place new.reports w j ≡ (if nat_eq f.body.v w
    && nat_eq f.signer j then Some f else at_place kept.reports w j))
    → new.plans ≡ kept.plans → new.reported ≡ kept.reported → new.opened ≡ kept.opened
    → AreViewsOf g me kept known said → AreViewsOf g me new (known ++ report_word f ∷ []) said
report-taken g me kept new known said f fresh group own same suspects reports plans reported opened is = record {
  masters = ap (λ (h : Group). h.n) group ∙ is.masters;
  quorum = ap (λ (h : Group). h.q) group ∙ is.quorum;
  own = own ∙ is.own;
  view = same ∙ is.view ∙ sym (view-passed g known (report_word f) (λ w j few. refl) (omega arith));
  limit = (let low : kept.view ≤ most_view = is.limit in omega arith);
  suspects = λ w j low few. ap (λ es. has_master (unwrap_or (at_view es w) []) j) suspects ∙ is.suspects w j low few
      ∙ sym (votes-passed g known (report_word f) (λ w j few. refl) w j few);
  reports = λ w j. reports w j ∙ at w j (nat_eq f.signer j && nat_eq f.body.v w) refl
      ∙ sym (first_report-more known (report_word f) w j);
  plans = λ w. ap (λ es. at_view es w) plans ∙ is.plans w ∙ ap (option_map (plan_in_new_view g))
      (sym (first_new_view-more known (report_word f) w ∙ or_else-none (first_new_view known w)));
  reported = λ w most. ap (λ bs. slice_index_or bs w false) reported ∙ is.reported w most;
  opened = λ w most. ap (λ bs. slice_index_or bs w false) opened ∙ is.opened w most;
}
  where
    and_comm : (a b : Bool) → (a && b) ≡ (b && a)
    and_comm true true = refl
    and_comm true false = refl
    and_comm false true = refl
    and_comm false false = refl

    none : {X : Type 0} (o : Option X) → is_some o ≡ false → o ≡ None
    none None e = refl
    none (Some x) e = absurd (let h : true ≡ false = e in cc)

    at : (w j : ℕ) (b : Bool) → (nat_eq f.signer j && nat_eq f.body.v w) ≡ b →
        (if nat_eq f.body.v w && nat_eq f.signer j then Some f else at_place kept.reports w j) ≡ or_else
        (first_report known w j) (if nat_eq f.signer j && nat_eq f.body.v w then Some f else None)
    at w j true e =
        let place : (f.signer ≡ j) × (f.body.v ≡ w) = own_place f w j e in
        let empty : first_report known w j ≡ None =
        none (first_report known w j) (ap is_some (sym (is.reports w j))
        ∙ ap (λ u. is_some (at_place kept.reports u j)) (sym place.1)
        ∙ ap (λ i. is_some (at_place kept.reports f.body.v i)) (sym place.0) ∙ fresh) in
        ap (λ b. if b then Some f else at_place kept.reports w j) (and_comm (nat_eq f.body.v w) (nat_eq f.signer j) ∙ e)
        ∙ sym (ap (λ o. or_else o (if nat_eq f.signer j && nat_eq f.body.v w then Some f else None)) empty
        ∙ ap (λ b. if b then Some f else None) e)
    at w j false e =
        ap (λ b. if b then Some f else at_place kept.reports w j)
        (and_comm (nat_eq f.body.v w) (nat_eq f.signer j) ∙ e) ∙ is.reports w j
        ∙ sym (ap (λ b. or_else (first_report known w j) (if b then Some f else None)) e
        ∙ or_else-none (first_report known w j))

-- a new view
abbrev pub new_view_word : Signed NewView → Signed Body
new_view_word f = as_frame body.NewView f

pub plan_there : {X Y : Type 0} (h : X → Y) (o : Option X) → is_some (option_map h o) ≡ is_some o
plan_there h None = refl
plan_there h (Some x) = refl

no_plan : {X : Type 0} (o : Option X) → is_some o ≡ false → o ≡ None
no_plan None e = refl
no_plan (Some x) e = absurd (let h : true ≡ false = e in cc)

-- one of a view that is open
pub new_view-passed : (g : Group) (me : ℕ) (kept : ViewState) (known : List (Signed Body)) (said : List Body)
    (f : Signed NewView) → is_some (at_view kept.plans f.body.v) ≡ true
    → AreViewsOf g me kept known said → AreViewsOf g me kept (known ++ new_view_word f ∷ []) said
new_view-passed g me kept known said f there is = passed g me kept known said (new_view_word f) (λ w j few. refl)
    (opened-shown g known f.body.v is_open) (λ w j. or_else-none (first_report known w j))
    (λ w. at w (cases_eq f.body.v w)) is
  where
    is_open : is_opened known f.body.v ≡ true
    is_open = opened-is known f.body.v ∙ sym (plan_there (plan_in_new_view g) (first_new_view known f.body.v))
        ∙ ap is_some (sym (is.plans f.body.v)) ∙ there

    at : (w : ℕ) → (f.body.v ≡ w) ⊎ (f.body.v ≡ w → ⊥) →
        or_else (first_new_view known w) (if nat_eq f.body.v w then Some f else None) ≡ first_new_view known w
    at w (inl e) =
        report_kept (first_new_view known w) (if nat_eq f.body.v w then Some f else None)
        (sym (plan_there (plan_in_new_view g) (first_new_view known w)) ∙ ap is_some (sym (is.plans w))
        ∙ ap (λ u. is_some (at_view kept.plans u)) (sym e) ∙ there)
    at w (inr ne) = ap (λ b. or_else (first_new_view known w) (if b then Some f else None)) (ne_eqb f.body.v w ne)
        ∙ or_else-none (first_new_view known w)

suspected-by_others : (g : Group) (known : List (Signed Body)) (f : Signed NewView) (v : ℕ) →
    is_suspected g known v ≡ is_suspected g (known ++ new_view_word f ∷ []) v
suspected-by_others g known f v =
    quorum-same g.n g.q (λ j. list_any (is_suspect v j) known)
    (λ j. list_any (is_suspect v j) (known ++ new_view_word f ∷ []))
    (λ j few. sym (list_any-append (is_suspect v j) known (new_view_word f ∷ [])
    ∙ or_false (list_any (is_suspect v j) known)))

view-opened : (g : Group) (known : List (Signed Body)) (f : Signed NewView) (old new : ℕ) → old ≡ view g known →
    new ≡ max old f.body.v → new ≡ view g (known ++ new_view_word f ∷ [])
view-opened g known f old new was now = now ∙ ap (λ k. max k f.body.v) was
    ∙ sym (view-pushed g known (new_view_word f) (suspected-by_others g known f))

-- the first of its view
pub new_view-taken : (g : Group) (me : ℕ) (kept new : ViewState) (known : List (Signed Body)) (said : List Body)
    (f : Signed NewView) (plan : Plan) → is_some (at_view kept.plans f.body.v) ≡ false
    → plan ≡ plan_in_new_view g f → f.body.v ≤ most_view
    → new.group ≡ kept.group → new.me ≡ kept.me → new.view ≡ max kept.view f.body.v → new.suspects ≡ kept.suspects →
    new.reports ≡ kept.reports
    → ((w : ℕ) → at_view new.plans w ≡ (if nat_eq f.body.v w then Some plan else at_view kept.plans w))
    → new.reported ≡ kept.reported → new.opened ≡ kept.opened
    → AreViewsOf g me kept known said → AreViewsOf g me new (known ++ new_view_word f ∷ []) said
new_view-taken g me kept new known said f plan fresh made low group own now suspects reports plans
    reported opened is = record {
      masters = ap (λ (h : Group). h.n) group ∙ is.masters;
      quorum = ap (λ (h : Group). h.q) group ∙ is.quorum;
      own = own ∙ is.own;
      view = view-opened g known f kept.view new.view is.view now;
      limit = (let was : kept.view ≤ most_view = is.limit in omega arith);
      suspects = λ w j below few. ap (λ es. has_master (unwrap_or (at_view es w) []) j) suspects
          ∙ is.suspects w j below few ∙ sym (votes-passed g known (new_view_word f) (λ w j few. refl) w j few);
      reports = λ w j. ap (λ es. at_place es w j) reports ∙ is.reports w j
          ∙ sym (first_report-more known (new_view_word f) w j ∙ or_else-none (first_report known w j));
      plans = λ w. plans w ∙ at w (cases_eq f.body.v w) ∙ ap (option_map (plan_in_new_view g))
          (sym (first_new_view-more known (new_view_word f) w));
      reported = λ w most. ap (λ bs. slice_index_or bs w false) reported ∙ is.reported w most;
      opened = λ w most. ap (λ bs. slice_index_or bs w false) opened ∙ is.opened w most;
    }
  where
    at : (w : ℕ) → (f.body.v ≡ w) ⊎ (f.body.v ≡ w → ⊥) →
        (if nat_eq f.body.v w then Some plan else at_view kept.plans w) ≡ option_map (plan_in_new_view g)
        (or_else (first_new_view known w) (if nat_eq f.body.v w then Some f else None))
    at w (inl e) =
        let empty : first_new_view known w ≡ None =
        no_plan (first_new_view known w) (sym (plan_there (plan_in_new_view g) (first_new_view known w))
        ∙ ap is_some (sym (is.plans w)) ∙ ap (λ u. is_some (at_view kept.plans u)) (sym e) ∙ fresh) in
        ap (λ b. if b then Some plan else at_view kept.plans w) (eq-eqb f.body.v w e) ∙ ap Some made
        ∙ sym (ap (λ o. option_map (plan_in_new_view g) (or_else o (if nat_eq f.body.v w then Some f else None)))
        empty ∙ ap (λ b. option_map (plan_in_new_view g) (if b then Some f else None)) (eq-eqb f.body.v w e))
    at w (inr ne) =
        ap (λ b. if b then Some plan else at_view kept.plans w) (ne_eqb f.body.v w ne) ∙ is.plans w
        ∙ sym (ap (λ b. option_map (plan_in_new_view g)
        (or_else (first_new_view known w) (if b then Some f else None))) (ne_eqb f.body.v w ne)
        ∙ ap (option_map (plan_in_new_view g)) (or_else-none (first_new_view known w)))
