-- The marks among the frames known are those among the facts that they tell.
use Rattle.std.proofs.Common.{◌≡◌, ℕ, ◌+◌, ◌≤◌, ◌<◌, suc, Bool, true, false, cond, ◌&&◌, ◌||◌, List, [], ◌∷◌, ◌++◌}
use Rattle.std.proofs.Common.{Option, Some, None, length, take, map, filter, max, get_or, nat_eq, nat_le, refl, sym}
use Rattle.std.proofs.Common.{◌∙◌, ap, arith}
use Rattle.std.specs.List.{list_any, filter_map, flat_map, cons_option}
use Rattle.std.specs.Option.{option_to_list, is_some}
use Rattle.std.proofs.Math.Path.{fun_ext}
use Rattle.std.proofs.lemmas.Bool.{lt-leb, le-leb}
use Rattle.std.proofs.lemmas.List.Elements.{filter_map-append}
use Rattle.std.proofs.lemmas.List.{get_or_default}
use Rattle.message_types.specs.declared.signed.Signed.{Signed}
use Rattle.message_types.specs.declared.ordering.Mark.{Mark}
use Rattle.message_types.specs.declared.ordering.Certificate.{Certificate}
use Rattle.message_types.specs.declared.body.Body.{Body}
use Rattle.message_types.specs.declared.body.Body.TheVariants as body
use Rattle.quorum_sets.specs.Masters.{numbers_below}
use Rattle.quorum_sets.specs.Quorum.{has_quorum}
use Rattle.protocol_rules.specs.declared.facts.OrderFact.{OrderFact}
use Rattle.protocol_rules.specs.declared.facts.OrderFact.TheVariants as fact
use Rattle.protocol_rules.specs.Words.{first_of_list, greatest_of}
use Rattle.protocol_rules.specs.Group.{Group}
use Rattle.protocol_rules.specs.Facts.{tells, facts_of}
use Rattle.protocol_rules.specs.Order.{mark_by, first_votes, is_voted, number_marked, stable, marks_at}
use Rattle.intruder_words.specs.declared.marks.Marked.{Marked}
use Rattle.intruder_words.specs.Marking.{marked_in, all_marked, is_marked_by, is_marked, shown_by, mark_of}
use Rattle.protocol_rules.proofs.Greatest.{or_zero, greatest-push}
use Rattle.intruder_words.proofs.Walks.{take-next}
use Rattle.plain_lists.proofs.Lists.{one_listed}

-- what a function gives of facts is what another gives of the frames that tell them
given-told : {X : Type 0} (g : Group) (h : OrderFact → Option X) (k : Signed Body → Option X) →
    ((f : Signed Body) → filter_map h (tells g f) ≡ option_to_list (k f)) → (known : List (Signed Body))
    → filter_map h (facts_of g known) ≡ filter_map k known
unfolding facts_of
given-told g h k each [] = refl
given-told {X} g h k each (f ∷ known) =
    filter_map-append h (tells g f) (flat_map (tells g) known)
    ∙ ap (λ xs. xs ++ filter_map h (flat_map (tells g) known)) (each f)
    ∙ ap (λ xs. option_to_list (k f) ++ xs) (given-told g h k each known) ∙ one (k f)
  where
    one : (o : Option X) → option_to_list o ++ filter_map k known ≡ cons_option o (filter_map k known)
    one None = refl
    one (Some x) = refl

none-of-rows : {X : Type 0} (h : OrderFact → Option X) → ((rows : List (List ℕ)) → h (fact.Rows rows) ≡ None) →
    (cs : List Certificate) → filter_map h (map (λ c. fact.Rows c.rows) cs) ≡ []
none-of-rows h none [] = refl
none-of-rows {X} h none (c ∷ cs) =
    ap (λ (o : Option X). cons_option o (filter_map h (map (λ c. fact.Rows c.rows) cs))) (none c.rows)
    ∙ none-of-rows h none cs

mark-told : (g : Group) (s m signer : ℕ) (b : Body) (sig : List ℕ) →
    filter_map (mark_by s m) (tells g record { signer = signer; body = b; sig = sig }) ≡ option_to_list
    (mark_of s m record { signer = signer; body = b; sig = sig })
mark-told g s m signer (body.Mark b) sig =
    one_listed (cond (nat_eq signer m && nat_eq b.s s) (Some record { signer = signer; body = b; sig = sig }) None)
mark-told g s m signer (body.Report b) sig = none-of-rows (mark_by s m) (λ rows. refl) b.certificates
mark-told g s m signer _ sig = refl

pub marks-told : (g : Group) (s m : ℕ) (known : List (Signed Body)) →
    filter_map (mark_by s m) (facts_of g known) ≡ filter_map (mark_of s m) known
marks-told g s m known = given-told g (mark_by s m) (mark_of s m) (λ f. mark-told g s m f.signer f.body f.sig) known

first-marks : (g : Group) (s : ℕ) (known : List (Signed Body)) →
    first_votes g (mark_by s) (facts_of g known) ≡ filter_map (λ m. first_of_list (filter_map (mark_of s m) known))
    (numbers_below g.n)
first-marks g s known = ap (λ h. filter_map h (numbers_below g.n))
    (fun_ext (λ m. ap first_of_list (marks-told g s m known)))

-- marks as who marked which number

any-mark : (s m signer : ℕ) (b : Body) (sig : List ℕ) →
    is_some (mark_of s m record { signer = signer; body = b; sig = sig }) ≡ list_any (is_marked_by s m)
    (option_to_list (marked_in record { signer = signer; body = b; sig = sig }))
any-mark s m signer (body.Mark b) sig = by (nat_eq signer m && nat_eq b.s s)
  where
    by : (c : Bool) → is_some {T = Signed Mark} (cond c (Some record { signer = signer; body = b; sig = sig }) None)
        ≡ (c || false)
    by true = refl
    by false = refl
any-mark s m signer _ sig = refl

any-kept : (p : Marked → Bool) (o : Option Marked) (rest : List Marked) →
    list_any p (cons_option o rest) ≡ (list_any p (option_to_list o) || list_any p rest)
any-kept p None rest = refl
any-kept p (Some x) rest = by (p x)
  where
    by : (b : Bool) → (b || list_any p rest) ≡ ((b || false) || list_any p rest)
    by true = refl
    by false = refl

first-kept : {X : Type 0} (o : Option X) (rest : List X) →
    is_some (first_of_list (cons_option o rest)) ≡ (is_some o || is_some (first_of_list rest))
first-kept None rest = refl
first-kept (Some x) rest = refl

pub mark-among : (s m : ℕ) (known : List (Signed Body)) →
    is_some (first_of_list (filter_map (mark_of s m) known)) ≡ list_any (is_marked_by s m) (all_marked known)
mark-among s m [] = refl
mark-among s m (f ∷ known) =
    first-kept (mark_of s m f) (filter_map (mark_of s m) known)
    ∙ ap (λ b. b || is_some (first_of_list (filter_map (mark_of s m) known))) (any-mark s m f.signer f.body f.sig)
    ∙ ap (λ b. list_any (is_marked_by s m) (option_to_list (marked_in f)) || b) (mark-among s m known)
    ∙ sym (any-kept (is_marked_by s m) (marked_in f) (all_marked known))

count-given : {X : Type 0} (h : ℕ → Option X) (ns : List ℕ) →
    length (filter_map h ns) ≡ length (filter (λ n. is_some (h n)) ns)
count-given h [] = refl
count-given {X} h (n ∷ ns) = by (h n) (count-given h ns)
  where
    by : (o : Option X) → length (filter_map h ns) ≡ length (filter (λ n. is_some (h n)) ns) →
        length (cons_option o (filter_map h ns)) ≡ length
        (cond (is_some o) (n ∷ filter (λ n. is_some (h n)) ns) (filter (λ n. is_some (h n)) ns))
    by None e = e
    by (Some x) e = ap suc e

pub voted-marked : (g : Group) (s : ℕ) (known : List (Signed Body)) →
    is_voted g (mark_by s) (facts_of g known) ≡ is_marked g (all_marked known) s
unfolding is_voted has_quorum
voted-marked g s known =
    ap (λ xs. nat_le g.q (length xs)) (first-marks g s known)
    ∙ ap (nat_le g.q) (count-given (λ m. first_of_list (filter_map (mark_of s m) known)) (numbers_below g.n)
    ∙ ap (λ t. length (filter t (numbers_below g.n))) (fun_ext (λ m. mark-among s m known)))

shown-in : Group → List Marked → Signed Body → Option ℕ
shown-in g marks f = elim (marked_in f) [ None ↦ None | Some m ↦ shown_by g marks m ]

given-twice : {X Y Z : Type 0} (f : X → Option Y) (h : Y → Option Z) (xs : List X) →
    filter_map (λ x. elim (f x) [ None ↦ None | Some y ↦ h y ]) xs ≡ filter_map h (filter_map f xs)
given-twice f h [] = refl
given-twice {X} {Y} {Z} f h (x ∷ xs) = by (f x) (given-twice f h xs)
  where
    by : (o : Option Y) → filter_map (λ x. elim (f x) [ None ↦ None | Some y ↦ h y ])
        xs ≡ filter_map h (filter_map f xs)
        → cons_option (elim o [ None ↦ None | Some y ↦ h y ])
        (filter_map (λ x. elim (f x) [ None ↦ None | Some y ↦ h y ]) xs) ≡ filter_map h
        (cons_option o (filter_map f xs))
    by None e = e
    by (Some y) e = ap (cons_option (h y)) e

number-told : (g : Group) (known : List (Signed Body)) (signer : ℕ) (b : Body) (sig : List ℕ)
    → filter_map (number_marked g (facts_of g known)) (tells g record { signer = signer; body = b; sig = sig }) ≡
    option_to_list (shown-in g (all_marked known) record { signer = signer; body = b; sig = sig })
unfolding shown-in
number-told g known signer (body.Mark b) sig =
    one_listed (number_marked g (facts_of g known) (fact.Mark record { signer = signer; body = b; sig = sig }))
    ∙ ap (λ (t : Bool). option_to_list (cond t (Some b.s) None)) (voted-marked g b.s known)
number-told g known signer (body.Report b) sig =
    none-of-rows (number_marked g (facts_of g known)) (λ rows. refl) b.certificates
number-told g known signer _ sig = refl

pub stable-is : (g : Group) (known : List (Signed Body)) →
    stable g (facts_of g known) ≡ greatest_of (filter_map (shown_by g (all_marked known)) (all_marked known))
unfolding stable shown-in
stable-is g known =
    ap greatest_of (given-told g (number_marked g (facts_of g known)) (shown-in g (all_marked known))
    (λ f. number-told g known f.signer f.body f.sig) known
    ∙ given-twice marked_in (shown_by g (all_marked known)) known)

-- one mark more raises the greatest number
pub greatest-next : (g : Group) (marks : List Marked) (i : ℕ) (x : Marked) (least now : ℕ) → i < length marks →
    x ≡ get_or marks i x → least ≡ greatest_of (filter_map (shown_by g marks) (take i marks))
    → now ≡ cond (is_marked g marks x.s) (max least x.s) least →
    now ≡ greatest_of (filter_map (shown_by g marks) (take (i + 1) marks))
greatest-next g marks i x least now below is so_far raised =
    raised ∙ by (is_marked g marks x.s) ∙ ap (λ n. max n (or_zero (shown_by g marks x))) so_far
    ∙ sym (greatest-push (shown_by g marks) (take i marks) x)
    ∙ ap (λ xs. greatest_of (filter_map (shown_by g marks) xs)) (sym (take-next marks i x below is))
  where
    by : (b : Bool) → cond b (max least x.s) least ≡ max least (or_zero (cond b (Some x.s) None))
    by true = refl
    by false = let e : least ≡ max least 0 = omega arith in e

pub greatest-at : (g : Group) (marks : List Marked) (i : ℕ) (d : Marked) (least now : ℕ) → i < length marks →
    least ≡ greatest_of (filter_map (shown_by g marks) (take i marks))
    → now ≡ cond (is_marked g marks (get_or marks i d).s) (max least (get_or marks i d).s) least →
    now ≡ greatest_of (filter_map (shown_by g marks) (take (i + 1) marks))
greatest-at g marks i d least now below so_far raised = greatest-next g marks i (get_or marks i d) least now below
    (get_or_default marks i d (get_or marks i d) below) so_far raised

-- one frame more
pub marked-next : (known : List (Signed Body)) (i : ℕ) (f : Signed Body) (marks now : List Marked) →
    i < length known → f ≡ get_or known i f → marks ≡ all_marked (take i known) →
    now ≡ marks ++ option_to_list (marked_in f) → now ≡ all_marked (take (i + 1) known)
marked-next known i f marks now below is so_far more =
    more ∙ ap (λ ms. ms ++ option_to_list (marked_in f)) so_far ∙ ap (λ ms. all_marked (take i known) ++ ms)
    (sym (one_listed (marked_in f)))
    ∙ sym (filter_map-append marked_in (take i known) (f ∷ [])) ∙ ap all_marked (sym (take-next known i f below is))

-- the marks that show a base

base-by : (g : Group) (known : List (Signed Body)) (base : ℕ) (none b : Bool) → nat_eq base 0 ≡ none → none ≡ false →
    nat_le g.q (length (filter_map (λ m. first_of_list (filter_map (mark_of base m) known)) (numbers_below g.n))) ≡ b
    → marks_at g (facts_of g known) base ≡ cond b
    (Some (take g.q (filter_map (λ m. first_of_list (filter_map (mark_of base m) known)) (numbers_below g.n)))) None
unfolding is_voted
base-by g known base none b is some votes =
    ap (λ (z : Bool). cond (z || nat_le g.q (length (first_votes g (mark_by base) (facts_of g known))))
    (Some (cond z [] (take g.q (first_votes g (mark_by base) (facts_of g known))))) None) (is ∙ some)
    ∙ ap (λ (fs : List (Signed Mark)). cond (nat_le g.q (length fs)) (Some (take g.q fs)) None)
    (first-marks g base known)
    ∙ ap (λ (t : Bool). cond t
    (Some (take g.q (filter_map (λ m. first_of_list (filter_map (mark_of base m) known)) (numbers_below g.n))))
    None) votes

pub base-few : (g : Group) (known : List (Signed Body)) (base : ℕ) (marks : List (Signed Mark)) →
    nat_eq base 0 ≡ false → marks ≡ filter_map (λ m. first_of_list (filter_map (mark_of base m) known))
    (numbers_below g.n) → length marks < g.q
    → None ≡ marks_at g (facts_of g known) base
base-few g known base marks some is few =
    sym (base-by g known base (nat_eq base 0) false refl some (ap (λ xs. nat_le g.q (length xs)) (sym is)
    ∙ lt-leb g.q (length marks) few))

pub base-shown : (g : Group) (known : List (Signed Body)) (base : ℕ) (marks : List (Signed Mark)) →
    nat_eq base 0 ≡ false → marks ≡ filter_map (λ m. first_of_list (filter_map (mark_of base m) known))
    (numbers_below g.n) → g.q ≤ length marks
    → Some (take g.q marks) ≡ marks_at g (facts_of g known) base
base-shown g known base marks some is many =
    ap (λ fs. Some (take g.q fs)) is
    ∙ sym (base-by g known base (nat_eq base 0) true refl some (ap (λ xs. nat_le g.q (length xs)) (sym is)
    ∙ le-leb g.q (length marks) many))
