-- Laws of the latest summaries: one word more, words of other kinds, and what a matrix of the words known tells.
use Rattle.std.proofs.Common.{◌≡◌, ℕ, ◌+◌, ◌*◌, ◌<◌, ◌≤◌, Bool, true, false, ◌&&◌, List, [], ◌∷◌, ◌++◌, Option, Some}
use Rattle.std.proofs.Common.{None, max, filter, map, reverse, length, get_or, set, nat_eq, nat_le, nat_lt, refl, sym, ◌∙◌, ap}
use Rattle.std.proofs.Common.{subst, inl, inr, ◌⊎◌, arith, append-nil}
use Rattle.std.specs.List.{list_all, list_any, filter_map, sum}
use Rattle.std.proofs.Common.{get_or-set_same, get_or-set_other}
use Rattle.std.proofs.lemmas.Bool.{cases_eq, eq-eqb, ne_eqb, cond-true, cond-false, ltb-true, leb-true, eqb-true}
use Rattle.std.proofs.lemmas.Bool.{and_parts}
use Rattle.std.proofs.lemmas.List.{get_or_default}
use Rattle.std.proofs.lemmas.List.Elements.{filter-append, filter_map-append}
use Rattle.std.proofs.lemmas.List.Sums.{sum_by-cons}
use Rattle.message_types.specs.declared.signed.Signed.{Signed}
use Rattle.message_types.specs.declared.preordering.PoSummary.{PoSummary}
use Rattle.message_types.specs.declared.body.Body.{Body}
use Rattle.message_types.specs.declared.body.Body.TheVariants as body
use Rattle.message_types.specs.Parts.{as_frame}
use Rattle.quorum_sets.specs.Masters.{numbers_below}
use Rattle.protocol_rules.specs.Words.{best_from, best_by, in_order, greatest_reached}
use Rattle.protocol_rules.specs.Group.{Group, most_number}
use Rattle.protocol_rules.specs.Places.{in_place}
use Rattle.protocol_rules.specs.Matrix.{latest, latest_frames, summary_of, tells_more, exceeds, eligible, column}
use Rattle.protocol_rules.specs.Matrix.{reach}
use Rattle.protocol_rules.specs.Master.{latest_rows, eligible_now, shown_now}
use Rattle.summary_matrix.specs.Held.{Summaries, IsMatrixOf, Learns, TellsEach, held, takes_over, row_of, rows_at}
use Rattle.summary_matrix.specs.Held.{frames_at, is_summary, proposal_of}
use Rattle.summary_matrix.proofs.Falling.{ranked-reached, best_low}
use Rattle.summary_matrix.proofs.Greatest.{reached, eligible-is}
use Rattle.protocol_rules.proofs.LimitValues.{most_number-is}
use Rattle.summary_matrix.proofs.Loops.{any_below}
use Rattle.quorum_sets.proofs.Numbered.{filter_map_below, map_below, numbered_at}
use Rattle.protocol_rules.proofs.Greatest.{best_from-push}

best_by-taken : (xs : List (Signed PoSummary)) (x : Signed PoSummary) (h : Option (Signed PoSummary)) →
    h ≡ best_by tells_more xs → takes_over x h ≡ true → best_by tells_more (xs ++ x ∷ []) ≡ Some x
unfolding best_by
best_by-taken [] x h e t = refl
best_by-taken (y ∷ ys) x None e t = absurd (cc)
best_by-taken (y ∷ ys) x (Some b) e t =
    let best : b ≡ best_from tells_more y ys = cc in
    let beats : tells_more x (best_from tells_more y ys) ≡ true = ap (tells_more x) (sym best) ∙ t in
    ap Some (best_from-push tells_more y ys x ∙ cond-true (tells_more x (best_from tells_more y ys)) x
    (best_from tells_more y ys) beats)

best_by-passed : (xs : List (Signed PoSummary)) (x : Signed PoSummary) (h : Option (Signed PoSummary)) →
    h ≡ best_by tells_more xs → takes_over x h ≡ false → best_by tells_more (xs ++ x ∷ []) ≡ best_by tells_more xs
unfolding best_by
best_by-passed xs x None e t = absurd (cc)
best_by-passed [] x (Some b) e t = absurd (cc)
best_by-passed (y ∷ ys) x (Some b) e t =
    let best : b ≡ best_from tells_more y ys = cc in
    let beats : tells_more x (best_from tells_more y ys) ≡ false = ap (tells_more x) (sym best) ∙ t in
    ap Some (best_from-push tells_more y ys x ∙ cond-false (tells_more x (best_from tells_more y ys)) x
    (best_from tells_more y ys) beats)

latest-is : (known : List (Signed Body)) (j : ℕ) → latest known j ≡ best_by tells_more (filter_map (summary_of j) known)
unfolding latest
latest-is known j = refl

own_pushed : (known : List (Signed Body)) (f : Signed PoSummary) →
    filter_map (summary_of f.signer) (known ++ as_frame body.PoSummary f ∷ []) ≡ filter_map
    (summary_of f.signer) known ++ f ∷ []
own_pushed known f = filter_map-append (summary_of f.signer) known (as_frame body.PoSummary f ∷ [])
    ∙ ap (λ xs. filter_map (summary_of f.signer) known ++ xs)
    (one (nat_eq f.signer f.signer) (eq-eqb f.signer f.signer refl) refl)
  where
    one : (b : Bool) → b ≡ true → nat_eq f.signer f.signer ≡ b →
        filter_map (summary_of f.signer) (as_frame body.PoSummary f ∷ []) ≡ f ∷ []
    one true is e = rw e refl
    one false is e = absurd (cc)

others_pushed : (known : List (Signed Body)) (f : Signed PoSummary) (j : ℕ) → (f.signer ≡ j → ⊥) →
    filter_map (summary_of j) (known ++ as_frame body.PoSummary f ∷ []) ≡ filter_map (summary_of j) known
others_pushed known f j apart = filter_map-append (summary_of j) known (as_frame body.PoSummary f ∷ [])
    ∙ ap (λ xs. filter_map (summary_of j) known ++ xs) (none (nat_eq f.signer j) (ne_eqb f.signer j apart) refl)
    ∙ append-nil (filter_map (summary_of j) known)
  where
    none : (b : Bool) → b ≡ false → nat_eq f.signer j ≡ b →
        filter_map (summary_of j) (as_frame body.PoSummary f ∷ []) ≡ []
    none false is e = rw e refl
    none true is e = absurd (cc)

latest-taken : (known : List (Signed Body)) (f : Signed PoSummary) (h : Option (Signed PoSummary)) →
    h ≡ latest known f.signer → takes_over f h ≡ true →
    latest (known ++ as_frame body.PoSummary f ∷ []) f.signer ≡ Some f
latest-taken known f h e t =
    latest-is (known ++ as_frame body.PoSummary f ∷ []) f.signer ∙ ap (best_by tells_more) (own_pushed known f)
    ∙ best_by-taken (filter_map (summary_of f.signer) known) f h (e ∙ latest-is known f.signer) t

latest-passed : (known : List (Signed Body)) (f : Signed PoSummary) (h : Option (Signed PoSummary)) →
    h ≡ latest known f.signer → takes_over f h ≡ false →
    latest (known ++ as_frame body.PoSummary f ∷ []) f.signer ≡ latest known f.signer
latest-passed known f h e t =
    latest-is (known ++ as_frame body.PoSummary f ∷ []) f.signer ∙ ap (best_by tells_more) (own_pushed known f)
    ∙ best_by-passed (filter_map (summary_of f.signer) known) f h (e ∙ latest-is known f.signer) t
    ∙ sym (latest-is known f.signer)

latest-other : (known : List (Signed Body)) (f : Signed PoSummary) (j : ℕ) → (f.signer ≡ j → ⊥) →
    latest (known ++ as_frame body.PoSummary f ∷ []) j ≡ latest known j
latest-other known f j apart =
    latest-is (known ++ as_frame body.PoSummary f ∷ []) j ∙ ap (best_by tells_more) (others_pushed known f j apart)
    ∙ sym (latest-is known j)

-- only summaries count
pub latest-summaries : (known : List (Signed Body)) (j : ℕ) → latest (filter is_summary known) j ≡ latest known j
latest-summaries known j = latest-is (filter is_summary known) j ∙ ap (best_by tells_more) (same known)
    ∙ sym (latest-is known j)
  where
    same : (known : List (Signed Body)) →
        filter_map (summary_of j) (filter is_summary known) ≡ filter_map (summary_of j) known
    same [] = refl
    same (f ∷ rest) = by_kind f.body refl (same rest)
      where
        by_kind : (b : Body) → f.body ≡ b → filter_map (summary_of j) (filter is_summary rest) ≡ filter_map
            (summary_of j) rest → filter_map (summary_of j) (filter is_summary (f ∷ rest)) ≡ filter_map
            (summary_of j) (f ∷ rest)
        by_kind (body.PoSummary w) e less =
            let kept : filter is_summary (f ∷ rest) ≡ f ∷ filter is_summary rest = rw e refl in
            ap (filter_map (summary_of j)) kept ∙ filter_map-append (summary_of j) (f ∷ []) (filter is_summary rest)
            ∙ ap (λ xs. filter_map (summary_of j) (f ∷ []) ++ xs) less
            ∙ sym (filter_map-append (summary_of j) (f ∷ []) rest)
        by_kind _ e less = rw e less

latest-none : (j : ℕ) → None ≡ latest [] j
unfolding latest best_by
latest-none j = refl

pub matrix-none : (g : Group) (m : Summaries) → m.group.n ≡ g.n → m.group.f ≡ g.f → m.group.q ≡ g.q →
    ((j : ℕ) → held m j ≡ None) → IsMatrixOf g m []
matrix-none g m n f q none = record { masters = n; intruded = f; quorum = q; summaries = λ j lt. none j ∙ latest-none j }

-- a summary that doesn't take over changes nothing
pub matrix-passed : (g : Group) (m : Summaries) (known : List (Signed Body)) (f : Signed PoSummary) → f.signer < g.n →
    takes_over f (held m f.signer) ≡ false → IsMatrixOf g m known →
    IsMatrixOf g m (known ++ as_frame body.PoSummary f ∷ [])
matrix-passed g m known f there t is =
    record {
      masters = is.masters;
      intruded = is.intruded;
      quorum = is.quorum;
      summaries =
          λ j lt. at j lt (cases_eq f.signer j);
    }
  where
    at : (j : ℕ) → j < g.n → (f.signer ≡ j) ⊎ (f.signer ≡ j → ⊥) →
        held m j ≡ latest (known ++ as_frame body.PoSummary f ∷ []) j
    at j lt (inl e) = subst (λ (k : ℕ). held m k ≡ latest (known ++ as_frame body.PoSummary f ∷ []) k) e
        (is.summaries f.signer there ∙ sym (latest-passed known f (held m f.signer) (is.summaries f.signer there) t))
    at j lt (inr ne) = is.summaries j lt ∙ sym (latest-other known f j ne)

-- one that does takes its master's place
pub matrix-taken : (g : Group) (m new : Summaries) (known : List (Signed Body)) (f : Signed PoSummary) →
    f.signer < g.n → f.signer < length m.latest → takes_over f (held m f.signer) ≡ true
    → new.group ≡ m.group → new.latest ≡ set m.latest f.signer (Some f) → IsMatrixOf g m known →
    IsMatrixOf g new (known ++ as_frame body.PoSummary f ∷ [])
matrix-taken g m new known f there within t group now is =
    record {
      masters = ap (λ g. g.n) group ∙ is.masters;
      intruded = ap (λ g. g.f) group ∙ is.intruded;
      quorum = ap (λ g. g.q) group ∙ is.quorum;
      summaries =
          λ j lt. ap (λ xs. get_or xs j None) now ∙ at j lt (cases_eq f.signer j);
    }
  where
    at : (j : ℕ) → j < g.n → (f.signer ≡ j) ⊎ (f.signer ≡ j → ⊥) →
        get_or (set m.latest f.signer (Some f)) j None ≡ latest (known ++ as_frame body.PoSummary f ∷ []) j
    at j lt (inl e) = subst (λ (k : ℕ). get_or (set m.latest f.signer (Some f)) k None ≡ latest
        (known ++ as_frame body.PoSummary f ∷ []) k) e (get_or-set_same m.latest f.signer (Some f) None within
        ∙ sym (latest-taken known f (held m f.signer) (is.summaries f.signer there) t))
    at j lt (inr ne) = get_or-set_other m.latest f.signer j (Some f) None (λ (e : j ≡ f.signer). ne (sym e))
        ∙ is.summaries j lt ∙ sym (latest-other known f j ne)

-- a summary in its place: its signer is a master, and its numbers have a small sum
pub in_place-signer : (g : Group) (f : Signed PoSummary) → in_place g (as_frame body.PoSummary f) ≡ true →
    f.signer < g.n
in_place-signer g f h = ltb-true f.signer g.n
    (and_parts (nat_lt f.signer g.n) (nat_eq (length f.body.numbers) g.n
    && list_all (λ x. nat_le x most_number) f.body.numbers) h).0

sum_small : (xs : List ℕ) → list_all (λ x. nat_le x most_number) xs ≡ true → sum xs ≤ length xs * 4096
sum_small [] all = omega arith
sum_small (x ∷ xs) all =
    let both : (nat_le x most_number ≡ true) × (list_all (λ x. nat_le x most_number) xs ≡ true) =
    and_parts (nat_le x most_number) (list_all (λ x. nat_le x most_number) xs) all in
    let first : x ≤ most_number = leb-true x most_number both.0 in
    let limit : most_number ≡ 4096 = most_number-is in
    let rest : sum xs ≤ length xs * 4096 = sum_small xs both.1 in
    let added : sum (x ∷ xs) ≡ x + sum xs = sum_by-cons (λ y. y) x xs in
    omega arith

pub in_place-sum : (g : Group) (f : Signed PoSummary) → in_place g (as_frame body.PoSummary f) ≡ true → g.n ≤ 14 →
    sum f.body.numbers ≤ 57344
in_place-sum g f h few =
    let rest : (nat_eq (length f.body.numbers) g.n && list_all (λ x. nat_le x most_number) f.body.numbers) ≡ true =
    (and_parts (nat_lt f.signer g.n) (nat_eq (length f.body.numbers) g.n
    && list_all (λ x. nat_le x most_number) f.body.numbers) h).1 in
    let both : (nat_eq (length f.body.numbers) g.n ≡ true)
    × (list_all (λ x. nat_le x most_number) f.body.numbers ≡ true) =
    and_parts (nat_eq (length f.body.numbers) g.n) (list_all (λ x. nat_le x most_number) f.body.numbers) rest in
    let many : length f.body.numbers ≡ g.n = eqb-true (length f.body.numbers) g.n both.0 in
    let small : sum f.body.numbers ≤ length f.body.numbers * 4096 = sum_small f.body.numbers both.1 in
    omega arith

-- sums stay small where a summary takes its place
pub sums_small : (latest : List (Option (Signed PoSummary))) (i : ℕ) (f : Signed PoSummary) → i < length latest →
    sum f.body.numbers ≤ 57344 → ((j : ℕ) → sum (row_of (get_or latest j None)) ≤ 57344) → (j : ℕ) →
    sum (row_of (get_or (set latest i (Some f)) j None)) ≤ 57344
sums_small latest i f within small all j = by_place (cases_eq j i)
  where
    by_place : (j ≡ i) ⊎ (j ≡ i → ⊥) → sum (row_of (get_or (set latest i (Some f)) j None)) ≤ 57344
    by_place (inl e) = let there : get_or (set latest i (Some f)) j None ≡ Some f =
        ap (λ k. get_or (set latest i (Some f)) k None) e ∙ get_or-set_same latest i (Some f) None within in
        subst (λ (o : Option (Signed PoSummary)). sum (row_of o) ≤ 57344) (sym there) small
    by_place (inr ne) = subst (λ (o : Option (Signed PoSummary)). sum (row_of o) ≤ 57344)
        (sym (get_or-set_other latest i j (Some f) None ne)) (all j)

-- the rows and frames held are those of the words known
row-is : (o : Option (Signed PoSummary)) → row_of o ≡ (elim o [ None ↦ [] | Some f ↦ f.body.numbers ])
row-is None = refl
row-is (Some f) = refl

pub rows-known : (g : Group) (m : Summaries) (known : List (Signed Body)) → IsMatrixOf g m known →
    rows_at m.group.n m.latest ≡ latest_rows g known
rows-known g m known is =
    ap (λ n. rows_at n m.latest) is.masters
    ∙ map_below (λ j. row_of (held m j)) (λ j. elim (latest known j) [ None ↦ [] | Some f ↦ f.body.numbers ]) g.n
    (λ j lt. ap row_of (is.summaries j lt) ∙ row-is (latest known j))

pub frames-known : (g : Group) (m : Summaries) (known : List (Signed Body)) → IsMatrixOf g m known →
    frames_at m.group.n m.latest ≡ latest_frames g known
frames-known g m known is =
    ap (λ n. frames_at n m.latest) is.masters
    ∙ filter_map_below (held m) (latest known) g.n is.summaries

pub proposal-none : (g : Group) (known : List (Signed Body)) (offered : ℕ → ℕ) →
    exceeds g (latest_rows g known) offered ≡ false → None ≡ proposal_of g known offered
unfolding proposal_of
proposal-none g known offered e =
    sym (cond-false (exceeds g (latest_rows g known) offered) (Some (latest_frames g known)) None e)

pub proposal-some : (g : Group) (known : List (Signed Body)) (offered : ℕ → ℕ) (frames : List (Signed PoSummary)) →
    exceeds g (latest_rows g known) offered ≡ true → frames ≡ latest_frames g known →
    Some frames ≡ proposal_of g known offered
unfolding proposal_of
proposal-some g known offered frames e same =
    ap Some same ∙ sym (cond-true (exceeds g (latest_rows g known) offered) (Some (latest_frames g known)) None e)

-- what a summary does to the one that is read at its signer's place
pub takes_over-read : (m : Summaries) (latest : List (Option (Signed PoSummary))) (f : Signed PoSummary)
    (r : Option (Signed PoSummary)) → latest ≡ m.latest → f.signer < length latest →
    takes_over f (held m f.signer) ≡ takes_over f (get_or latest f.signer r)
takes_over-read m latest f r e within =
    ap (takes_over f) (ap (λ xs. get_or xs f.signer None) (sym e) ∙ get_or_default latest f.signer None r within)

pub eligible-known : (g : Group) (m : Summaries) (known : List (Signed Body)) (j : ℕ) → IsMatrixOf g m known →
    eligible m.group (rows_at m.group.n m.latest) j ≡ eligible g (latest_rows g known) j
unfolding eligible
eligible-known g m known j is =
    ap (λ q. reached q (column (rows_at m.group.n m.latest) j) (column (rows_at m.group.n m.latest) j)) is.quorum
    ∙ ap (λ rows. reached g.q (column rows j) (column rows j)) (rows-known g m known is)

-- the figures of what is held, by q and by f + 1 of the rows, are those of the words known
pub eligible-held : (g : Group) (m : Summaries) (known : List (Signed Body)) (j : ℕ) → IsMatrixOf g m known →
    greatest_reached m.group.q (column (rows_at m.group.n m.latest) j) ≡ eligible g (latest_rows g known) j
eligible-held g m known j is = eligible-is m.group (rows_at m.group.n m.latest) j ∙ eligible-known g m known j is

pub eligible-placed : (g : Group) (known : List (Signed Body)) (j : ℕ) → j < g.n →
    eligible g (latest_rows g known) j ≡ get_or (eligible_now g known) j 0
eligible-placed g known j lt = sym (numbered_at (eligible g (latest_rows g known)) g.n j 0 lt)

pub shown-held : (g : Group) (m : Summaries) (known : List (Signed Body)) (j : ℕ) → IsMatrixOf g m known → j < g.n →
    greatest_reached (m.group.f + 1) (column (rows_at m.group.n m.latest) j) ≡ get_or (shown_now g known) j 0
shown-held g m known j is lt =
    ap (λ f. greatest_reached (f + 1) (column (rows_at m.group.n m.latest) j)) is.intruded
    ∙ ap (λ rows. greatest_reached (g.f + 1) (column rows j)) (rows-known g m known is)
    ∙ ranked-reached (column (latest_rows g known) j) g.f
    ∙ sym (numbered_at (λ i. get_or (reverse (in_order (column (latest_rows g known) i))) g.f 0) g.n j 0 lt)

-- where nothing is held, nothing is reached
pub reach-nothing : (n least j : ℕ) (latest : List (Option (Signed PoSummary))) →
    ((i : ℕ) → get_or latest i None ≡ None) → greatest_reached least (column (rows_at n latest) j) ≡ 0
reach-nothing n least j latest none =
    let empty : rows_at n latest ≡ map (λ i. []) (numbers_below n) =
    map_below (λ i. row_of (get_or latest i None)) (λ i. []) n (λ i lt. ap row_of (none i)) in
    let low : greatest_reached least (column (rows_at n latest) j) ≤ 0 =
    best_low least 0 (column (rows_at n latest) j)
    (ap (λ (rows : List (List ℕ)). list_all (λ y. nat_le y 0) (column rows j)) empty ∙ zeros (numbers_below n)) in
    omega arith
  where
    zeros : (xs : List ℕ) → list_all (λ y. nat_le y 0) (column (map (λ i. []) xs) j) ≡ true
    zeros [] = refl
    zeros (x ∷ rest) = zeros rest

-- asking whether numbers exceed others, where they tell what is eligible
pub exceeds-known : (g : Group) (rows : List (List ℕ)) (numbers : List ℕ) (offered : ℕ → ℕ) → g.n ≤ 14 →
    TellsEach numbers (eligible g rows) → list_any (λ j. nat_lt (offered j) (get_or numbers j 0))
    (numbers_below g.n) ≡ exceeds g rows offered
exceeds-known g rows numbers offered few told = any_below (λ j. nat_lt (offered j) (get_or numbers j 0))
    (λ j. nat_lt (offered j) (eligible g rows j)) g.n (λ j lt. ap (nat_lt (offered j)) (told j (omega arith)))

-- the matrix of the summaries known is that of all words known
pub matrix-summaries : (g : Group) (m : Summaries) (known : List (Signed Body)) →
    IsMatrixOf g m (filter is_summary known) → IsMatrixOf g m known
matrix-summaries g m known is =
    record {
      masters = is.masters;
      intruded = is.intruded;
      quorum = is.quorum;
      summaries = λ j lt. is.summaries j lt
          ∙ latest-summaries known j;
    }

-- a word of another kind is learnt by no change
pub matrix-others : (m : Summaries) (f : Signed Body) → is_summary f ≡ false → Learns m m f
matrix-others m f other g known is =
    record {
      masters = is.masters;
      intruded = is.intruded;
      quorum = is.quorum;
      summaries = λ j lt. is.summaries j lt ∙ sym (latest-summaries known j) ∙ ap (λ words. latest words j) (sym same)
          ∙ latest-summaries (known ++ f ∷ []) j;
    }
  where
    same : filter is_summary (known ++ f ∷ []) ≡ filter is_summary known
    same = filter-append is_summary known (f ∷ []) ∙ ap (λ xs. filter is_summary known ++ xs)
        (cond-false (is_summary f) (f ∷ []) [] other) ∙ append-nil (filter is_summary known)

-- whether a summary is in its place hangs on the number of masters alone
pub in_place-same : (g h : Group) (f : Signed PoSummary) → g.n ≡ h.n →
    in_place g (as_frame body.PoSummary f) ≡ in_place h (as_frame body.PoSummary f)
in_place-same g h f e = ap
    (λ n. nat_lt f.signer n && (nat_eq (length f.body.numbers) n
    && list_all (λ x. nat_le x most_number) f.body.numbers)) e

-- what rows of one number more reach
pub reach-push : (g : Group) (before : List (List (List ℕ))) (rows : List (List ℕ)) (j : ℕ) →
    reach g (before ++ rows ∷ []) j ≡ max (reach g before j) (eligible g rows j)
reach-push g [] rows j = omega arith
reach-push g (first ∷ before) rows j =
    let rest : reach g (before ++ rows ∷ []) j ≡ max (reach g before j) (eligible g rows j) =
    reach-push g before rows j in
    omega arith
