-- One vote more: which answer it settles, and that an answer once shown stays.
use Rattle.std.proofs.Common.{◌≡◌, ◌<◌, ◌≤◌, ◌+◌, ◌↔◌, ℕ, zero, suc, Bool, true, false, ◌&&◌, if◌then◌else◌, List, []}
use Rattle.std.proofs.Common.{◌∷◌, ◌++◌, Option, Some, None, IsTrue, length, nat_eq, nat_lt, is_some, slice_get}
use Rattle.std.proofs.Common.{IsSomeAnd, refl, sym, ◌∙◌, ap, subst, arith, append_assoc, append-nil}
use Rattle.std.specs.Ordering.{int_eq}
use Rattle.std.proofs.lemmas.Bool.{false≢true, and_parts, and_from, eqb-true, eq-eqb, false_from_ne_true, lt-ltb}
use Rattle.std.proofs.lemmas.Bool.{le-ltb}
use Rattle.std.proofs.lemmas.Bool.Decides.{Decides-int_eq}
use Rattle.std.proofs.lemmas.List.{same_from_push}
use Rattle.trend_archive.specs.declared.change.Changed.{Changed}
use Rattle.trend_archive.specs.declared.change.Changes.{Changes}
use Rattle.trend_archive.specs.declared.board.Vote.{Vote}
use Rattle.trend_archive.specs.Boards.{IsShownAt, is_vote, or_else, same_changes, same_items, settled_by, shown}
use Rattle.trend_archive.specs.Boards.{shown_after, supporters}

same_items-refl : (xs : List Changed) → same_items xs xs ≡ true
same_items-refl [] = refl
same_items-refl (x ∷ xs) =
    and_from (nat_eq x.number x.number && int_eq x.value x.value) (same_items xs xs)
    (and_from (nat_eq x.number x.number) (int_eq x.value x.value) (eq-eqb x.number x.number refl)
    ((Decides-int_eq x.value x.value).1 refl)) (same_items-refl xs)

changed-is : (x y : Changed) → x.number ≡ y.number → x.value ≡ y.value → x ≡ y
changed-is x y n v = λ i. record { number = n i; value = v i }

same_items-true : (xs ys : List Changed) → same_items xs ys ≡ true → xs ≡ ys
same_items-true [] [] h = refl
same_items-true [] (y ∷ ys) h = absurd (cc)
same_items-true (x ∷ xs) [] h = absurd (cc)
same_items-true (x ∷ xs) (y ∷ ys) h =
    let both = and_parts (nat_eq x.number y.number && int_eq x.value y.value) (same_items xs ys) h in
    let one = and_parts (nat_eq x.number y.number) (int_eq x.value y.value) both.0 in
    ap (λ (z : Changed). z ∷ xs)
    (changed-is x y (eqb-true x.number y.number one.0) ((Decides-int_eq x.value y.value).0 one.1))
    ∙ ap (λ (zs : List Changed). y ∷ zs) (same_items-true xs ys both.1)

same_changes-refl : (a : Changes) → same_changes a a ≡ true
same_changes-refl a =
    and_from (nat_eq a.point a.point && nat_eq a.first a.first && nat_eq a.last a.last) (same_items a.items a.items)
    (and_from (nat_eq a.point a.point && nat_eq a.first a.first) (nat_eq a.last a.last)
    (and_from (nat_eq a.point a.point) (nat_eq a.first a.first) (eq-eqb a.point a.point refl)
    (eq-eqb a.first a.first refl)) (eq-eqb a.last a.last refl))
    (same_items-refl a.items)

pub changes-are : (a b : Changes) → a.point ≡ b.point → a.first ≡ b.first → a.last ≡ b.last → a.items ≡ b.items → a ≡ b
changes-are a b p f l i = λ x. record { point = p x; first = f x; last = l x; items = i x }

pub same_changes-true : (a b : Changes) → same_changes a b ≡ true → a ≡ b
same_changes-true a b h =
    let all = and_parts (nat_eq a.point b.point && nat_eq a.first b.first && nat_eq a.last b.last)
    (same_items a.items b.items) h in
    let three = and_parts (nat_eq a.point b.point && nat_eq a.first b.first) (nat_eq a.last b.last) all.0 in
    let two = and_parts (nat_eq a.point b.point) (nat_eq a.first b.first) three.0 in
    changes-are a b (eqb-true a.point b.point two.0) (eqb-true a.first b.first two.1) (eqb-true a.last b.last three.1)
    (same_items-true a.items b.items all.1)

-- a comparison that decides whether two answers are equal
pub compared : (r : Bool) (a b : Changes) → (IsTrue r ↔ (a ≡ b)) → r ≡ same_changes a b
compared true a b h = sym (subst (λ (x : Changes). same_changes a x ≡ true) (h.0 refl) (same_changes-refl a))
compared false a b h = sym (false_from_ne_true (same_changes a b) (λ on. false≢true (h.1 (same_changes-true a b on))))

pub voted : (r : Bool) (a : Changes) (m : ℕ) (vote : Vote) → vote.signer ≡ m → (IsTrue r ↔ (vote.changes ≡ a)) →
    r ≡ is_vote a m vote
voted r a m vote signed same =
    compared r vote.changes a same
    ∙ sym (ap (λ (b : Bool). b && same_changes vote.changes a) (eq-eqb vote.signer m signed))

or_else-none : (o : Option Changes) → or_else o None ≡ o
or_else-none None = refl
or_else-none (Some a) = refl

or_else-assoc : (a b c : Option Changes) → or_else a (or_else b c) ≡ or_else (or_else a b) c
or_else-assoc None b c = refl
or_else-assoc (Some x) b c = refl

-- what is shown after one vote more
shown_after-push : (n f : ℕ) (seen votes : List Vote) (vote : Vote) →
    shown_after n f seen (votes ++ vote ∷ []) ≡ or_else (shown_after n f seen votes)
    (settled_by n f ((seen ++ votes) ++ vote ∷ []) vote)
shown_after-push n f seen [] vote =
    or_else-none (settled_by n f (seen ++ vote ∷ []) vote)
    ∙ ap (λ (vs : List Vote). settled_by n f (vs ++ vote ∷ []) vote) (sym (append-nil seen))
shown_after-push n f seen (w ∷ votes) vote =
    ap (λ (o : Option Changes). or_else (settled_by n f (seen ++ w ∷ []) w) o)
    (shown_after-push n f (seen ++ w ∷ []) votes vote)
    ∙ (or_else-assoc (settled_by n f (seen ++ w ∷ []) w) (shown_after n f (seen ++ w ∷ []) votes)
    (settled_by n f (((seen ++ w ∷ []) ++ votes) ++ vote ∷ []) vote)
    ∙ ap (λ (vs : List Vote). or_else (shown_after n f seen (w ∷ votes)) (settled_by n f (vs ++ vote ∷ []) vote))
    (append_assoc seen (w ∷ []) votes))

pub shown-push : (n f : ℕ) (votes : List Vote) (vote : Vote) →
    shown n f (votes ++ vote ∷ []) ≡ or_else (shown n f votes) (settled_by n f (votes ++ vote ∷ []) vote)
unfolding shown
shown-push n f votes vote = shown_after-push n f [] votes vote

pub shown-none : (n f : ℕ) → shown n f [] ≡ None
unfolding shown
shown-none n f = refl

still_there : (xs ys : List Vote) (i : ℕ) (s t : Option Changes) → ((a : Changes) → s ≡ Some a → t ≡ Some a)
    → IsSomeAnd (slice_get xs i) (λ (w : Vote). s ≡ Some w.changes) →
    IsSomeAnd (slice_get (xs ++ ys) i) (λ (w : Vote). t ≡ Some w.changes)
still_there [] ys i s t keep h = absurd h
still_there (x ∷ xs) ys zero s t keep h = keep x.changes h
still_there (x ∷ xs) ys (suc i) s t keep h = still_there xs ys i s t keep h

-- an answer once shown stays
stays : (n f i : ℕ) (before : List Vote) (vote : Vote) → IsShownAt (Some i) before (shown n f before) →
    IsShownAt (Some i) (before ++ vote ∷ []) (shown n f (before ++ vote ∷ []))
stays n f i before vote h =
    still_there before (vote ∷ []) i (shown n f before) (shown n f (before ++ vote ∷ []))
    (λ a e. shown-push n f before vote
    ∙ ap (λ (o : Option Changes). or_else o (settled_by n f (before ++ vote ∷ []) vote)) e) h

pub place-stays : (n f : ℕ) (place : Option ℕ) (votes before : List Vote) (vote : Vote) → is_some place ≡ true →
    votes ≡ before ++ vote ∷ [] → IsShownAt place before (shown n f before) → IsShownAt place votes (shown n f votes)
place-stays n f None votes before vote on whole h = absurd (cc)
place-stays n f (Some i) votes before vote on whole h =
    subst (λ (vs : List Vote). IsShownAt (Some i) vs (shown n f vs)) (sym whole) (stays n f i before vote h)

-- where nothing was shown, the last vote decides
fresh_shown : (n f : ℕ) (place : Option ℕ) (before : List Vote) (vote : Vote) → is_some place ≡ false →
    IsShownAt place before (shown n f before) →
    shown n f (before ++ vote ∷ []) ≡ settled_by n f (before ++ vote ∷ []) vote
fresh_shown n f (Some i) before vote off h = absurd (cc)
fresh_shown n f None before vote off h = shown-push n f before vote
    ∙ ap (λ (o : Option Changes). or_else o (settled_by n f (before ++ vote ∷ []) vote)) h

at_end : (before : List Vote) (vote : Vote) (P : Vote → Type 0) → P vote →
    IsSomeAnd (slice_get (before ++ vote ∷ []) (length before)) P
at_end [] vote P h = h
at_end (x ∷ before) vote P h = at_end before vote P h

settled-yes : (n f : ℕ) (votes : List Vote) (vote : Vote) (count : ℕ) →
    count ≡ length (supporters n votes vote.changes) → f < count → settled_by n f votes vote ≡ Some vote.changes
settled-yes n f votes vote count is more =
    ap (λ (b : Bool). if b then Some vote.changes else None) (ap (λ (k : ℕ). nat_lt f k) (sym is) ∙ lt-ltb f count more)

settled-no : (n f : ℕ) (votes : List Vote) (vote : Vote) (count : ℕ) →
    count ≡ length (supporters n votes vote.changes) → count ≤ f → settled_by n f votes vote ≡ None
settled-no n f votes vote count is few =
    ap (λ (b : Bool). if b then Some vote.changes else None) (ap (λ (k : ℕ). nat_lt f k) (sym is) ∙ le-ltb f count few)

-- the last vote settles its answer
pub place-of_last : (n f : ℕ) (place : Option ℕ) (votes rest before : List Vote) (last vote : Vote) (count at : ℕ)
    → is_some place ≡ false → votes ≡ rest ++ last ∷ [] → count ≡ length (supporters n votes last.changes) →
    f < count → at ≡ length rest
    → votes ≡ before ++ vote ∷ [] → IsShownAt place before (shown n f before) →
    IsShownAt (Some at) votes (shown n f votes)
place-of_last n f place votes rest before last vote count at off whole is more end as_before h =
    let same = same_from_push rest before last vote (sym whole ∙ as_before) in
    let earlier : IsShownAt place rest (shown n f rest) =
    subst (λ (vs : List Vote). IsShownAt place vs (shown n f vs)) (sym same.0) h in
    let answer : shown n f votes ≡ Some last.changes =
    ap (λ (vs : List Vote). shown n f vs) whole
    ∙ (fresh_shown n f place rest last off earlier
    ∙ (ap (λ (vs : List Vote). settled_by n f vs last) (sym whole) ∙ settled-yes n f votes last count is more)) in
    subst (λ (k : ℕ). IsSomeAnd (slice_get votes k) (λ (w : Vote). shown n f votes ≡ Some w.changes)) (sym end)
    (subst (λ (vs : List Vote). IsSomeAnd (slice_get vs (length rest))
    (λ (w : Vote). shown n f votes ≡ Some w.changes)) (sym whole)
    (at_end rest last (λ (w : Vote). shown n f votes ≡ Some w.changes) answer))

-- the last vote settles nothing
pub place-of_none : (n f : ℕ) (place : Option ℕ) (votes rest before : List Vote) (last vote : Vote) (count : ℕ)
    → is_some place ≡ false → votes ≡ rest ++ last ∷ [] → count ≡ length (supporters n votes last.changes) → count ≤ f
    → votes ≡ before ++ vote ∷ [] → IsShownAt place before (shown n f before) → shown n f votes ≡ None
place-of_none n f place votes rest before last vote count off whole is few as_before h =
    let same = same_from_push rest before last vote (sym whole ∙ as_before) in
    let earlier : IsShownAt place rest (shown n f rest) =
    subst (λ (vs : List Vote). IsShownAt place vs (shown n f vs)) (sym same.0) h in
    ap (λ (vs : List Vote). shown n f vs) whole
    ∙ (fresh_shown n f place rest last off earlier
    ∙ (ap (λ (vs : List Vote). settled_by n f vs last) (sym whole) ∙ settled-no n f votes last count is few))

pub not_empty : (before : List Vote) (vote : Vote) (votes : List Vote) → length votes ≡ 0 →
    votes ≡ before ++ vote ∷ [] → ⊥
not_empty [] vote votes none whole = let same = ap (λ (vs : List Vote). length vs) whole in omega arith
not_empty (x ∷ before) vote votes none whole = let same = ap (λ (vs : List Vote). length vs) whole in omega arith

-- what the vote at the place says is what is shown
pub shown-at : (place : ℕ) (votes : List Vote) (answer : Option Changes) (vote : Vote) →
    IsShownAt (Some place) votes answer → slice_get votes place ≡ Some vote → answer ≡ Some vote.changes
shown-at place votes answer vote h at =
    subst (λ (o : Option Vote). IsSomeAnd o (λ (w : Vote). answer ≡ Some w.changes)) at h
