-- Entry by entry a history takes words early only where all would.
use Rattle.std.proofs.Common.{◌≡◌, ◌≤◌, ◌<◌, ◌+◌, ℕ, zero, suc, Bool, true, false, ◌&&◌, ◌||◌, not, List, [], ◌∷◌, ◌++◌}
use Rattle.std.proofs.Common.{Option, Some, None, length, map, take, drop, get_or, refl, sym, ◌∙◌, ap, subst, arith, inl, inr, ◌⊎◌}
use Rattle.std.specs.Prelude.{nat_lt, slice_get}
use Rattle.std.specs.List.{list_any}
use Rattle.std.proofs.lemmas.Bool.{true≢false, lt-ltb, and_parts, and_from}
use Rattle.std.proofs.lemmas.List.{length-map, length-append, take-append-drop, take_all}
use Rattle.std.proofs.lemmas.List.Folds.{list_any-append}
use Rattle.std.proofs.lemmas.Option.{slice_get-get_or, slice_get_within}
use Rattle.message_types.specs.declared.signed.Signed.{Signed}
use Rattle.message_types.specs.declared.body.Body.{Body}
use Rattle.plain_lists.proofs.Members.{some_same}
use Rattle.history_rules.specs.Events.{Entry}
use Rattle.history_rules.specs.Setup.{Setup, is_correct, own}
use Rattle.history_rules.specs.Legal.{Stands}
use Rattle.history_rules.specs.Audit.{parts_taken}
use Rattle.history_rules.specs.Counts.{has_said, is_forged}
use Rattle.history_laws.proofs.EntryByEntry.{last_or_before, nothing_stands}
use Rattle.joint_lists.specs.Plain.{plain, AreTheSame}
use Rattle.joint_lists.specs.Joint.{kept_by, list_or_none}
use Rattle.joint_lists.specs.Joining.{HasJoined}
use Rattle.joined_histories.specs.Early.{is_early, takes_early, EarlyOnlyWhereAllAre}
use Rattle.joined_histories.specs.Order.{AllWait, IsOrdered, comes_later, early_by, is_early_by, is_left, is_less, later_in}
use Rattle.joined_histories.specs.Order.{next_waits, says, waits, waits_for, waits_if}
use Rattle.joined_histories.proofs.Said.{said_own, said_same, same_parts}

-- ---- A part waits where it would be early.

split_said : (c joined left : Bool) → (c && (not joined && left)) ≡ ((c && not joined) && (joined || left))
split_said true true left = refl
split_said true false left = refl
split_said false joined left = refl

nothing_said : (c : Bool) → (c && false) ≡ false
nothing_said true = refl
nothing_said false = refl

module _ (w : Setup) (lists : List (List Entry)) (next : List ℕ) (history : List Entry) (joined : HasJoined lists next history) where
  said_so_far : (a : ℕ) (b : Body) → has_said history a b ≡ list_any (says b) (take (get_or next a 0) (kept_by lists a))
  said_so_far a b =
      said_own history a b
      ∙ said_same b (own history a) (take (get_or next a 0) (kept_by lists a)) (joined.each a)

  -- by what is found of the actor's list
  found : (a : ℕ) (b : Body) (c : Bool) (l : Option (List Entry)) (n : Option ℕ) → slice_get lists a ≡ l →
      slice_get next a ≡ n →
      (c && later_in b l n) ≡ ((c && not (has_said history a b)) && list_any (says b) (kept_by lists a))
  found a b c None n list count =
      nothing_said c ∙ sym (nothing_said (c && not (has_said history a b)))
      ∙ ap (λ l. (c && not (has_said history a b)) && list_any (says b) (list_or_none l)) (sym list)
  found a b c (Some l) None list count = absurd (beyond lists next a l joined.all list count)
    where
      beyond : (lists : List (List Entry)) (next : List ℕ) (a : ℕ) (l : List Entry) → length next ≡ length lists →
          slice_get lists a ≡ Some l → slice_get next a ≡ None → ⊥
      beyond [] next a l all list count = cc
      beyond (x ∷ lists) [] a l all list count = omega arith
      beyond (x ∷ lists) (n ∷ next) zero l all list count = cc
      beyond (x ∷ lists) (n ∷ next) (suc a) l all list count = beyond lists next a l (omega arith) list count
  found a b c (Some l) (Some n) list count =
      let has : kept_by lists a ≡ l = ap list_or_none list in
      let many : get_or next a 0 ≡ n = at_place next a n count in
      let first : has_said history a b ≡ list_any (says b) (take n l) =
      said_so_far a b ∙ (λ i. list_any (says b) (take (many i) (has i))) in
      let all : list_any (says b) (kept_by lists a) ≡ (list_any (says b) (take n l) || list_any (says b) (drop n l)) =
      ap (list_any (says b)) (has ∙ sym (take-append-drop n l)) ∙ list_any-append (says b) (take n l) (drop n l) in
      split_said c (list_any (says b) (take n l)) (list_any (says b) (drop n l))
      ∙ (λ i. (c && not (sym first i)) && sym all i)
    where
      at_place : (ns : List ℕ) (i n : ℕ) → slice_get ns i ≡ Some n → get_or ns i 0 ≡ n
      at_place [] i n is = absurd (cc)
      at_place (x ∷ ns) zero n is = some_same is
      at_place (x ∷ ns) (suc i) n is = at_place ns i n is

  part_same : (p : Signed Body) → waits_for w lists next p ≡ is_early_by w lists history p
  part_same p =
      found p.signer p.body (is_correct w p.signer) (slice_get lists p.signer) (slice_get next p.signer) refl refl

  pub waits_early : (e : Entry) → waits w lists next e ≡ early_by w lists history e
  waits_early e = λ i. list_any (λ p. part_same p i) (parts_taken e)

  -- the place of an actor's next entry
  place_of : (a : ℕ) (y : Entry) → slice_get (kept_by lists a) (length (own history a)) ≡ Some y →
      length (own history a) ≡ get_or next a 0
  place_of a y at =
      let below : length (own history a) < length (kept_by lists a) =
      slice_get_within (kept_by lists a) (length (own history a)) y at in
      let long : length (own history a) ≡ length (take (get_or next a 0) (kept_by lists a)) =
      sym (length-map (own history a) plain) ∙ ap length (joined.each a)
      ∙ length-map (take (get_or next a 0) (kept_by lists a)) plain in
      cut (get_or next a 0) (kept_by lists a) (length (own history a)) long below
    where
      cut : (n : ℕ) (list : List Entry) (m : ℕ) → m ≡ length (take n list) → m < length list → m ≡ n
      cut zero list m is below = is
      cut (suc n) [] m is below = absurd (omega arith)
      cut (suc n) (x ∷ list) zero is below = absurd (omega arith)
      cut (suc n) (x ∷ list) (suc m) is below = ap suc (cut n list m (omega arith) (omega arith))

-- an actor whose list goes on has an entry left
left_there : (lists : List (List Entry)) (next : List ℕ) (a : ℕ) → length next ≡ length lists →
    get_or next a 0 < length (kept_by lists a) → is_left lists next a ≡ true
left_there [] next a all some = absurd (omega arith)
left_there (l ∷ lists) [] a all some = absurd (omega arith)
left_there (l ∷ lists) (n ∷ next) zero all some = lt-ltb n (length l) some
left_there (l ∷ lists) (n ∷ next) (suc a) all some = left_there lists next a (omega arith) some

-- ---- One entry more.

pub none_ordered : (w : Setup) (lists : List (List Entry)) (history : List Entry) → history ≡ [] → IsOrdered w lists history
none_ordered w lists history none = record {
  each = λ before e s. absurd (nothing_stands (subst (λ (es : List Entry). Stands es before e) none s));
}

pub ordered_more : (w : Setup) (lists : List (List Entry)) (next : List ℕ) (history : List Entry) (actor : ℕ) (made x : Entry) →
    HasJoined lists next history → IsOrdered w lists history → plain made ≡ plain x →
    slice_get (kept_by lists actor) (get_or next actor 0) ≡ Some x →
    (next_waits w lists next actor ≡ true → AllWait w lists next) → IsOrdered w lists (history ++ made ∷ [])
ordered_more w lists next history actor made x joined ordered same at due = record {
  each = λ before e s early a y there. by before e early a y there (last_or_before s);
}
  where
    -- what was added
    last : early_by w lists history made ≡ true → (a : ℕ) (y : Entry) →
        slice_get (kept_by lists a) (length (own history a)) ≡ Some y → early_by w lists history y ≡ true
    last early a y there =
        let its : early_by w lists history x ≡ true =
        ap (list_any (is_early_by w lists history)) (sym (same_parts made x same)) ∙ early in
        let waiting : waits w lists next x ≡ true = waits_early w lists next history joined x ∙ its in
        let all : AllWait w lists next = due (ap (waits_if w lists next) at ∙ waiting) in
        let place : length (own history a) ≡ get_or next a 0 = place_of w lists next history joined a y there in
        let here : slice_get (kept_by lists a) (get_or next a 0) ≡ Some y =
        ap (slice_get (kept_by lists a)) (sym place) ∙ there in
        let below : get_or next a 0 < length (kept_by lists a) =
        slice_get_within (kept_by lists a) (get_or next a 0) y here in
        sym (waits_early w lists next history joined y) ∙ sym (ap (waits_if w lists next) here)
        ∙ all a (left_there lists next a joined.all below)

    by : (before : List Entry) (e : Entry) → early_by w lists before e ≡ true → (a : ℕ) (y : Entry) →
        slice_get (kept_by lists a) (length (own before a)) ≡ Some y →
        ((before ≡ history) × (e ≡ made)) ⊎ Stands history before e → early_by w lists before y ≡ true
    by before e early a y there (inr s) = ordered.each before e s early a y there
    by before e early a y there (inl (bs, es)) =
        subst (λ (b : List Entry). early_by w lists b y ≡ true) (sym bs)
        (last ((λ i. early_by w lists (sym bs i) (sym es i)) ∙ early) a y
        (ap (λ (b : List Entry). slice_get (kept_by lists a) (length (own b a))) (sym bs) ∙ there))

-- ---- The whole history.

-- the entry that stands at the same place
pub record HasAlike (list : List Entry) (i : ℕ) (x : Entry) : Type 0 where
  pub y : Entry
  pub there : slice_get list i ≡ Some y
  pub alike : plain y ≡ plain x

alike_at : (list front more : List Entry) (x : Entry) → map plain list ≡ map plain (front ++ x ∷ more) →
    HasAlike list (length front) x
alike_at [] [] more x same = absurd (cc)
alike_at [] (f ∷ front) more x same = absurd (cc)
alike_at (y ∷ list) [] more x same = record { y = y; there = refl; alike = cc }
alike_at (y ∷ list) (f ∷ front) more x same =
    let rest : HasAlike list (length front) x = alike_at list front more x (cc) in
    record { y = rest.y; there = rest.there; alike = rest.alike }

pub whole_ordered : (w : Setup) (lists : List (List Entry)) (history : List Entry) →
    ((a : ℕ) → AreTheSame (own history a) (kept_by lists a)) → IsOrdered w lists history → EarlyOnlyWhereAllAre w history
whole_ordered w lists history same ordered = record {
  each = λ before e s early a x next. by before e s early a x next;
}
  where
    part_so : (before : List Entry) (p : Signed Body) → is_early_by w lists before p ≡ is_early w history before p
    part_so before p =
        ap (λ (b : Bool). is_forged w before p && b)
        (sym (said_own history p.signer p.body
        ∙ said_same p.body (own history p.signer) (kept_by lists p.signer) (same p.signer)))

    so : (before : List Entry) (e : Entry) → early_by w lists before e ≡ takes_early w history before e
    so before e = λ i. list_any (λ p. part_so before p i) (parts_taken e)

    by : (before : List Entry) (e : Entry) → Stands history before e → takes_early w history before e ≡ true → (a : ℕ)
        (x : Entry) → Stands (own history a) (own before a) x → takes_early w history before x ≡ true
    by before e s early a x next =
        let found : HasAlike (kept_by lists a) (length (own before a)) x =
        alike_at (kept_by lists a) (own before a) next.after x (sym (same a) ∙ ap (map plain) next.whole) in
        let its : early_by w lists before found.y ≡ true =
        ordered.each before e s (so before e ∙ early) a found.y found.there in
        sym (so before x) ∙ ap (list_any (is_early_by w lists before)) (sym (same_parts found.y x found.alike)) ∙ its
