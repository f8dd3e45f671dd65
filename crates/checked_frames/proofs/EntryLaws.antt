-- The groups of an entry: where they lie, and that the signatures of all of them are those of the entry.
use Rattle.std.proofs.Common.{◌≡◌, ◌≤◌, ◌<◌, ◌+◌, ◌-◌, ◌*◌, ◌/◌, ◌%◌, ℕ, zero, suc, Bool, true, false, ◌&&◌, List, []}
use Rattle.std.proofs.Common.{◌∷◌, ◌++◌, length, take, drop, map, get_or, refl, sym, ap, ◌∙◌, subst, arith}
use Rattle.std.proofs.Common.{length-append, inl, inr}
use Rattle.std.specs.List.{list_all}
use Rattle.std.proofs.lemmas.Bool.{and_from, and_parts, cases_lt}
use Rattle.std.proofs.lemmas.List.{length-map, length-take, length-drop, take-map, drop-map, take_all}
use Rattle.std.proofs.lemmas.List.{take-append-drop, get_or_append_left, get_or-append_right}
use Rattle.std.proofs.lemmas.List.Folds.{list_all-append}
use Rattle.std.proofs.Math.Seq.{take-add}
use Rattle.quorum_sets.specs.Masters.{numbers_below}
use Rattle.hash_signatures.specs.Signatures.{Key, key_public, signature_at}
use Rattle.checked_frames.specs.Signing.{signs, signed_message, field_at, group_signatures, EachSigns, field_fits}
use Rattle.checked_frames.specs.Entries.{group_size, groups_for, group_at, first_signatures, entry_signatures}
use Rattle.quorum_sets.proofs.Numbered.{below_step, length-numbers_below}

pub groups_of_many : (shared : Bool) (count groups : ℕ) → shared ≡ true → groups ≡ (count + 31) / 32 →
    groups ≡ groups_for (group_size shared) count
groups_of_many shared count groups e h = h ∙ ap (λ b. groups_for (group_size b) count) (sym e)

pub groups_of_one : (shared : Bool) (count : ℕ) → shared ≡ false → count ≡ groups_for (group_size shared) count
groups_of_one shared count e =
    let one : count ≡ groups_for (group_size false) count = omega arith in
    one ∙ ap (λ b. groups_for (group_size b) count) (sym e)

-- each group begins inside the list
pub group_inside : (shared : Bool) (count groups number : ℕ) → groups ≡ groups_for (group_size shared) count →
    number < groups
    → group_size shared * number < count
group_inside true count groups number e h = omega arith
group_inside false count groups number e h = omega arith

-- the groups reach its end
pub enough_groups : (shared : Bool) (count : ℕ) → count ≤ group_size shared * groups_for (group_size shared) count
enough_groups true count = omega arith
enough_groups false count = omega arith

-- each has 1 to 32 bodies
pub group_some : {A : Type 0} (shared : Bool) (bodies : List A) (groups number : ℕ) →
    groups ≡ groups_for (group_size shared) (length bodies) → number < groups
    → (1 ≤ length (take (group_size shared) (drop (group_size shared * number) bodies)))
    × (length (take (group_size shared) (drop (group_size shared * number) bodies)) ≤ 32)
group_some true bodies groups number e h =
    let rest = length-drop (32 * number) bodies in
    let len = length-take 32 (drop (32 * number) bodies) in
    (omega arith, omega arith)
group_some false bodies groups number e h =
    let rest = length-drop (1 * number) bodies in
    let len = length-take 1 (drop (1 * number) bodies) in
    (omega arith, omega arith)

all_parts : {A : Type 0} (p : A → Bool) (n : ℕ) (xs : List A) → list_all p xs ≡ true →
    (list_all p (take n xs) && list_all p (drop n xs)) ≡ true
all_parts p n xs h = sym (list_all-append p (take n xs) (drop n xs)) ∙ ap (list_all p) (take-append-drop n xs) ∙ h

-- what holds of all bodies holds of those of a group
pub all_of_group : {A : Type 0} (p : A → Bool) (n m : ℕ) (xs : List A) → list_all p xs ≡ true →
    list_all p (take n (drop m xs)) ≡ true
all_of_group p n m xs h =
    let rest = (and_parts (list_all p (take m xs)) (list_all p (drop m xs)) (all_parts p m xs h)).1 in
    (and_parts (list_all p (take n (drop m xs))) (list_all p (drop n (drop m xs))) (all_parts p n (drop m xs) rest)).0

pub group_texts : {A : Type 0} (text : A → List ℕ) (bodies : List A) (most number : ℕ)
    → map text (take most (drop (most * number) bodies)) ≡ group_at most (map text bodies) number
group_texts text bodies most number =
    sym (take-map text most (drop (most * number) bodies)) ∙ ap (take most) (sym (drop-map text (most * number) bodies))

first_more : (key : Key) (used most : ℕ) (texts : List (List ℕ)) (n : ℕ)
    → first_signatures key used most texts (suc n) ≡ first_signatures key used most texts n
    ++ group_signatures key (used + n) (group_at most texts n)
unfolding first_signatures
first_more key used most texts n =
    below_step (λ group. group_signatures key (used + group) (group_at most texts group)) n

-- the texts of one group more
taken_more : (shared : Bool) (texts : List (List ℕ)) (n : ℕ)
    → take (group_size shared * suc n) texts ≡ take (group_size shared * n) texts
    ++ group_at (group_size shared) texts n
taken_more true texts n =
    let sum : 32 * suc n ≡ 32 * n + 32 = omega arith in
    ap (λ (k : ℕ). take k texts) sum ∙ take-add (32 * n) 32 texts
taken_more false texts n =
    let sum : 1 * suc n ≡ 1 * n + 1 = omega arith in
    ap (λ (k : ℕ). take k texts) sum ∙ take-add (1 * n) 1 texts

-- each text of two lists has its own signature
signs_more : (public : List ℕ) (first second xs ys : List (List ℕ)) → length first ≡ length xs →
    EachSigns public first xs → EachSigns public second ys
    → (place : ℕ) → place < length (first ++ second) →
    signs public (get_or (first ++ second) place []) (get_or (xs ++ ys) place []) ≡ true
signs_more public [] second [] ys e before after place inside = after place inside
signs_more public [] second (x ∷ xs) ys e before after place inside = absurd (omega arith)
signs_more public (a ∷ first) second [] ys e before after place inside = absurd (omega arith)
signs_more public (a ∷ first) second (x ∷ xs) ys e before after zero inside = before 0 (omega arith)
signs_more public (a ∷ first) second (x ∷ xs) ys e before after (suc place) inside =
    signs_more public first second xs ys (omega arith) (λ k below. before (suc k) (omega arith))
    after place (omega arith)

length-group_signatures : (key : Key) (m : ℕ) (texts : List (List ℕ)) →
    length (group_signatures key m texts) ≡ length texts
unfolding group_signatures
length-group_signatures key m texts =
    length-map (numbers_below (length texts)) (field_at texts (signature_at key m (signed_message texts)))
    ∙ length-numbers_below (length texts)

-- the fields are those of the first groups
pub record AreSignedTo (shared : Bool) (key : Key) (used : ℕ) (texts : List (List ℕ)) (groups : ℕ)
    (fields : List (List ℕ)) : Type 0 where
  pub signatures : fields ≡ first_signatures key used (group_size shared) texts groups
  pub signs : EachSigns (key_public key) (take (group_size shared * groups) texts) fields
  pub size : length (take (group_size shared * groups) texts) ≡ length fields
  pub fit : list_all field_fits fields ≡ true

none_taken : (shared : Bool) (texts : List (List ℕ)) → take (group_size shared * 0) texts ≡ []
none_taken true texts = refl
none_taken false texts = refl

pub none_signed : (shared : Bool) (key : Key) (used : ℕ) (texts : List (List ℕ)) →
    AreSignedTo shared key used texts 0 []
unfolding first_signatures numbers_below
none_signed shared key used texts =
    let none = ap length (none_taken shared texts) in
    record { signatures = refl; signs = λ place inside. absurd (omega arith); size = none; fit = refl }

pub one_group_more : (shared : Bool) (key : Key) (used : ℕ) (texts : List (List ℕ)) (n : ℕ)
    (fields signed : List (List ℕ))
    → AreSignedTo shared key used texts n fields
    → signed ≡ group_signatures key (used + n) (group_at (group_size shared) texts n)
    → EachSigns (key_public key) (group_at (group_size shared) texts n) signed
    → list_all field_fits signed ≡ true
    → AreSignedTo shared key used texts (suc n) (fields ++ signed)
one_group_more shared key used texts n fields signed so e each fit =
    let most = group_size shared in
    let group = group_at most texts n in
    let before = take (most * n) texts in
    let more = taken_more shared texts n in
    let len : length signed ≡ length group = ap length e ∙ length-group_signatures key (used + n) group in
    let size = so.size in
    let both : length (before ++ group) ≡ length (fields ++ signed) =
    omega (arith, length-append before group, length-append fields signed) in
    let joined : EachSigns (key_public key) (before ++ group) (fields ++ signed) =
    signs_more (key_public key) before group fields signed so.size so.signs each in
    record {
      signatures = ap (λ xs. xs ++ signed) so.signatures
          ∙ ap (λ xs. first_signatures key used most texts n ++ xs) e ∙ sym (first_more key used most texts n);
      signs = subst (λ ts. EachSigns (key_public key) ts (fields ++ signed)) (sym more) joined;
      size = ap length more ∙ both;
      fit = list_all-append field_fits fields signed ∙ and_from (list_all field_fits fields)
          (list_all field_fits signed) so.fit fit;
    }

length-first : (shared : Bool) (key : Key) (used : ℕ) (texts : List (List ℕ)) (n : ℕ)
    → length (first_signatures key used (group_size shared) texts n) ≡ length (take (group_size shared * n) texts)
unfolding first_signatures numbers_below
length-first shared key used texts zero = sym (ap length (none_taken shared texts))
length-first shared key used texts (suc n) =
    let most = group_size shared in
    let before = first_signatures key used most texts n in
    let signed = group_signatures key (used + n) (group_at most texts n) in
    let whole = ap length (first_more key used most texts n) ∙ length-append before signed in
    let taken = ap length (taken_more shared texts n) ∙ length-append (take (most * n) texts) (group_at most texts n) in
    let below = length-first shared key used texts n in
    let group = length-group_signatures key (used + n) (group_at most texts n) in
    whole ∙ ap (λ (k : ℕ). k + length signed) below ∙ ap (λ (k : ℕ). length (take (most * n) texts) + k) group
    ∙ sym taken

place_in : (shared : Bool) (place n : ℕ) → group_size shared * n ≤ place → place < group_size shared * suc n
    → (place / group_size shared ≡ n) × (place % group_size shared ≡ place - group_size shared * n)
place_in true place n low high = (omega arith, omega arith)
place_in false place n low high = (omega arith, omega arith)

-- the signature at a place is that of its group at the place inside the group
pub by_place : (shared : Bool) (key : Key) (used : ℕ) (texts : List (List ℕ)) (n place : ℕ) →
    place < length (take (group_size shared * n) texts)
    → get_or (first_signatures key used (group_size shared) texts n) place []
    ≡ get_or (group_signatures key (used + place / group_size shared)
    (group_at (group_size shared) texts (place / group_size shared))) (place % group_size shared) []
by_place shared key used texts zero place inside =
    let none = ap length (none_taken shared texts) in
    absurd (omega arith)
by_place shared key used texts (suc n) place inside =
    let most = group_size shared in
    let before = first_signatures key used most texts n in
    let signed = group_signatures key (used + n) (group_at most texts n) in
    let len = length-first shared key used texts n in
    let taken = length-take (most * n) texts in
    let more = length-take (most * suc n) texts in
    let whole = ap (λ xs. get_or xs place []) (first_more key used most texts n) in
    elim (cases_lt place (length before)) [
      | inl here ↦ whole ∙ get_or_append_left before signed [] place here
          ∙ by_place shared key used texts n place (omega arith)
      | inr later ↦
          let size : length before ≡ most * n = omega arith in
          let (group, rest) = place_in shared place n (omega arith) (omega arith) in
          whole ∙ get_or-append_right before signed (most * n) place [] size (omega arith)
          ∙ ap (λ (k : ℕ). get_or (group_signatures key (used + n) (group_at most texts n)) k []) (sym rest)
          ∙ ap (λ (g : ℕ). get_or (group_signatures key (used + g) (group_at most texts g)) (place % most) [])
          (sym group)
    ]

pub entry_by_place : (shared : Bool) (key : Key) (used : ℕ) (texts : List (List ℕ)) (place : ℕ) → place < length texts
    → get_or (entry_signatures key used (group_size shared) texts) place []
    ≡ get_or (group_signatures key (used + place / group_size shared)
    (group_at (group_size shared) texts (place / group_size shared))) (place % group_size shared) []
entry_by_place shared key used texts place inside =
    let most = group_size shared in
    let groups = groups_for most (length texts) in
    let whole = ap length (take_all (most * groups) texts (enough_groups shared (length texts))) in
    by_place shared key used texts groups place (omega arith)
