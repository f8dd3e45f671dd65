-- The first request with a certified update's digest is the first with that update: no premise on digests is needed.
use Rattle.std.proofs.Common.{◌≡◌, ℕ, Bool, true, false, cond, ◌&&◌, List, [], ◌∷◌, ◌++◌, Option, Some, None, is_some}
use Rattle.std.proofs.Common.{nat_eq, refl, sym, ◌∙◌, ap, append_assoc, true≢false}
use Rattle.std.specs.List.{find, filter_map, cons_option}
use Rattle.std.specs.Str.{bytes_eq}
use Rattle.std.proofs.lemmas.List.{append-nil}
use Rattle.std.proofs.lemmas.List.Elements.{filter_map-append}
use Rattle.std.proofs.lemmas.Slice.Eq.{bytes_eq-Decides}
use Rattle.message_types.specs.declared.signed.Signed.{Signed}
use Rattle.message_types.specs.declared.preordering.PoRequest.{PoRequest}
use Rattle.message_types.specs.declared.updates.Update.{Update}
use Rattle.message_types.specs.declared.body.Body.{Body}
use Rattle.message_types.specs.declared.body.Body.TheVariants as body
use Rattle.message_types.specs.Digests.{digest_of_update}
use Rattle.message_types.specs.Texts.{update_text}
use Rattle.protocol_rules.specs.Group.{Group}
use Rattle.protocol_rules.specs.Words.{or_else, first_met, first_of_list}
use Rattle.protocol_rules.specs.Preorder.{certified, is_acked, update_requested, updates_requested}
use Rattle.protocol_rules.specs.Reconcile.{request_of}
use Rattle.preorder.specs.Index.{has_digest}
use Rattle.reconcile.specs.GiftState.{request_with}

-- what is found by a test that others pass too is found by each test that it passes and that implies the first
find_narrower : (wide narrow : Update → Bool) (us : List Update) (u : Update) → narrow u ≡ true →
    ((v : Update) → narrow v ≡ true → wide v ≡ true) → find wide us ≡ Some u → find narrow us ≡ Some u
find_narrower wide narrow [] u passes implies found = absurd (true≢false (sym (ap is_some found)))
find_narrower wide narrow (v ∷ us) u passes implies found =
    by (wide v) (narrow v) refl refl found (find_narrower wide narrow us u passes implies)
  where
    by : (w n : Bool) → wide v ≡ w → narrow v ≡ n → cond w (Some v) (find wide us) ≡ Some u →
        (find wide us ≡ Some u → find narrow us ≡ Some u) → cond n (Some v) (find narrow us) ≡ Some u
    by true true a b e later = e
    by true false a b e later = let same : v ≡ u = cc in absurd (true≢false (sym passes ∙ ap narrow (sym same) ∙ b))
    by false true a b e later = absurd (true≢false (sym (implies v b) ∙ a))
    by false false a b e later = later e

find_earlier : (p : Update → Bool) (us more : List Update) (u : Update) → find p us ≡ Some u →
    find p (us ++ more) ≡ Some u
find_earlier p [] more u found = absurd (true≢false (sym (ap is_some found)))
find_earlier p (v ∷ us) more u found = by (p v) found (find_earlier p us more u)
  where
    by : (b : Bool) → cond b (Some v) (find p us) ≡ Some u → (find p us ≡ Some u → find p (us ++ more) ≡ Some u) →
        cond b (Some v) (find p (us ++ more)) ≡ Some u
    by true e later = e
    by false e later = later e

digest_itself : (digest : List ℕ) → bytes_eq digest digest ≡ true
digest_itself digest = (bytes_eq-Decides digest digest).1 refl

passes_found : (p : Update → Bool) (us : List Update) (u : Update) → find p us ≡ Some u → p u ≡ true
passes_found p [] u found = absurd (true≢false (sym (ap is_some found)))
passes_found p (v ∷ us) u found = by (p v) refl found (passes_found p us u)
  where
    by : (b : Bool) → p v ≡ b → cond b (Some v) (find p us) ≡ Some u → (find p us ≡ Some u → p u ≡ true) → p u ≡ true
    by true e at later = let same : v ≡ u = cc in ap p (sym same) ∙ e
    by false e at later = later at

-- an update with a quorum is the first of its digest
acked_first : (g : Group) (known : List (Signed Body)) (j k : ℕ) (u : Update) →
    find (λ v. is_acked g known j k (digest_of_update v)) (updates_requested known j k) ≡ Some u →
    find (has_digest (digest_of_update u)) (updates_requested known j k) ≡ Some u
acked_first g known j k u found =
    find_narrower (λ v. is_acked g known j k (digest_of_update v)) (has_digest (digest_of_update u))
    (updates_requested known j k) u (digest_itself (digest_of_update u))
    (λ v same. ap (is_acked g known j k) ((bytes_eq-Decides (digest_of_update v) (digest_of_update u)).0 same)
    ∙ passes_found (λ v. is_acked g known j k (digest_of_update v)) (updates_requested known j k) u found)
    found

abbrev IsFirstOfItsDigest : List (Signed Body) → ℕ → ℕ → Update → Type 0
IsFirstOfItsDigest known j k u = find (has_digest (digest_of_update u)) (updates_requested known j k) ≡ Some u

abbrev candidate : Group → ℕ → ℕ → List (Signed Body) → Option Update
candidate g j k known = find (λ u. is_acked g known j k (digest_of_update u)) (updates_requested known j k)

met_step : (g : Group) (j k : ℕ) (u : Update) (seen more : List (Signed Body)) (now rest : Option Update) →
    candidate g j k seen ≡ now → or_else now rest ≡ Some u →
    (rest ≡ Some u → IsFirstOfItsDigest (seen ++ more) j k u) → IsFirstOfItsDigest (seen ++ more) j k u
met_step g j k u seen more None rest e found later = later found
met_step g j k u seen more (Some v) rest e found later =
    ap (find (has_digest (digest_of_update u))) (filter_map-append (update_requested j k) seen more)
    ∙ find_earlier (has_digest (digest_of_update u)) (updates_requested seen j k) (updates_requested more j k) u
    (acked_first g seen j k u (e ∙ found))

met_first : (g : Group) (j k : ℕ) (u : Update) (seen rest : List (Signed Body)) →
    first_met (candidate g j k) seen rest ≡ Some u → IsFirstOfItsDigest (seen ++ rest) j k u
unfolding first_met
met_first g j k u seen [] found = ap (λ all. find (has_digest (digest_of_update u)) (updates_requested all j k))
    (append-nil seen) ∙ acked_first g seen j k u found
met_first g j k u seen (x ∷ rest) found =
    met_step g j k u seen (x ∷ rest) (candidate g j k seen) (first_met (candidate g j k) (seen ++ x ∷ []) rest)
    refl found
    (λ at. ap (λ all. find (has_digest (digest_of_update u)) (updates_requested all j k))
    (sym (append_assoc seen (x ∷ []) rest)) ∙ met_first g j k u (seen ++ x ∷ []) rest at)

-- a certified update is the first known of its digest
pub certified_first : (g : Group) (known : List (Signed Body)) (j k : ℕ) (u : Update) →
    certified g known j k ≡ Some u → IsFirstOfItsDigest known j k u
unfolding certified
certified_first g known j k u found = met_first g j k u [] known found

-- equal texts have equal digests
same_digest : (v u : Update) → bytes_eq (update_text v) (update_text u) ≡ true →
    bytes_eq (digest_of_update v) (digest_of_update u) ≡ true
unfolding digest_of_update
same_digest v u same = let e = (bytes_eq-Decides (update_text v) (update_text u)).0 same in
    rw e (digest_itself (digest_of_update u))

text_itself : (v u : Update) → v ≡ u → bytes_eq (update_text v) (update_text u) ≡ true
text_itself v u same = (bytes_eq-Decides (update_text v) (update_text u)).1 (ap update_text same)

-- by whether the frame is for the number, has the digest and has the text
by_tests : (here digest text : Bool) (v u : Update) (r : Signed PoRequest) (us : List Update)
    (xs ys : List (Signed PoRequest)) (p : Update → Bool) → p v ≡ digest →
    (v ≡ u → text ≡ true) → (text ≡ true → digest ≡ true) → (find p us ≡ Some u → first_of_list xs ≡ first_of_list ys) →
    find p (cons_option (cond here (Some v) None) us) ≡ Some u →
    first_of_list (cons_option (cond (here && digest) (Some r) None) xs) ≡ first_of_list
    (cons_option (cond (here && text) (Some r) None) ys)
by_tests false digest text v u r us xs ys p e same implies later found = later found
by_tests true true true v u r us xs ys p e same implies later found = refl
by_tests true true false v u r us xs ys p e same implies later found =
    let at : Some v ≡ Some u = sym (ap (λ b. cond b (Some v) (find p us)) e) ∙ found in
    let one : v ≡ u = cc in
    absurd (true≢false (sym (same one)))
by_tests true false true v u r us xs ys p e same implies later found = absurd (true≢false (sym (implies refl)))
by_tests true false false v u r us xs ys p e same implies later found =
    later (sym (ap (λ b. cond b (Some v) (find p us)) e) ∙ found)

by_kind : (j k : ℕ) (u : Update) (signer : ℕ) (word : Body) (sig : List ℕ) (rest : List (Signed Body)) →
    (find (has_digest (digest_of_update u)) (filter_map (update_requested j k) rest) ≡ Some u →
    first_of_list (filter_map (request_with j k (digest_of_update u)) rest) ≡ first_of_list
    (filter_map (request_of j k u) rest)) →
    find (has_digest (digest_of_update u))
    (filter_map (update_requested j k) (record { signer = signer; body = word; sig = sig } ∷ rest)) ≡ Some u →
    first_of_list (filter_map (request_with j k (digest_of_update u))
    (record { signer = signer; body = word; sig = sig } ∷ rest))
    ≡ first_of_list (filter_map (request_of j k u) (record { signer = signer; body = word; sig = sig } ∷ rest))
by_kind j k u signer (body.PoRequest b) sig rest later found =
    by_tests (nat_eq signer j && nat_eq b.k k) (bytes_eq (digest_of_update b.update.body) (digest_of_update u))
    (bytes_eq (update_text b.update.body) (update_text u)) b.update.body u
    record { signer = signer; body = b; sig = sig } (filter_map (update_requested j k) rest)
    (filter_map (request_with j k (digest_of_update u)) rest) (filter_map (request_of j k u) rest)
    (has_digest (digest_of_update u)) refl (text_itself b.update.body u) (same_digest b.update.body u) later found
by_kind j k u signer _ sig rest later found = later found

-- so is its request
requests_first : (j k : ℕ) (u : Update) (known : List (Signed Body)) → IsFirstOfItsDigest known j k u →
    first_of_list (filter_map (request_with j k (digest_of_update u)) known) ≡ first_of_list
    (filter_map (request_of j k u) known)
requests_first j k u [] found = refl
requests_first j k u (f ∷ rest) found = by_kind j k u f.signer f.body f.sig rest (requests_first j k u rest) found

pub first_is : (g : Group) (known : List (Signed Body)) (j k : ℕ) (u : Update) → certified g known j k ≡ Some u →
    first_of_list (filter_map (request_with j k (digest_of_update u)) known) ≡ first_of_list
    (filter_map (request_of j k u) known)
first_is g known j k u found = requests_first j k u known (certified_first g known j k u found)
