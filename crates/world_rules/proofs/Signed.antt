-- The signatures of a scenario's actors sign: each group of an entry's bodies is signed by a leaf of the key.
use Rattle.std.proofs.Common.{◌≡◌, ◌≤◌, ◌<◌, ◌+◌, ◌*◌, ℕ, zero, suc, Bool, true, ◌&&◌, List, [], ◌∷◌, ◌++◌, length}
use Rattle.std.proofs.Common.{take, map, slice_index_or, refl, sym, ap, ◌∙◌, subst, arith}
use Rattle.std.specs.List.{list_all}
use Rattle.std.proofs.lemmas.Bool.{and_from, and_parts}
use Rattle.std.proofs.lemmas.List.{length-map, take_all}
use Rattle.message_types.specs.declared.body.Body.{Body}
use Rattle.message_types.specs.Texts.{body_text}
use Rattle.message_types.specs.Spelling.{signature_fits}
use Rattle.hash_signatures.specs.Signatures.{Key, key_public}
use Rattle.hash_signatures.specs.State.{IsLevelCount, HasMadeHeights}
use Rattle.hash_signatures.proofs.KeyLaws.{signature_verifies, signature_short}
use Rattle.checked_frames.specs.Signing.{signs, signed_message, group_signatures, EachSigns, field_fits}
use Rattle.checked_frames.specs.Entries.{group_size, groups_for, group_at, first_signatures, entry_signatures}
use Rattle.checked_frames.proofs.SigningLaws.{group_signs, group_fits}
use Rattle.checked_frames.proofs.EntryLaws.{AreSignedTo, none_signed, one_group_more, group_some, enough_groups}
use Rattle.history_rules.specs.Setup.{Setup, signed_from}
use Rattle.words_in_place.specs.Spellings.{is_signed}
use Rattle.scenario_file.specs.Reading.{Contents}
use Rattle.world_rules.specs.Scenarios.{key_in, shares_leaves, signature_in, setup_of}
use Rattle.world_rules.specs.Laws.{SignaturesSign}
use Rattle.world_rules.proofs.Fields.{setup_goes_by, key_id, key_levels, key_made}

-- a key that can be made
pub record CanBeMade (key : Key) : Type 0 where
  pub levels : IsLevelCount (length key.heights)
  pub made : HasMadeHeights key.heights
  pub id : length key.id ≡ 16

before : (n groups : ℕ) → suc n ≤ groups → (n < groups) × (n ≤ groups)
before n groups h = (omega arith, omega arith)

pub up_to_all : (n : ℕ) → n ≤ n
up_to_all n = omega arith

so_far : (shared : Bool) (key : Key) (used : ℕ) (texts : List (List ℕ)) (n : ℕ) (fields : List (List ℕ)) →
    AreSignedTo shared key used texts n fields
    → AreSignedTo shared key used texts n (first_signatures key used (group_size shared) texts n)
so_far shared key used texts n fields so = subst (AreSignedTo shared key used texts n) so.signatures so

pub signed_upto : (shared : Bool) (key : Key) (used : ℕ) (texts : List (List ℕ)) → CanBeMade key → (n : ℕ) →
    n ≤ groups_for (group_size shared) (length texts)
    → AreSignedTo shared key used texts n (first_signatures key used (group_size shared) texts n)
signed_upto shared key used texts can zero within =
    so_far shared key used texts 0 [] (none_signed shared key used texts)
signed_upto shared key used texts can (suc n) within =
    let most = group_size shared in
    let low = before n (groups_for most (length texts)) within in
    let first = first_signatures key used most texts n in
    let group = group_at most texts n in
    let fields = group_signatures key (used + n) group in
    let message = signed_message group in
    let few = (group_some shared texts (groups_for most (length texts)) n refl low.0).1 in
    let verified = signature_verifies key (used + n) message can.levels can.made can.id in
    let short = signature_short key (used + n) message can.levels can.made can.id in
    let each = group_signs (key_public key) group key (used + n) fields few verified refl in
    let fit = group_fits group key (used + n) fields short refl in
    so_far shared key used texts (suc n) (first ++ fields)
    (one_group_more shared key used texts n first fields (signed_upto shared key used texts can n low.1) refl each fit)

entry_signs : (shared : Bool) (key : Key) (used : ℕ) (texts : List (List ℕ)) → CanBeMade key
    → EachSigns (key_public key) texts (entry_signatures key used (group_size shared) texts)
    × (list_all field_fits (entry_signatures key used (group_size shared) texts) ≡ true)
entry_signs shared key used texts can =
    let most = group_size shared in
    let groups = groups_for most (length texts) in
    let so = signed_upto shared key used texts can groups (up_to_all groups) in
    let all = take_all (most * groups) texts (enough_groups shared (length texts)) in (
      subst (λ (ts : List (List ℕ)). EachSigns (key_public key) ts (entry_signatures key used most texts)) all so.signs,
      so.fit,
    )

fit_at : (fields : List (List ℕ)) (place : ℕ) → list_all field_fits fields ≡ true →
    field_fits (slice_index_or fields place []) ≡ true
fit_at [] place all = refl
fit_at (field ∷ fields) zero all = (and_parts (field_fits field) (list_all field_fits fields) all).0
fit_at (field ∷ fields) (suc place) all =
    fit_at fields place (and_parts (field_fits field) (list_all field_fits fields) all).1

-- a setup whose signatures of an actor's bodies are these fields
record AreFields (w : Setup) (actor used : ℕ) (said : List Body) (public : List ℕ)
    (fields : List (List ℕ)) : Type 0 where
  pub signature : (place : ℕ) → w.signature actor used said place ≡ slice_index_or fields place []
  pub signs : (text sig : List ℕ) → w.signs actor text sig ≡ signs public text sig
  pub fit : list_all field_fits fields ≡ true

frames_signed : (w : Setup) (actor used : ℕ) (said : List Body) (public : List ℕ) (fields : List (List ℕ)) →
    AreFields w actor used said public fields
    → (place : ℕ) (rest : List Body)
    → ((k : ℕ) → k < length rest → signs public (slice_index_or (map body_text rest) k [])
    (slice_index_or fields (place + k) []) ≡ true)
    → list_all (λ f. signature_fits f && is_signed w f) (signed_from w actor used said place rest) ≡ true
frames_signed w actor used said public fields are place [] each = refl
frames_signed w actor used said public fields are place (b ∷ rest) each =
    let sig = w.signature actor used said place in
    let none_more : place + 0 ≡ place = omega arith in
    let here : signs public (body_text b) (slice_index_or fields place []) ≡ true =
    ap (λ (p : ℕ). signs public (body_text b) (slice_index_or fields p [])) (sym none_more) ∙ each 0 (omega arith) in
    let signed : w.signs actor (body_text b) sig ≡ true =
    are.signs (body_text b) sig ∙ ap (λ (s : List ℕ). signs public (body_text b) s) (are.signature place) ∙ here in
    let fits : field_fits sig ≡ true = ap field_fits (are.signature place) ∙ fit_at fields place are.fit in
    let later = frames_signed w actor used said public fields are (suc place) rest (λ k below.
    let next : suc place + k ≡ place + suc k = omega arith in
    ap (λ (p : ℕ). signs public (slice_index_or (map body_text rest) k []) (slice_index_or fields p [])) next
    ∙ each (suc k) (omega arith)) in
    and_from (field_fits sig && w.signs actor (body_text b) sig)
    (list_all (λ f. signature_fits f && is_signed w f) (signed_from w actor used said (suc place) rest))
    (and_from (field_fits sig) (w.signs actor (body_text b) sig) fits signed) later

-- its signatures are those of its key
pub signature_is : (c : Contents) (actor used : ℕ) (said : List Body) (place : ℕ)
    → signature_in c actor used said place ≡ slice_index_or
    (entry_signatures (key_in c actor) used (group_size (shares_leaves c)) (map body_text said)) place []
unfolding signature_in
signature_is c actor used said place = refl

pub signatures_sign : SignaturesSign
signatures_sign c actor is has = record {
  signs = λ used said low correct enough fit.
      let goes = setup_goes_by c in
      let can : CanBeMade (key_in c actor) =
      record { levels = key_levels c actor is; made = key_made c actor is; id = key_id c actor is } in
      let texts = map body_text said in
      let both = entry_signs (shares_leaves c) (key_in c actor) used texts can in
      let fields = entry_signatures (key_in c actor) used (group_size (shares_leaves c)) texts in
      let are : AreFields (setup_of c) actor used said (key_public (key_in c actor)) fields = record {
        signature = λ place. goes.signature actor used said place ∙ signature_is c actor used said place;
        signs = λ text sig. goes.signs actor text sig ∙ ap (λ (p : List ℕ). signs p text sig) has;
        fit = both.1;
      } in
      frames_signed (setup_of c) actor used said (key_public (key_in c actor)) fields are 0 said (λ k below.
      let size = length-map said body_text in
      let first : 0 + k ≡ k = omega arith in
      ap (λ (p : ℕ). signs (key_public (key_in c actor)) (slice_index_or texts k []) (slice_index_or fields p []))
      first ∙ both.0 k (omega arith));
}
