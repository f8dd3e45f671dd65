-- Leaves along an actor's list, and the frames that they sign.
use Rattle.std.proofs.Common.{◌≡◌, ℕ, suc, ◌+◌, ◌-◌, ◌*◌, ◌^◌, ◌≤◌, Bool, true, false, List, [], ◌∷◌, ◌++◌}
use Rattle.std.proofs.Common.{length, take, map, refl, sym, ◌∙◌, ap, subst, inl, inr, arith}
use Rattle.std.specs.Prelude.{All}
use Rattle.std.specs.List.{slice_index_or}
use Rattle.std.proofs.Math.Pow.{pow_mono}
use Rattle.std.proofs.lemmas.List.{length-map, take_all}
use Rattle.std.proofs.lemmas.List.Elements.{All-head, All-tail}
use Rattle.message_types.specs.declared.signed.Signed.{Signed}
use Rattle.message_types.specs.declared.body.Body.{Body}
use Rattle.message_types.specs.Texts.{body_text}
use Rattle.hash_signatures.specs.Signatures.{total}
use Rattle.checked_frames.specs.Entries.{group_size, groups_for, entry_signatures}
use Rattle.history_rules.specs.Events.{Entry}
use Rattle.history_rules.specs.Leaves.{leaves_for, leaves_of}
use Rattle.history_rules.specs.Setup.{Setup, leaves_used, signed_from}
use Rattle.history_rules.specs.Legal.{says_in, would_say}
use Rattle.scenario_file.specs.Valid.{IsHeight}
use Rattle.world_rules.specs.Scenarios.{setup_of, key_in, shares_leaves, most_together}
use Rattle.world_rules.proofs.Fields.{setup_goes_by, key_heights, key_id, key_levels, key_made}
use Rattle.world_rules.proofs.Signed.{CanBeMade, signed_upto, up_to_all, signature_is}
use Rattle.world_history.specs.Signed.{frames_with}
use Rattle.world_history.specs.Laws.{LeavesAreFew, LeavesUsedNext, GroupsUseLeaves, LeavesEnough, SignaturesForAll}
use Rattle.world_history.specs.Laws.{SignedBySignatures}
use Rattle.checked_frames.proofs.EntryLaws.{enough_groups}
use Rattle.words_in_place.proofs.Signing.{room_enough}

total_few : (heights : List ℕ) → All IsHeight heights → total heights ≤ 10 * length heights
total_few [] all = omega arith
total_few (h ∷ rest) all =
    let height : IsHeight h = All-head IsHeight h rest all in
    let low : h ≤ 10 = elim height [ inl is ↦ omega arith | inr is ↦ omega arith ] in
    let more = total_few rest (All-tail IsHeight h rest all) in
    omega arith

pub leaves_are_few : LeavesAreFew
leaves_are_few c actor is =
    let low = total_few c.settings.heights is.heights in
    let three = is.at_most_three_levels in
    subst (λ (hs : List ℕ). 2 ^ total hs ≤ 2 ^ 30) (sym (key_heights c actor))
    (pow_mono {i = total c.settings.heights} {j = 30} (omega arith))

used_next : (shared : Bool) (xs : List Entry) (e : Entry)
    → leaves_of shared (map (λ (x : Entry). length x.said) (xs ++ e ∷ [])) ≡ leaves_of shared
    (map (λ (x : Entry). length x.said) xs) + leaves_for shared (length e.said)
used_next shared [] e = omega arith
used_next shared (x ∷ xs) e = let more = used_next shared xs e in omega arith

pub leaves_used_next : LeavesUsedNext
leaves_used_next w list e = used_next w.shared_leaves list e

pub groups_use_leaves : GroupsUseLeaves
groups_use_leaves true bodies = refl
groups_use_leaves false bodies = omega arith

pub leaves_enough : LeavesEnough
unfolding says_in
leaves_enough w actor list e adds =
    subst (λ (bs : List Body). leaves_for w.shared_leaves (length bs) ≤ w.leaves - leaves_used w list) (sym adds.said)
    (room_enough w.shared_leaves (w.leaves - leaves_used w list) (would_say w actor list e.event))

pub signatures_for_all : SignaturesForAll
signatures_for_all c actor used said is =
    let shared : Bool = shares_leaves c in
    let texts : List (List ℕ) = map body_text said in
    let groups : ℕ = groups_for (group_size (shares_leaves c)) (length texts) in
    let can : CanBeMade (key_in c actor) =
    record { levels = key_levels c actor is; made = key_made c actor is; id = key_id c actor is } in
    let so = signed_upto shared (key_in c actor) used texts can groups (up_to_all groups) in
    let all : take (group_size shared * groups) texts ≡ texts =
    take_all (group_size shared * groups) texts (enough_groups shared (length texts)) in
    sym (ap length (sym all) ∙ so.size) ∙ length-map said body_text

fields_from : (w : Setup) (actor used : ℕ) (said : List Body) (fields : List (List ℕ)) →
    ((place : ℕ) → w.signature actor used said place ≡ slice_index_or fields place [])
    → (place : ℕ) (rest : List Body) (later : List (List ℕ)) → length later ≡ length rest →
    ((k : ℕ) → slice_index_or fields (place + k) [] ≡ slice_index_or later k [])
    → signed_from w actor used said place rest ≡ frames_with actor rest later
fields_from w actor used said fields are place [] later long same = refl
fields_from w actor used said fields are place (b ∷ rest) [] long same = absurd (omega arith)
fields_from w actor used said fields are place (b ∷ rest) (sig ∷ later) long same =
    let none : place + 0 ≡ place = omega arith in
    let here : w.signature actor used said place ≡ sig =
    are place ∙ ap (λ (k : ℕ). slice_index_or fields k []) (sym none) ∙ same 0 in
    let frame : List ℕ → Signed Body = λ s. record { signer = actor; body = b; sig = s } in
    ap (λ (s : List ℕ). frame s ∷ signed_from w actor used said (suc place) rest) here
    ∙ ap (λ (fs : List (Signed Body)). frame sig ∷ fs)
    (fields_from w actor used said fields are (suc place) rest later (omega arith) (λ k.
    let next : suc place + k ≡ place + suc k = omega arith in
    ap (λ (x : ℕ). slice_index_or fields x []) next ∙ same (suc k)))

pub signed_by_signatures : SignedBySignatures
signed_by_signatures c actor used said is =
    let fields : List (List ℕ) = entry_signatures (key_in c actor) used (most_together c) (map body_text said) in
    fields_from (setup_of c) actor used said fields (λ place. (setup_goes_by c).signature actor used said place
    ∙ signature_is c actor used said place) 0 said
    fields (signatures_for_all c actor used said is) (λ k. ap (λ (x : ℕ). slice_index_or fields x []) (omega arith))
