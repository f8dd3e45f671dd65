-- What a correct master says along its own list is spelled, signed and in its place, as all that it knows is.
use Rattle.std.proofs.Common.{◌≡◌, ℕ, ◌+◌, ◌-◌, ◌^◌, ◌<◌, ◌≤◌, Bool, true, false, cond, ◌&&◌, not, List, [], ◌∷◌}
use Rattle.std.proofs.Common.{◌++◌, take, length, length-append, nat_eq, nat_lt, refl, sym, ◌∙◌, ap, subst, inl}
use Rattle.std.proofs.Common.{inr, ◌⊎◌, arith}
use Rattle.std.proofs.lemmas.Bool.{and_parts, ltb-true, eq-eqb, cases_Bool}
use Rattle.std.proofs.lemmas.Grind.{flat_map-append}
use Rattle.std.specs.List.{list_all, flat_map}
use Rattle.plain_lists.specs.Lists.{IsIn, Each}
use Rattle.plain_lists.proofs.Members.{each_none, each_append, none_in, in_cases, in_take, in_flat_map_from}
use Rattle.message_types.specs.declared.signed.Signed.{Signed}
use Rattle.message_types.specs.declared.body.Body.{Body}
use Rattle.message_types.specs.Parts.{parts}
use Rattle.message_types.specs.Spelling.{body_fits, has_spelling, signature_fits}
use Rattle.protocol_rules.specs.Places.{in_place}
use Rattle.protocol_rules.specs.Master.{Heard, learned, known_at, taken_frames, answers}
use Rattle.history_rules.specs.Events.{Entry, frame_taken, is_tick, is_silent}
use Rattle.history_rules.specs.Leaves.{leaves_for}
use Rattle.history_rules.specs.Setup.{Setup, stands, is_correct_master, leaves_used, room, signed_from}
use Rattle.history_rules.specs.Legal.{heard_in}
use Rattle.agreement.specs.Laws.{HasSizes}
use Rattle.agreement.proofs.Places.{by_growth, stands_on, stands_last}
use Rattle.agreement.proofs.KnownAsItGrows.{hears, signed_from_in, signed_from_bodies}
use Rattle.agreement.proofs.SaidOnce.{correct_actor}
use Rattle.words_in_place.specs.Laws.{ticks_heard, MaySpeak, IsSaid}
use Rattle.words_in_place.specs.Spellings.{is_signed}
use Rattle.words_in_place.specs.Signing.{SignsWell}
use Rattle.words_in_place.proofs.Limits.{all_from, all_each}
use Rattle.words_in_place.proofs.Spelled.{answers_are_spelled}
use Rattle.words_in_place.proofs.Standing.{own_frames_stand}
use Rattle.history_laws.specs.BenchLists.{AddsEntry, IsBenchList}
use Rattle.bench_rules.specs.Lists.{frames_after}
use Rattle.bench_rules.specs.Laws.{MasterFramesStand, MasterWordsFit}
use Rattle.bench_rules.proofs.HeardEvents.{heard_next, heard_same, heard_none, few_ticks, rule_of, silent_says_nothing}
use Rattle.words_in_place.proofs.Signing.{IsWell, parts_well, room_enough, taken_well}

known_from : (w : Setup) (before : List Heard) (e : Entry) (p : Signed Body) →
    IsIn p (known_at before (frame_taken e.event))
    → IsIn p (flat_map learned before) ⊎ IsIn p (flat_map parts (taken_frames (frame_taken e.event)))
unfolding known_at
known_from w before e p h = in_cases (flat_map learned before) h

module _ (w : Setup) (i : ℕ) (sizes : HasSizes w.group) (signing : SignsWell w i)
    (correct : is_correct_master w i ≡ true) where
  parts_of_correct : (nat_lt i w.group.n ≡ true) × (not (w.intruded i) ≡ true)
  parts_of_correct = and_parts (nat_lt i w.group.n) (not (w.intruded i)) correct

  below : i < w.group.n
  below = ltb-true i w.group.n parts_of_correct.0

  module _ (before : List Entry) (e : Entry) (adds : AddsEntry w i before e) (loud : is_silent e.event ≡ false)
      (few : ticks_heard (heard_in w i before) + cond (is_tick e.event) 1 0 ≤ 2 ^ 32)
      (learned_well : Each (IsWell w) (flat_map learned (heard_in w i before))) where
    abbrev due : List Body
    due = answers w.group w.orders i (heard_in w i before) (frame_taken e.event) (is_tick e.event)

    known_well : Each (IsWell w) (known_at (heard_in w i before) (frame_taken e.event))
    known_well p h = elim (known_from w (heard_in w i before) e p h) [
      | inl earlier ↦ learned_well p earlier
      | inr now ↦ taken_well w e.stamp e.event adds.taken p now
    ]

    speaks : MaySpeak w.group i (heard_in w i before) (frame_taken e.event) (is_tick e.event)
    speaks = record {
      sizes = sizes;
      master = below;
      ticks = few;
      placed = all_from (in_place w.group) (known_at (heard_in w i before) (frame_taken e.event))
          (λ p h. (known_well p h).0);
    }

    spelled : list_all has_spelling (known_at (heard_in w i before) (frame_taken e.event)) ≡ true
    spelled = all_from has_spelling (known_at (heard_in w i before) (frame_taken e.event)) (λ p h. (known_well p h).1)

    signed : list_all (is_signed w) (known_at (heard_in w i before) (frame_taken e.event)) ≡ true
    signed = all_from (is_signed w) (known_at (heard_in w i before) (frame_taken e.event)) (λ p h. (known_well p h).2)

    rule : e.said ≡ take (room w before) due
    rule = rule_of w i before e adds correct loud

    fit : list_all body_fits due ≡ true
    fit = answers_are_spelled w.group w.orders i (heard_in w i before) (frame_taken e.event) (is_tick e.event)
        record { sizes = sizes; placed = speaks.placed; spelled = spelled }

    said_fits : list_all body_fits e.said ≡ true
    said_fits = all_from body_fits e.said
        (λ b h. all_each body_fits due fit b
        (in_take (room w before) due (subst (λ (bs : List Body). IsIn b bs) rule h)))

    enough : leaves_for w.shared_leaves (length e.said) ≤ w.leaves - leaves_used w before
    enough = subst (λ (bs : List Body). leaves_for w.shared_leaves (length bs) ≤ w.leaves - leaves_used w before)
        (sym rule)
        (room_enough w.shared_leaves (w.leaves - leaves_used w before) due)

    not_true_false : (b : Bool) → not b ≡ true → b ≡ false
    not_true_false true h = sym h
    not_true_false false h = refl

    actor_correct : i < w.group.n + w.group.clients
    actor_correct = let low = below in omega arith

    signs : list_all (λ f. signature_fits f && is_signed w f) (frames_after w i before e) ≡ true
    signs = signing.signs (leaves_used w before) e.said actor_correct
        (correct_actor w i (not_true_false (w.intruded i) parts_of_correct.1)) enough said_fits

    are_said : IsSaid w.group w.orders i (heard_in w i before) (frame_taken e.event) (is_tick e.event) (room w before)
        (frames_after w i before e)
    are_said = record {
      own = all_from (λ f. nat_eq f.signer i) (frames_after w i before e)
          (λ f h. eq-eqb f.signer i (signed_from_in w i (leaves_used w before) 0 e.said e.said f h).0);
      words = signed_from_bodies w i (leaves_used w before) 0 e.said e.said ∙ rule;
    }

    frames_stand : list_all (stands w) (frames_after w i before e) ≡ true
    frames_stand = own_frames_stand w i (heard_in w i before) (frame_taken e.event) (is_tick e.event)
        speaks spelled signed (room w before) (frames_after w i before e) are_said
        (all_from (λ f. signature_fits f) (frames_after w i before e)
        (λ f h. (and_parts (signature_fits f) (is_signed w f)
        (all_each (λ f. signature_fits f && is_signed w f) (frames_after w i before e) signs f h)).0))
        (all_from (is_signed w) (frames_after w i before e)
        (λ f h. (and_parts (signature_fits f) (is_signed w f)
        (all_each (λ f. signature_fits f && is_signed w f) (frames_after w i before e) signs f h)).1))

    last_well : Each (IsWell w) (learned (hears w i (leaves_used w before) e))
    last_well = each_append (IsWell w) (flat_map parts (taken_frames (frame_taken e.event)))
        (flat_map parts (frames_after w i before e))
        (taken_well w e.stamp e.event adds.taken)
        (λ p h. let found = in_flat_map_from parts (frames_after w i before e) h in
        parts_well w found.0 (all_each (stands w) (frames_after w i before e) frames_stand found.0 found.1)
        p found.2)

  -- what is shown of a list as it grows
  abbrev StaysWell : List Entry → Type 0
  StaysWell list = IsBenchList w i list → length list ≤ 2 ^ 32 → Each (IsWell w) (flat_map learned (heard_in w i list))

  list_before : (before : List Entry) (e : Entry) → IsBenchList w i (before ++ e ∷ []) → IsBenchList w i before
  list_before before e is = record { entries = λ first x s. is.entries first x (stands_on (e ∷ []) s) }

  few_now : (before : List Entry) (e : Entry) → length before + 1 ≤ 2 ^ 32 →
      ticks_heard (heard_in w i before) + cond (is_tick e.event) 1 0 ≤ 2 ^ 32
  few_now before e short = by (is_tick e.event)
    where
      by : (b : Bool) → ticks_heard (heard_in w i before) + cond b 1 0 ≤ 2 ^ 32
      by true = let few = few_ticks w i before in omega arith
      by false = let few = few_ticks w i before in omega arith

  well_next : (before : List Entry) (e : Entry) → StaysWell before → StaysWell (before ++ e ∷ [])
  well_next before e earlier is short = by (cases_Bool (is_silent e.event))
    where
      longer : length (before ++ e ∷ []) ≡ length before + 1
      longer = length-append before (e ∷ [])

      so_far : Each (IsWell w) (flat_map learned (heard_in w i before))
      so_far = earlier (list_before before e is) (omega (arith, longer))

      adds : AddsEntry w i before e
      adds = is.entries before e (stands_last before e)

      by : (is_silent e.event ≡ true) ⊎ (is_silent e.event ≡ false) →
          Each (IsWell w) (flat_map learned (heard_in w i (before ++ e ∷ [])))
      by (inl silent) = subst (λ (hs : List Heard). Each (IsWell w) (flat_map learned hs))
          (sym (heard_same w i before e silent)) so_far
      by (inr loud) =
          let last : Heard = hears w i (leaves_used w before) e in
          subst (λ (hs : List Heard). Each (IsWell w) (flat_map learned hs)) (sym (heard_next w i before e loud))
          (subst (λ (ps : List (Signed Body)). Each (IsWell w) ps)
          (sym (flat_map-append learned (heard_in w i before) (last ∷ [])))
          (each_append (IsWell w) (flat_map learned (heard_in w i before)) (flat_map learned (last ∷ [])) so_far
          (each_append (IsWell w) (learned last) []
          (last_well before e adds loud (few_now before e (omega (arith, longer))) so_far) (each_none (IsWell w)))))

  none_well : StaysWell []
  none_well _ short p h = absurd
      (none_in (subst (λ (hs : List Heard). IsIn p (flat_map learned hs)) (heard_none w i) h))

  list_well : (list : List Entry) → StaysWell list
  list_well = by_growth StaysWell none_well well_next

pub master_frames_stand : MasterFramesStand
master_frames_stand w i list e sizes signing correct is adds short = by (cases_Bool (is_silent e.event))
  where
    by : (is_silent e.event ≡ true) ⊎ (is_silent e.event ≡ false) → list_all (stands w) (frames_after w i list e) ≡ true
    by (inl silent) = ap (λ (bs : List Body). list_all (stands w) (signed_from w i (leaves_used w list) bs 0 bs))
        (silent_says_nothing w i list e correct adds silent)
    by (inr loud) = frames_stand w i sizes signing correct list e adds loud
        (few_now w i sizes signing correct list e (omega arith))
        (list_well w i sizes signing correct list is (omega arith))

pub master_words_fit : MasterWordsFit
master_words_fit w i list e sizes signing correct is adds short = by (cases_Bool (is_silent e.event))
  where
    by : (is_silent e.event ≡ true) ⊎ (is_silent e.event ≡ false) → list_all body_fits e.said ≡ true
    by (inl silent) = ap (λ (bs : List Body). list_all body_fits bs)
        (silent_says_nothing w i list e correct adds silent)
    by (inr loud) = said_fits w i sizes signing correct list e adds loud
        (few_now w i sizes signing correct list e (omega arith))
        (list_well w i sizes signing correct list is (omega arith))
