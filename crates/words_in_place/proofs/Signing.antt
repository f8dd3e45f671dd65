-- In a legal history of a setup whose signatures sign, all that a correct master learns is in its place, spelled and
-- signed:
-- the parts of frames that stand are, and its own frames stand where all that it knew is.
use Rattle.std.proofs.Common.{◌≡◌, ℕ, ◌+◌, ◌-◌, ◌*◌, ◌^◌, ◌<◌, ◌≤◌, Bool, true, false, cond, ◌&&◌, not, List, [], ◌∷◌}
use Rattle.std.proofs.Common.{◌++◌, take, length, min, nat_eq, nat_lt, refl, sym, ◌∙◌, ap, subst, inl, inr, ◌⊎◌}
use Rattle.std.proofs.Common.{arith}
use Rattle.std.proofs.lemmas.Bool.{false≢true, and_parts, and_from, ltb-true, eq-eqb, cases_eq, cases_Bool, not-true}
use Rattle.std.proofs.lemmas.Grind.{flat_map-append}
use Rattle.std.proofs.lemmas.List.{length-take}
use Rattle.std.specs.List.{list_all, flat_map}
use Rattle.plain_lists.specs.Lists.{IsIn, Each}
use Rattle.plain_lists.proofs.Members.{each_none, each_append, none_in, in_left, in_cases, in_take, in_flat_map_from}
use Rattle.message_types.specs.declared.signed.Signed.{Signed}
use Rattle.message_types.specs.declared.body.Body.{Body}
use Rattle.message_types.specs.Parts.{parts}
use Rattle.message_types.specs.Texts.{body_text}
use Rattle.message_types.specs.Spelling.{body_fits, has_spelling, signature_fits}
use Rattle.protocol_rules.specs.Places.{in_place}
use Rattle.protocol_rules.specs.Master.{Heard, learned, taken_frames, answers}
use Rattle.history_rules.specs.Events.{Event, Took, Entry, frame_taken, is_tick, is_silent}
use Rattle.history_rules.specs.Leaves.{leaves_for, room_of}
use Rattle.history_rules.specs.Setup.{Setup, stands, is_correct_master, leaves_used, own, room, signed_from}
use Rattle.history_rules.specs.Legal.{IsLegal, TakesWell, heard, says, says_in}
use Rattle.history_rules.specs.Audit.{parts_taken}
use Rattle.agreement.specs.Laws.{HasSizes}
use Rattle.agreement.proofs.Places.{by_growth, legal_before, stands_last, whole_upto}
use Rattle.agreement.proofs.KnownAsItGrows.{learned_by, known_then, known_then_from, hears, heard_then, heard_other}
use Rattle.agreement.proofs.KnownAsItGrows.{heard_silent, heard_more, signed_from_in, signed_from_bodies, correct_said}
use Rattle.agreement.proofs.LearnedWasSaid.{heard_none}
use Rattle.agreement.proofs.SaidOnce.{correct_actor}
use Rattle.words_in_place.specs.Laws.{ticks_heard, MaySpeak, IsSaid}
use Rattle.words_in_place.specs.Spellings.{is_signed}
use Rattle.words_in_place.specs.Signing.{SignsWell, frames_at, LearnedIsSpelled, LearnedIsSigned, SaidFramesStand}
use Rattle.words_in_place.proofs.Limits.{all_from, all_each}
use Rattle.words_in_place.proofs.Lasting.{ticks_more, ticks_before, ticks_now}
use Rattle.words_in_place.proofs.Spelled.{parts_are_spelled, answers_are_spelled}
use Rattle.words_in_place.proofs.Standing.{own_frames_stand}
use Rattle.history_rules.proofs.Entries.{empty_from}

-- a word in its place, spelled and signed
abbrev pub IsWell : Setup → Signed Body → Type 0
IsWell w p = (in_place w.group p ≡ true) × (has_spelling p ≡ true) × (is_signed w p ≡ true)

-- the parts of a frame that stands
pub parts_well : (w : Setup) (frame : Signed Body) → stands w frame ≡ true → Each (IsWell w) (parts frame)
unfolding stands
parts_well w frame well p h =
    let both = and_parts (has_spelling frame)
    (list_all (λ p. nat_lt p.signer (w.group.n + w.group.clients) && w.signs p.signer (body_text p.body) p.sig
    && in_place w.group p) (parts frame)) well in
    let at = and_parts (nat_lt p.signer (w.group.n + w.group.clients) && w.signs p.signer (body_text p.body) p.sig)
    (in_place w.group p)
    (all_each (λ p. nat_lt p.signer (w.group.n + w.group.clients) && w.signs p.signer (body_text p.body) p.sig
    && in_place w.group p) (parts frame) both.1 p h) in
    let spelled : list_all has_spelling (flat_map parts (frame ∷ [])) ≡ true =
    parts_are_spelled (frame ∷ []) (and_from (has_spelling frame) true both.0 refl) in (
      at.1,
      all_each has_spelling (flat_map parts (frame ∷ [])) spelled p (in_left [] h),
      (and_parts (nat_lt p.signer (w.group.n + w.group.clients)) (w.signs p.signer (body_text p.body) p.sig) at.0).1,
    )

pub taken_well : (w : Setup) (now : ℕ) (event : Event) → TakesWell w now event →
    Each (IsWell w) (flat_map parts (taken_frames (frame_taken event)))
taken_well w now (Took stamp place frame) well = (λ p h. elim (in_cases (parts frame) h) [
  | inl part ↦ parts_well w frame well.0 p part
  | inr none ↦ absurd (none_in none)
])
taken_well w now _ well = each_none (IsWell w)

take_few : (n : ℕ) (xs : List Body) → length (take n xs) ≤ n
take_few n xs = let same : length (take n xs) ≡ min n (length xs) = length-take n xs in omega arith

-- what is cut to the room has leaves enough
pub room_enough : (shared : Bool) (left : ℕ) (bodies : List Body) →
    leaves_for shared (length (take (room_of shared left) bodies)) ≤ left
room_enough true left bodies = let few : length (take (32 * left) bodies) ≤ 32 * left =
    take_few (32 * left) bodies in omega arith
room_enough false left bodies = take_few left bodies

pub rule_of : (r : ℕ) (a x s : Bool) (due other : List Body) → (a && not x) ≡ true → s ≡ false →
    take r (cond a (cond x [] (cond s [] due)) other) ≡ take r due
rule_of r true false false due other correct loud = refl
rule_of r true false true due other correct loud = absurd (false≢true (sym loud))
rule_of r true true s due other correct loud = absurd (false≢true correct)
rule_of r false x s due other correct loud = absurd (false≢true correct)

-- what the rules make a master say at an entry, and the frames of what it said there
abbrev due_at : Setup → ℕ → List Entry → Entry → List Body
due_at w i before e = answers w.group w.orders i (heard w before i) (frame_taken e.event) (is_tick e.event)

abbrev frames_then : Setup → ℕ → List Entry → Entry → List (Signed Body)
frames_then w i before e = signed_from w i (leaves_used w (own before i)) e.said 0 e.said

module _ (w : Setup) (i : ℕ) (sizes : HasSizes w.group) (well : SignsWell w i)
    (correct : is_correct_master w i ≡ true) where
  below : i < w.group.n
  below = ltb-true i w.group.n (and_parts (nat_lt i w.group.n) (not (w.intruded i)) correct).0

  -- what the master says at an entry is what the rules make it say, cut to its room
  said_rule : (before : List Entry) (e : Entry) → IsLegal w (before ++ e ∷ []) → e.actor ≡ i → is_silent e.event ≡ false
      → e.said ≡ take (room w (own before i))
      (due_at w i before e)
  unfolding says_in
  said_rule before e legal by loud =
      let rule : e.said ≡ says w before e.actor e.event = (legal.entries before e (stands_last before e)).said in
      let rule_i : e.said ≡ says w before i e.event = rule ∙ ap (λ k. says w before k e.event) by in
      rule_i ∙ rule_of (room w (own before i)) (nat_lt i w.group.n) (w.intruded i) (is_silent e.event)
      (due_at w i before e)
      (w.client_says i (own before i) e.event) correct loud

  -- its frames stand, where all that it had learned is well
  frames_stand : (before : List Entry) (e : Entry) → IsLegal w (before ++ e ∷ []) → e.actor ≡ i →
      is_silent e.event ≡ false → ticks_heard (heard w (before ++ e ∷ []) i) ≤ 2 ^ 32
      → Each (IsWell w) (learned_by w before i) →
      list_all (stands w) (frames_then w i before e) ≡ true
  frames_stand before e legal by loud few learned_well =
      let used : ℕ = leaves_used w (own before i) in
      let frames : List (Signed Body) = frames_then w i before e in
      let known_well : Each (IsWell w) (known_then w before i e) = λ p h. elim (known_then_from w before i e p h) [
        | inl earlier ↦ learned_well p earlier
        | inr now ↦ taken_well w (length before) e.event (legal.entries before e (stands_last before e)).taken p now
      ] in
      let speaks : MaySpeak w.group i (heard w before i) (frame_taken e.event) (is_tick e.event) = record {
        sizes = sizes;
        master = below;
        ticks = ticks_now w i sizes correct before e by loud few;
        placed = all_from (in_place w.group) (known_then w before i e) (λ p h. (known_well p h).0);
      } in
      let spelled : list_all has_spelling (known_then w before i e) ≡ true =
      all_from has_spelling (known_then w before i e) (λ p h. (known_well p h).1) in
      let signed : list_all (is_signed w) (known_then w before i e) ≡ true =
      all_from (is_signed w) (known_then w before i e) (λ p h. (known_well p h).2) in
      let rule = said_rule before e legal by loud in
      let fitting : list_all body_fits
      (due_at w i before e) ≡ true =
      answers_are_spelled w.group w.orders i (heard w before i) (frame_taken e.event) (is_tick e.event)
      record { sizes = sizes; placed = speaks.placed; spelled = spelled } in
      let said_fits : list_all body_fits e.said ≡ true = all_from body_fits e.said (λ b h.
      all_each body_fits (due_at w i before e)
      fitting b (in_take (room w (own before i)) _ (subst (λ (bs : List Body). IsIn b bs) rule h))) in
      let enough : leaves_for w.shared_leaves (length e.said) ≤ w.leaves - leaves_used w (own before i) =
      subst (λ (bs : List Body). leaves_for w.shared_leaves (length bs) ≤ w.leaves - leaves_used w (own before i))
      (sym rule)
      (room_enough w.shared_leaves (w.leaves - leaves_used w (own before i))
      (due_at w i before e)) in
      let signs = well.signs (leaves_used w (own before i)) e.said (omega arith)
      (correct_actor w i (not-true (w.intruded i)
      (and_parts (nat_lt i w.group.n) (not (w.intruded i)) correct).1)) enough said_fits in
      let is : IsSaid w.group w.orders i (heard w before i) (frame_taken e.event) (is_tick e.event)
      (room w (own before i)) (frames_then w i before e) = record {
        own = all_from (λ f. nat_eq f.signer i) (frames_then w i before e)
            (λ f h. eq-eqb f.signer i (signed_from_in w i (leaves_used w (own before i)) 0 e.said e.said f h).0);
        words = signed_from_bodies w i (leaves_used w (own before i)) 0 e.said e.said ∙ rule;
      } in
      own_frames_stand w i (heard w before i) (frame_taken e.event) (is_tick e.event) speaks spelled signed
      (room w (own before i)) (frames_then w i before e) is
      (all_from (λ f. signature_fits f) frames
      (λ f h. (and_parts (signature_fits f) (is_signed w f)
      (all_each (λ f. signature_fits f && is_signed w f) frames signs f h)).0))
      (all_from (is_signed w) frames
      (λ f h. (and_parts (signature_fits f) (is_signed w f)
      (all_each (λ f. signature_fits f && is_signed w f) frames signs f h)).1))

  -- what is shown of a history as it grows
  abbrev StaysWell : List Entry → Type 0
  StaysWell history = IsLegal w history → ticks_heard (heard w history i) ≤ 2 ^ 32 →
      Each (IsWell w) (learned_by w history i)

  learned_next : (before : List Entry) (e : Entry) → StaysWell before → StaysWell (before ++ e ∷ [])
  learned_next before e earlier legal few = by_actor (cases_eq e.actor i)
    where
      so_far : Each (IsWell w) (learned_by w before i)
      so_far = earlier (legal_before w before (e ∷ []) legal) (ticks_before w i sizes correct before e few)

      by_silence : e.actor ≡ i → (is_silent e.event ≡ true) ⊎ (is_silent e.event ≡ false) →
          Each (IsWell w) (learned_by w (before ++ e ∷ []) i)
      by_silence by (inl silent) = subst (λ (hs : List Heard). Each (IsWell w) (flat_map learned hs))
          (sym (heard_silent w before e i by silent)) so_far
      by_silence by (inr loud) =
          let frames : List (Signed Body) = frames_then w i before e in
          let stand = frames_stand before e legal by loud few so_far in
          let last : List Heard = hears w i (leaves_used w (own before i)) e ∷ [] in
          subst (λ (hs : List Heard). Each (IsWell w) (flat_map learned hs)) (sym (heard_then w before e i by loud))
          (subst (λ (ps : List (Signed Body)). Each (IsWell w) ps)
          (sym (flat_map-append learned (heard w before i) last))
          (each_append (IsWell w) (learned_by w before i) (flat_map learned last) so_far
          (each_append (IsWell w) (parts_taken e ++ flat_map parts frames) []
          (each_append (IsWell w) (parts_taken e) (flat_map parts frames)
          (taken_well w (length before) e.event (legal.entries before e (stands_last before e)).taken)
          (λ p h. let found = in_flat_map_from parts frames h in
          parts_well w found.0 (all_each (stands w) frames stand found.0 found.1) p found.2))
          (each_none (IsWell w)))))

      by_actor : (e.actor ≡ i) ⊎ (e.actor ≡ i → ⊥) → Each (IsWell w) (learned_by w (before ++ e ∷ []) i)
      by_actor (inl by) = by_silence by (cases_Bool (is_silent e.event))
      by_actor (inr other) = subst (λ (hs : List Heard). Each (IsWell w) (flat_map learned hs))
          (sym (heard_other w before e i other)) so_far

  none_learned : StaysWell []
  none_learned legal few p h =
      absurd (none_in (subst (λ (hs : List Heard). IsIn p (flat_map learned hs)) (heard_none w i) h))

  learned_well : (history : List Entry) → StaysWell history
  learned_well = by_growth StaysWell none_learned learned_next

pub learned_is_spelled : LearnedIsSpelled
learned_is_spelled w history i legal sizes well correct few =
    all_from has_spelling (learned_by w history i)
    (λ p h. (learned_well w i sizes well correct history legal few p h).1)

pub learned_is_signed : LearnedIsSigned
learned_is_signed w history i legal sizes well correct few =
    all_from (is_signed w) (learned_by w history i)
    (λ p h. (learned_well w i sizes well correct history legal few p h).2)

pub said_frames_stand : SaidFramesStand
said_frames_stand w history before e legal sizes well s correct few = by_silence (cases_Bool (is_silent e.event))
  where
    upto : IsLegal w (before ++ e ∷ [])
    upto = legal_before w (before ++ e ∷ []) s.after (subst (λ (xs : List Entry). IsLegal w xs) (whole_upto s) legal)

    few_upto : ticks_heard (heard w (before ++ e ∷ []) e.actor) ≤ 2 ^ 32
    few_upto =
        let more = heard_more w (before ++ e ∷ []) s.after e.actor in
        let less : ticks_heard (heard w (before ++ e ∷ []) e.actor) ≤ ticks_heard (heard w (before ++ e ∷ []) e.actor
        ++ more.0) = ticks_more (heard w (before ++ e ∷ []) e.actor) more.0 in
        let same : ticks_heard (heard w history e.actor) ≡ ticks_heard (heard w (before ++ e ∷ []) e.actor ++ more.0) =
        ap (λ (xs : List Entry). ticks_heard (heard w xs e.actor)) (whole_upto s) ∙ ap ticks_heard more.1 in
        omega arith

    by_silence : (is_silent e.event ≡ true) ⊎ (is_silent e.event ≡ false) →
        list_all (stands w) (frames_at w before e) ≡ true
    by_silence (inl silent) =
        let none : e.said ≡ [] = empty_from e.said
        (λ b k. false≢true (sym (correct_said w e.actor b legal s refl correct k).0 ∙ silent)) in
        ap (λ (bs : List Body). list_all (stands w)
        (signed_from w e.actor (leaves_used w (own before e.actor)) bs 0 bs)) none
    by_silence (inr loud) = frames_stand w e.actor sizes well correct before e upto refl loud few_upto
        (learned_well w e.actor sizes well correct before (legal_before w before (e ∷ []) upto)
        (ticks_before w e.actor sizes correct before e few_upto))
