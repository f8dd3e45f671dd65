-- In a legal history all that a correct master learns is in its place: frames taken stand, and its own words are in
-- place where all that it knew is.
use Rattle.std.proofs.Common.{◌≡◌, ℕ, ◌+◌, ◌^◌, ◌≤◌, true, false, cond, ◌&&◌, List, [], ◌∷◌, ◌++◌, length}
use Rattle.std.proofs.Common.{length-append, filter, nat_lt, refl, ◌∙◌, ap, subst, inl, inr, arith}
use Rattle.std.specs.List.{flat_map}
use Rattle.std.proofs.lemmas.Bool.{and_parts, ltb-true}
use Rattle.std.proofs.lemmas.List.Elements.{filter-append}
use Rattle.plain_lists.specs.Lists.{IsIn, here, there, Each}
use Rattle.plain_lists.proofs.Members.{each_none, none_in, in_cases}
use Rattle.message_types.specs.declared.signed.Signed.{Signed}
use Rattle.message_types.specs.declared.body.Body.{Body}
use Rattle.message_types.specs.Parts.{parts, inside}
use Rattle.message_types.specs.Texts.{body_text}
use Rattle.protocol_rules.specs.Places.{in_place}
use Rattle.protocol_rules.specs.Master.{Heard, learned, taken_frames}
use Rattle.history_rules.specs.Events.{Event, Took, Entry, frame_taken, is_tick, is_silent}
use Rattle.history_rules.specs.Setup.{Setup, stands, is_correct_master}
use Rattle.history_rules.specs.Legal.{IsLegal, TakesWell, heard}
use Rattle.agreement.specs.Laws.{HasSizes}
use Rattle.agreement.proofs.Places.{by_growth, legal_before, stands_last}
use Rattle.agreement.proofs.KnownAsItGrows.{learned_by, known_then, known_then_from, heard_more, heard_last, Source}
use Rattle.agreement.proofs.KnownAsItGrows.{from_frame, from_word, from_inside, learned_last, correct_said}
use Rattle.agreement.proofs.LearnedWasSaid.{heard_none}
use Rattle.words_in_place.specs.Laws.{ticks_heard, MaySpeak, LearnedIsInPlace}
use Rattle.words_in_place.proofs.Limits.{all_from, all_each, filter_more}
use Rattle.words_in_place.proofs.Speaking.{own_frame}

-- the parts of a frame that stands
taken_placed : (w : Setup) (now : ℕ) (event : Event) → TakesWell w now event →
    Each (λ p. in_place w.group p ≡ true) (flat_map parts (taken_frames (frame_taken event)))
unfolding stands
taken_placed w now (Took stamp place frame) well = (λ p h. elim (in_cases (parts frame) h) [
  | inl part ↦ (and_parts _ _
      (all_each (λ p. nat_lt p.signer (w.group.n + w.group.clients) && w.signs p.signer (body_text p.body) p.sig
      && in_place w.group p) (parts frame) (and_parts _ _ well.0).1 p part)).1
  | inr none ↦ absurd (none_in none)
])
taken_placed w now _ well = each_none _

pub ticks_more : (xs ys : List Heard) → ticks_heard xs ≤ ticks_heard (xs ++ ys)
ticks_more xs ys =
    let both : ticks_heard (xs ++ ys) ≡ ticks_heard xs + ticks_heard ys =
    ap length (filter-append (λ e. e.is_tick) xs ys) ∙ length-append (filter (λ e. e.is_tick) xs)
    (filter (λ e. e.is_tick) ys) in
    omega arith

module _ (w : Setup) (i : ℕ) (sizes : HasSizes w.group) (correct : is_correct_master w i ≡ true) where
  -- what is shown of a history as it grows
  abbrev StaysPlaced : List Entry → Type 0
  StaysPlaced history = IsLegal w history → ticks_heard (heard w history i) ≤ 2 ^ 32 →
      Each (λ p. in_place w.group p ≡ true) (learned_by w history i)

  pub ticks_before : (before : List Entry) (e : Entry) → ticks_heard (heard w (before ++ e ∷ []) i) ≤ 2 ^ 32 →
      ticks_heard (heard w before i) ≤ 2 ^ 32
  ticks_before before e few =
      let grown = heard_more w before (e ∷ []) i in
      let less : ticks_heard (heard w before i) ≤ ticks_heard (heard w before i ++ grown.0) =
      ticks_more (heard w before i) grown.0 in
      let same : ticks_heard (heard w (before ++ e ∷ []) i) ≡ ticks_heard (heard w before i ++ grown.0) =
      ap ticks_heard grown.1 in
      omega arith

  pub ticks_now : (before : List Entry) (e : Entry) → e.actor ≡ i → is_silent e.event ≡ false →
      ticks_heard (heard w (before ++ e ∷ []) i) ≤ 2 ^ 32
      → ticks_heard (heard w before i) + cond (is_tick e.event) 1 0 ≤ 2 ^ 32
  ticks_now before e by loud few =
      let last = heard_last w before e i by loud in
      subst (λ (k : ℕ). k ≤ 2 ^ 32)
      (ap ticks_heard last.1 ∙ filter_more (λ (e : Heard). e.is_tick) (heard w before i) _) few

  known_placed : (before : List Entry) (e : Entry) → TakesWell w (length before) e.event →
      Each (λ p. in_place w.group p ≡ true) (learned_by w before i) →
      Each (λ p. in_place w.group p ≡ true) (known_then w before i e)
  known_placed before e well placed p h = elim (known_then_from w before i e p h) [
    | inl earlier ↦ placed p earlier
    | inr now ↦ taken_placed w (length before) e.event well p now
  ]

  by_source : (before : List Entry) (e : Entry) → IsLegal w (before ++ e ∷ []) →
      MaySpeak w.group i (heard w before i) (frame_taken e.event) (is_tick e.event) → e.actor ≡ i
      → (p : Signed Body) → Source w i e p → in_place w.group p ≡ true
  by_source before e legal speaks by p (from_frame h) =
      taken_placed w (length before) e.event (legal.entries before e (stands_last before e)).taken p h
  by_source before e legal speaks by p (from_word signer h) =
      let said = correct_said w i p.body legal (stands_last before e) by correct h in
      own_frame w.group w.orders i (heard w before i) (frame_taken e.event) (is_tick e.event) speaks p signer said.1 p
      (here (inside p.body))
  by_source before e legal speaks by p (from_inside b h k) =
      let said = correct_said w i b legal (stands_last before e) by correct h in
      let frame : Signed Body = record { signer = i; body = b; sig = [] } in
      own_frame w.group w.orders i (heard w before i) (frame_taken e.event) (is_tick e.event) speaks frame refl said.1
      p (there frame (inside b) k)

  learned_next : (before : List Entry) (e : Entry) → StaysPlaced before → StaysPlaced (before ++ e ∷ [])
  learned_next before e earlier legal few p h =
      let placed = earlier (legal_before w before (e ∷ []) legal) (ticks_before before e few) in
      elim (learned_last w before e i p h) [
        | inl older ↦ placed p older
        | inr now ↦ by_source before e legal (record {
          sizes = sizes;
          master = ltb-true i w.group.n (and_parts _ _ correct).0;
          ticks = ticks_now before e now.0 now.1 few;
          placed = all_from (in_place w.group) (known_then w before i e)
              (known_placed before e (legal.entries before e (stands_last before e)).taken placed);
        }) now.0 p now.2
      ]

  none_learned : StaysPlaced []
  none_learned legal few p h =
      absurd (none_in (subst (λ (hs : List Heard). IsIn p (flat_map learned hs)) (heard_none w i) h))

pub learned_is_in_place : LearnedIsInPlace
learned_is_in_place w history i legal sizes correct few =
    all_from (in_place w.group) (learned_by w history i)
    (by_growth (StaysPlaced w i sizes correct) (none_learned w i sizes correct) (learned_next w i sizes correct)
    history legal few)
