-- From what is said at one event to what is said at all: in so many ticks, and once, or once and again at some ticks.
use Rattle.std.proofs.Common.{◌≡◌, ℕ, ◌+◌, ◌/◌, ◌%◌, ◌≤◌, Bool, true, false, ◌&&◌, not, List, [], ◌∷◌, ◌++◌, Option}
use Rattle.std.proofs.Common.{length, filter, map, take, nat_eq, refl, sym, ◌∙◌, ap, subst, arith, eqb-true}
use Rattle.std.proofs.lemmas.Bool.{false_from_ne_true}
use Rattle.std.proofs.lemmas.List.{append-nil}
use Rattle.std.proofs.lemmas.Grind.{flat_map-append}
use Rattle.std.specs.List.{list_any}
use Rattle.plain_lists.specs.Lists.{Each}
use Rattle.message_types.specs.declared.signed.Signed.{Signed}
use Rattle.message_types.specs.declared.body.Body.{Body}
use Rattle.protocol_rules.specs.Group.{Group, is_live}
use Rattle.protocol_rules.specs.Measures.{Told, ticks_of}
use Rattle.protocol_rules.specs.Patience.{is_beat}
use Rattle.protocol_rules.specs.Turns.{is_slow_beat}
use Rattle.protocol_rules.specs.Master.{Heard, known_at, taken_at, said_before, told_of, answered_in, answers}
use Rattle.protocol_rules.specs.declared.limits.TheConstants.{BEAT, SLOW_BEAT}
use Rattle.history_rules.specs.Events.{Entry}
use Rattle.history_rules.specs.Setup.{Setup, is_correct_master}
use Rattle.history_rules.specs.Legal.{IsLegal}
use Rattle.words_by_part.specs.Kinds.{is_of}
use Rattle.words_by_part.specs.Laws.{AreByLivePart, moments_at}
use Rattle.words_by_part.proofs.Sorting.{Of}
use Rattle.words_by_part.proofs.Answering.{answers_by_live_part}
use Rattle.progress_bounds.specs.Bounds.{times, ticks_in, words_by, ticks_by}
use Rattle.progress_bounds.proofs.Events.{by_events}
use Rattle.progress_bounds.proofs.Counting.{one, Few, count-append, count-cons, few_take, few_unsaid, few_each, count_within}

-- what was said and the ticks that there were, with one event more
pub said_more : (before : List Heard) (h : Heard) →
    said_before (before ++ h ∷ []) ≡ said_before before ++ map (λ f. f.body) h.said
said_more before h = flat_map-append (λ (e : Heard). map (λ f. f.body) e.said) before (h ∷ [])
    ∙ ap (λ (bs : List Body). said_before before ++ bs) (append-nil (map (λ (f : Signed Body). f.body) h.said))

pub ticks_more : (before : List Heard) (h : Heard) → ticks_in (before ++ h ∷ []) ≡ ticks_in before + one h.is_tick
ticks_more before h =
    let all = count-append (λ (e : Heard). e.is_tick) before (h ∷ []) in
    let last = count-cons (λ (e : Heard). e.is_tick) h [] in
    omega arith

ticks_told : (g : Group) (seen events : List Heard) → ticks_of (told_of g seen events) ≡ ticks_in events
ticks_told g seen [] = refl
ticks_told g seen (e ∷ rest) =
    let deeper : ticks_of (told_of g (seen ++ e ∷ []) rest) ≡ ticks_in rest = ticks_told g (seen ++ e ∷ []) rest in
    let told = count-cons (λ (x : Told). x.is_tick) (now_told g seen e) (told_of g (seen ++ e ∷ []) rest) in
    let heard = count-cons (λ (x : Heard). x.is_tick) e rest in
    omega arith
  where
    now_told : Group → List Heard → Heard → Told
    now_told g seen e = record {
      is_tick = e.is_tick;
      view = Rattle.protocol_rules.specs.Views.view g (known_at seen e.took);
      waits = Rattle.protocol_rules.specs.Master.waits g (known_at seen e.took);
    }

-- the ticks that there were, the present event included
pub now_at : List Heard → Bool → ℕ
now_at before at_tick = ticks_in before + one at_tick

-- what a correct master would say at an event, by its parts
module _ (w : Setup) (m : ℕ) (live : is_live w.group ≡ true) (correct : is_correct_master w m ≡ true) where
  abbrev pub due : List Heard → Option (Signed Body) → Bool → List Body
  due before took at_tick = answers w.group w.orders m before took at_tick

  abbrev pub ByPart : List Heard → Option (Signed Body) → Bool → Type 0
  ByPart before took at_tick = AreByLivePart w.group w.orders m (known_at before took) (taken_at before took) took
      (said_before before) (answered_in before) (moments_at w.group before took at_tick)
      (ticks_in before + one at_tick) at_tick (due before took at_tick)

  pub by_part : (before : List Heard) (took : Option (Signed Body)) (at_tick : Bool) → ByPart before took at_tick
  by_part before took at_tick =
      let h : Heard = record { took = took; is_tick = at_tick; said = [] } in
      subst (λ (now : ℕ). AreByLivePart w.group w.orders m (known_at before took) (taken_at before took) took
      (said_before before) (answered_in before) (moments_at w.group before took at_tick) now at_tick
      (due before took at_tick)) (ticks_told w.group [] (before ++ h ∷ []) ∙ ticks_more before h)
      (answers_by_live_part w.group w.orders m before took at_tick live)

  -- what is said at each event raises a rate
  pub by_rate : (such : Body → Bool) (rate : ℕ → ℕ)
      → ((before : List Heard) (took : Option (Signed Body)) (at_tick : Bool) → (most : ℕ)
      × Few such most (due before took at_tick) × (rate (ticks_in before) + most ≤ rate (ticks_in before + one at_tick)))
      → (history : List Entry) → IsLegal w history → times such (words_by w history m) ≤ rate (ticks_by w history m)
  by_rate such rate each history legal =
      by_events w m (λ hs. times such (said_before hs) ≤ rate (ticks_in hs)) correct (omega arith) step history legal
    where
      step : (before : List Heard) (h : Heard) (r : ℕ) → times such (said_before before) ≤ rate (ticks_in before)
          → map (λ f. f.body) h.said ≡ take r (due before h.took h.is_tick)
          → times such (said_before (before ++ h ∷ [])) ≤ rate (ticks_in (before ++ h ∷ []))
      step before h r was said =
          let at = each before h.took h.is_tick in
          let cut : Few such at.0 (map (λ f. f.body) h.said) = subst (λ (bs : List Body). Few such at.0 bs) (sym said)
          (few_take such r (due before h.took h.is_tick) at.1) in
          let words : times such (said_before (before ++ h ∷ [])) ≡ times such (said_before before)
          + times such (map (λ f. f.body) h.said) = ap (times such) (said_more before h)
          ∙ count-append such (said_before before) (map (λ f. f.body) h.said) in
          let ticks : rate (ticks_in (before ++ h ∷ [])) ≡ rate (ticks_in before + one h.is_tick) =
          ap rate (ticks_more before h) in
          let less : rate (ticks_in before) + at.0 ≤ rate (ticks_in before + one h.is_tick) = at.2 in
          let c : length (filter such (map (λ f. f.body) h.said)) ≤ at.0 = cut.few in
          omega arith

  -- what is said once, and again at some ticks
  pub by_turns : (such : Body → Bool) (rate : ℕ → ℕ) (again : Bool → ℕ → ℕ)
      → ((t : ℕ) (b : Bool) → rate t + again b (t + one b) ≤ rate (t + one b))
      → ((before : List Heard) (took : Option (Signed Body)) (at_tick : Bool)
      → Few such (one (not (list_any such (said_before before))) + again at_tick (ticks_in before + one at_tick))
      (due before took at_tick))
      → (history : List Entry) → IsLegal w history → times such (words_by w history m) ≤ 1 + rate (ticks_by w history m)
  by_turns such rate again grows each history legal =
      by_events w m (λ hs. times such (said_before hs) ≤ 1 + rate (ticks_in hs)) correct (omega arith) step history legal
    where
      step : (before : List Heard) (h : Heard) (r : ℕ) → times such (said_before before) ≤ 1 + rate (ticks_in before)
          → map (λ f. f.body) h.said ≡ take r (due before h.took h.is_tick)
          → times such (said_before (before ++ h ∷ [])) ≤ 1 + rate (ticks_in (before ++ h ∷ []))
      step before h r was said = by (list_any such (said_before before)) refl
        where
          cut : Few such (one (not (list_any such (said_before before))) + again h.is_tick (ticks_in before + one h.is_tick))
              (map (λ f. f.body) h.said)
          cut = subst (λ (bs : List Body). Few such
              (one (not (list_any such (said_before before))) + again h.is_tick (ticks_in before + one h.is_tick)) bs)
              (sym said) (few_take such r (due before h.took h.is_tick) (each before h.took h.is_tick))

          by : (b : Bool) → list_any such (said_before before) ≡ b →
              times such (said_before (before ++ h ∷ [])) ≤ 1 + rate (ticks_in (before ++ h ∷ []))
          by b e =
              let words : times such (said_before (before ++ h ∷ [])) ≡ times such (said_before before)
              + times such (map (λ f. f.body) h.said) = ap (times such) (said_more before h)
              ∙ count-append such (said_before before) (map (λ f. f.body) h.said) in
              let ticks : rate (ticks_in (before ++ h ∷ [])) ≡ rate (ticks_in before + one h.is_tick) =
              ap rate (ticks_more before h) in
              let more = grows (ticks_in before) h.is_tick in
              let now : length (filter such (map (λ f. f.body) h.said)) ≤
              one (not (list_any such (said_before before))) + again h.is_tick (ticks_in before + one h.is_tick) = cut.few in
              let none : times such (said_before before) + one (not (list_any such (said_before before)))
              ≤ 1 + rate (ticks_in before) = before_now b e in
              omega arith
            where
              before_now : (b : Bool) → list_any such (said_before before) ≡ b →
                  times such (said_before before) + one (not (list_any such (said_before before))) ≤ 1 + rate (ticks_in before)
              before_now true e =
                  let is : one (not (list_any such (said_before before))) ≡ 0 = ap (λ t. one (not t)) e in
                  let low = was in
                  omega arith
              before_now false e =
                  let is : one (not (list_any such (said_before before))) ≡ 1 = ap (λ t. one (not t)) e in
                  let low : times such (said_before before) ≤ 0 = (few_unsaid such (said_before before) e).few in
                  omega arith

-- nothing again
abbrev pub never : Bool → ℕ → ℕ
never at_tick now = 0

pub never_grows : (t : ℕ) (b : Bool) → 0 + never b (t + one b) ≤ 0
never_grows t b = omega arith

-- again at the ticks that are a multiple of 16, or of 32
abbrev pub on_beat : Bool → ℕ → ℕ
on_beat at_tick now = one (at_tick && is_beat now)

abbrev pub on_slow_beat : Bool → ℕ → ℕ
on_slow_beat at_tick now = one (at_tick && is_slow_beat now)

pub beat_grows : (t : ℕ) (b : Bool) → t / BEAT + on_beat b (t + one b) ≤ (t + one b) / BEAT
beat_grows t true = by (nat_eq ((t + 1) % 16) 0) refl
  where
    by : (b : Bool) → nat_eq ((t + 1) % 16) 0 ≡ b → t / 16 + one b ≤ (t + 1) / 16
    by true e = let none : (t + 1) % 16 ≡ 0 = eqb-true ((t + 1) % 16) 0 e in omega arith
    by false e = omega arith
beat_grows t false = omega arith

pub slow_beat_grows : (t : ℕ) (b : Bool) → t / SLOW_BEAT + on_slow_beat b (t + one b) ≤ (t + one b) / SLOW_BEAT
slow_beat_grows t true = by (nat_eq ((t + 1) % 32) 0) refl
  where
    by : (b : Bool) → nat_eq ((t + 1) % 32) 0 ≡ b → t / 32 + one b ≤ (t + 1) / 32
    by true e = let none : (t + 1) % 32 ≡ 0 = eqb-true ((t + 1) % 32) 0 e in omega arith
    by false e = omega arith
slow_beat_grows t false = omega arith

-- Of all that is said those that pass are among one part, where only words of the part's kinds pass.
pub few_part : (such : Body → Bool) (kinds : List ℕ) {most : ℕ} → ((b : Body) → such b ≡ true → is_of kinds b ≡ true) →
    (all part : List Body) → filter (is_of kinds) all ≡ part → Few such most part → Few such most all
few_part such kinds within all part e f = record {
  few =
      let same = count_within such (is_of kinds) within all in
      let is : length (filter such (filter (is_of kinds) all)) ≡ length (filter such part) =
      ap (λ (bs : List Body). length (filter such bs)) e in
      let h = f.few in
      omega arith;
}

-- where only words of another kind pass, none of these does
pub few_kind : (such : Body → Bool) (kind other : ℕ) → ((b : Body) → such b ≡ true → Of kind b) → (kind ≡ other → ⊥) →
    (words : List Body) → Each (Of other) words → Few such 0 words
few_kind such kind other is differs words each = few_each such words (λ b h. false_from_ne_true (such b) (λ e.
    differs (sym (is b e) ∙ each b h)))
