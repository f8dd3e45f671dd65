-- Who lacks for longer than its patience what was eligible at it votes: its wait is at least as long as it lacked that, so at
-- its last tick it is impatient, and its vote is due. And who gets in time what it waits for isn't impatient at any tick.
use Rattle.std.proofs.Common.{◌≡◌, ℕ, ◌+◌, ◌<◌, ◌≤◌, Bool, true, false, cond, ◌&&◌, not, List, [], ◌∷◌, ◌++◌}
use Rattle.std.proofs.Common.{filter, length, min, nat_eq, nat_lt, nat_le, refl, sym, ◌∙◌, ap, subst, inl, inr, arith}
use Rattle.std.proofs.Common.{append_assoc, eqb-true}
use Rattle.std.proofs.lemmas.Bool.{false≢true, and_from, and_parts, or_left, cases_Bool, not_from_false, lt-ltb, ltb-true, eq-eqb}
use Rattle.std.proofs.lemmas.Bool.{false_from_ne_true}
use Rattle.std.specs.List.{list_any}
use Rattle.plain_lists.specs.Lists.{IsIn, here, there, Begins}
use Rattle.plain_lists.proofs.Members.{in_cons_cases, in_filter, in_filter_from, in_map, in_map_from, any_from}
use Rattle.quorum_sets.specs.Masters.{numbers_below}
use Rattle.message_types.specs.declared.signed.Signed.{Signed}
use Rattle.message_types.specs.declared.body.Body.{Body}
use Rattle.message_types.specs.declared.body.Body.TheVariants as body
use Rattle.protocol_rules.specs.Words.{greatest_of, best_by}
use Rattle.protocol_rules.specs.Group.{Group, is_live, most_view}
use Rattle.protocol_rules.specs.Facts.{facts_of}
use Rattle.protocol_rules.specs.Matrix.{latest, column, eligible, exceeds}
use Rattle.protocol_rules.specs.Measures.{suspects_said, ticks_of}
use Rattle.protocol_rules.specs.Order.{ordered_run}
use Rattle.protocol_rules.specs.Patience.{Moment, ticks_in, lacks, wait, patience, votes_to, is_vote_due, votes_due}
use Rattle.protocol_rules.specs.Views.{view}
use Rattle.protocol_rules.specs.Master.{Heard, known_at, said_before, latest_rows, moment, moments_of}
use Rattle.protocol_rules.proofs.Numbers.{from_in}
use Rattle.history_rules.specs.Events.{Event, Tick, Entry, frame_taken, is_tick, is_silent}
use Rattle.history_rules.specs.Setup.{Setup, is_correct_master, room, own}
use Rattle.history_rules.specs.Legal.{Stands, IsLegal, heard, known_of}
use Rattle.history_rules.specs.Audit.{HasSaid}
use Rattle.agreement.specs.Laws.{known_by}
use Rattle.agreement.proofs.Places.{by_growth, said_whole, legal_before, whole_upto}
use Rattle.agreement.proofs.KnownAsItGrows.{known_then, hears, heard_more, heard_last}
use Rattle.agreement.proofs.LearnedWasSaid.{FirstSaid, first_said_before}
use Rattle.agreement.proofs.QuorumsStay.{view_more}
use Rattle.agreement.proofs.VouchedIsOrdered.{known_of_last}
use Rattle.words_by_part.specs.Kinds.{is_of, measuring}
use Rattle.words_by_part.specs.Laws.{told_at, moments_at, waiting_at}
use Rattle.progress.specs.Serving.{ticks_among, ordered_to, moments_by, patience_by, is_impatient, is_starved}
use Rattle.progress.specs.Serving.{AreServed, ImpatientVotes, StarvedVotes, ServedArePatient}
use Rattle.progress.proofs.Arriving.{in_more, known_grows, known_upto, tick_loud}
use Rattle.progress.proofs.Saying.{SaidByPart, LastEvent, last_event, known_last, all_is_said, said_by_part}
use Rattle.progress.proofs.Eligible.{column_of_latest}
use Rattle.progress.proofs.Worthy.{reach_within, runs_more, exceeds_less}
use Rattle.progress.proofs.Leaving.{suspect_from}
use Rattle.progress.proofs.Waits.{ticks_heard, ticks_joined, among_joined, counted_alike, ticks_of_moments, ticks_of_told}
use Rattle.progress.proofs.Waits.{ticks_of_entries, moments_joined, moments_split, moments_in_view, wait_at_least, wait_from}
use Rattle.progress.proofs.Waits.{lacks_from, lacks_where, heard_split}

-- whether a master's patience is at its end, by what it knows, its ticks and its moments
abbrev impatient_by : Group → List (Signed Body) → ℕ → List Moment → Bool
impatient_by g known ticks moments = nat_lt (patience g (view g known) ticks) (waiting_at g known moments)

-- At an entry a master goes by what it has heard up to it.
module _ (w : Setup) (before : List Entry) (e : Entry) (m : ℕ) (by : e.actor ≡ m) (loud : is_silent e.event ≡ false) where
  abbrev now : Heard
  now = record { took = frame_taken e.event; is_tick = is_tick e.event; said = [] }

  abbrev ticks_then : ℕ
  ticks_then = ticks_of (told_at w.group (heard w before m) (frame_taken e.event) (is_tick e.event))

  abbrev moments_then : List Moment
  moments_then = moments_at w.group (heard w before m) (frame_taken e.event) (is_tick e.event)

  at : (used : ℕ) × (heard w (before ++ e ∷ []) m ≡ heard w before m ++ hears w m used e ∷ [])
  at = heard_last w before e m by loud

  pub same_ticks : ticks_then ≡ ticks_among (before ++ e ∷ []) m
  same_ticks =
      let told : ticks_then ≡ ticks_heard (heard w before m ++ now ∷ []) = ticks_of_told w.group [] (heard w before m ++ now ∷ []) in
      let one : ticks_heard (heard w before m ++ now ∷ []) ≡ ticks_heard (heard w before m) + ticks_heard (now ∷ []) =
      ticks_joined (heard w before m) (now ∷ []) in
      let two : ticks_heard (heard w before m ++ hears w m at.0 e ∷ []) ≡ ticks_heard (heard w before m)
      + ticks_heard (hears w m at.0 e ∷ []) = ticks_joined (heard w before m) (hears w m at.0 e ∷ []) in
      let alike : ticks_heard (now ∷ []) ≡ ticks_heard (hears w m at.0 e ∷ []) =
      counted_alike (is_tick e.event) now (hears w m at.0 e) [] [] refl in
      let whole : ticks_heard (heard w before m ++ hears w m at.0 e ∷ []) ≡ ticks_among (before ++ e ∷ []) m =
      ap ticks_heard (sym at.1) ∙ ticks_of_entries w m (before ++ e ∷ []) in
      told ∙ one ∙ ap (λ (x : ℕ). ticks_heard (heard w before m) + x) alike ∙ sym two ∙ whole

  pub same_moments : moments_then ≡ moments_by w (before ++ e ∷ []) m
  same_moments = moments_joined w.group [] (heard w before m) (now ∷ [])
      ∙ sym (moments_joined w.group [] (heard w before m) (hears w m at.0 e ∷ []))
      ∙ ap (moments_of w.group []) (sym at.1)

  pub impatient_then : impatient_by w.group (known_then w before m e) ticks_then moments_then
      ≡ is_impatient w (before ++ e ∷ []) m
  impatient_then = ap (λ (ps : List (Signed Body)). impatient_by w.group ps ticks_then moments_then)
      (sym (known_upto w before e m by loud))
      ∙ ap (λ (x : ℕ). impatient_by w.group (known_by w (before ++ e ∷ []) m) x moments_then) same_ticks
      ∙ ap (λ (ms : List Moment). impatient_by w.group (known_by w (before ++ e ∷ []) m) (ticks_among (before ++ e ∷ []) m) ms)
      same_moments

-- the vote against the present view is due where it wasn't said
impatient_vote_due : (g : Group) (known : List (Signed Body)) (said : List Body) (v waiting now : ℕ) (at_tick : Bool) →
    v < most_view → (at_tick && nat_lt (patience g v now) waiting) ≡ true → list_any (suspects_said v) said ≡ false
    → IsIn (body.Suspect record { v = v }) (votes_due g known said v waiting now at_tick)
impatient_vote_due g known said v waiting now at_tick low impatient none =
    in_map (λ (w : ℕ). body.Suspect record { v = w })
    (in_filter (is_vote_due said now v (at_tick && nat_lt (patience g v now) waiting))
    (from_in 0 (min (votes_to g known v (at_tick && nat_lt (patience g v now) waiting)) most_view) v (omega arith)
    (reached (at_tick && nat_lt (patience g v now) waiting) impatient))
    (or_left (not (list_any (suspects_said v) said)) _ (not_from_false (list_any (suspects_said v) said) none)))
  where
    reached : (b : Bool) → b ≡ true → v < 0 + min (votes_to g known v b) most_view
    reached true is = omega (arith, low)
    reached false is = absurd (false≢true is)

module _ (w : Setup) (history before : List Entry) (e : Entry) (m : ℕ) (live : is_live w.group ≡ true)
    (legal : IsLegal w history) (correct : is_correct_master w m ≡ true) (left : 1 ≤ room w (own history m))
    (s : Stands history before e) (by : e.actor ≡ m) (tick : e.event ≡ Tick) where
  abbrev known_there : List (Signed Body)
  known_there = known_then w before m e

  abbrev said_there : List Body
  said_there = said_before (heard w before m)

  abbrev wait_there : ℕ
  wait_there = waiting_at w.group (known_then w before m e) (moments_at w.group (heard w before m) (frame_taken e.event)
      (is_tick e.event))

  abbrev now_there : ℕ
  now_there = ticks_of (told_at w.group (heard w before m) (frame_taken e.event) (is_tick e.event))

  loud_there : is_silent e.event ≡ false
  loud_there = tick_loud e.event tick

  parts_there : SaidByPart w before m e
  parts_there = said_by_part w before m e live (all_is_said w history before e m legal correct left s by loud_there)

  voted_there : (v : ℕ) → v ≡ view w.group known_there → v < most_view → is_impatient w (before ++ e ∷ []) m ≡ true →
      HasSaid history m (body.Suspect record { v = v })
  voted_there v at low impatient = elim (cases_Bool (list_any (suspects_said v) said_there)) [
    | inl was ↦
        let found = any_from (suspects_said v) said_there was in
        let legal_then : IsLegal w before = legal_before w before (e ∷ s.after)
        (subst (λ (xs : List Entry). IsLegal w xs) s.whole legal) in
        let earlier : FirstSaid w before m (body.Suspect record { v = v }) = first_said_before w m
        (body.Suspect record { v = v }) correct before legal_then
        (subst (λ (b : Body). IsIn b said_there) (suspect_from v found.0 found.2) found.1) in
        said_whole s earlier.said
    | inr none ↦
        let patience_ends : (is_tick e.event && nat_lt (patience w.group v now_there) wait_there) ≡ true =
        and_from (is_tick e.event) (nat_lt (patience w.group v now_there) wait_there) (ap is_tick tick)
        (ap (λ (x : ℕ). nat_lt (patience w.group x now_there) wait_there) at ∙ impatient_then w before e m by loud_there
        ∙ impatient) in
        let due : IsIn (body.Suspect record { v = v }) (votes_due w.group known_there said_there (view w.group known_there)
        wait_there now_there (is_tick e.event)) = subst (λ (x : ℕ). IsIn (body.Suspect record { v = v })
        (votes_due w.group known_there said_there x wait_there now_there (is_tick e.event))) at
        (impatient_vote_due w.group known_there said_there v wait_there now_there (is_tick e.event) low patience_ends none) in
        record {
          before = before;
          entry = e;
          place = s;
          by = by;
          among = (in_filter_from (is_of measuring) e.said (subst (λ (bs : List Body). IsIn (body.Suspect record { v = v }) bs)
              (sym parts_there.votes) due)).0;
        }
  ]

pub impatient_votes : ImpatientVotes
impatient_votes w history before e m live legal correct left s by tick low impatient =
    voted_there w history before e m live legal correct left s by tick (view w.group (known_by w (before ++ e ∷ []) m))
    (ap (view w.group) (known_upto w before e m by (tick_loud e.event tick))) low impatient

-- where nothing is known nothing is eligible
all_none : (xs : List ℕ) → ((x : ℕ) → IsIn x xs → x ≡ 0) → greatest_of xs ≡ 0
all_none [] h = refl
all_none (x ∷ xs) h =
    let first : x ≡ 0 = h x (here xs) in
    let rest : greatest_of xs ≡ 0 = all_none xs (λ y k. h y (there x xs k)) in
    omega (arith, first, rest)

none_eligible : (g : Group) (j : ℕ) → eligible g (latest_rows g (known_of [])) j ≡ 0
unfolding eligible known_of latest best_by
none_eligible g j = all_none (filter (λ x. nat_le g.q (length (filter (λ y. nat_le x y) (column (latest_rows g []) j))))
    (column (latest_rows g []) j)) (λ x h.
    let there_is : IsIn x (column (latest_rows g []) j) = (in_filter_from (λ x. nat_le g.q (length (filter (λ y. nat_le x y)
    (column (latest_rows g []) j)))) (column (latest_rows g []) j) h).0 in
    (in_map_from (λ (i : ℕ). 0) (numbers_below g.n) (subst (λ (xs : List ℕ). IsIn x xs) (column_of_latest g [] j)
    there_is)).2)

none_lacks : (g : Group) (f : ℕ → ℕ) → exceeds g (latest_rows g (known_of [])) f ≡ true → ⊥
none_lacks g f e =
    let found = any_from (λ j. nat_lt (f j) (eligible g (latest_rows g (known_of [])) j)) (numbers_below g.n) e in
    let above : f found.0 < eligible g (latest_rows g (known_of [])) found.0 =
    ltb-true (f found.0) (eligible g (latest_rows g (known_of [])) found.0) found.2 in
    let none : eligible g (latest_rows g (known_of [])) found.0 ≡ 0 = none_eligible g found.0 in
    omega (arith, above, none)

one_more_tick : (y : Moment) (ys : List Moment) → ticks_in ys ≤ ticks_in (y ∷ ys)
one_more_tick y ys = by y.is_tick
  where
    by : (b : Bool) → length (filter (λ m. m.is_tick) ys) ≤ length {A = Moment} (cond b (y ∷ filter (λ m. m.is_tick) ys)
        (filter (λ m. m.is_tick) ys))
    by true = omega arith
    by false = omega arith

at_most_one_tick : (y : Moment) (ys : List Moment) → ticks_in (y ∷ ys) ≤ 1 + ticks_in ys
at_most_one_tick y ys = by y.is_tick
  where
    by : (b : Bool) → length {A = Moment} (cond b (y ∷ filter (λ m. m.is_tick) ys) (filter (λ m. m.is_tick) ys))
        ≤ 1 + length (filter (λ m. m.is_tick) ys)
    by true = omega arith
    by false = omega arith

-- the ticks behind a beginning are those of what was heard behind it
ticks_behind : (w : Setup) (m : ℕ) (beginning since : List Entry) (rest : List Heard) →
    heard w (beginning ++ since) m ≡ heard w beginning m ++ rest → ticks_heard rest ≡ ticks_among since m
ticks_behind w m beginning since rest e =
    let whole : ticks_heard (heard w (beginning ++ since) m) ≡ ticks_among (beginning ++ since) m =
    ticks_of_entries w m (beginning ++ since) in
    let first : ticks_heard (heard w beginning m) ≡ ticks_among beginning m = ticks_of_entries w m beginning in
    let joined : ticks_heard (heard w (beginning ++ since) m) ≡ ticks_heard (heard w beginning m) + ticks_heard rest =
    ap ticks_heard e ∙ ticks_joined (heard w beginning m) rest in
    let entries : ticks_among (beginning ++ since) m ≡ ticks_among beginning m + ticks_among since m =
    among_joined beginning since m in
    omega (arith, whole, first, joined, entries)

-- A wait is at least as long as something was lacking.
pub starved_waits : (w : Setup) (beginning since : List Entry) (m v : ℕ) → view w.group (known_by w beginning m) ≡ v
    → view w.group (known_by w (beginning ++ since) m) ≡ v → is_starved w beginning (beginning ++ since) m ≡ true
    → ticks_among since m ≤ wait w.group v (ordered_to w (beginning ++ since) m) (moments_by w (beginning ++ since) m)
starved_waits w beginning since m v came stayed lacking = elim (last_event w m beginning) [
  | inl none ↦ absurd (none_lacks w.group (ordered_to w (beginning ++ since) m)
      (subst (λ (hs : List Heard). exceeds w.group (latest_rows w.group (known_of hs)) (ordered_to w (beginning ++ since) m)
      ≡ true) none lacking))
  | inr last ↦ from_last last
]
  where
    from_last : LastEvent w beginning m → ticks_among since m ≤ wait w.group v (ordered_to w (beginning ++ since) m)
        (moments_by w (beginning ++ since) m)
    from_last last =
        let more = heard_more w beginning since m in
        let rest : List Heard = more.0 in
        let hs : List Heard = heard w last.before m in
        let h : Heard = hears w m last.used last.entry in
        let y : Moment = moment w.group (known_then w last.before m last.entry) (is_tick last.entry.event) in
        let ys : List Moment = moments_of w.group (heard w last.before m ++ hears w m last.used last.entry ∷ []) more.0 in
        let whole : heard w (beginning ++ since) m ≡ (heard w last.before m ++ hears w m last.used last.entry ∷ []) ++ more.0 =
        more.1 ∙ ap (λ (xs : List Heard). xs ++ rest) last.heard_all in
        let parts : moments_by w (beginning ++ since) m ≡ moments_of w.group [] (heard w last.before m)
        ++ moment w.group (known_then w last.before m last.entry) (is_tick last.entry.event)
        ∷ moments_of w.group (heard w last.before m ++ hears w m last.used last.entry ∷ []) more.0 =
        ap (moments_of w.group []) whole ∙ moments_joined w.group [] (hs ++ h ∷ []) rest
        ∙ ap (λ (ms : List Moment). ms ++ ys) (moments_joined w.group [] hs (h ∷ []))
        ∙ append_assoc (moments_of w.group [] hs) (y ∷ []) ys in
        let then_known : known_of (heard w last.before m ++ hears w m last.used last.entry ∷ []) ≡
        known_then w last.before m last.entry = known_of_last hs h in
        let first_view : view w.group (known_then w last.before m last.entry) ≡ v =
        ap (view w.group) (sym (known_last w beginning m last)) ∙ came in
        let all : (x : Moment) → IsIn x (y ∷ ys) → nat_eq x.view v ≡ true = λ x k. elim (in_cons_cases k) [
          | inl same ↦ eq-eqb x.view v (ap (λ (z : Moment). z.view) same ∙ first_view)
          | inr later ↦ moments_in_view w.group (hs ++ h ∷ []) rest v (ap (view w.group) then_known ∙ first_view)
              (ap (λ (xs : List Heard). view w.group (known_of xs)) (sym whole) ∙ stayed) x later
        ] in
        let long : ticks_in (y ∷ ys) ≤ wait w.group v (ordered_to w (beginning ++ since) m)
        (moments_of w.group [] (heard w last.before m) ++ y ∷ ys) = wait_at_least w.group v
        (ordered_to w (beginning ++ since) m) (moments_of w.group [] hs) y ys all (lacks_where w.group
        (known_then w last.before m last.entry) (is_tick last.entry.event) (ordered_to w (beginning ++ since) m)
        (subst (λ (ps : List (Signed Body)). exceeds w.group (latest_rows w.group ps) (ordered_to w (beginning ++ since) m)
        ≡ true) (known_last w beginning m last) lacking)) in
        let in_wait : ticks_in (y ∷ ys) ≤ wait w.group v (ordered_to w (beginning ++ since) m)
        (moments_by w (beginning ++ since) m) = subst (λ (ms : List Moment). ticks_in (y ∷ ys) ≤ wait w.group v
        (ordered_to w (beginning ++ since) m) ms) (sym parts) long in
        let some : ticks_in ys ≤ ticks_in (y ∷ ys) = one_more_tick y ys in
        let of_rest : ticks_in ys ≡ ticks_heard more.0 = ticks_of_moments w.group (hs ++ h ∷ []) rest in
        let behind : ticks_heard more.0 ≡ ticks_among since m = ticks_behind w m beginning since rest more.1 in
        omega (arith, in_wait, some, of_rest, behind)

pub tick_is : (event : Event) → is_tick event ≡ true → event ≡ Tick
tick_is Tick e = refl
tick_is _ e = absurd (false≢true e)

-- the last tick of a master among entries
abbrev LastTick : ℕ → List Entry → Type 0
LastTick m xs = (first : List Entry) × (e : Entry) × (rest : List Entry) × (xs ≡ first ++ e ∷ rest) × (e.actor ≡ m)
    × (e.event ≡ Tick) × (ticks_among rest m ≡ 0)

last_tick : (m : ℕ) (xs : List Entry) → 1 ≤ ticks_among xs m → LastTick m xs
last_tick m = by_growth (λ (xs : List Entry). 1 ≤ ticks_among xs m → LastTick m xs) (λ none. absurd (omega (arith, none))) one_more
  where
    one_more : (before : List Entry) (e : Entry) → (1 ≤ ticks_among before m → LastTick m before) →
        1 ≤ ticks_among (before ++ e ∷ []) m → LastTick m (before ++ e ∷ [])
    one_more before e so_far some = elim (cases_Bool (nat_eq e.actor m && is_tick e.event)) [
      | inl tick ↦
          let both = and_parts (nat_eq e.actor m) (is_tick e.event) tick in
          (before, e, [], refl, eqb-true e.actor m both.0, tick_is e.event both.1, refl)
      | inr none ↦
          let joined : ticks_among (before ++ e ∷ []) m ≡ ticks_among before m + ticks_among (e ∷ []) m =
          among_joined before (e ∷ []) m in
          let last : ticks_among (e ∷ []) m ≡ 0 = ap (λ (b : Bool). length {A = Entry} (cond b (e ∷ []) [])) none in
          let found = so_far (omega (arith, some, joined, last)) in
          let rest : ticks_among (found.2 ++ e ∷ []) m ≡ ticks_among found.2 m + ticks_among (e ∷ []) m =
          among_joined found.2 (e ∷ []) m in
          let before_it : ticks_among found.2 m ≡ 0 = found.6 in (
            found.0,
            found.1,
            found.2 ++ e ∷ [],
            ap (λ (xs : List Entry). xs ++ e ∷ []) found.3 ∙ append_assoc found.0 (found.1 ∷ found.2) (e ∷ []),
            found.4,
            found.5,
            omega (arith, rest, last, before_it),
          )
    ]

-- what is ordered only grows
pub ordered_more : (w : Setup) (m j : ℕ) (before whole : List Entry) → Begins before whole →
    ordered_to w before m j ≤ ordered_to w whole m j
ordered_more w m j before whole b = reach_within w.group (ordered_run w.group (facts_of w.group (known_by w before m)))
    (ordered_run w.group (facts_of w.group (known_by w whole m))) j (λ x h. in_more (runs_more w.group (known_by w before m)
    (known_by w whole m) (known_grows w whole before m b)) h)

pub view_later : (w : Setup) (m : ℕ) (before whole : List Entry) → Begins before whole →
    view w.group (known_by w before m) ≤ view w.group (known_by w whole m)
view_later w m before whole b = view_more w.group (known_by w before m) (known_by w whole m)
    (λ p h. in_more (known_grows w whole before m b) h)

module _ (w : Setup) (beginning since : List Entry) (m v : ℕ) (live : is_live w.group ≡ true)
    (legal : IsLegal w (beginning ++ since)) (correct : is_correct_master w m ≡ true)
    (left : 1 ≤ room w (own (beginning ++ since) m)) (low : v < most_view)
    (came : view w.group (known_by w beginning m) ≡ v) (stayed : view w.group (known_by w (beginning ++ since) m) ≡ v)
    (lacking : is_starved w beginning (beginning ++ since) m ≡ true)
    (long : patience_by w (beginning ++ since) m v < ticks_among since m) where
  tick : LastTick m since
  tick = last_tick m since (omega (arith, long))

  abbrev first : List Entry
  first = tick.0

  abbrev e : Entry
  e = tick.1

  abbrev rest : List Entry
  rest = tick.2

  -- up to it
  abbrev upto : List Entry
  upto = beginning ++ (tick.0 ++ tick.1 ∷ [])

  since_is : since ≡ (tick.0 ++ tick.1 ∷ []) ++ tick.2
  since_is = tick.3 ∙ sym (append_assoc first (e ∷ []) rest)

  whole_is : beginning ++ since ≡ upto ++ tick.2
  whole_is = ap (λ (xs : List Entry). beginning ++ xs) since_is ∙ sym (append_assoc beginning (first ++ e ∷ []) rest)

  upto_is : upto ≡ (beginning ++ tick.0) ++ tick.1 ∷ []
  upto_is = sym (append_assoc beginning first (e ∷ []))

  begins : Begins upto (beginning ++ since)
  begins = record { rest = rest; same = whole_is }

  there_view : view w.group (known_by w upto m) ≡ v
  there_view =
      let one : view w.group (known_by w beginning m) ≤ view w.group (known_by w upto m) = view_later w m beginning upto
      record { rest = first ++ e ∷ []; same = refl } in
      let two : view w.group (known_by w upto m) ≤ view w.group (known_by w (beginning ++ since) m) =
      view_later w m upto (beginning ++ since) begins in
      omega (arith, one, two, came, stayed)

  there_lacks : is_starved w beginning upto m ≡ true
  there_lacks = exceeds_less w.group (latest_rows w.group (known_by w beginning m)) (ordered_to w (beginning ++ since) m)
      (ordered_to w upto m) (λ j. ordered_more w m j upto (beginning ++ since) begins) lacking

  ticks_upto : ticks_among (tick.0 ++ tick.1 ∷ []) m ≡ ticks_among since m
  ticks_upto =
      let joined : ticks_among since m ≡ ticks_among (tick.0 ++ tick.1 ∷ []) m + ticks_among tick.2 m =
      ap (λ (xs : List Entry). ticks_among xs m) since_is ∙ among_joined (first ++ e ∷ []) rest m in
      let none : ticks_among tick.2 m ≡ 0 = tick.6 in
      omega (arith, joined, none)

  all_ticks : ticks_among upto m ≡ ticks_among (beginning ++ since) m
  all_ticks =
      let one : ticks_among upto m ≡ ticks_among beginning m + ticks_among (tick.0 ++ tick.1 ∷ []) m =
      among_joined beginning (first ++ e ∷ []) m in
      let two : ticks_among (beginning ++ since) m ≡ ticks_among beginning m + ticks_among since m =
      among_joined beginning since m in
      omega (arith, one, two, ticks_upto)

  there_impatient : is_impatient w upto m ≡ true
  there_impatient =
      let waits : ticks_among (tick.0 ++ tick.1 ∷ []) m ≤ wait w.group v (ordered_to w upto m) (moments_by w upto m) =
      starved_waits w beginning (first ++ e ∷ []) m v came there_view there_lacks in
      let patient : patience w.group v (ticks_among upto m) ≡ patience_by w (beginning ++ since) m v =
      ap (patience w.group v) all_ticks in
      ap (λ (x : ℕ). nat_lt (patience w.group x (ticks_among upto m)) (wait w.group x (ordered_to w upto m)
      (moments_by w upto m))) there_view
      ∙ lt-ltb (patience w.group v (ticks_among upto m)) (wait w.group v (ordered_to w upto m) (moments_by w upto m))
      (omega (arith, waits, patient, ticks_upto, long))

  place : Stands (beginning ++ since) (beginning ++ tick.0) tick.1
  place = record {
    after = rest;
    whole = ap (λ (xs : List Entry). beginning ++ xs) tick.3 ∙ sym (append_assoc beginning first (e ∷ rest));
  }

  starved_vote : HasSaid (beginning ++ since) m (body.Suspect record { v = v })
  starved_vote =
      let at : view w.group (known_by w ((beginning ++ tick.0) ++ tick.1 ∷ []) m) ≡ v =
      ap (λ (xs : List Entry). view w.group (known_by w xs m)) (sym upto_is) ∙ there_view in
      subst (λ (x : ℕ). HasSaid (beginning ++ since) m (body.Suspect record { v = x })) at
      (impatient_votes w (beginning ++ since) (beginning ++ first) e m live legal correct left place tick.4 tick.5
      (subst (λ (x : ℕ). x < most_view) (sym at) low)
      (ap (λ (xs : List Entry). is_impatient w xs m) (sym upto_is) ∙ there_impatient))

pub starved_votes : StarvedVotes
starved_votes w history m v live legal correct left low starved =
    subst (λ (xs : List Entry). HasSaid xs m (body.Suspect record { v = v })) (sym starved.whole)
    (starved_vote w starved.beginning starved.since m v live (subst (λ (xs : List Entry). IsLegal w xs) starved.whole legal)
    correct (subst (λ (xs : List Entry). 1 ≤ room w (own xs m)) starved.whole left) low starved.came
    (ap (λ (xs : List Entry). view w.group (known_by w xs m)) (sym starved.whole) ∙ starved.stayed)
    (ap (λ (xs : List Entry). is_starved w starved.beginning xs m) (sym starved.whole) ∙ starved.lacks)
    (subst (λ (xs : List Entry). patience_by w xs m v < ticks_among starved.since m) starved.whole starved.long))

-- A master that is served in time isn't impatient at the end of a beginning in view v.
module _ (w : Setup) (connected : ℕ → Bool) (history : List Entry) (v : ℕ) (served : AreServed w connected v history)
    (upto : List Entry) (begins : Begins upto history) (m : ℕ) (is_m : connected m ≡ true)
    (at : view w.group (known_by w upto m) ≡ v) where
  abbrev waits : ℕ
  waits = wait w.group v (ordered_to w upto m) (moments_by w upto m)

  short : patience_by w upto m v < wait w.group v (ordered_to w upto m) (moments_by w upto m) → ⊥
  short less = elim (wait_from w.group v (ordered_to w upto m) (moments_by w upto m)) [
    | inl none ↦ let is : wait w.group v (ordered_to w upto m) (moments_by w upto m) ≡ 0 = none in omega (arith, is, less)
    | inr found ↦
        let y : Moment = found.1 in
        let ys : List Moment = found.2 in
        let event = moments_split w.group [] (heard w upto m) found.0 y ys found.3 in
        let cut = heard_split w m upto event.0 event.1 event.2 event.3 in
        let known_first : known_by w cut.0 m ≡ known_at event.0 event.1.took = ap known_of cut.3
        ∙ known_of_last event.0 event.1 in
        let in_v : found.1.view ≡ v = eqb-true y.view v (found.4 y (here ys)) in
        let first_view : view w.group (known_by w cut.0 m) ≡ v = ap (view w.group) known_first
        ∙ sym (ap (λ (z : Moment). z.view) event.4) ∙ in_v in
        let lacking : is_starved w cut.0 (cut.0 ++ cut.1) m ≡ true =
        ap (λ (xs : List Entry). is_starved w cut.0 xs m) (sym cut.2)
        ∙ ap (λ (ps : List (Signed Body)). exceeds w.group (latest_rows w.group ps) (ordered_to w upto m)) known_first
        ∙ lacks_from w.group (known_at event.0 event.1.took) event.1.is_tick (ordered_to w upto m)
        (subst (λ (z : Moment). lacks w.group (ordered_to w upto m) z ≡ true) event.4
        found.5) in
        let in_time : ticks_among cut.1 m < patience_by w (cut.0 ++ cut.1) m v = served.served cut.0 cut.1
        (subst (λ (xs : List Entry). Begins xs history) cut.2 begins) m is_m first_view
        (ap (λ (xs : List Entry). view w.group (known_by w xs m)) (sym cut.2) ∙ at) lacking in
        let same : patience_by w (cut.0 ++ cut.1) m v ≡ patience_by w upto m v =
        ap (λ (xs : List Entry). patience_by w xs m v) (sym cut.2) in
        let behind : ticks_heard event.2 ≡ ticks_among cut.1 m = ticks_behind w m cut.0 cut.1 event.2
        (ap (λ (xs : List Entry). heard w xs m) (sym cut.2) ∙ event.3
        ∙ sym (append_assoc event.0 (event.1 ∷ []) event.2)
        ∙ ap (λ (hs : List Heard). hs ++ event.2) (sym cut.3)) in
        let of_rest : ticks_in found.2 ≡ ticks_heard event.2 = ap ticks_in event.5
        ∙ ticks_of_moments w.group (event.0 ++ event.1 ∷ []) event.2 in
        let one : ticks_in (found.1 ∷ found.2) ≤ 1 + ticks_in found.2 = at_most_one_tick y ys in
        let is : wait w.group v (ordered_to w upto m) (moments_by w upto m) ≡ ticks_in (found.1 ∷ found.2) = found.6 in
        omega (arith, in_time, same, behind, of_rest, one, is, less)
  ]

  pub not_impatient : is_impatient w upto m ≡ false
  not_impatient = false_from_ne_true (is_impatient w upto m) (λ impatient. short
      (ltb-true (patience_by w upto m v) (wait w.group v (ordered_to w upto m) (moments_by w upto m))
      (ap (λ (x : ℕ). nat_lt (patience w.group x (ticks_among upto m)) (wait w.group x (ordered_to w upto m)
      (moments_by w upto m))) (sym at) ∙ impatient)))

pub served_are_patient : ServedArePatient
served_are_patient w connected history v served = record {
  patient = λ before e s is_m tick at. not_impatient w connected history v served (before ++ e ∷ [])
      record { rest = s.after; same = whole_upto s } e.actor is_m at;
}
