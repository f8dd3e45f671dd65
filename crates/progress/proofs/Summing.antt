-- Summaries: at a tick a master that has more certified than it told says so; a correct master's summaries only rise, so
-- the latest known of it, the one that tells most, tells at least what any other one does.
use Rattle.std.proofs.Common.{◌≡◌, ℕ, ◌+◌, ◌<◌, ◌≤◌, zero, suc, Bool, true, false, cond, not, List, [], ◌∷◌, ◌++◌}
use Rattle.std.proofs.Common.{Option, Some, None, map, length, refl, sym, ◌∙◌, ap, subst, inl, inr, ◌⊎◌, arith}
use Rattle.std.proofs.Common.{append_assoc}
use Rattle.std.proofs.lemmas.Bool.{and_from, cases_Bool, cases_lt, not_from_false}
use Rattle.std.specs.Prelude.{slice_index}
use Rattle.std.specs.List.{filter_map}
use Rattle.std.specs.Str.{bytes_eq}
use Rattle.plain_lists.specs.Lists.{IsIn, here, there, Begins}
use Rattle.plain_lists.proofs.Members.{in_right, in_filter_map_from, in_filter_from, some_same, none_some}
use Rattle.quorum_sets.specs.Masters.{numbers_below}
use Rattle.quorum_sets.proofs.Numbered.{numbered_at}
use Rattle.message_types.specs.declared.signed.Signed.{Signed}
use Rattle.message_types.specs.declared.updates.Update.{Update}
use Rattle.message_types.specs.declared.preordering.PoSummary.{PoSummary}
use Rattle.message_types.specs.declared.body.Body.{Body}
use Rattle.message_types.specs.declared.body.Body.TheVariants as body
use Rattle.protocol_rules.specs.Words.{run_from}
use Rattle.protocol_rules.specs.Group.{Group, is_live, most_number}
use Rattle.protocol_rules.specs.Preorder.{certified, vector}
use Rattle.protocol_rules.specs.Master.{said_before, summary_in, last_or, summaries_due}
use Rattle.protocol_rules.proofs.Numbers.{length-run_from}
use Rattle.history_rules.specs.Events.{Entry, is_silent, is_tick}
use Rattle.history_rules.specs.Setup.{Setup, is_correct_master, room, own}
use Rattle.history_rules.specs.Legal.{Stands, IsLegal, heard}
use Rattle.history_rules.specs.Audit.{HasSaid}
use Rattle.agreement.specs.Laws.{known_by}
use Rattle.agreement.proofs.Places.{said_whole, legal_before}
use Rattle.agreement.proofs.KnownAsItGrows.{known_then}
use Rattle.agreement.proofs.FramesInside.{bytes_same}
use Rattle.agreement.proofs.LearnedWasSaid.{FirstSaid, first_said_before}
use Rattle.agreement.proofs.VouchedIsOrdered.{certified_stays}
use Rattle.words_by_part.specs.Kinds.{is_of, summing}
use Rattle.progress.specs.Rounds.{HasTick}
use Rattle.progress.proofs.Arriving.{known_grows, known_upto, stands_in_round, tick_loud}
use Rattle.progress.proofs.Saying.{SaidByPart, all_is_said, said_by_part}
use Rattle.progress.proofs.Reaching.{vector_reaches}

-- there is something as far as a run goes
pub run_has : {X : Type 0} (f : ℕ → Option X) (start most k : ℕ) → start ≤ k → k < start + length (run_from f start most) →
    (x : X) × (f k ≡ Some x)
unfolding run_from
run_has f start zero k low high = absurd (omega arith)
run_has {X} f start (suc most) k low high = by (f start) refl high (λ above below. run_has f (suc start) most k above below)
  where
    by : (o : Option X) → f start ≡ o
        → k < start + length {A = X} (elim o [ None ↦ [] | Some x ↦ x ∷ run_from f (suc start) most ])
        → (suc start ≤ k → k < suc start + length (run_from f (suc start) most) → (x : X) × (f k ≡ Some x))
        → (x : X) × (f k ≡ Some x)
    by None e less later = absurd (omega arith)
    by (Some x) e less later = elim (cases_lt start k) [
      | inl above ↦ later above (omega arith)
      | inr same ↦ let is : start ≡ k = omega arith in (x, subst (λ (i : ℕ). f i ≡ Some x) is e)
    ]

pub vector_has : (g : Group) (known : List (Signed Body)) (j i : ℕ) → 1 ≤ i → i ≤ vector g known j →
    (u : Update) × (certified g known j i ≡ Some u)
unfolding vector
vector_has g known j i above below = run_has (λ k. certified g known j k) 1 most_number i above (omega arith)

vector_low : (g : Group) (known : List (Signed Body)) (j : ℕ) → vector g known j ≤ most_number
unfolding vector
vector_low g known j = length-run_from (λ k. certified g known j k) 1 most_number

-- vectors only rise
pub vector_more : (g : Group) (known more : List (Signed Body)) (j : ℕ) → Begins known more → vector g known j ≤ vector g more j
vector_more g known more j b = vector_reaches g more j (vector g known j) (vector_low g known j) (λ i above below.
    let has = vector_has g known j i above below in (
      has.0,
      subst (λ (ps : List (Signed Body)). certified g ps j i ≡ Some has.0) (sym b.same)
          (certified_stays g known b.rest j i has.0 has.1),
    ))

pub numbers_at : (f : ℕ → ℕ) (n j : ℕ) → j < n → slice_index (map f (numbers_below n)) j ≡ f j
numbers_at f n j low = numbered_at f n j 0 low

-- the last of some lists is the first one given, or one of them
last_or_in : (first : List ℕ) (xs : List (List ℕ)) → (last_or first xs ≡ first) ⊎ IsIn (last_or first xs) xs
last_or_in first [] = inl refl
last_or_in first (x ∷ xs) = elim (last_or_in x xs) [
  | inl same ↦ inr (subst (λ (z : List ℕ). IsIn z (x ∷ xs)) (sym same) (here xs))
  | inr later ↦ inr (there x xs later)
]

summary_in_from : (b : Body) (numbers : List ℕ) → summary_in b ≡ Some numbers → b ≡ body.PoSummary record { numbers = numbers }
summary_in_from (body.PoSummary b) numbers e = ap (λ (x : List ℕ). body.PoSummary record { numbers = x }) (some_same e)
summary_in_from _ numbers e = absurd (none_some e)

-- the summary of what is certified, where it isn't the last that was told
summary_due : (g : Group) (known : List (Signed Body)) (said : List Body) (at_tick : Bool) → at_tick ≡ true
    → bytes_eq (map (vector g known) (numbers_below g.n))
    (last_or (map (λ j. 0) (numbers_below g.n)) (filter_map summary_in said)) ≡ false
    → IsIn (body.PoSummary record { numbers = map (vector g known) (numbers_below g.n) }) (summaries_due g known said at_tick)
summary_due g known said at_tick tick new = subst (λ (b : Bool). IsIn (body.PoSummary record { numbers = now })
    (cond b (body.PoSummary record { numbers = now } ∷ []) []))
    (sym (and_from at_tick (not (bytes_eq now (last_or (map (λ j. 0) (numbers_below g.n)) (filter_map summary_in said))))
    tick (not_from_false _ new))) (here [])
  where
    now : List ℕ
    now = map (vector g known) (numbers_below g.n)

-- At a tick behind a beginning by which a master has requests of another certified, it has told so.
pub summed_up : (w : Setup) (beginning round : List Entry) (m j k : ℕ) → is_live w.group ≡ true
    → IsLegal w (beginning ++ round) → is_correct_master w m ≡ true → 1 ≤ room w (own (beginning ++ round) m)
    → HasTick round m → j < w.group.n → 1 ≤ k → k ≤ vector w.group (known_by w beginning m) j
    → (s : PoSummary) × HasSaid (beginning ++ round) m (body.PoSummary s) × (k ≤ slice_index s.numbers j)
summed_up w beginning round m j k live legal correct left t low one reaches = by_last (cases_Bool (bytes_eq now last))
  where
    history : List Entry
    history = beginning ++ round

    before : List Entry
    before = beginning ++ t.before

    e : Entry
    e = t.entry

    place : Stands history before e
    place = stands_in_round beginning t.place

    loud : is_silent e.event ≡ false
    loud = tick_loud e.event t.tick

    known : List (Signed Body)
    known = known_then w before m e

    said : List Body
    said = said_before (heard w before m)

    now : List ℕ
    now = map (vector w.group known) (numbers_below w.group.n)

    none : List ℕ
    none = map (λ i. 0) (numbers_below w.group.n)

    last : List ℕ
    last = last_or none (filter_map summary_in said)

    grown : Begins (known_by w beginning m) known
    grown = subst (λ (ps : List (Signed Body)). Begins (known_by w beginning m) ps) (known_upto w before e m t.by loud)
        (known_grows w (before ++ e ∷ []) beginning m
        record { rest = t.before ++ e ∷ []; same = append_assoc beginning t.before (e ∷ []) })

    enough : k ≤ slice_index now j
    enough =
        let more : vector w.group (known_by w beginning m) j ≤ vector w.group known j =
        vector_more w.group (known_by w beginning m) known j grown in
        let at : slice_index now j ≡ vector w.group known j = numbers_at (vector w.group known) w.group.n j low in
        omega arith

    parts : SaidByPart w before m e
    parts = said_by_part w before m e live (all_is_said w history before e m legal correct left place t.by loud)

    by_last : (bytes_eq now last ≡ true) ⊎ (bytes_eq now last ≡ false) →
        (s : PoSummary) × HasSaid history m (body.PoSummary s) × (k ≤ slice_index s.numbers j)
    by_last (inr new) = (
      record { numbers = now },
      record {
        before = before;
        entry = e;
        place = place;
        by = t.by;
        among = (in_filter_from (is_of summing) e.said
            (subst (λ (bs : List Body). IsIn (body.PoSummary record { numbers = now }) bs) (sym parts.summaries)
            (in_right _ (summary_due w.group known said (is_tick e.event) (ap is_tick t.tick) new)))).0;
      },
      enough,
    )
    by_last (inl same) = elim (last_or_in none (filter_map summary_in said)) [
      | inl empty ↦
          let is : now ≡ none = bytes_same now last same ∙ empty in
          let zeros : slice_index now j ≡ 0 = ap (λ (xs : List ℕ). slice_index xs j) is
          ∙ numbers_at (λ i. 0) w.group.n j low in
          let reached : k ≤ slice_index now j = enough in
          absurd (omega (arith, one, zeros, reached))
      | inr told ↦
          let found = in_filter_map_from summary_in said told in
          let legal_then : IsLegal w before = legal_before w before (e ∷ place.after)
          (subst (λ (xs : List Entry). IsLegal w xs) place.whole legal) in
          let earlier : FirstSaid w before m found.0 = first_said_before w m found.0 correct before legal_then found.1 in (
            record { numbers = last },
            subst (λ (b : Body). HasSaid history m b) (summary_in_from found.0 last found.2)
                (said_whole place earlier.said),
            subst (λ (xs : List ℕ). k ≤ slice_index xs j) (bytes_same now last same) enough,
          )
    ]
