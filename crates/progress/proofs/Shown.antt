-- What is eligible of a connected master's requests isn't hidden from the others: a quorum's summaries tell of it, one of them a
-- connected master's, which had certified it and so knew it to be requested; so it was requested, and each connected master has
-- certified it two rounds later.
use Rattle.std.proofs.Common.{◌≡◌, ℕ, ◌+◌, ◌*◌, ◌≤◌, Bool, true, List, [], ◌++◌, Option, Some, None, filter, length, map, nat_le}
use Rattle.std.proofs.Common.{refl, sym, ◌∙◌, ap, subst, arith, append-nil}
use Rattle.std.proofs.lemmas.Bool.{leb-true, le-leb}
use Rattle.std.specs.Prelude.{slice_index}
use Rattle.std.specs.List.{filter_map}
use Rattle.plain_lists.specs.Lists.{IsIn}
use Rattle.plain_lists.proofs.Members.{in_filter_from, in_filter_map_from}
use Rattle.quorum_sets.specs.Masters.{numbers_below, voters}
use Rattle.message_types.specs.declared.signed.Signed.{Signed}
use Rattle.message_types.specs.declared.preordering.PoRequest.{PoRequest}
use Rattle.message_types.specs.declared.preordering.PoSummary.{PoSummary}
use Rattle.message_types.specs.declared.body.Body.{Body}
use Rattle.message_types.specs.declared.body.Body.TheVariants as body
use Rattle.protocol_rules.specs.Words.{greatest_of, greatest_reached}
use Rattle.protocol_rules.specs.Group.{Group}
use Rattle.protocol_rules.specs.Preorder.{vector, update_requested}
use Rattle.protocol_rules.specs.Matrix.{summary_of, tells_more, latest, column, eligible}
use Rattle.protocol_rules.specs.Master.{latest_rows}
use Rattle.history_rules.specs.Events.{Entry}
use Rattle.history_rules.specs.Setup.{Setup, is_correct, is_correct_master}
use Rattle.history_rules.specs.Legal.{IsLegal}
use Rattle.history_rules.specs.Audit.{HasSaid, NothingForged}
use Rattle.agreement.specs.Laws.{HasSizes, known_by}
use Rattle.agreement.proofs.Places.{legal_before, unforged_before}
use Rattle.agreement.proofs.KnownAsItGrows.{known_then, known_learned}
use Rattle.agreement.proofs.FramesInside.{best_in}
use Rattle.agreement.proofs.LearnedWasSaid.{FirstSaid, first_said, due_first, learned_said}
use Rattle.agreement.proofs.QuorumsStay.{filter_more}
use Rattle.agreement.proofs.RequestsAgree.{certified_from, known_in}
use Rattle.progress.specs.Rounds.{AreConnected}
use Rattle.progress.specs.Keeping.{ConnectedAreShown}
use Rattle.progress.proofs.Certifying.{correct_too, below_group, requested_from}
use Rattle.progress.proofs.Turning.{greatest_in}
use Rattle.progress.proofs.Reaching.{reached_in_two_rounds}
use Rattle.progress.proofs.Summing.{numbers_at, vector_has}
use Rattle.progress.proofs.Eligible.{numbers_of, summary_from, count_mapped, column_of_latest}
use Rattle.progress.proofs.Proposed.{said_begun}
use Rattle.progress.proofs.Kept.{connected_among}

-- where a number is eligible a quorum's rows reach it
counted_less : (x k : ℕ) (ys : List ℕ) → k ≤ x → length (filter (nat_le x) ys) ≤ length (filter (nat_le k) ys)
counted_less x k ys low = filter_more (nat_le x) (nat_le k) (λ y e.
    let above : x ≤ y = leb-true x y e in le-leb k y (omega (arith, above, low))) ys

reached_by_quorum : (q k : ℕ) (ys : List ℕ) → 1 ≤ k → k ≤ greatest_reached q ys → q ≤ length (filter (nat_le k) ys)
reached_by_quorum q k ys one reached =
    let passing : List ℕ = filter (λ x. nat_le q (length (filter (λ y. nat_le x y) ys))) ys in
    let found = in_filter_from (λ x. nat_le q (length (filter (λ y. nat_le x y) ys))) ys
    (greatest_in passing (omega (arith, one, reached))) in
    let enough : q ≤ length (filter (nat_le (greatest_of (filter (λ x. nat_le q (length (filter (λ y. nat_le x y) ys))) ys))) ys) =
    leb-true q (length (filter (nat_le (greatest_of passing)) ys)) found.1 in
    let more : length (filter (nat_le (greatest_of (filter (λ x. nat_le q (length (filter (λ y. nat_le x y) ys))) ys))) ys)
    ≤ length (filter (nat_le k) ys) = counted_less (greatest_of passing) k ys reached in
    omega (arith, enough, more)

eligible_reached : (g : Group) (rows : List (List ℕ)) (j k : ℕ) → k ≤ eligible g rows j → k ≤ greatest_reached g.q (column rows j)
unfolding eligible
eligible_reached g rows j k h = h

-- a summary that tells of a number above 0 is there
summary_there : (o : Option (Signed PoSummary)) (j k : ℕ) → 1 ≤ k → k ≤ slice_index (numbers_of o) j →
    (f : Signed PoSummary) × (o ≡ Some f) × (k ≤ slice_index f.body.numbers j)
summary_there None j k one low = absurd (omega (arith, one, low))
summary_there (Some f) j k one low = (f, refl, low)

-- the frame of a latest summary
latest_known : (known : List (Signed Body)) (i : ℕ) (f : Signed PoSummary) → latest known i ≡ Some f →
    (p : Signed Body) × IsIn p known × (p.signer ≡ i) × (p.body ≡ body.PoSummary f.body)
unfolding latest
latest_known known i f e =
    let found = in_filter_map_from (summary_of i) known (best_in tells_more (filter_map (summary_of i) known) e) in
    let is = summary_from i found.0.signer found.0.body found.0.sig f found.2 in
    (found.0, found.1, is.0, is.1)

module _ (w : Setup) (connected : ℕ → Bool) (history : List Entry) (legal : IsLegal w history) (sizes : HasSizes w.group)
    (unforged : NothingForged w history) (are : AreConnected w connected) (j k : ℕ) (one : 1 ≤ k)
    (right : is_correct_master w j ≡ true) where
  -- a number that a correct master's summary tells of it had certified, so it was requested
  summed_requested : (m : ℕ) → is_correct_master w m ≡ true → (s : PoSummary) → HasSaid history m (body.PoSummary s) →
      k ≤ slice_index s.numbers j → (r : PoRequest) × HasSaid history j (body.PoRequest r) × (r.k ≡ k)
  summed_requested m correct s said low =
      let first : FirstSaid w history m (body.PoSummary s) = first_said w m (body.PoSummary s) correct history legal said in
      let due = due_first w history m (body.PoSummary s) first in
      let known : List (Signed Body) = known_then w first.said.before m first.said.entry in
      let is : s.numbers ≡ map (vector w.group (known_then w first.said.before m first.said.entry)) (numbers_below w.group.n) =
      due.1 in
      let at : slice_index s.numbers j ≡ vector w.group (known_then w first.said.before m first.said.entry) j =
      ap (λ (xs : List ℕ). slice_index xs j) is ∙ numbers_at (vector w.group known) w.group.n j (below_group w j right) in
      let there_is = vector_has w.group known j k one (omega (arith, at, low)) in
      let request = certified_from w.group known j k there_is.0 there_is.1 in
      let frame = in_filter_map_from (update_requested j k) request.0 request.2 in
      let word = requested_from j k frame.0.signer frame.0.body frame.0.sig there_is.0 frame.2 in
      let was : HasSaid history frame.0.signer frame.0.body = learned_said w m history legal unforged correct frame.0
      (known_learned w m first.said.place first.said.by first.loud frame.0 (request.1 frame.0 frame.1))
      (subst (λ (x : ℕ). is_correct w x ≡ true) (sym word.2) (correct_too w j right)) in (
        word.0,
        subst (λ (x : ℕ). HasSaid history x (body.PoRequest word.0)) word.2
            (subst (λ (b : Body). HasSaid history frame.0.signer b) word.1 was),
        word.3,
      )

  pub eligible_requested : (i : ℕ) → is_correct_master w i ≡ true → k ≤ eligible w.group (latest_rows w.group (known_by w history i)) j
      → (r : PoRequest) × HasSaid history j (body.PoRequest r) × (r.k ≡ k)
  eligible_requested i correct reached =
      let known : List (Signed Body) = known_by w history i in
      let value : ℕ → ℕ = λ m. slice_index (numbers_of (latest known m)) j in
      let rows : List (List ℕ) = latest_rows w.group (known_by w history i) in
      let enough : w.group.q ≤ length (filter (nat_le k) (column (latest_rows w.group (known_by w history i)) j)) =
      reached_by_quorum w.group.q k (column rows j) one (eligible_reached w.group rows j k reached) in
      let counted : length (filter (nat_le k) (column (latest_rows w.group (known_by w history i)) j)) ≡
      length (voters (λ m. nat_le k (slice_index (numbers_of (latest (known_by w history i) m)) j)) w.group.n) =
      ap (λ (xs : List ℕ). length (filter (nat_le k) xs)) (column_of_latest w.group known j)
      ∙ count_mapped value (nat_le k) (numbers_below w.group.n) in
      let quorum : w.group.q ≡ 2 * w.group.f + w.group.k + 1 = sizes.quorum in
      let found = connected_among w.group connected (λ m. nat_le k (slice_index (numbers_of (latest (known_by w history i) m)) j))
      sizes are.enough (omega (arith, enough, counted, quorum)) in
      let summary = summary_there (latest known found.0) j k one (leb-true k (value found.0) found.2) in
      let frame = latest_known known found.0 summary.0 summary.1 in
      let correct_one : is_correct_master w found.0 ≡ true = are.correct found.0 found.1 in
      let was : HasSaid history frame.0.signer frame.0.body = learned_said w i history legal unforged correct frame.0
      (known_in w history history i record { rest = []; same = sym (append-nil history) } frame.0 frame.1)
      (subst (λ (x : ℕ). is_correct w x ≡ true) (sym frame.2) (correct_too w found.0 correct_one)) in
      summed_requested found.0 correct_one summary.0.body (subst (λ (x : ℕ). HasSaid history x (body.PoSummary summary.0.body)) frame.2
      (subst (λ (b : Body). HasSaid history frame.0.signer b) frame.3 was)) summary.2

pub connected_are_shown : ConnectedAreShown
connected_are_shown w connected beginning first second live legal sizes unforged are fair next left upto begins i j k is_i is_j one reached
    m is_m =
    let two : List Entry = (beginning ++ first) ++ second in
    let legal_first : IsLegal w beginning = legal_before w beginning first (legal_before w (beginning ++ first) second legal) in
    let unforged_first : NothingForged w beginning = unforged_before w beginning first
    (unforged_before w (beginning ++ first) second unforged) in
    let r = eligible_requested w connected upto (legal_before w upto begins.rest
    (subst (λ (xs : List Entry). IsLegal w xs) begins.same legal_first)) sizes (unforged_before w upto begins.rest
    (subst (λ (xs : List Entry). NothingForged w xs) begins.same unforged_first)) are j k one (are.correct j is_j) i
    (are.correct i is_i) reached in
    let certified_there : r.0.k ≤ vector w.group (known_by w ((beginning ++ first) ++ second) m) j = reached_in_two_rounds w connected
    beginning first second live legal unforged are fair next left j r.0 is_j (said_begun begins r.1) m is_m in
    let same : r.0.k ≡ k = r.2 in
    omega (arith, certified_there, same)
