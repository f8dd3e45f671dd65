-- What a quorum committed no later view changes: by the induction on views, with the new views that correct masters
-- learned.
use Rattle.std.proofs.Common.{◌≡◌, ℕ, ◌+◌, ◌-◌, ◌<◌, ◌≤◌, zero, suc, not, true, List, [], ◌∷◌, ◌++◌, Option, Some}
use Rattle.std.proofs.Common.{None, filter, length, map, nat_eq, nat_lt, refl, sym, ◌∙◌, ap, subst, inl, inr, ◌⊎◌}
use Rattle.std.proofs.Common.{arith, eqb-true}
use Rattle.std.proofs.lemmas.Bool.{and_parts, ltb-true, cases_lt}
use Rattle.std.specs.Prelude.{slice_get}
use Rattle.std.specs.List.{filter_map, flat_map, find}
use Rattle.std.specs.Option.{option_map}
use Rattle.plain_lists.specs.Lists.{IsIn, here, there, Within, Each}
use Rattle.plain_lists.proofs.Members.{each_map, in_left, in_right, in_cons_cases, in_map, in_map_from, in_flat_map, in_flat_map_from, in_filter, in_filter_from, in_filter_map, in_filter_map_from, find_some, any_from, some_same, none_some}
use Rattle.protocol_rules.proofs.FirstMet.{first_in, first_met_from}
use Rattle.quorum_sets.specs.Masters.{numbers_below, has_master}
use Rattle.message_types.specs.declared.signed.Signed.{Signed}
use Rattle.message_types.specs.declared.ordering.Prepare.{Prepare}
use Rattle.message_types.specs.declared.ordering.Certificate.{Certificate}
use Rattle.message_types.specs.declared.views.Report.{Report}
use Rattle.message_types.specs.declared.views.NewView.{NewView}
use Rattle.message_types.specs.declared.views.Plan.{Plan}
use Rattle.message_types.specs.declared.body.Body.{Body}
use Rattle.message_types.specs.declared.body.Body.TheVariants as body
use Rattle.message_types.specs.Parts.{inside, inside_report, as_frame, frames_of}
use Rattle.message_types.specs.Spelling.{signers_of}
use Rattle.message_types.specs.Digests.{digest_of_rows}
use Rattle.protocol_rules.specs.declared.facts.OrderFact.{OrderFact}
use Rattle.protocol_rules.specs.declared.facts.OrderFact.TheVariants as fact
use Rattle.protocol_rules.specs.Words.{numbers_from}
use Rattle.protocol_rules.specs.Group.{Group, window}
use Rattle.protocol_rules.specs.Facts.{facts_of, rows_known}
use Rattle.protocol_rules.specs.Plans.{plan_of, planned, certificates_of, base_of, last_of, digest_below}
use Rattle.protocol_rules.specs.Order.{prepared, is_voted, prepare_by, stable, in_window, least_prepared}
use Rattle.protocol_rules.specs.Order.{certificate_of, last_certificate, certificates_below, plan_in}
use Rattle.protocol_rules.specs.Views.{view}
use Rattle.protocol_rules.proofs.Numbers.{from_below, from_in}
use Rattle.history_rules.specs.Events.{Entry}
use Rattle.history_rules.specs.Setup.{Setup, is_correct_master}
use Rattle.history_rules.specs.Legal.{IsLegal}
use Rattle.history_rules.specs.Audit.{HasSaid}
use Rattle.agreement.specs.Laws.{IsSound, Start}
use Rattle.agreement.proofs.QuorumsMeet.{rising_counts}
use Rattle.agreement.proofs.Places.{stands_cases}
use Rattle.agreement.proofs.KnownAsItGrows.{learned_by, known_then, known_learned, known_grows}
use Rattle.agreement.proofs.FramesInside.{fact_from, facts_more, rows_more, best_there, last_below_there, option_map_from}
use Rattle.agreement.proofs.LearnedWasSaid.{learned_closed, FirstSaid, first_said, due_first}
use Rattle.agreement.proofs.LearnedInPlace.{GoodFrame, Good, GoodCertificate, learned_good}
use Rattle.agreement.proofs.SaidOnce.{IsBacked, IsPrepare, IsCommit, DueAt, meet, said_of, prepares_backed, prepare_once}
use Rattle.agreement.proofs.SaidOnce.{prepare_same}
use Rattle.agreement.proofs.QuorumsStay.{voted_more, stable_more, view_more}
use Rattle.agreement.proofs.PlannedRows.{greatest_above, plan_gives, plan_base, offered_from, plan_in_from}
use Rattle.agreement.proofs.ViewsInTurn.{view_induction}

-- prepared rows are known, and a quorum prepared their digest
pub prepared_from : (g : Group) (facts : List OrderFact) (v s : ℕ) (rows : List (List ℕ)) → prepared g facts v s ≡ Some rows
    → (beginning : List OrderFact) × Within beginning facts × IsIn rows (rows_known beginning)
    × (is_voted g (prepare_by v s (digest_of_rows rows)) beginning ≡ true)
unfolding prepared
prepared_from g facts v s rows e =
    let met = first_met_from (λ beginning. find (λ rows. is_voted g (prepare_by v s (digest_of_rows rows)) beginning)
    (rows_known beginning)) [] facts e in
    let found = find_some (λ rows. is_voted g (prepare_by v s (digest_of_rows rows)) met.0) (rows_known met.0) met.2 in
    (met.0, met.1, found.0, found.1)

-- what a report of a higher view, said later, brings for a number that was prepared within the window
abbrev Brings : ℕ → ℕ → Report → Type 0
Brings v s report = (s ≤ report.base) ⊎ ((c : Certificate) × IsIn c report.certificates × (c.s ≡ s) × (v ≤ c.v))

kept_later : (g : Group) (known more : List (Signed Body)) (v s : ℕ) (rows : List (List ℕ)) (report : Report) →
    Within known more → prepared g (facts_of g known) v s ≡ Some rows
    → IsIn s (in_window g (facts_of g known)) → report.v ≡ view g more → report.base ≡ stable g (facts_of g more) →
    report.certificates ≡ certificates_below g (facts_of g more) (view g more)
    → v < report.v → Brings v s report
unfolding last_certificate
kept_later g known more v s rows report grown e within at base certificates higher =
    by_number (cases_lt (stable g (facts_of g more)) s)
  where
    all : Within (facts_of g known) (facts_of g more)
    all = facts_more g known more grown

    by_number : (stable g (facts_of g more) < s) ⊎ (s ≤ stable g (facts_of g more)) → Brings v s report
    by_number (inr low) = inl (omega arith)
    by_number (inl high) =
        let from = prepared_from g (facts_of g known) v s rows e in
        let voted : is_voted g (prepare_by v s (digest_of_rows rows)) (facts_of g more) ≡ true =
        voted_more g (prepare_by v s (digest_of_rows rows)) from.0 (facts_of g more)
        (λ x h. all x (from.1 x h)) from.3 in
        let candidate = in_filter (λ rows. is_voted g (prepare_by v s (digest_of_rows rows)) (facts_of g more))
        (rows_more from.0 (facts_of g more) (λ x h. all x (from.1 x h)) rows from.2) voted in
        let least = best_there (λ a b. digest_below (digest_of_rows a) (digest_of_rows b)) candidate in
        let bound : v < view g more = omega arith in
        let found = last_below_there
        (λ w. option_map (certificate_of g (facts_of g more) s w) (least_prepared g (facts_of g more) w s))
        (view g more) v bound
        (ap (option_map (certificate_of g (facts_of g more) s v)) least.1) in
        let made = option_map_from (certificate_of g (facts_of g more) s found.1)
        (least_prepared g (facts_of g more) found.1 s) found.5 in
        let below : s < 1 + (stable g (facts_of g known) + window) =
        from_below 1 (stable g (facts_of g known) + window) s within in
        let risen : stable g (facts_of g known) ≤ stable g (facts_of g more) =
        stable_more g (facts_of g known) (facts_of g more) all in
        let place : IsIn s (numbers_from (stable g (facts_of g more) + 1) window) =
        from_in (stable g (facts_of g more) + 1) window s (omega arith) (omega arith) in
        let brought : IsIn found.0 (certificates_below g (facts_of g more) (view g more)) =
        in_filter_map (last_certificate g (facts_of g more) (view g more)) place found.2 in
        let number : found.0.s ≡ s = ap (λ (c : Certificate). c.s) (sym made.2) in
        let is : found.0.v ≡ found.1 = ap (λ (c : Certificate). c.v) (sym made.2) in
        let least_view : v ≤ found.1 = found.3 in
        inr (
          found.0,
          subst (λ (cs : List Certificate). IsIn found.0 cs) (sym certificates) brought,
          number,
          omega arith,
        )

abbrev commit_word : ℕ → ℕ → List ℕ → Body
commit_word v s digest = body.Commit record { v = v; s = s; digest = digest }

abbrev prepare_word : ℕ → ℕ → List ℕ → Body
prepare_word v s digest = body.Prepare record { v = v; s = s; digest = digest }

-- A correct master's report of a view above that of its commit comes later and brings what it committed.
kept_report : (w : Setup) (history : List Entry) (m : ℕ) → IsLegal w history → is_correct_master w m ≡ true →
    (v s : ℕ) (digest : List ℕ) (report : Report)
    → HasSaid history m (commit_word v s digest) → HasSaid history m (body.Report report) →
    v < report.v → Brings v s report
kept_report w history m legal correct v s digest report one_said other_said higher =
    let first_one : FirstSaid w history m (commit_word v s digest) =
    first_said w m (commit_word v s digest) correct history legal one_said in
    let first_other : FirstSaid w history m (body.Report report) =
    first_said w m (body.Report report) correct history legal other_said in
    let one : HasSaid history m (commit_word v s digest) = first_one.said in
    let other : HasSaid history m (body.Report report) = first_other.said in
    let due_one = due_first w history m (commit_word v s digest) first_one in
    let due_other = due_first w history m (body.Report report) first_other in
    let first : List (Signed Body) = known_then w one.before m one.entry in
    let second : List (Signed Body) = known_then w other.before m other.entry in
    let at_one : v ≡ view w.group first = due_one.1.3 in
    let at_other : report.v ≡ view w.group second = due_other.1.0 in
    elim (stands_cases one.place other.place) [
      | inl same ↦
          let moved = subst (λ (e : Entry). DueAt w m other.before e (commit_word v s digest)) same.1
          (subst (λ (before : List Entry). DueAt w m before one.entry (commit_word v s digest)) same.0 due_one.1) in
          let at_same : v ≡ view w.group second = moved.3 in
          absurd (omega arith)
      | inr apart ↦ elim apart [
        | inl earlier ↦ kept_later w.group first second v s due_one.1.0 report
            (known_grows w other.entry m earlier one.by due_one.0) due_one.1.1 due_one.1.4 at_other
            due_other.1.1 due_other.1.3 higher
        | inr later ↦
            let fallen : view w.group second ≤ view w.group first =
            view_more w.group second first (known_grows w one.entry m later other.by due_other.0) in
            absurd (omega arith)
      ]
    ]

-- the start of a new view
abbrev start_of : NewView → Start
start_of b = record { v = b.v; reports = map (λ r. r.body) b.reports }

abbrev start_in : Signed Body → Option Start
start_in p = elim p.body [ body.NewView b ↦ Some (start_of b) | _ ↦ None ]

start_in_body : (signer : ℕ) (word : Body) (sig : List ℕ) (p : Start) →
    start_in record { signer = signer; body = word; sig = sig } ≡ Some p
    → (b : NewView) × (word ≡ body.NewView b) × (p ≡ start_of b)
start_in_body signer (body.NewView b) sig p e = (b, refl, some_same (sym e))
start_in_body signer _ sig p e = absurd (none_some e)

pub in_below : (n m : ℕ) → m < n → IsIn m (numbers_below n)
unfolding numbers_below
in_below zero m lt = absurd (omega arith)
in_below (suc n) m lt = by_place (cases_lt m n) (λ less. in_below n m less)
  where
    by_place : (m < n) ⊎ (n ≤ m) → (m < n → IsIn m (numbers_below n)) → IsIn m (numbers_below n ++ n ∷ [])
    by_place (inl less) earlier = in_left (n ∷ []) (earlier less)
    by_place (inr last) earlier = let same : m ≡ n = omega arith in
        subst (λ (x : ℕ). IsIn x (numbers_below n ++ n ∷ [])) (sym same) (in_right (numbers_below n) (here []))

-- the starts of all new views that correct masters learned in a history
abbrev starts_learned : Setup → List Entry → List Start
starts_learned w history = flat_map (λ m. filter_map start_in (learned_by w history m))
    (filter (is_correct_master w) (numbers_below w.group.n))

-- a start listed is that of a new view that a correct master learned
record IsStart (w : Setup) (history : List Entry) (p : Start) : Type 0 where
  master : ℕ
  right : is_correct_master w master ≡ true
  word : Signed Body
  among : IsIn word (learned_by w history master)
  opening : NewView
  is : word.body ≡ body.NewView opening
  same : p ≡ start_of opening

start_from : (w : Setup) (history : List Entry) (p : Start) → IsIn p (starts_learned w history) → IsStart w history p
start_from w history p h =
    let master = in_flat_map_from (λ m. filter_map start_in (learned_by w history m))
    (filter (is_correct_master w) (numbers_below w.group.n)) h in
    let word = in_filter_map_from start_in (learned_by w history master.0) master.2 in
    let is = start_in_body word.0.signer word.0.body word.0.sig p word.2 in record {
      master = master.0;
      right = (in_filter_from (is_correct_master w) (numbers_below w.group.n) master.1).1;
      word = word.0;
      among = word.1;
      opening = is.0;
      is = is.1;
      same = is.2;
    }

start_there : (w : Setup) (history : List Entry) (m : ℕ) (word : Signed Body) (b : NewView) →
    is_correct_master w m ≡ true → IsIn word (learned_by w history m) → word.body ≡ body.NewView b
    → IsIn (start_of b) (starts_learned w history)
start_there w history m word b right h is =
    in_flat_map (λ m. filter_map start_in (learned_by w history m))
    (in_filter (is_correct_master w)
    (in_below w.group.n m (ltb-true m w.group.n (and_parts (nat_lt m w.group.n) (not (w.intruded m)) right).0))
    right)
    (in_filter_map start_in h
    (ap (λ (x : Body). elim x as (λ _. Option Start) [ body.NewView b ↦ Some (start_of b) | _ ↦ None ]) is))

-- the certificates that starts bring, and one more
abbrev certificates_with : Certificate → List Start → List Certificate
certificates_with c starts = c ∷ flat_map (λ p. certificates_of p.reports) starts

module _ (w : Setup) (history : List Entry) (sound : IsSound w history) where
  -- what a quorum committed, a quorum prepared
  pub committed_prepared : (v s : ℕ) (digest : List ℕ) → IsBacked w history (IsCommit v s digest) →
      IsBacked w history (IsPrepare v s digest)
  committed_prepared v s digest backed =
      let met = meet w history (IsCommit v s digest) (IsCommit v s digest) sound backed backed in
      let first : FirstSaid w history met.0 (commit_word v s digest) =
      first_said w met.0 (commit_word v s digest) met.1 history sound.legal
      (subst (λ (b : Body). HasSaid history met.0 b) met.3.2 met.3.1) in
      let said : HasSaid history met.0 (commit_word v s digest) = first.said in
      let due = due_first w history met.0 (commit_word v s digest) first in
      let known : List (Signed Body) = known_then w said.before met.0 said.entry in
      let from = prepared_from w.group (facts_of w.group known) v s due.1.0 due.1.1 in
      subst (λ (d : List ℕ). IsBacked w history (IsPrepare v s d)) (sym due.1.2)
      (prepares_backed w history met.0 sound met.1 known (known_learned w met.0 said.place said.by due.0)
      from.0 from.1 v s (digest_of_rows due.1.0) from.3)

  -- the new view by which a correct master prepared
  view_started : (m : ℕ) → is_correct_master w m ≡ true → (u s : ℕ) (digest : List ℕ) → 1 ≤ u →
      HasSaid history m (prepare_word u s digest)
      → (rows : List (List ℕ)) × (p : Signed Body) × (b : NewView) × IsIn p (learned_by w history m)
      × (p.body ≡ body.NewView b) × (b.v ≡ u) × (digest ≡ digest_of_rows rows)
      × (base_of (map (λ r. r.body) b.reports) < s)
      × (s ≤ (plan_of w.group (map (λ r. r.body) b.reports)).base + length
      (plan_of w.group (map (λ r. r.body) b.reports)).rows
      → slice_get (plan_of w.group (map (λ r. r.body) b.reports)).rows
      (s - (plan_of w.group (map (λ r. r.body) b.reports)).base - 1) ≡ Some rows)
  view_started m correct u s digest above was_said =
      let first : FirstSaid w history m (prepare_word u s digest) =
      first_said w m (prepare_word u s digest) correct history sound.legal was_said in
      let said : HasSaid history m (prepare_word u s digest) = first.said in
      let due = due_first w history m (prepare_word u s digest) first in
      let known : List (Signed Body) = known_then w said.before m said.entry in
      let offer = offered_from (facts_of w.group known) u s due.1.0 above due.1.1 in
      let found = in_filter_map_from (plan_in u) (facts_of w.group known)
      (first_in (filter_map (plan_in u) (facts_of w.group known)) offer.1) in
      let word = fact_from w.group known (fact.Plan u offer.0)
      (subst (λ (x : OrderFact). IsIn x (facts_of w.group known))
      (plan_in_from u found.0 offer.0 found.2) found.1) in
      let reports : List Report = map (λ r. r.body) word.2.0.reports in
      let plan : offer.0 ≡ plan_of w.group (map (λ r. r.body) word.2.0.reports) = word.2.3 in
      let base : offer.0.base ≡ base_of (map (λ r. r.body) word.2.0.reports) = ap (λ (q : Plan). q.base) plan
      ∙ plan_base w.group (map (λ r. r.body) word.2.0.reports) in (
        due.1.0,
        word.0,
        word.2.0,
        known_learned w m said.place said.by due.0 word.0 word.1,
        word.2.1,
        word.2.2,
        due.1.2,
        subst (λ (x : ℕ). x < s) base offer.2,
        subst (λ (q : Plan). s ≤ q.base + length q.rows → slice_get q.rows (s - q.base - 1) ≡ Some due.1.0)
            plan offer.3,
      )

  module _ (m : ℕ) (correct : is_correct_master w m ≡ true) where
    good_of : (p : Signed Body) → IsIn p (learned_by w history m) → GoodFrame w.group p
    good_of p h = learned_good w m history sound.legal sound.sizes correct p h

    -- the reports of a new view that a correct master learned
    report_learned : (p : Signed Body) (b : NewView) → IsIn p (learned_by w history m) → p.body ≡ body.NewView b →
        (r : Signed Report) → IsIn r b.reports → IsIn (as_frame body.Report r) (learned_by w history m)
    report_learned p b h is r k = learned_closed w history m p (as_frame body.Report r) h
        (subst (λ (x : Body). IsIn (as_frame body.Report r) (inside x)) (sym is)
        (in_flat_map (λ (f : Signed Report). as_frame body.Report f ∷ inside_report f.body) k
        (here (inside_report r.body))))

    reports_backed : (p : Signed Body) (b : NewView) → IsIn p (learned_by w history m) → p.body ≡ body.NewView b →
        IsBacked w history (λ x. (r : Signed Report) × IsIn r b.reports × (x ≡ body.Report r.body))
    reports_backed p b h is =
        let good : Good w.group (body.NewView b) = subst (λ (x : Body). Good w.group x) is (good_of p h).1 in
        let below : Each (λ x. x < w.group.n) (signers_of b.reports) =
        each_map (λ x. x < w.group.n) (λ f. f.signer) b.reports
        (λ r k. (good_of (as_frame body.Report r) (report_learned p b h is r k)).0) in
        let count : length (signers_of b.reports) ≤ length
        (Rattle.quorum_sets.specs.Masters.voters (has_master (signers_of b.reports)) w.group.n) =
        rising_counts (signers_of b.reports) w.group.n good.1 below in
        let same : length (signers_of b.reports) ≡ length b.reports =
        Rattle.std.proofs.lemmas.List.length-map b.reports (λ f. f.signer) in
        let many : w.group.q ≤ length b.reports = good.2 in
        record {
          test = has_master (signers_of b.reports);
          enough = omega arith;
          said = λ x lt has right.
              let signer = any_from (λ y. nat_eq y x) (signers_of b.reports) has in
              let frame = in_map_from (λ (f : Signed Report). f.signer) b.reports signer.1 in (
                body.Report frame.0.body,
                said_of w history m sound correct (learned_by w history m) (λ q k. k) (as_frame body.Report frame.0) x
                    (report_learned p b h is frame.0 frame.1) (sym frame.2 ∙ eqb-true signer.0 x signer.2) right,
                (frame.0, frame.1, refl),
              );
        }

    -- a certificate of a report that a correct master learned
    certificate_backed : (r : Signed Report) (c : Certificate) →
        IsIn (as_frame body.Report r) (learned_by w history m) → IsIn c r.body.certificates
        → (c.v < r.body.v) × IsBacked w history (IsPrepare c.v c.s (digest_of_rows c.rows))
    certificate_backed r c h k =
        let good : GoodCertificate w.group r.body.v r.body.base c = (good_of (as_frame body.Report r) h).1 c k in
        let learned : (f : Signed Prepare) → IsIn f c.prepares →
        IsIn (as_frame body.Prepare f) (learned_by w history m) = λ f x.
        learned_closed w history m (as_frame body.Report r) (as_frame body.Prepare f) h
        (in_right (frames_of body.Mark r.body.marks)
        (in_flat_map (λ (d : Certificate). frames_of body.Prepare d.prepares) k
        (in_map (as_frame body.Prepare) x))) in
        let below : Each (λ x. x < w.group.n) (signers_of c.prepares) =
        each_map (λ x. x < w.group.n) (λ f. f.signer) c.prepares
        (λ f x. (good_of (as_frame body.Prepare f) (learned f x)).0) in
        let count : length (signers_of c.prepares) ≤ length
        (Rattle.quorum_sets.specs.Masters.voters (has_master (signers_of c.prepares)) w.group.n) =
        rising_counts (signers_of c.prepares) w.group.n good.apart below in
        let same : length (signers_of c.prepares) ≡ length c.prepares =
        Rattle.std.proofs.lemmas.List.length-map c.prepares (λ f. f.signer) in
        let many : w.group.q ≤ length c.prepares = good.enough in (
          good.lower,
          record {
            test = has_master (signers_of c.prepares);
            enough = omega arith;
            said = λ x lt has right.
                let signer = any_from (λ y. nat_eq y x) (signers_of c.prepares) has in
                let frame = in_map_from (λ (f : Signed Prepare). f.signer) c.prepares signer.1 in
                let is = good.alike frame.0 frame.1 in (
                  body.Prepare frame.0.body,
                  said_of w history m sound correct (learned_by w history m) (λ q z. z)
                      (as_frame body.Prepare frame.0) x (learned frame.0 frame.1)
                      (sym frame.2 ∙ eqb-true signer.0 x signer.2) right,
                  prepare_same frame.0.body c.v c.s (digest_of_rows c.rows) is.0 is.1 is.2,
                );
          },
        )

  -- a certificate that a start listed brings is of a lower view, and backed
  brought_backed : (p : Start) (c : Certificate) → IsIn p (starts_learned w history) →
      IsIn c (certificates_of p.reports) → (c.v < p.v) × IsBacked w history (IsPrepare c.v c.s (digest_of_rows c.rows))
  brought_backed p c h k =
      let start = start_from w history p h in
      let brings : IsIn c (certificates_of (map (λ r. r.body) start.opening.reports)) =
      subst (λ (x : Start). IsIn c (certificates_of x.reports)) start.same k in
      let of_report = in_flat_map_from (λ (r : Report). r.certificates)
      (map (λ r. r.body) start.opening.reports) brings in
      let of_frame = in_map_from (λ (r : Signed Report). r.body) start.opening.reports of_report.1 in
      let backed = certificate_backed start.master start.right of_frame.0 c
      (report_learned start.master start.right start.word start.opening start.among start.is of_frame.0 of_frame.1)
      (subst (λ (r : Report). IsIn c r.certificates) of_frame.2 of_report.2) in
      let views : Each (λ r. r.body.v ≡ start.opening.v) start.opening.reports =
      (subst (λ (x : Body). Good w.group x) start.is
      (good_of start.master start.right start.word start.among).1).3 in
      let lower : c.v < of_frame.0.body.v = backed.0 in
      let at : of_frame.0.body.v ≡ start.opening.v = views of_frame.0 of_frame.1 in
      let view_of : p.v ≡ start.opening.v = ap (λ (x : Start). x.v) start.same in
      (omega arith, backed.1)

  -- In no later view does a quorum prepare other rows for a number than a quorum committed.
  module _ (v s : ℕ) (digest : List ℕ) (committed : IsBacked w history (IsCommit v s digest)) where
    -- each start of a later view knows of what was committed
    kept : (p : Start) → IsIn p (starts_learned w history) → v < p.v → (s ≤ base_of p.reports)
        ⊎ ((c : Certificate) × IsIn c (certificates_of p.reports) × (c.s ≡ s) × (v ≤ c.v))
    kept p h higher =
        let start = start_from w history p h in
        let met = meet w history (IsCommit v s digest) (λ x. (r : Signed Report) × IsIn r start.opening.reports
        × (x ≡ body.Report r.body)) sound committed
        (reports_backed start.master start.right start.word start.opening start.among start.is) in
        let report : Signed Report = met.4.2.0 in
        let reported : IsIn report.body (map (λ r. r.body) start.opening.reports) =
        in_map (λ (r : Signed Report). r.body) met.4.2.1 in
        let views : Each (λ r. r.body.v ≡ start.opening.v) start.opening.reports =
        (subst (λ (x : Body). Good w.group x) start.is
        (good_of start.master start.right start.word start.among).1).3 in
        let at_view : report.body.v ≡ start.opening.v = views report met.4.2.1 in
        let view_of : p.v ≡ start.opening.v = ap (λ (x : Start). x.v) start.same in
        let brings = kept_report w history met.0 sound.legal met.1 v s digest report.body
        (subst (λ (b : Body). HasSaid history met.0 b) met.3.2 met.3.1)
        (subst (λ (b : Body). HasSaid history met.0 b) met.4.2.2 met.4.1) (omega arith) in
        subst (λ (x : Start). (s ≤ base_of x.reports)
        ⊎ ((c : Certificate) × IsIn c (certificates_of x.reports) × (c.s ≡ s) × (v ≤ c.v)))
        (sym start.same) (elim brings [
          | inl low ↦
              let above : report.body.base ≤ base_of (map (λ r. r.body) start.opening.reports) =
              greatest_above report.body.base (map (λ r. r.base) (map (λ r. r.body) start.opening.reports))
              (in_map (λ (r : Report). r.base) reported) in
              inl (omega arith)
          | inr c ↦ inr (c.0, in_flat_map (λ (r : Report). r.certificates) reported c.1, c.2, c.3)
        ])

    -- what is prepared in a later view is what some start of that view plans
    planned_later : (u : ℕ) (d : List ℕ) → v < u → IsBacked w history (IsPrepare u s d)
        → (p : Start) × IsIn p (starts_learned w history) × (p.v ≡ u) × (base_of p.reports < s)
        × (d ≡ digest_of_rows (planned w.group p.reports s))
    planned_later u d higher backed =
        let met = meet w history (IsPrepare u s d) (IsPrepare u s d) sound backed backed in
        let start = view_started met.0 met.1 u s d (omega arith)
        (subst (λ (b : Body). HasSaid history met.0 b) met.3.2 met.3.1) in
        let is_u : start.2.v ≡ u = start.5 in
        let listed : IsIn (start_of start.2) (starts_learned w history) =
        start_there w history met.0 start.1 start.2 met.1 start.3 start.4 in
        let base : base_of (map (λ r. r.body) start.2.reports) < s = start.7 in
        let rows : planned w.group (map (λ r. r.body) start.2.reports) s ≡ start.0 =
        elim (kept (start_of start.2) listed (omega arith)) [
          | inl low ↦ absurd (omega arith)
          | inr c ↦
              let number : c.0.s ≡ s = c.2 in
              let last : c.0.s ≤ last_of (map (λ r. r.body) start.2.reports) =
              greatest_above c.0.s (map (λ c. c.s) (certificates_of (map (λ r. r.body) start.2.reports)))
              (in_map (λ (c : Certificate). c.s) c.1) in
              let gives = plan_gives w.group (map (λ r. r.body) start.2.reports) s start.7 (omega arith) in
              some_same (sym gives.1 ∙ start.8 gives.0)
        ] in
        (start_of start.2, listed, start.5, start.7, start.6 ∙ ap digest_of_rows (sym rows))

    -- in the committed view itself the commits' digest was prepared
    prepared_first : (d : List ℕ) → IsBacked w history (IsPrepare v s d) → d ≡ digest
    prepared_first d backed =
        let met = meet w history (IsPrepare v s digest) (IsPrepare v s d) sound
        (committed_prepared v s digest committed) backed in
        sym (prepare_once w history met.0 sound.legal met.1 v s digest d met.3.0 met.4.0
        met.3.2 met.4.2 met.3.1 met.4.1)

    -- the law of views, with the certificates that all new views bring and one more
    certified_alike : (target : Certificate) →
        IsBacked w history (IsPrepare target.v target.s (digest_of_rows target.rows)) → target.s ≡ s → v ≤ target.v →
        digest_of_rows target.rows ≡ digest
    certified_alike target backed at le =
        let listed : (c : Certificate) → IsIn c (certificates_with target (starts_learned w history)) →
        IsBacked w history (IsPrepare c.v c.s (digest_of_rows c.rows)) = λ c h.
        elim (in_cons_cases h) [
          | inl same ↦ subst (λ (x : Certificate). IsBacked w history (IsPrepare x.v x.s (digest_of_rows x.rows)))
              (sym same) backed
          | inr brought ↦
              let start = in_flat_map_from (λ (p : Start). certificates_of p.reports)
              (starts_learned w history) brought in
              (brought_backed start.0 c start.1 start.2).1
        ] in
        view_induction w.group v s digest (certificates_with target (starts_learned w history))
        (starts_learned w history)
        (λ p c h k. (
          (brought_backed p c h k).0,
          there target (flat_map (λ (x : Start). certificates_of x.reports) (starts_learned w history))
              (in_flat_map (λ (x : Start). certificates_of x.reports) h k),
        ))
        (λ c h number view_of. prepared_first (digest_of_rows c.rows)
        (subst (λ (x : ℕ). IsBacked w history (IsPrepare x s (digest_of_rows c.rows))) view_of
        (subst (λ (x : ℕ). IsBacked w history (IsPrepare c.v x (digest_of_rows c.rows))) number (listed c h))))
        (λ c h number higher. planned_later c.v (digest_of_rows c.rows) higher
        (subst (λ (x : ℕ). IsBacked w history (IsPrepare c.v x (digest_of_rows c.rows))) number (listed c h)))
        kept target (here (flat_map (λ (x : Start). certificates_of x.reports) (starts_learned w history))) at le

    pub prepared_alike : (u : ℕ) (d : List ℕ) → v ≤ u → IsBacked w history (IsPrepare u s d) → digest ≡ d
    prepared_alike u d le backed =
        let met = meet w history (IsPrepare u s d) (IsPrepare u s d) sound backed backed in
        let first : FirstSaid w history met.0 (prepare_word u s d) =
        first_said w met.0 (prepare_word u s d) met.1 history sound.legal
        (subst (λ (b : Body). HasSaid history met.0 b) met.3.2 met.3.1) in
        let due = due_first w history met.0 (prepare_word u s d) first in
        let rows : List (List ℕ) = due.1.0 in
        let digests : d ≡ digest_of_rows due.1.0 = due.1.2 in
        sym (digests ∙ certified_alike record { s = s; v = u; rows = due.1.0; prepares = [] }
        (subst (λ (e : List ℕ). IsBacked w history (IsPrepare u s e)) digests backed) refl le)
