-- A plan goes as far as what was committed below its view: of the quorum whose reports the new view brings a correct master
-- committed the number, and its report, said later, has a base no lower, or a certificate for it. (Agreement goes by the same
-- in its induction over views.)
use Rattle.std.proofs.Common.{◌≡◌, ℕ, ◌+◌, ◌<◌, ◌≤◌, Bool, true, List, ◌∷◌, Some, length, map, nat_eq, refl, sym, ◌∙◌, ap, subst}
use Rattle.std.proofs.Common.{inl, inr, ◌⊎◌, arith, eqb-true}
use Rattle.std.proofs.lemmas.Bool.{cases_lt}
use Rattle.std.proofs.lemmas.List.{length-map}
use Rattle.std.specs.Option.{option_map}
use Rattle.plain_lists.specs.Lists.{IsIn, here, Within, Each}
use Rattle.plain_lists.proofs.Members.{each_map, in_filter, in_filter_map, in_flat_map, in_map, in_map_from, any_from}
use Rattle.quorum_sets.specs.Masters.{has_master, voters}
use Rattle.message_types.specs.declared.signed.Signed.{Signed}
use Rattle.message_types.specs.declared.ordering.Certificate.{Certificate}
use Rattle.message_types.specs.declared.views.Report.{Report}
use Rattle.message_types.specs.declared.views.NewView.{NewView}
use Rattle.message_types.specs.declared.views.Plan.{Plan}
use Rattle.message_types.specs.declared.body.Body.{Body}
use Rattle.message_types.specs.declared.body.Body.TheVariants as body
use Rattle.message_types.specs.Parts.{inside, inside_report, as_frame}
use Rattle.message_types.specs.Spelling.{signers_of}
use Rattle.message_types.specs.Digests.{digest_of_rows}
use Rattle.protocol_rules.specs.Words.{numbers_from}
use Rattle.protocol_rules.specs.Group.{Group, is_live, leader_of, window}
use Rattle.protocol_rules.specs.Facts.{facts_of}
use Rattle.protocol_rules.specs.Plans.{plan_of, certificates_of, base_of, last_of, digest_below}
use Rattle.protocol_rules.specs.Order.{prepared, is_voted, prepare_by, stable, in_window, least_prepared}
use Rattle.protocol_rules.specs.Order.{certificate_of, last_certificate, certificates_below}
use Rattle.protocol_rules.specs.Views.{view}
use Rattle.protocol_rules.proofs.Numbers.{from_in, from_below}
use Rattle.history_rules.specs.Events.{Entry}
use Rattle.history_rules.specs.Setup.{Setup, is_correct_master}
use Rattle.history_rules.specs.Legal.{IsLegal}
use Rattle.history_rules.specs.Audit.{HasSaid}
use Rattle.agreement.specs.Laws.{IsSound, known_by}
use Rattle.agreement.proofs.QuorumsMeet.{rising_counts}
use Rattle.agreement.proofs.Places.{stands_cases}
use Rattle.agreement.proofs.KnownAsItGrows.{learned_by, known_then, known_grows, correct_said}
use Rattle.agreement.proofs.FramesInside.{facts_more, rows_more, best_there, last_below_there, option_map_from}
use Rattle.agreement.proofs.LearnedWasSaid.{learned_closed, FirstSaid, first_said, due_first}
use Rattle.agreement.proofs.LearnedInPlace.{Good, learned_good}
use Rattle.agreement.proofs.SaidOnce.{IsBacked, IsCommit, DueAt, meet, said_of}
use Rattle.agreement.proofs.QuorumsStay.{voted_more, stable_more, view_more}
use Rattle.agreement.proofs.PlannedRows.{greatest_above, plan_gives, plan_base}
use Rattle.agreement.proofs.CommittedStays.{prepared_from}
use Rattle.agreement.proofs.RequestsAgree.{known_in}
use Rattle.progress.specs.Rounds.{AreConnected}
use Rattle.progress.specs.Laws.{KnowsWord}
use Rattle.progress.specs.UnderLeader.{IsLed, end_of}
use Rattle.progress.proofs.Arriving.{said_learned}
use Rattle.progress.proofs.Plans.{plan_said}
use Rattle.progress.proofs.Proposed.{leads}

-- a report has this number below its base, or a certificate for it
abbrev Brings : ℕ → Report → Type 0
Brings s report = (s ≤ report.base) ⊎ ((c : Certificate) × IsIn c report.certificates × (c.s ≡ s))

brought_later : (g : Group) (known more : List (Signed Body)) (v s : ℕ) (rows : List (List ℕ)) (report : Report) →
    Within known more → prepared g (facts_of g known) v s ≡ Some rows
    → IsIn s (in_window g (facts_of g known)) → report.v ≡ view g more → report.base ≡ stable g (facts_of g more) →
    report.certificates ≡ certificates_below g (facts_of g more) (view g more)
    → v < report.v → Brings s report
unfolding last_certificate
brought_later g known more v s rows report grown e within at base certificates higher =
    by_number (cases_lt (stable g (facts_of g more)) s)
  where
    all : Within (facts_of g known) (facts_of g more)
    all = facts_more g known more grown

    by_number : (stable g (facts_of g more) < s) ⊎ (s ≤ stable g (facts_of g more)) → Brings s report
    by_number (inr low) = inl (omega arith)
    by_number (inl high) =
        let from = prepared_from g (facts_of g known) v s rows e in
        let voted : is_voted g (prepare_by v s (digest_of_rows rows)) (facts_of g more) ≡ true =
        voted_more g (prepare_by v s (digest_of_rows rows)) from.0 (facts_of g more) (λ x h. all x (from.1 x h)) from.3 in
        let candidate = in_filter (λ rows. is_voted g (prepare_by v s (digest_of_rows rows)) (facts_of g more))
        (rows_more from.0 (facts_of g more) (λ x h. all x (from.1 x h)) rows from.2) voted in
        let least = best_there (λ a b. digest_below (digest_of_rows a) (digest_of_rows b)) candidate in
        let found = last_below_there
        (λ w. option_map (certificate_of g (facts_of g more) s w) (least_prepared g (facts_of g more) w s))
        (view g more) v (omega arith) (ap (option_map (certificate_of g (facts_of g more) s v)) least.1) in
        let made = option_map_from (certificate_of g (facts_of g more) s found.1)
        (least_prepared g (facts_of g more) found.1 s) found.5 in
        let below : s < 1 + (stable g (facts_of g known) + window) =
        from_below 1 (stable g (facts_of g known) + window) s within in
        let risen : stable g (facts_of g known) ≤ stable g (facts_of g more) =
        stable_more g (facts_of g known) (facts_of g more) all in
        let place : IsIn s (numbers_from (stable g (facts_of g more) + 1) window) =
        from_in (stable g (facts_of g more) + 1) window s (omega arith) (omega arith) in
        let brought : IsIn found.0 (certificates_below g (facts_of g more) (view g more)) =
        in_filter_map (last_certificate g (facts_of g more) (view g more)) place found.2 in
        inr (
          found.0,
          subst (λ (cs : List Certificate). IsIn found.0 cs) (sym certificates) brought,
          ap (λ (c : Certificate). c.s) (sym made.2),
        )

-- A correct master's report of a view above that of its commit comes later and brings what it committed.
brought_report : (w : Setup) (history : List Entry) (m : ℕ) → IsLegal w history → is_correct_master w m ≡ true →
    (v s : ℕ) (digest : List ℕ) (report : Report)
    → HasSaid history m (body.Commit record { v = v; s = s; digest = digest }) → HasSaid history m (body.Report report) →
    v < report.v → Brings s report
brought_report w history m legal correct v s digest report one_said other_said higher =
    let word : Body = body.Commit record { v = v; s = s; digest = digest } in
    let first_one : FirstSaid w history m (body.Commit record { v = v; s = s; digest = digest }) =
    first_said w m word correct history legal one_said in
    let first_other : FirstSaid w history m (body.Report report) =
    first_said w m (body.Report report) correct history legal other_said in
    let one : HasSaid history m (body.Commit record { v = v; s = s; digest = digest }) = first_one.said in
    let other : HasSaid history m (body.Report report) = first_other.said in
    let due_one = due_first w history m word first_one in
    let due_other = due_first w history m (body.Report report) first_other in
    let first : List (Signed Body) = known_then w one.before m one.entry in
    let second : List (Signed Body) = known_then w other.before m other.entry in
    let at_one : v ≡ view w.group first = due_one.1.3 in
    let at_other : report.v ≡ view w.group second = due_other.1.0 in
    elim (stands_cases one.place other.place) [
      | inl same ↦
          let moved = subst (λ (e : Entry). DueAt w m other.before e word) same.1
          (subst (λ (before : List Entry). DueAt w m before one.entry word) same.0 due_one.1) in
          let at_same : v ≡ view w.group second = moved.3 in
          absurd (omega arith)
      | inr apart ↦ elim apart [
        | inl earlier ↦ brought_later w.group first second v s due_one.1.0 report
            (known_grows w other.entry m earlier one.by due_one.0) due_one.1.1 due_one.1.4 at_other
            due_other.1.1 due_other.1.3 higher
        | inr later ↦
            let fallen : view w.group second ≤ view w.group first =
            view_more w.group second first (known_grows w one.entry m later other.by due_other.0) in
            absurd (omega arith)
      ]
    ]

-- what the reports of a plan bring is within it
in_plan : (g : Group) (reports : List Report) (report : Report) (s : ℕ) → IsIn report reports → Brings s report →
    s ≤ end_of (plan_of g reports)
in_plan g reports report s among brings =
    let base : (plan_of g reports).base ≡ base_of reports = plan_base g reports in
    let low : report.base ≤ base_of reports = greatest_above report.base (map (λ r. r.base) reports)
    (in_map (λ (r : Report). r.base) among) in
    elim brings [
      | inl below ↦ omega (arith, base, low, below)
      | inr c ↦
          let number : c.0.s ≡ s = c.2 in
          let last : c.0.s ≤ last_of reports = greatest_above c.0.s (map (λ c. c.s) (certificates_of reports))
          (in_map (λ (c : Certificate). c.s) (in_flat_map (λ (r : Report). r.certificates) among c.1)) in
          elim (cases_lt (base_of reports) s) [
            | inr within ↦ omega (arith, base, within)
            | inl above ↦ (plan_gives g reports s above (omega (arith, number, last))).0
          ]
    ]

module _ (w : Setup) (connected : ℕ → Bool) (v : ℕ) (plan : Plan) (beginning history : List Entry)
    (live : is_live w.group ≡ true) (sound : IsSound w history) (are : AreConnected w connected)
    (led : IsLed w connected v plan beginning history) where
  -- q masters are intruded or said the reports that the leader's new view brings
  reports_backed : (b : NewView) → HasSaid history (leader_of w.group v) (body.NewView b) →
      IsBacked w history (λ x. (r : Signed Report) × IsIn r b.reports × (x ≡ body.Report r.body))
      × Each (λ r. r.body.v ≡ b.v) b.reports
  reports_backed b said =
      let leader : ℕ = leader_of w.group v in
      let right : is_correct_master w leader ≡ true = leads w connected v plan beginning history live sound are led in
      let loud = (correct_said w leader (body.NewView b) sound.legal said.place said.by right said.among).0 in
      let own : KnowsWord (learned_by w history (leader_of w.group v)) (leader_of w.group v) (body.NewView b) =
      said_learned w leader (body.NewView b) said.place said.by loud said.among in
      let good : Good w.group (body.NewView b) = subst (λ (x : Body). Good w.group x) own.word
      (learned_good w leader history sound.legal sound.sizes right own.part own.among).1 in
      let learned : (r : Signed Report) → IsIn r b.reports → IsIn (as_frame body.Report r)
      (learned_by w history (leader_of w.group v)) = λ r k. learned_closed w history leader own.part (as_frame body.Report r)
      own.among (subst (λ (x : Body). IsIn (as_frame body.Report r) (inside x)) (sym own.word)
      (in_flat_map (λ (f : Signed Report). as_frame body.Report f ∷ inside_report f.body) k (here (inside_report r.body)))) in
      let below : Each (λ x. x < w.group.n) (signers_of b.reports) = each_map (λ x. x < w.group.n) (λ f. f.signer) b.reports
      (λ r k. (learned_good w leader history sound.legal sound.sizes right (as_frame body.Report r) (learned r k)).0) in
      let count : length (signers_of b.reports) ≤ length (voters (has_master (signers_of b.reports)) w.group.n) =
      rising_counts (signers_of b.reports) w.group.n good.1 below in
      let same : length (signers_of b.reports) ≡ length b.reports = length-map b.reports (λ f. f.signer) in
      let many : w.group.q ≤ length b.reports = good.2 in (
        record {
          test = has_master (signers_of b.reports);
          enough = omega (arith, count, same, many);
          said = λ x lt has not_intruded.
              let signer = any_from (λ y. nat_eq y x) (signers_of b.reports) has in
              let frame = in_map_from (λ (f : Signed Report). f.signer) b.reports signer.1 in (
                body.Report frame.0.body,
                said_of w history leader sound right (learned_by w history leader) (λ q z. z) (as_frame body.Report frame.0) x
                    (learned frame.0 frame.1) (sym frame.2 ∙ eqb-true signer.0 x signer.2) not_intruded,
                (frame.0, frame.1, refl),
              );
        },
        good.3,
      )

  pub committed_in_plan : (u s : ℕ) (digest : List ℕ) → u < v → IsBacked w history (IsCommit u s digest) → s ≤ end_of plan
  committed_in_plan u s digest lower committed =
      let leader : ℕ = leader_of w.group v in
      let right : is_correct_master w leader ≡ true = leads w connected v plan beginning history live sound are led in
      let opening = plan_said w history v live sound.legal sound.unforged right leader right (known_by w beginning leader)
      (known_in w history beginning leader led.begins) plan (omega arith) (led.planned leader led.leader) in
      let reports = reports_backed opening.0 opening.1 in
      let met = meet w history (IsCommit u s digest) (λ x. (r : Signed Report) × IsIn r opening.0.reports
      × (x ≡ body.Report r.body)) sound committed reports.0 in
      let report : Signed Report = met.4.2.0 in
      let at : report.body.v ≡ opening.0.v = reports.1 report met.4.2.1 in
      let of_view : opening.0.v ≡ v = opening.2 in
      let brings = brought_report w history met.0 sound.legal met.1 u s digest report.body
      (subst (λ (b : Body). HasSaid history met.0 b) met.3.2 met.3.1)
      (subst (λ (b : Body). HasSaid history met.0 b) met.4.2.2 met.4.1) (omega (arith, at, of_view, lower)) in
      subst (λ (p : Plan). s ≤ end_of p) (sym opening.3) (in_plan w.group (map (λ r. r.body) opening.0.reports) report.body s
      (in_map (λ (r : Signed Report). r.body) met.4.2.1) brings)
