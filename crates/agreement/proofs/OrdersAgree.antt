-- What a quorum committed no later view changes; so ordered rows agree.
use Rattle.std.proofs.Common.{◌≡◌, ℕ, ◌-◌, ◌<◌, ◌≤◌, true, List, Some, sym, inl, inr, ◌⊎◌, arith}
use Rattle.std.proofs.lemmas.Bool.{cases_lt}
use Rattle.plain_lists.specs.Lists.{IsIn, Within}
use Rattle.plain_lists.proofs.Members.{in_right, in_map, any_from}
use Rattle.sha2.specs.Sha256.{sha256}
use Rattle.message_types.specs.declared.signed.Signed.{Signed}
use Rattle.message_types.specs.declared.body.Body.{Body}
use Rattle.message_types.specs.Texts.{rows_text}
use Rattle.message_types.specs.Digests.{digest_of_rows}
use Rattle.protocol_rules.specs.Facts.{facts_of, rows_known}
use Rattle.protocol_rules.specs.Order.{ordered, is_voted, commit_by, commit_views}
use Rattle.history_rules.specs.Events.{Entry}
use Rattle.history_rules.specs.Setup.{Setup, is_correct_master}
use Rattle.agreement.specs.Laws.{IsSound}
use Rattle.agreement.proofs.KnownAsItGrows.{learned_by}
use Rattle.agreement.proofs.FramesInside.{facts_more, rows_from, rows_more}
use Rattle.agreement.proofs.LearnedWasSaid.{learned_closed}
use Rattle.agreement.proofs.LearnedInPlace.{GoodRows, learned_good, rows_good, ordered_from}
use Rattle.agreement.proofs.TextsTellAll.{rows_text-same}
use Rattle.agreement.proofs.SaidOnce.{IsBacked, IsCommit, commits_backed}
use Rattle.agreement.proofs.RequestsAgree.{learned_text}
use Rattle.agreement.proofs.CommittedStays.{committed_prepared, prepared_alike}

pub digests_rows : (a b : List (List ℕ)) → digest_of_rows a ≡ digest_of_rows b → sha256 (rows_text a) ≡ sha256 (rows_text b)
unfolding digest_of_rows
digests_rows a b e = e

module _ (w : Setup) (history : List Entry) (sound : IsSound w history) where
  -- what quorums committed for one number, in whatever views, is alike
  pub committed_alike : (u v s : ℕ) (d e : List ℕ) → IsBacked w history (IsCommit u s d) →
      IsBacked w history (IsCommit v s e) → d ≡ e
  committed_alike u v s d e one other = by_order (cases_lt u v)
    where
      by_order : (u < v) ⊎ (v ≤ u) → d ≡ e
      by_order (inl lt) = prepared_alike w history sound u s d one v e (omega arith)
          (committed_prepared w history sound v s e other)
      by_order (inr le) = sym (prepared_alike w history sound v s e other u d le
          (committed_prepared w history sound u s d one))

  -- ordered rows: a quorum committed their digest
  pub ordered_backed : (i : ℕ) → is_correct_master w i ≡ true → (known : List (Signed Body)) →
      Within known (learned_by w history i) → (s : ℕ) (rows : List (List ℕ)) →
      ordered w.group (facts_of w.group known) s ≡ Some rows
      → (v : ℕ) × IsBacked w history (IsCommit v s (digest_of_rows rows))
  ordered_backed i correct known within s rows e =
      let from = (ordered_from w.group (facts_of w.group known) s rows e).1 in
      let found = any_from (λ v. is_voted w.group (commit_by v s (digest_of_rows rows)) from.0)
      (commit_views from.0 s (digest_of_rows rows)) from.2 in (
        found.0,
        commits_backed w history i sound correct known within from.0 from.1 found.0 s
            (digest_of_rows rows) found.2,
      )

  -- rows that a correct master learned
  rows_learned : (i : ℕ) → is_correct_master w i ≡ true → (known : List (Signed Body)) →
      Within known (learned_by w history i) → (s : ℕ) (rows : List (List ℕ)) →
      ordered w.group (facts_of w.group known) s ≡ Some rows
      → GoodRows rows × IsIn (rows_text rows) (Rattle.history_rules.specs.Audit.history_texts w.group history)
  rows_learned i correct known within s rows e =
      let all : List (Signed Body) = learned_by w history i in
      let member : IsIn rows (rows_known (facts_of w.group (learned_by w history i))) =
      rows_more (facts_of w.group known) (facts_of w.group (learned_by w history i))
      (facts_more w.group known (learned_by w history i) within) rows
      (ordered_from w.group (facts_of w.group known) s rows e).0 in
      let word = rows_from w.group (learned_by w history i) rows member in (
        rows_good w.group sound.sizes (learned_by w history i) (learned_closed w history i)
            (learned_good w i history sound.legal sound.sizes correct) rows member,
        learned_text w history i sound.legal correct word.0 word.1 (rows_text rows)
            (in_right _ (in_map rows_text word.2)),
      )

  pub ordered_same : (i j : ℕ) → is_correct_master w i ≡ true → is_correct_master w j ≡ true →
      (known more : List (Signed Body)) → Within known (learned_by w history i) → Within more (learned_by w history j)
      → (s : ℕ) (a b : List (List ℕ)) → ordered w.group (facts_of w.group known) s ≡ Some a →
      ordered w.group (facts_of w.group more) s ≡ Some b → a ≡ b
  ordered_same i j right_i right_j known more within_i within_j s a b one other =
      let first = ordered_backed i right_i known within_i s a one in
      let second = ordered_backed j right_j more within_j s b other in
      let rows_a = rows_learned i right_i known within_i s a one in
      let rows_b = rows_learned j right_j more within_j s b other in
      let digests : digest_of_rows a ≡ digest_of_rows b = committed_alike first.0 second.0 s (digest_of_rows a)
      (digest_of_rows b) first.1 second.1 in
      rows_text-same a b rows_a.0 rows_b.0
      (sound.alike.alike (rows_text a) (rows_text b) rows_a.1 rows_b.1 (digests_rows a b digests))
