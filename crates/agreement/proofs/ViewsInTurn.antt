-- The induction on views, over plain lists.
use Rattle.std.proofs.Common.{◌≡◌, ℕ, ◌<◌, ◌≤◌, zero, suc, List, ◌∙◌, ap, inl, inr, ◌⊎◌, arith}
use Rattle.std.proofs.lemmas.Bool.{cases_lt}
use Rattle.plain_lists.specs.Lists.{IsIn}
use Rattle.message_types.specs.declared.ordering.Certificate.{Certificate}
use Rattle.message_types.specs.Digests.{digest_of_rows}
use Rattle.protocol_rules.specs.Group.{Group}
use Rattle.protocol_rules.specs.Plans.{certificates_of, planned, base_of}
use Rattle.agreement.specs.Laws.{Start, ViewInduction}
use Rattle.agreement.proofs.PlannedRows.{planned_at}

module _ (g : Group) (v s : ℕ) (digest : List ℕ) (certificates : List Certificate) (starts : List Start)
    (below : (p : Start) (c : Certificate) → IsIn p starts → IsIn c (certificates_of p.reports) →
    (c.v < p.v) × IsIn c certificates)
    (first : (c : Certificate) → IsIn c certificates → c.s ≡ s → c.v ≡ v → digest_of_rows c.rows ≡ digest)
    (later : (c : Certificate) → IsIn c certificates → c.s ≡ s → v < c.v
    → (p : Start) × IsIn p starts × (p.v ≡ c.v) × (base_of p.reports < s)
    × (digest_of_rows c.rows ≡ digest_of_rows (planned g p.reports s)))
    (kept : (p : Start) → IsIn p starts → v < p.v → (s ≤ base_of p.reports)
    ⊎ ((c : Certificate) × IsIn c (certificates_of p.reports) × (c.s ≡ s) × (v ≤ c.v))) where
  in_view : (bound : ℕ) (c : Certificate) → c.v < bound → IsIn c certificates → c.s ≡ s → v ≤ c.v →
      digest_of_rows c.rows ≡ digest
  in_view zero c lt h at le = absurd (omega arith)
  in_view (suc bound) c lt h at le = by_view (cases_lt v c.v) (λ d less. in_view bound d less)
    where
      by_view : (v < c.v) ⊎ (c.v ≤ v) → ((d : Certificate) → d.v < bound → IsIn d certificates → d.s ≡ s → v ≤ d.v →
          digest_of_rows d.rows ≡ digest) → digest_of_rows c.rows ≡ digest
      by_view (inr same) deeper = first c h at (omega arith)
      by_view (inl higher) deeper =
          let start = later c h at higher in
          let view_of : start.0.v ≡ c.v = start.2 in
          elim (kept start.0 start.1 (omega arith)) [
            | inl low ↦ let base : base_of start.0.reports < s = start.3 in absurd (omega arith)
            | inr d ↦
                let best = planned_at g start.0.reports s d.0 d.1 d.2 in
                let listed = below start.0 best.0 start.1 best.1 in
                let lower : best.0.v < start.0.v = listed.0 in
                let high : d.0.v ≤ best.0.v = best.3 in
                let from : v ≤ d.0.v = d.3 in
                start.4 ∙ ap digest_of_rows best.4 ∙ deeper best.0 (omega arith) listed.1 best.2 (omega arith)
          ]

pub view_induction : ViewInduction
view_induction g v s digest certificates starts below first later kept c h at le =
    in_view g v s digest certificates starts below first later kept (suc c.v) c (omega arith) h at le
