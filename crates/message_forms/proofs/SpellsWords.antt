-- Each form agrees with its kind's text.
use Rattle.std.proofs.Common.{◌≡◌, ◌<◌, ◌≤◌, ◌+◌, ◌^◌, ℕ, ℤ, Bool, true, false, List, [], ◌∷◌, ◌++◌, length, refl}
use Rattle.std.proofs.Common.{sym, ap, ◌∙◌, subst, arith, append_assoc, Fits}
use Rattle.std.specs.Prelude.{◌&&◌, nat_le, Option, Some, None, Ok, map, FitsSigned}
use Rattle.std.specs.Int.{w64, cast_signed, cast_unsigned}
use Rattle.std.specs.List.{list_all, AllByRecursion}
use Rattle.std.proofs.lemmas.Int.{to_z-of_z, of_z-to_z}
use Rattle.std.proofs.Math.Facts.{Fits-of_z, sfits_to_z}
use Rattle.std.proofs.Math.Bool.{and-true}
use Rattle.wire_parts.specs.View.{View, Takes}
use Rattle.wire_parts.specs.Fields.{u8_bytes, u16_bytes, u32_bytes, u64_bytes, i64_bytes}
use Rattle.message_types.specs.declared.updates.Op.{Op}
use Rattle.message_types.specs.declared.updates.Op.TheVariants as op
use Rattle.message_types.specs.declared.updates.Update.{Update}
use Rattle.message_types.specs.declared.preordering.PoRequest.{PoRequest}
use Rattle.message_types.specs.declared.preordering.PoAck.{PoAck}
use Rattle.message_types.specs.declared.preordering.PoSummary.{PoSummary}
use Rattle.message_types.specs.declared.ordering.PrePrepare.{PrePrepare}
use Rattle.message_types.specs.declared.ordering.Prepare.{Prepare}
use Rattle.message_types.specs.declared.ordering.Commit.{Commit}
use Rattle.message_types.specs.declared.ordering.Mark.{Mark}
use Rattle.message_types.specs.declared.views.Report.{Report}
use Rattle.message_types.specs.Texts.{list_text, signed_text, op_text, rows_text, update_text, request_text, ack_text}
use Rattle.message_types.specs.Texts.{summary_text, prepare_text, commit_text, mark_text, certificate_text}
use Rattle.message_types.specs.Texts.{report_text}
use Rattle.message_types.specs.Spelling.{is_rising, frames_fit, always_fits, row_fits, rows_fit, request_fits}
use Rattle.message_types.specs.Spelling.{summary_fits, certificate_fits, report_fits}
use Rattle.message_forms.specs.declared.refusal.FormRefusal.TheVariants as fault
use Rattle.message_forms.specs.Grammar.{Reading, ◌>>=◌, at, number_at, signed_number_at, marked, unknown, case}
use Rattle.message_forms.specs.Grammar.{is_above, no_key, list_at}
use Rattle.message_forms.specs.Forms.{point_at, op_at, update_at, request_at, ack_at, row_at, summary_at}
use Rattle.message_forms.specs.Forms.{pre_prepare_at, prepare_at, commit_at, mark_at, rows_at, certificate_at}
use Rattle.message_forms.specs.Forms.{certificate_key, report_at}
use Rattle.message_forms.specs.Widths.{Is32, Is64, FitsOp, FitsUpdate, FitsRequest, FitsAck, FitsRow, FitsRows}
use Rattle.message_forms.specs.Widths.{FitsSummary, FitsPrePrepare, FitsPrepare, FitsCommit, FitsMark}
use Rattle.message_forms.specs.Widths.{FitsCertificate, FitsReport}
use Rattle.message_forms.proofs.Spells.{Parsed, Spells, bind_ok, ok_inj, Spells-u8, Spells-u16, Spells-u32}
use Rattle.message_forms.proofs.Spells.{Spells-u64, Spells-bytes, Spells-checked, Spells-both, Spells-made, Spells-as}
use Rattle.message_forms.proofs.Spells.{Spells-marked, Spells-list, rises}
use Rattle.message_forms.proofs.SpellsFrames.{Spells-signed, Spells-frames, rises_is, and_assoc, unknown_sound}
use Rattle.message_forms.proofs.SpellsFrames.{case_sound, made_back, Spells-chosen}
use Rattle.message_forms.proofs.Lengths.{update_within, request_within, ack_within, summary_within, prepare_within}
use Rattle.message_forms.proofs.Lengths.{commit_within, mark_within, report_within}

pub Spells-i64 : Spells signed_number_at i64_bytes (λ z. true) (λ z. FitsSigned w64 z)
Spells-i64 = record {
  back = λ z place rest ok wide.
      let bits : cast_unsigned w64 z < 2 ^ 64 = let fit = Fits-of_z wide in omega (arith, fit) in
      ap (λ read. read >>= λ a. Ok (cast_signed w64 a.0, a.1))
      (Spells-u64.back (cast_unsigned w64 z) place rest refl bits)
      ∙ ap (λ y. Ok (y, at (place + length (i64_bytes z)) rest)) (to_z-of_z w64 z wide);
  sound = λ v z ok h.
      let b = bind_ok (number_at 8 v) (λ a. Ok (cast_signed w64 a.0, a.1)) z h in
      let q = Spells-u64.sound v b.0 ok b.1 in
      let is = of_z-to_z w64 b.0.0 q.wide in
      let fit : Fits w64 b.0.0 = omega (arith, q.wide) in
      subst (Parsed i64_bytes (λ z. true) (λ z. FitsSigned w64 z) v) (ok_inj b.2)
      (record {
        fits = refl;
        wide = sfits_to_z fit;
        takes =
            subst (λ n. Takes v b.0.1 (u64_bytes n)) (sym is) q.takes;
      });
}

abbrev point_text : ℕ × ℤ → List ℕ
point_text x = u32_bytes x.0 ++ i64_bytes x.1

pub Spells-point : Spells point_at point_text (λ x. true) (λ x. Is32 x.0 × FitsSigned w64 x.1)
unfolding point_at
Spells-point = Spells-both Spells-u32 Spells-i64

-- what an update asks for

op_number : Op → ℕ
op_number (op.Reading p z) = 1
op_number (op.Set p z) = 2
op_number (op.Ack a) = 3

op_fields : Op → List ℕ
op_fields (op.Reading p z) = point_text (p, z)
op_fields (op.Set p z) = point_text (p, z)
op_fields (op.Ack a) = u32_bytes a

op_text_is : (o : Op) → op_text o ≡ u8_bytes (op_number o) ++ op_fields o
unfolding op_number op_fields
op_text_is (op.Reading p z) = append_assoc (u8_bytes 1) (u32_bytes p) (i64_bytes z)
op_text_is (op.Set p z) = append_assoc (u8_bytes 2) (u32_bytes p) (i64_bytes z)
op_text_is (op.Ack a) = refl

op_small : (o : Op) → op_number o < 2 ^ 8
unfolding op_number
op_small (op.Reading p z) = omega arith
op_small (op.Set p z) = omega arith
op_small (op.Ack a) = omega arith

op_back : (o : Op) (start place : ℕ) (rest : List ℕ) → true ≡ true → FitsOp o
    → case 1 (λ p. op.Reading p.0 p.1) point_at
    (case 2 (λ p. op.Set p.0 p.1) point_at (case 3 op.Ack (number_at 4) unknown))
    (op_number o) start (at place (op_fields o ++ rest)) ≡ Ok (o, at (place + length (op_fields o)) rest)
unfolding op_number op_fields
op_back (op.Reading p z) start place rest ok wide = made_back (λ x. op.Reading x.0 x.1) point_at _ _ _
    (Spells-point.back (p, z) place rest refl wide)
op_back (op.Set p z) start place rest ok wide =
    made_back (λ x. op.Set x.0 x.1) point_at _ _ _ (Spells-point.back (p, z) place rest refl wide)
op_back (op.Ack a) start place rest ok wide =
    made_back op.Ack (number_at 4) _ _ _ (Spells-u32.back a place rest refl wide)

pub Spells-op : Spells op_at op_text (λ o. true) FitsOp
unfolding op_at op_number op_fields
Spells-op =
    Spells-as op_text (λ o. true) FitsOp op_text_is (λ o. refl) (λ o w. w) (λ o w. w)
    (Spells-chosen 1 u8_bytes (λ n. n < 2 ^ 8) Spells-u8 _ op_number op_fields (λ o. true) FitsOp op_small
    (case_sound op_number op_fields (λ o. true) FitsOp 1 (λ p. op.Reading p.0 p.1) _ (λ a. refl) (λ a. refl)
    (λ a. refl) (λ a w. w) Spells-point
    (case_sound op_number op_fields (λ o. true) FitsOp 2 (λ p. op.Set p.0 p.1) _ (λ a. refl) (λ a. refl)
    (λ a. refl) (λ a w. w) Spells-point
    (case_sound op_number op_fields (λ o. true) FitsOp 3 op.Ack _ (λ a. refl) (λ a. refl)
    (λ a. refl) (λ a w. w) Spells-u32
    (unknown_sound op_number op_fields (λ o. true) FitsOp)))) op_back)

-- the bodies that others hold: the fields behind the kind, and the whole body

abbrev pub update_fields : Update → List ℕ
update_fields b = u32_bytes b.client ++ (u64_bytes b.t ++ op_text b.op)

pub Spells-update : Spells update_at update_fields (λ b. true) FitsUpdate
unfolding update_at
Spells-update = Spells-made (λ p. record { client = p.0; t = p.1.0; op = p.1.1 }) (λ b. (b.client, (b.t, b.op)))
    (λ b. refl) (λ a. refl)
    (Spells-both Spells-u32 (Spells-both Spells-u64 Spells-op))

pub Spells-update_body : Spells (marked 2 1 update_at) update_text always_fits FitsUpdate
Spells-update_body = Spells-as update_text always_fits FitsUpdate (λ b. simp append_assoc)
    (λ b. refl) (λ b w. w) (λ b w. w)
    (Spells-marked 2 1 u16_bytes (λ n. n < 2 ^ 16) Spells-u16 (omega arith) Spells-update)

pub short_update : (b : Update) → always_fits b ≡ true → FitsUpdate b → length (update_text b) ≤ 2 ^ 30
short_update b ok w = let h = update_within b in omega arith

abbrev pub request_fields : PoRequest → List ℕ
request_fields b = u64_bytes b.k ++ signed_text update_text b.update

pub Spells-request : Spells request_at request_fields request_fits FitsRequest
unfolding request_at
Spells-request = Spells-made (λ p. record { k = p.0; update = p.1 }) (λ b. (b.k, b.update)) (λ b. refl) (λ a. refl)
    (Spells-both Spells-u64 (Spells-signed short_update Spells-update_body None))

pub Spells-request_body : Spells (marked 2 2 request_at) request_text request_fits FitsRequest
Spells-request_body = Spells-as request_text request_fits FitsRequest
    (λ b. append_assoc (u16_bytes 2) (u64_bytes b.k) (signed_text update_text b.update))
    (λ b. refl) (λ b w. w) (λ b w. w)
    (Spells-marked 2 2 u16_bytes (λ n. n < 2 ^ 16) Spells-u16 (omega arith) Spells-request)

pub short_request : (b : PoRequest) → request_fits b ≡ true → FitsRequest b → length (request_text b) ≤ 2 ^ 30
short_request b ok w = let h = request_within b ok in omega arith

abbrev pub ack_fields : PoAck → List ℕ
ack_fields b = u32_bytes b.j ++ (u64_bytes b.k ++ b.digest)

pub Spells-ack : Spells ack_at ack_fields (λ b. true) FitsAck
unfolding ack_at
Spells-ack = Spells-made (λ p. record { j = p.0; k = p.1.0; digest = p.1.1 }) (λ b. (b.j, (b.k, b.digest)))
    (λ b. refl) (λ a. refl)
    (Spells-both Spells-u32 (Spells-both Spells-u64 (Spells-bytes 32)))

pub Spells-ack_body : Spells (marked 2 3 ack_at) ack_text always_fits FitsAck
Spells-ack_body = Spells-as ack_text always_fits FitsAck (λ b. simp append_assoc) (λ b. refl) (λ b w. w) (λ b w. w)
    (Spells-marked 2 3 u16_bytes (λ n. n < 2 ^ 16) Spells-u16 (omega arith) Spells-ack)

pub short_ack : (b : PoAck) → always_fits b ≡ true → FitsAck b → length (ack_text b) ≤ 2 ^ 30
short_ack b ok w = let h = ack_within b w in omega arith

none_rise : {X : Type 0} (before : Option ℕ) (xs : List X) → rises no_key before xs ≡ true
none_rise None [] = refl
none_rise (Some b) [] = refl
none_rise None (x ∷ xs) = none_rise None xs
none_rise (Some b) (x ∷ xs) = none_rise None xs

all_pass : {X : Type 0} (xs : List X) → list_all (λ x. true) xs ≡ true
all_pass [] = refl
all_pass (x ∷ xs) = all_pass xs

pub Spells-item : {X : Type 0} {r : View → Reading X} {t : X → List ℕ} {p : X → Bool} {W : X → Type 0}
    (before : Option ℕ) → Spells r t p W
    → Spells r t (λ x. is_above before None && p x) W
Spells-item {t = t} {p = p} {W = W} None law = law
Spells-item {t = t} {p = p} {W = W} (Some b) law = law

pub Spells-row : Spells row_at (list_text u64_bytes) row_fits FitsRow
unfolding row_at
Spells-row = Spells-as (list_text u64_bytes) row_fits FitsRow (λ row. refl)
    (λ row. sym (and-true (nat_le (length row) 14)) ∙ ap (λ b. nat_le (length row) 14 && b)
    (sym (ap (λ b. b && list_all (λ x. true) row) (none_rise None row) ∙ all_pass row)))
    (λ row w. w) (λ row w. w)
    (Spells-list (λ before. number_at 8) no_key u64_bytes (λ x. true) Is64 (λ before. Spells-item before Spells-u64)
    14 (omega arith))

pub Spells-summary : Spells summary_at (λ b. list_text u64_bytes b.numbers) summary_fits FitsSummary
unfolding summary_at
Spells-summary = Spells-made (λ row. record { numbers = row }) (λ b. b.numbers) (λ b. refl) (λ a. refl) Spells-row

pub Spells-summary_body : Spells (marked 2 4 summary_at) summary_text summary_fits FitsSummary
Spells-summary_body = Spells-marked 2 4 u16_bytes (λ n. n < 2 ^ 16) Spells-u16 (omega arith) Spells-summary

pub short_summary : (b : PoSummary) → summary_fits b ≡ true → FitsSummary b → length (summary_text b) ≤ 2 ^ 30
short_summary b ok w = let h = summary_within b ok w in omega arith

pub Spells-rows : Spells rows_at rows_text rows_fit FitsRows
unfolding rows_at
Spells-rows = Spells-as rows_text rows_fit FitsRows (λ rows. refl)
    (λ rows. ap (λ b. nat_le (length rows) 14 && b) (sym (ap (λ b. b && list_all row_fits rows) (none_rise None rows))))
    (λ rows w. w) (λ rows w. w)
    (Spells-marked 2 0x00f0 u16_bytes (λ n. n < 2 ^ 16) Spells-u16 (omega arith)
    (Spells-list (λ before. row_at) no_key (list_text u64_bytes) row_fits FitsRow
    (λ before. Spells-item before Spells-row) 14 (omega arith)))

abbrev pub pre_prepare_fields : PrePrepare → List ℕ
pre_prepare_fields b = u64_bytes b.v ++ (u64_bytes b.s ++ list_text (signed_text summary_text) b.frames)

pub Spells-pre_prepare : Spells pre_prepare_at pre_prepare_fields (λ b. frames_fit summary_fits b.frames) FitsPrePrepare
unfolding pre_prepare_at
Spells-pre_prepare = Spells-made (λ p. record { v = p.0; s = p.1.0; frames = p.1.1 }) (λ b. (b.v, (b.s, b.frames)))
    (λ b. refl) (λ a. refl)
    (Spells-both Spells-u64 (Spells-both Spells-u64 (Spells-frames short_summary Spells-summary_body)))

abbrev pub prepare_fields : Prepare → List ℕ
prepare_fields b = u64_bytes b.v ++ (u64_bytes b.s ++ b.digest)

pub Spells-prepare : Spells prepare_at prepare_fields (λ b. true) FitsPrepare
unfolding prepare_at
Spells-prepare = Spells-made (λ p. record { v = p.0; s = p.1.0; digest = p.1.1 }) (λ b. (b.v, (b.s, b.digest)))
    (λ b. refl) (λ a. refl)
    (Spells-both Spells-u64 (Spells-both Spells-u64 (Spells-bytes 32)))

pub Spells-prepare_body : Spells (marked 2 6 prepare_at) prepare_text always_fits FitsPrepare
Spells-prepare_body = Spells-as prepare_text always_fits FitsPrepare (λ b. simp append_assoc)
    (λ b. refl) (λ b w. w) (λ b w. w)
    (Spells-marked 2 6 u16_bytes (λ n. n < 2 ^ 16) Spells-u16 (omega arith) Spells-prepare)

pub short_prepare : (b : Prepare) → always_fits b ≡ true → FitsPrepare b → length (prepare_text b) ≤ 2 ^ 30
short_prepare b ok w = let h = prepare_within b w in omega arith

abbrev pub commit_fields : Commit → List ℕ
commit_fields b = u64_bytes b.v ++ (u64_bytes b.s ++ b.digest)

pub Spells-commit : Spells commit_at commit_fields (λ b. true) FitsCommit
unfolding commit_at
Spells-commit = Spells-made (λ p. record { v = p.0; s = p.1.0; digest = p.1.1 }) (λ b. (b.v, (b.s, b.digest)))
    (λ b. refl) (λ a. refl)
    (Spells-both Spells-u64 (Spells-both Spells-u64 (Spells-bytes 32)))

pub Spells-commit_body : Spells (marked 2 7 commit_at) commit_text always_fits FitsCommit
Spells-commit_body = Spells-as commit_text always_fits FitsCommit (λ b. simp append_assoc)
    (λ b. refl) (λ b w. w) (λ b w. w)
    (Spells-marked 2 7 u16_bytes (λ n. n < 2 ^ 16) Spells-u16 (omega arith) Spells-commit)

pub short_commit : (b : Commit) → always_fits b ≡ true → FitsCommit b → length (commit_text b) ≤ 2 ^ 30
short_commit b ok w = let h = commit_within b w in omega arith

pub Spells-mark : Spells mark_at (λ b. u64_bytes b.s) (λ b. true) FitsMark
unfolding mark_at
Spells-mark = Spells-made (λ n. record { s = n }) (λ b. b.s) (λ b. refl) (λ a. refl) Spells-u64

pub Spells-mark_body : Spells (marked 2 21 mark_at) mark_text always_fits FitsMark
Spells-mark_body = Spells-marked 2 21 u16_bytes (λ n. n < 2 ^ 16) Spells-u16 (omega arith) Spells-mark

pub short_mark : (b : Mark) → always_fits b ≡ true → FitsMark b → length (mark_text b) ≤ 2 ^ 30
short_mark b ok w = let h = mark_within b in omega arith

pub Spells-certificate : (before : Option ℕ)
    → Spells (certificate_at before) certificate_text (λ c. is_above before (certificate_key c) && certificate_fits c)
    FitsCertificate
unfolding certificate_at
Spells-certificate before =
    let key = Spells-checked 8 u64_bytes Is64 (λ n. is_above before (Some n)) fault.BadOrder Spells-u64 in
    Spells-as certificate_text (λ c. is_above before (certificate_key c) && certificate_fits c) FitsCertificate
    (λ c. append_assoc (u64_bytes c.s ++ u64_bytes c.v) (rows_text c.rows)
    (list_text (signed_text prepare_text) c.prepares)
    ∙ append_assoc (u64_bytes c.s) (u64_bytes c.v)
    (rows_text c.rows ++ list_text (signed_text prepare_text) c.prepares))
    (λ c. refl) (λ c w. w) (λ c w. w)
    (Spells-made (λ p. record { s = p.0; v = p.1.0; rows = p.1.1.0; prepares = p.1.1.1 })
    (λ c. (c.s, (c.v, (c.rows, c.prepares)))) (λ c. refl) (λ a. refl)
    (Spells-both key (Spells-both Spells-u64
    (Spells-both Spells-rows (Spells-frames short_prepare Spells-prepare_body)))))

pub Spells-certificates : Spells (list_at 16 certificate_at certificate_key) (list_text certificate_text)
    (λ cs. nat_le (length cs) 16 && (rises certificate_key None cs && list_all certificate_fits cs))
    (AllByRecursion FitsCertificate)
Spells-certificates = Spells-list certificate_at certificate_key certificate_text certificate_fits FitsCertificate
    Spells-certificate 16 (omega arith)

abbrev pub report_fields : Report → List ℕ
report_fields b = u64_bytes b.v
    ++ (u64_bytes b.base ++ (list_text (signed_text mark_text) b.marks ++ list_text certificate_text b.certificates))

regroup4 : (a b c d : Bool) → (((a && b) && c) && d) ≡ (a && (b && (c && d)))
regroup4 true b c d = and_assoc b c d
regroup4 false b c d = refl

pub Spells-report : Spells report_at report_fields report_fits FitsReport
unfolding report_at
Spells-report =
    Spells-as report_fields report_fits FitsReport (λ b. refl)
    (λ b. regroup4 (frames_fit always_fits b.marks) (nat_le (length b.certificates) 16)
    (is_rising (map (λ c. c.s) b.certificates)) (list_all certificate_fits b.certificates)
    ∙ ap (λ o. frames_fit always_fits b.marks
    && (nat_le (length b.certificates) 16 && (o && list_all certificate_fits b.certificates)))
    (rises_is (λ c. c.s) b.certificates))
    (λ b w. w) (λ b w. w)
    (Spells-made (λ p. record { v = p.0; base = p.1.0; marks = p.1.1.0; certificates = p.1.1.1 })
    (λ b. (b.v, (b.base, (b.marks, b.certificates)))) (λ b. refl) (λ a. refl)
    (Spells-both Spells-u64 (Spells-both Spells-u64
    (Spells-both (Spells-frames short_mark Spells-mark_body) Spells-certificates))))

pub report_text_is : (b : Report) → report_text b ≡ u16_bytes 14 ++ report_fields b
report_text_is b =
    let v = u16_bytes 14 ++ u64_bytes b.v in
    let marks = list_text (signed_text mark_text) b.marks in
    let cs = list_text certificate_text b.certificates in
    append_assoc (v ++ u64_bytes b.base) marks cs ∙ append_assoc v (u64_bytes b.base) (marks ++ cs)
    ∙ append_assoc (u16_bytes 14) (u64_bytes b.v) (u64_bytes b.base ++ (marks ++ cs))

pub Spells-report_body : Spells (marked 2 14 report_at) report_text report_fits FitsReport
Spells-report_body = Spells-as report_text report_fits FitsReport report_text_is (λ b. refl) (λ b w. w) (λ b w. w)
    (Spells-marked 2 14 u16_bytes (λ n. n < 2 ^ 16) Spells-u16 (omega arith) Spells-report)

pub short_report : (b : Report) → report_fits b ≡ true → FitsReport b → length (report_text b) ≤ 2 ^ 30
short_report b ok w = let h = report_within b ok w in omega arith
