-- What an intruded master's word is, as its bytes are read: its own numbers as their fields keep them, and inside it
-- only frames that the master knows.
use Rattle.std.proofs.Common.{◌≡◌, ℕ, ◌≤◌, Bool, true, ◌&&◌, List, [], ◌∷◌, ◌++◌, Option, Some, length, map, nat_le}
use Rattle.std.proofs.Common.{refl, sym, ◌∙◌, ap, subst, inl, inr}
use Rattle.std.specs.List.{list_all, filter_map}
use Rattle.std.specs.Option.{option_map}
use Rattle.std.proofs.lemmas.List.{length-map}
use Rattle.plain_lists.specs.Lists.{IsIn, Each}
use Rattle.plain_lists.proofs.Members.{each_none, each_one, each_append, each_map, each_flat_map, in_cons_cases, in_map_from, some_same, none_some}
use Rattle.wire_parts.specs.Fields.{u8_bytes, u16_bytes, u32_bytes, u64_bytes}
use Rattle.message_types.specs.declared.signed.Signed.{Signed}
use Rattle.message_types.specs.declared.updates.Update.{Update}
use Rattle.message_types.specs.declared.preordering.PoRequest.{PoRequest}
use Rattle.message_types.specs.declared.preordering.PoAck.{PoAck}
use Rattle.message_types.specs.declared.preordering.PoSummary.{PoSummary}
use Rattle.message_types.specs.declared.ordering.Certificate.{Certificate}
use Rattle.message_types.specs.declared.views.Report.{Report}
use Rattle.message_types.specs.declared.reconciling.Give.{Give}
use Rattle.message_types.specs.declared.reconciling.GiveOrdered.{GiveOrdered}
use Rattle.message_types.specs.declared.vouchers.Order.{Order}
use Rattle.message_types.specs.declared.vouchers.Order.TheVariants as order
use Rattle.message_types.specs.declared.body.Body.{Body}
use Rattle.message_types.specs.declared.body.Body.TheVariants as body
use Rattle.message_types.specs.Parts.{inside, inside_report, request_parts, as_frame, frames_of}
use Rattle.message_types.specs.Texts.{list_text, signed_text, notice_number, order_text}
use Rattle.message_types.specs.Texts.{prepare_text, certificate_text, rows_text}
use Rattle.message_types.specs.Texts.{body_text}
use Rattle.message_types.specs.Spelling.{is_rising, always_fits, frames_fit, certificate_fits, body_fits}
use Rattle.message_types.specs.Digests.{digest_of_update, digest_of_rows}
use Rattle.message_forms.specs.Widths.{FitsSigner, FitsSummary, FitsPrepare, FitsCommit, FitsAck, FitsMark}
use Rattle.message_forms.specs.Widths.{FitsCertificate, FitsReport, FitsOrder, FitsBody}
use Rattle.protocol_rules.specs.Words.{first_of_list}
use Rattle.protocol_rules.specs.Group.{Group}
use Rattle.protocol_rules.specs.Facts.{facts_of}
use Rattle.protocol_rules.specs.Preorder.{certified}
use Rattle.protocol_rules.specs.Order.{ordered, marks_at}
use Rattle.protocol_rules.specs.Reconcile.{request_of, quorum_of_acks}
use Rattle.global_order.specs.Giving.{last_view, whole_order, given_order}
use Rattle.agreement.proofs.FramesInside.{Closed, option_map_from}
use Rattle.play_words.specs.declared.words.Item.{Item}
use Rattle.play_words.specs.declared.words.Word.{Word}
use Rattle.play_words.specs.declared.words.Word.TheVariants as word
use Rattle.intruder_words.specs.Speaking.{all_of, update_named, digest_named, summary_named, report_named}
use Rattle.intruder_words.specs.Speaking.{certificate_known, certificates_known, report_with, report_of}
use Rattle.intruder_words.specs.Speaking.{base_or_stable, give_with, give_of, body_of}
use Rattle.run_scripts.proofs.UnforgedFields.{low16, low32, low64, same16, same32, same64, small16, small32, small64}
use Rattle.run_scripts.proofs.UnforgedFields.{list_same, all_same, all_recursively, low_row, low_rows, row_same}
use Rattle.run_scripts.proofs.UnforgedFields.{rows_same, row_fit_same, rows_fit_same, row_wide, rows_wide}
use Rattle.run_scripts.proofs.UnforgedKnown.{IsFit, AreKnown, IsCertificate, update_known, summary_known}
use Rattle.run_scripts.proofs.UnforgedKnown.{report_known, each_gathered, named_digest_size, commits_known}
use Rattle.run_scripts.proofs.UnforgedKnown.{marks_known, request_known, acks_known, certificate_is}
use Rattle.intruder_words.proofs.Whole.{step-from}

-- A body with the text of another, within its fields, and with only known frames inside.
pub record SpelledAlike (known : List (Signed Body)) (said : Body) : Type 0 where
  pub kept : Body
  pub text : body_text kept ≡ body_text said
  pub fits : body_fits kept ≡ true
  pub wide : FitsBody kept
  pub among : Each (λ (p : Signed Body). IsIn p known) (inside kept)

of_map : {X : Type 0} (known : List (Signed Body)) (kind : X → Body) (o : Option X) (b : Body) →
    option_map kind o ≡ Some b → body_fits b ≡ true
    → ((x : X) → o ≡ Some x → body_fits (kind x) ≡ true → SpelledAlike known (kind x)) → SpelledAlike known b
of_map known kind o b e fits each =
    let made = option_map_from kind o e in
    subst (λ (z : Body). SpelledAlike known z) made.2 (each made.0 made.1 (ap body_fits made.2 ∙ fits))

of_plain : (known : List (Signed Body)) (a b : Body) → Some a ≡ Some b → body_fits b ≡ true →
    (body_fits a ≡ true → SpelledAlike known a) → SpelledAlike known b
of_plain known a b e fits kept = subst (λ (z : Body). SpelledAlike known z) (some_same e)
    (kept (ap body_fits (some_same e) ∙ fits))

-- the orders of vouchers
low_order : Order → Order
low_order (order.Write point raw) = order.Write (low32 point) (low16 raw)
low_order (order.Notice n) = order.Notice record { what = n.what; t = low64 n.t; number = low32 n.number }

order_same : (o : Order) → order_text (low_order o) ≡ order_text o
unfolding low_order
order_same (order.Write point raw) =
    ap (λ (bs : List ℕ). u8_bytes 1 ++ bs ++ u16_bytes (low16 raw)) (same32 point)
    ∙ ap (λ (bs : List ℕ). u8_bytes 1 ++ u32_bytes point ++ bs) (same16 raw)
order_same (order.Notice n) =
    ap (λ (bs : List ℕ). u8_bytes 2 ++ u8_bytes (notice_number n.what) ++ bs ++ u32_bytes (low32 n.number)) (same64 n.t)
    ∙ ap (λ (bs : List ℕ). u8_bytes 2 ++ u8_bytes (notice_number n.what) ++ u64_bytes n.t ++ bs) (same32 n.number)

order_wide : (o : Order) → FitsOrder (low_order o)
unfolding low_order
order_wide (order.Write point raw) = (small32 point, small16 raw)
order_wide (order.Notice n) = (small64 n.t, small32 n.number)

-- certificates
low_certificate : Certificate → Certificate
low_certificate c = record { s = c.s; v = low64 c.v; rows = low_rows c.rows; prepares = c.prepares }

certificate_same : (c : Certificate) → certificate_text (low_certificate c) ≡ certificate_text c
unfolding low_certificate
certificate_same c =
    ap (λ (bs : List ℕ). u64_bytes c.s ++ bs ++ rows_text (low_rows c.rows)
    ++ list_text (signed_text prepare_text) c.prepares) (same64 c.v)
    ∙ ap (λ (bs : List ℕ). u64_bytes c.s ++ u64_bytes c.v ++ bs ++ list_text (signed_text prepare_text) c.prepares)
    (rows_same c.rows)

certificate_fit_same : (c : Certificate) → certificate_fits (low_certificate c) ≡ certificate_fits c
unfolding low_certificate
certificate_fit_same c = ap (λ (b : Bool). b && frames_fit always_fits c.prepares) (rows_fit_same c.rows)

numbers_same : (cs : List Certificate) → map (λ (c : Certificate). c.s) (map low_certificate cs) ≡ map
    (λ (c : Certificate). c.s) cs
unfolding low_certificate
numbers_same [] = refl
numbers_same (c ∷ cs) = ap (λ (ss : List ℕ). c.s ∷ ss) (numbers_same cs)

-- words kind by kind
module _ (known : List (Signed Body)) (closed : Closed known) (fit : Each IsFit known) where
  abbrev IsKnown : Signed Body → Type 0
  IsKnown p = IsIn p known

  frames_known : {B : Type 0} (kind : B → Body) (fs : List (Signed B)) → AreKnown kind known fs →
      Each IsKnown (frames_of kind fs)
  frames_known kind fs among = each_map IsKnown (as_frame kind) fs among

  request_kept : (k : ℕ) (u : Signed Update) → IsIn (as_frame body.Update u) known →
      body_fits (body.PoRequest record { k = k; update = u }) ≡ true
      → SpelledAlike known (body.PoRequest record { k = k; update = u })
  request_kept k u h fits = record {
    kept = body.PoRequest record { k = low64 k; update = u };
    text = rw (same64 k);
    fits = fits;
    wide = (small64 k, fit (as_frame body.Update u) h);
    among = each_one IsKnown (as_frame body.Update u) h;
  }

  ack_kept : (j k : ℕ) (digest : List ℕ) → length digest ≡ 32 →
      SpelledAlike known (body.PoAck record { j = j; k = k; digest = digest })
  ack_kept j k digest size = record {
    kept = body.PoAck record { j = low32 j; k = low64 k; digest = digest };
    text = rw (same32 j, same64 k);
    fits = refl;
    wide = (small32 j, (small64 k, size));
    among = each_none IsKnown;
  }

  summary_kept : (numbers : List ℕ) → body_fits (body.PoSummary record { numbers = numbers }) ≡ true →
      SpelledAlike known (body.PoSummary record { numbers = numbers })
  summary_kept numbers fits = record {
    kept = body.PoSummary record { numbers = low_row numbers };
    text = rw (row_same numbers);
    fits = row_fit_same numbers ∙ fits;
    wide = row_wide numbers;
    among = each_none IsKnown;
  }

  proposal_kept : (v s : ℕ) (fs : List (Signed PoSummary)) → AreKnown body.PoSummary known fs →
      body_fits (body.PrePrepare record { v = v; s = s; frames = fs }) ≡ true
      → SpelledAlike known (body.PrePrepare record { v = v; s = s; frames = fs })
  proposal_kept v s fs among fits = record {
    kept = body.PrePrepare record { v = low64 v; s = low64 s; frames = fs };
    text = rw (same64 v, same64 s);
    fits = fits;
    wide = (
      small64 v,
      (
        small64 s,
        all_recursively (FitsSigner FitsSummary) fs (λ f h. fit (as_frame body.PoSummary f) (among f h)),
      ),
    );
    among = frames_known body.PoSummary fs among;
  }

  prepare_kept : (v s : ℕ) (digest : List ℕ) → length digest ≡ 32 →
      SpelledAlike known (body.Prepare record { v = v; s = s; digest = digest })
  prepare_kept v s digest size = record {
    kept = body.Prepare record { v = low64 v; s = low64 s; digest = digest };
    text = rw (same64 v, same64 s);
    fits = refl;
    wide = (small64 v, (small64 s, size));
    among = each_none IsKnown;
  }

  commit_kept : (v s : ℕ) (digest : List ℕ) → length digest ≡ 32 →
      SpelledAlike known (body.Commit record { v = v; s = s; digest = digest })
  commit_kept v s digest size = record {
    kept = body.Commit record { v = low64 v; s = low64 s; digest = digest };
    text = rw (same64 v, same64 s);
    fits = refl;
    wide = (small64 v, (small64 s, size));
    among = each_none IsKnown;
  }

  ping_kept : (number : ℕ) → SpelledAlike known (body.Ping record { number = number })
  ping_kept number = record {
    kept = body.Ping record { number = low64 number };
    text = rw (same64 number);
    fits = refl;
    wide = small64 number;
    among = each_none IsKnown;
  }

  pong_kept : (to number : ℕ) → SpelledAlike known (body.Pong record { to = to; number = number })
  pong_kept to number = record {
    kept = body.Pong record { to = low32 to; number = low64 number };
    text = rw (same32 to, same64 number);
    fits = refl;
    wide = (small32 to, small64 number);
    among = each_none IsKnown;
  }

  rtt_kept : (to number ticks : ℕ) → SpelledAlike known (body.Rtt record { to = to; number = number; ticks = ticks })
  rtt_kept to number ticks = record {
    kept = body.Rtt record { to = low32 to; number = low64 number; ticks = low64 ticks };
    text = rw (same32 to, same64 number, same64 ticks);
    fits = refl;
    wide = (small32 to, (small64 number, small64 ticks));
    among = each_none IsKnown;
  }

  tat_report_kept : (v ticks : ℕ) → SpelledAlike known (body.TatReport record { v = v; ticks = ticks })
  tat_report_kept v ticks = record {
    kept = body.TatReport record { v = low64 v; ticks = low64 ticks };
    text = rw (same64 v, same64 ticks);
    fits = refl;
    wide = (small64 v, small64 ticks);
    among = each_none IsKnown;
  }

  tat_bound_kept : (v ticks : ℕ) → SpelledAlike known (body.TatBound record { v = v; ticks = ticks })
  tat_bound_kept v ticks = record {
    kept = body.TatBound record { v = low64 v; ticks = low64 ticks };
    text = rw (same64 v, same64 ticks);
    fits = refl;
    wide = (small64 v, small64 ticks);
    among = each_none IsKnown;
  }

  suspect_kept : (v : ℕ) → SpelledAlike known (body.Suspect record { v = v })
  suspect_kept v = record {
    kept = body.Suspect record { v = low64 v };
    text = rw (same64 v);
    fits = refl;
    wide = small64 v;
    among = each_none IsKnown;
  }

  report_kept : (r : Report) → AreKnown body.Mark known r.marks → Each (IsCertificate known) r.certificates →
      body_fits (body.Report r) ≡ true → SpelledAlike known (body.Report r)
  unfolding low_certificate
  report_kept r marks certificates fits = record {
    kept = body.Report record {
      v = low64 r.v;
      base = low64 r.base;
      marks = r.marks;
      certificates =
          map low_certificate r.certificates;
    };
    text = rw (
      same64 r.v,
      same64 r.base,
      list_same certificate_text low_certificate certificate_same r.certificates,
    );
    fits = ap (λ (n : ℕ). frames_fit always_fits r.marks && nat_le n 16
        && is_rising (map (λ (c : Certificate). c.s) (map low_certificate r.certificates))
        && list_all certificate_fits (map low_certificate r.certificates)) (length-map r.certificates low_certificate)
        ∙ ap (λ (ss : List ℕ). frames_fit always_fits r.marks && nat_le (length r.certificates) 16 && is_rising ss
        && list_all certificate_fits (map low_certificate r.certificates)) (numbers_same r.certificates)
        ∙ ap (λ (b : Bool). frames_fit always_fits r.marks && nat_le (length r.certificates) 16
        && is_rising (map (λ (c : Certificate). c.s) r.certificates) && b)
        (all_same certificate_fits low_certificate certificate_fit_same r.certificates)
        ∙ fits;
    wide = (
      small64 r.v,
      (
        small64 r.base,
        (
          all_recursively (FitsSigner FitsMark) r.marks (λ m h. fit (as_frame body.Mark m) (marks m h)),
          all_recursively FitsCertificate (map low_certificate r.certificates)
              (each_map FitsCertificate low_certificate r.certificates (λ c h. (
                (certificates c h).0,
                (
                  small64 c.v,
                  (
                    rows_wide c.rows,
                    all_recursively (FitsSigner FitsPrepare) c.prepares
                        (λ p k. fit (as_frame body.Prepare p) ((certificates c h).1 p k)),
                  ),
                ),
              ))),
        ),
      ),
    );
    among = each_append IsKnown (frames_of body.Mark r.marks) _ (frames_known body.Mark r.marks marks)
        (each_flat_map IsKnown (λ (c : Certificate). frames_of body.Prepare c.prepares)
        (map low_certificate r.certificates) (λ c h.
        let found = in_map_from low_certificate r.certificates h in
        subst (λ (d : Certificate). Each IsKnown (frames_of body.Prepare d.prepares)) (sym found.2)
        (frames_known body.Prepare found.0.prepares (certificates found.0 found.1).1)));
  }

  new_view_kept : (v : ℕ) (rs : List (Signed Report)) → AreKnown body.Report known rs →
      body_fits (body.NewView record { v = v; reports = rs }) ≡ true
      → SpelledAlike known (body.NewView record { v = v; reports = rs })
  new_view_kept v rs among fits = record {
    kept = body.NewView record { v = low64 v; reports = rs };
    text = rw (same64 v);
    fits = fits;
    wide = (small64 v, all_recursively (FitsSigner FitsReport) rs (λ r h. fit (as_frame body.Report r) (among r h)));
    among = each_flat_map IsKnown (λ (f : Signed Report). as_frame body.Report f ∷ inside_report f.body) rs (λ r h.
        (λ p k. elim (in_cons_cases k) [
          | inl e ↦ subst (λ (z : Signed Body). IsIn z known) (sym e) (among r h)
          | inr deeper ↦ closed (as_frame body.Report r) p (among r h) deeper
        ]));
  }

  ask_update_kept : (j k : ℕ) → SpelledAlike known (body.AskUpdate record { j = j; k = k })
  ask_update_kept j k = record {
    kept = body.AskUpdate record { j = low32 j; k = low64 k };
    text = rw (same32 j, same64 k);
    fits = refl;
    wide = (small32 j, small64 k);
    among = each_none IsKnown;
  }

  give_kept : (b : Give) → IsIn (as_frame body.PoRequest b.request) known → AreKnown body.PoAck known b.acks →
      body_fits (body.Give b) ≡ true → SpelledAlike known (body.Give b)
  give_kept b request acks fits = record {
    kept = body.Give b;
    text = refl;
    fits = fits;
    wide = (
      fit (as_frame body.PoRequest b.request) request,
      all_recursively (FitsSigner FitsAck) b.acks (λ a h. fit (as_frame body.PoAck a) (acks a h)),
    );
    among = each_append IsKnown (request_parts b.request) (frames_of body.PoAck b.acks)
        (λ p k. elim (in_cons_cases k) [
          | inl e ↦ subst (λ (z : Signed Body). IsIn z known) (sym e) request
          | inr deeper ↦ closed (as_frame body.PoRequest b.request) p request deeper
        ])
        (frames_known body.PoAck b.acks acks);
  }

  ask_order_kept : (s : ℕ) → SpelledAlike known (body.AskOrder record { s = s })
  ask_order_kept s = record {
    kept = body.AskOrder record { s = low64 s };
    text = rw (same64 s);
    fits = refl;
    wide = small64 s;
    among = each_none IsKnown;
  }

  given_kept : (b : GiveOrdered) → AreKnown body.Commit known b.commits → body_fits (body.GiveOrdered b) ≡ true →
      SpelledAlike known (body.GiveOrdered b)
  given_kept b commits fits = record {
    kept = body.GiveOrdered record { s = low64 b.s; v = low64 b.v; rows = low_rows b.rows; commits = b.commits };
    text = rw (same64 b.s, same64 b.v, rows_same b.rows);
    fits = ap (λ (c : Bool). c && frames_fit always_fits b.commits) (rows_fit_same b.rows) ∙ fits;
    wide = (
      small64 b.s,
      (
        small64 b.v,
        (
          rows_wide b.rows,
          all_recursively (FitsSigner FitsCommit) b.commits
              (λ f h. fit (as_frame body.Commit f) (commits f h)),
        ),
      ),
    );
    among = frames_known body.Commit b.commits commits;
  }

  voucher_kept : (client number : ℕ) (o : Order) →
      SpelledAlike known (body.Voucher record { client = client; number = number; order = o })
  voucher_kept client number o = record {
    kept = body.Voucher record { client = low32 client; number = low64 number; order = low_order o };
    text = rw (same32 client, same64 number, order_same o);
    fits = refl;
    wide = (small32 client, (small64 number, order_wide o));
    among = each_none IsKnown;
  }

  mark_kept : (s : ℕ) → SpelledAlike known (body.Mark record { s = s })
  mark_kept s = record {
    kept = body.Mark record { s = low64 s };
    text = rw (same64 s);
    fits = refl;
    wide = small64 s;
    among = each_none IsKnown;
  }

  report_known_kept : (g : Group) → 1 ≤ g.q → (v base : ℕ) (items : List Item) (r : Report) →
      report_of g (facts_of g known) v base items ≡ Some r → body_fits (body.Report r) ≡ true →
      SpelledAlike known (body.Report r)
  report_known_kept g some v base items r e fits =
      let shown = step-from (λ marks. option_map (report_with v base marks)
      (certificates_known g (facts_of g known) items)) (marks_at g (facts_of g known) base) r e in
      let made = option_map_from (report_with v base shown.0) (certificates_known g (facts_of g known) items) shown.2 in
      let certificates = each_gathered (IsCertificate known) (certificate_known g (facts_of g known))
      (certificate_is g some known fit) items made.0 made.1 in
      subst (λ (x : Report). SpelledAlike known (body.Report x)) made.2
      (report_kept (report_with v base shown.0 made.0) (marks_known g known base shown.0 shown.1) certificates
      (ap (λ (x : Report). body_fits (body.Report x)) made.2 ∙ fits))

  gift_with : List (Signed PoAck) → Signed PoRequest → Give
  gift_with acks request = record { request = request; acks = acks }

  gift_kept : (g : Group) (j k : ℕ) (gift : Give) → give_of g known j k ≡ Some gift →
      body_fits (body.Give gift) ≡ true → SpelledAlike known (body.Give gift)
  unfolding gift_with
  gift_kept g j k gift e fits =
      let update = step-from (give_with g known j k) (certified g known j k) gift e in
      let made = option_map_from (gift_with (quorum_of_acks g known j k (digest_of_update update.0)))
      (first_of_list (filter_map (request_of j k update.0) known)) update.2 in
      subst (λ (x : Give). SpelledAlike known (body.Give x)) made.2
      (give_kept (gift_with (quorum_of_acks g known j k (digest_of_update update.0)) made.0)
      (request_known known j k update.0 made.0 made.1) (acks_known g known j k (digest_of_update update.0))
      (ap (λ (x : Give). body_fits (body.Give x)) made.2 ∙ fits))

  order_kept : (g : Group) (s : ℕ) (gift : GiveOrdered) → given_order g (facts_of g known) s ≡ Some gift →
      body_fits (body.GiveOrdered gift) ≡ true → SpelledAlike known (body.GiveOrdered gift)
  order_kept g s gift e fits =
      let made = option_map_from (whole_order g (facts_of g known) s) (ordered g (facts_of g known) s) e in
      subst (λ (x : GiveOrdered). SpelledAlike known (body.GiveOrdered x)) made.2
      (given_kept (whole_order g (facts_of g known) s made.0)
      (commits_known g known (last_view g (facts_of g known) s (digest_of_rows made.0)) s (digest_of_rows made.0))
      (ap (λ (x : GiveOrdered). body_fits (body.GiveOrdered x)) made.2 ∙ fits))

  -- so is each word
  pub word_kept : (g : Group) → 1 ≤ g.q → (w : Word) (b : Body) → body_of g known w ≡ Some b →
      body_fits b ≡ true → SpelledAlike known b
  unfolding body_of
  word_kept g some (word.Raw bytes) b e fits = absurd (none_some e)
  word_kept g some (word.PoRequest k update) b e fits = of_map known _ (update_named known update) b e fits
      (λ u is f. request_kept k u (update_known known update u is) f)
  word_kept g some (word.PoAck j k digest) b e fits = of_map known _ (digest_named g known digest) b e fits
      (λ d is f. ack_kept j k d (named_digest_size g known digest d is))
  word_kept g some (word.PoSummary numbers) b e fits = of_plain known _ b e fits (summary_kept numbers)
  word_kept g some (word.PrePrepare v s frames) b e fits =
      of_map known _ (all_of (map (summary_named known) frames)) b e fits (λ fs is f.
      proposal_kept v s fs (each_gathered _ (summary_named known) (summary_known known) frames fs is) f)
  word_kept g some (word.Prepare v s digest) b e fits = of_map known _ (digest_named g known digest) b e fits
      (λ d is f. prepare_kept v s d (named_digest_size g known digest d is))
  word_kept g some (word.Commit v s digest) b e fits = of_map known _ (digest_named g known digest) b e fits
      (λ d is f. commit_kept v s d (named_digest_size g known digest d is))
  word_kept g some (word.Ping number) b e fits = of_plain known _ b e fits (λ f. ping_kept number)
  word_kept g some (word.Pong to number) b e fits = of_plain known _ b e fits (λ f. pong_kept to number)
  word_kept g some (word.Rtt to number ticks) b e fits = of_plain known _ b e fits (λ f. rtt_kept to number ticks)
  word_kept g some (word.TatReport v ticks) b e fits = of_plain known _ b e fits (λ f. tat_report_kept v ticks)
  word_kept g some (word.TatBound v ticks) b e fits = of_plain known _ b e fits (λ f. tat_bound_kept v ticks)
  word_kept g some (word.Suspect v) b e fits = of_plain known _ b e fits (λ f. suspect_kept v)
  word_kept g some (word.Report v base items) b e fits =
      of_map known _ (report_of g (facts_of g known) v (base_or_stable g (facts_of g known) base) items)
      b e fits (λ r is f.
      report_known_kept g some v (base_or_stable g (facts_of g known) base) items r is f)
  word_kept g some (word.NewView v reports) b e fits =
      of_map known _ (all_of (map (report_named known) reports)) b e fits (λ rs is f.
      new_view_kept v rs (each_gathered _ (report_named known) (report_known known) reports rs is) f)
  word_kept g some (word.AskUpdate j k) b e fits = of_plain known _ b e fits (λ f. ask_update_kept j k)
  word_kept g some (word.Give j k) b e fits =
      of_map known _ (give_of g known j k) b e fits (λ gift is f. gift_kept g j k gift is f)
  word_kept g some (word.AskOrder s) b e fits = of_plain known _ b e fits (λ f. ask_order_kept s)
  word_kept g some (word.GiveOrdered s) b e fits = of_map known _ (given_order g (facts_of g known) s) b e fits
      (λ gift is f. order_kept g s gift is f)
  word_kept g some (word.Voucher client number o) b e fits =
      of_plain known _ b e fits (λ f. voucher_kept client number o)
  word_kept g some (word.Mark s) b e fits = of_plain known _ b e fits (λ f. mark_kept s)
