-- The lines of a run read in turn.
use Rattle.std.proofs.Common.{◌≡◌, ℕ, suc, ◌+◌, ◌<◌, Bool, true, false, List, [], ◌∷◌, ◌++◌, Option, Some, None, Ok}
use Rattle.std.proofs.Common.{length, append_assoc, refl, sym, ◌∙◌, ap, subst, arith}
use Rattle.std.proofs.lemmas.List.{length-append, nil_from_length}
use Rattle.scenario_file.specs.Reading.{Contents, cast_of}
use Rattle.history_rules.specs.Events.{Entry}
use Rattle.history_rules.specs.Setup.{Setup}
use Rattle.history_rules.specs.Legal.{IsLegal}
use Rattle.world_rules.specs.Scenarios.{setup_of}
use Rattle.run_lines.specs.declared.entry_line.EntryLine.{EntryLine}
use Rattle.run_lines.specs.declared.refusal.HistoryRefusal.{HistoryRefusal}
use Rattle.run_lines.specs.declared.refusal.HistoryRefusal.TheVariants as refusal
use Rattle.run_lines.specs.Runs.{Reading, run_in, RefusesRun, ReadsRun}
use Rattle.world_history.specs.State.{BenchState}
use Rattle.world_history.specs.Benches.{benches_of}
use Rattle.printed_history.specs.declared.reading.SoFar.{SoFar}
use Rattle.printed_history.specs.Histories.{entry_from, entries_from, not_legal, history_of, history_in}
use Rattle.printed_history.specs.Reading.{contents_in, world_in, IsSoFar, IsBegun, Comes}
use Rattle.printed_history.proofs.AtHand.{whole_benches}

-- The lines that are left tell the rest of what all tell.
pub record IsAmid (c : Contents) (lines rest : List EntryLine) (count : ℕ) (r : SoFar) : Type 0 where
  pub is_so_far : IsSoFar r
  pub same : contents_in r ≡ c
  pub all : r.only ≡ None
  pub many : length r.history ≡ count
  pub right : entries_from (setup_of c) [] lines ≡ entries_from (setup_of c) r.history rest

told_next : (w : Setup) (before : List Entry) (rest : List EntryLine) → Option Entry → Reading (List Entry)
told_next w before rest o =
    elim o [ None ↦ not_legal (length before) | Some e ↦ entries_from w (before ++ e ∷ []) rest ]

-- before the first line
pub first_line : (c : Contents) (lines rest : List EntryLine) (r : SoFar) → rest ≡ lines → IsBegun c None r →
    IsAmid c lines rest 0 r
first_line c lines rest r are begun = record {
  is_so_far = begun.is_so_far;
  same = begun.same;
  all = begun.at_hand;
  many = ap length begun.none;
  right = ap (entries_from (setup_of c) []) (sym are)
      ∙ ap (λ (es : List Entry). entries_from (setup_of c) es rest) (sym begun.none);
}

next_line : (c : Contents) (lines rest left : List EntryLine) (l : EntryLine) (count : ℕ) (r : SoFar) →
    IsAmid c lines rest count r → rest ≡ l ∷ left → IsAmid c lines (l ∷ left) count r
next_line c lines rest left l count r amid steps = subst (λ (ls : List EntryLine). IsAmid c lines ls count r) steps amid

read_on : (c : Contents) (lines rest : List EntryLine) (l : EntryLine) (count more : ℕ) (old new : SoFar) →
    IsAmid c lines (l ∷ rest) count old → more ≡ count + 1
    → Comes (entry_from (world_in old) old.history l) true old new → IsAmid c lines rest more new
unfolding told_next
read_on c lines rest l count more old new amid one came = by (entry_from (world_in old) old.history l) refl came
  where
    by : (o : Option Entry) → entry_from (world_in old) old.history l ≡ o → Comes o true old new →
        IsAmid c lines rest more new
    by None is comes = absurd (cc)
    by (Some e) is comes = record {
      is_so_far = comes.1.is_so_far;
      same = comes.1.same ∙ amid.same;
      all = comes.1.at_hand ∙ amid.all;
      many = ap length comes.1.longer ∙ length-append old.history (e ∷ []) ∙ ap (λ (n : ℕ). n + 1) amid.many ∙ sym one;
      right =
          amid.right
          ∙ ap (told_next (setup_of c) old.history rest)
          (ap (λ (x : Contents). entry_from (setup_of x) old.history l) (sym amid.same) ∙ is)
          ∙ ap (λ (es : List Entry). entries_from (setup_of c) es rest) (sym comes.1.longer);
    }

refused_here : (c : Contents) (lines rest : List EntryLine) (l : EntryLine) (count stamp : ℕ) (old new : SoFar) →
    IsAmid c lines (l ∷ rest) count old
    → stamp ≡ length old.history → Comes (entry_from (world_in old) old.history l) false old new →
    entries_from (setup_of c) [] lines ≡ not_legal stamp
unfolding told_next
refused_here c lines rest l count stamp old new amid at came = by (entry_from (world_in old) old.history l) refl came
  where
    by : (o : Option Entry) → entry_from (world_in old) old.history l ≡ o → Comes o false old new →
        entries_from (setup_of c) [] lines ≡ not_legal stamp
    by None is comes =
        amid.right
        ∙ ap (told_next (setup_of c) old.history rest)
        (ap (λ (x : Contents). entry_from (setup_of x) old.history l) (sym amid.same) ∙ is)
        ∙ ap (λ (n : ℕ). not_legal n) (sym at)
    by (Some e) is comes = absurd (cc)

-- one line more
pub line_read : (c : Contents) (lines yielded rest left : List EntryLine) (l : EntryLine) (comes : Bool)
    (old new : SoFar) → IsAmid c lines rest (length yielded) old → rest ≡ l ∷ left
    → comes ≡ true → Comes (entry_from (world_in old) old.history l) comes old new →
    IsAmid c lines left (length (yielded ++ l ∷ [])) new
line_read c lines yielded rest left l comes old new amid steps does came =
    read_on c lines left l (length yielded) (length (yielded ++ l ∷ [])) old new
    (next_line c lines rest left l (length yielded) old amid steps) (length-append yielded (l ∷ []))
    (subst (λ (b : Bool). Comes (entry_from (world_in old) old.history l) b old new) does came)

-- a line that can't come
pub line_refused : (c : Contents) (lines yielded rest left : List EntryLine) (l : EntryLine) (comes : Bool)
    (stamp : ℕ) (old new : SoFar) → IsAmid c lines rest (length yielded) old
    → rest ≡ l ∷ left → comes ≡ false → stamp ≡ length old.history →
    Comes (entry_from (world_in old) old.history l) comes old new →
    entries_from (setup_of c) [] lines ≡ not_legal stamp
line_refused c lines yielded rest left l comes stamp old new amid steps no_more at came =
    refused_here c lines left l (length yielded) stamp old new
    (next_line c lines rest left l (length yielded) old amid steps) at
    (subst (λ (b : Bool). Comes (entry_from (world_in old) old.history l) b old new) no_more came)

-- the lines that are left with those before them are all
pub lines_whole : (lines yielded rest left : List EntryLine) (l : EntryLine) → yielded ++ rest ≡ lines →
    rest ≡ l ∷ left → (yielded ++ l ∷ []) ++ left ≡ lines
lines_whole lines yielded rest left l whole steps =
    append_assoc yielded (l ∷ []) left ∙ ap (λ (ls : List EntryLine). yielded ++ ls) (sym steps) ∙ whole

-- fewer entries than lines, while a line is left
pub line_short : (c : Contents) (lines yielded rest left : List EntryLine) (l : EntryLine) (limit : ℕ) (r : SoFar) →
    IsAmid c lines rest (length yielded) r → yielded ++ rest ≡ lines
    → rest ≡ l ∷ left → length lines < limit → length r.history < limit
line_short c lines yielded rest left l limit r amid whole steps few =
    let many : length r.history ≡ length yielded = amid.many in
    let all : length lines ≡ length yielded + length rest = ap length (sym whole) ∙ length-append yielded rest in
    let one : length rest ≡ suc (length left) = ap length steps in
    omega (arith, many, all, few, one)

-- No line is left.
pub last_read : (c : Contents) (lines yielded rest : List EntryLine) (r : SoFar) (history : List Entry) →
    IsAmid c lines rest (length yielded) r → length rest ≡ 0 → history ≡ r.history
    → entries_from (setup_of c) [] lines ≡ Ok history
last_read c lines yielded rest r history amid none is =
    amid.right ∙ ap (entries_from (setup_of c) r.history) (nil_from_length rest none)
    ∙ ap (λ (es : List Entry). Ok es) (sym is)

pub read_legal : (c : Contents) (lines yielded rest : List EntryLine) (r : SoFar) (history : List Entry) →
    IsAmid c lines rest (length yielded) r → history ≡ r.history
    → IsLegal (setup_of c) history
read_legal c lines yielded rest r history amid is =
    subst (IsLegal (setup_of c)) (sym is)
    (subst (λ (x : Contents). IsLegal (setup_of x) r.history) amid.same amid.is_so_far.is_legal)

pub read_short : (c : Contents) (lines yielded rest : List EntryLine) (limit : ℕ) (r : SoFar) (history : List Entry) →
    IsAmid c lines rest (length yielded) r → yielded ++ rest ≡ lines
    → length lines < limit → history ≡ r.history → length history < limit
read_short c lines yielded rest limit r history amid whole few is =
    let same : length history ≡ length r.history = ap length is in
    let many : length r.history ≡ length yielded = amid.many in
    let all : length lines ≡ length yielded + length rest = ap length (sym whole) ∙ length-append yielded rest in
    omega (arith, same, many, all, few)

pub read_benches : (c : Contents) (lines yielded rest : List EntryLine) (r : SoFar) (history : List Entry)
    (benches : List BenchState) → IsAmid c lines rest (length yielded) r
    → history ≡ r.history → benches ≡ r.benches.items → benches ≡ benches_of c history
read_benches c lines yielded rest r history benches amid is are =
    are ∙ whole_benches c r amid.is_so_far amid.same amid.all ∙ ap (benches_of c) (sym is)

-- The history that a text's lines tell.
pub lines_told : (c : Contents) (bytes : List ℕ) (lines : List EntryLine) (result : Reading (List Entry)) →
    run_in (cast_of c.settings c.plant) bytes ≡ Ok lines
    → ReadsRun result (entries_from (setup_of c) [] lines) → ReadsRun result (history_in c bytes)
unfolding history_in
lines_told c bytes lines result are told = subst (ReadsRun result) (sym (ap (history_of (setup_of c)) are)) told

pub lines_refused : (c : Contents) (bytes : List ℕ) (e : HistoryRefusal) →
    RefusesRun e (run_in (cast_of c.settings c.plant) bytes) → RefusesRun e (history_in c bytes)
unfolding history_in
lines_refused c bytes (refusal.BadLine number) is = ap (history_of (setup_of c)) is
lines_refused c bytes (refusal.NotLegal stamp) is = ap (history_of (setup_of c)) is
lines_refused c bytes refusal.Want is = tt
