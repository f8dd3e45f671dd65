-- A station answers what is asked: an entry, if one is made, is counted, kept and told, and else a note is.
use Rattle.std.proofs.Common.{◌≡◌, ℕ, ◌+◌, ◌<◌, ◌≤◌, ◌^◌, Bool, true, false, cond, not, ◌&&◌, List, [], ◌∷◌, ◌++◌, Option}
use Rattle.std.proofs.Common.{Some, None, length, codes, append-nil, append_assoc, refl, sym, ◌∙◌, ap, subst, arith}
use Rattle.std.proofs.lemmas.Bool.{false≢true}
use Rattle.std.proofs.lemmas.List.{length-append}
use Rattle.agreement.proofs.Places.{stands_last}
use Rattle.scenario_file.specs.Reading.{Contents}
use Rattle.script_grammar.specs.Names.{is_correct, who_of}
use Rattle.history_rules.specs.Events.{Entry}
use Rattle.world_rules.specs.Scenarios.{HasKey, setup_of, actors_in}
use Rattle.run_lines.specs.declared.event_line.EventLine.{EventLine}
use Rattle.printed_history.specs.declared.reading.SoFar.{SoFar}
use Rattle.printed_history.specs.Histories.{event_from, standing_event, entry_next}
use Rattle.printed_history.specs.Reading.{IsSoFar, HasMore, Takes, contents_in, is_among, is_at_hand, world_in}
use Rattle.joint_lists.specs.Stations.{IsStation, acts_alone}
use Rattle.joint_lists.proofs.Alone.{alone_more}
use Rattle.kept_lines.specs.Lines.{kept_line, kept_from, kept_file}
use Rattle.station_files.specs.Batch.{Waiting}
use Rattle.run_lines.specs.declared.event_line.EventLine.TheVariants as line
use Rattle.kept_lines.specs.Adding.{cast_in}
use Rattle.station_lives.specs.Saying.{SaidBy, nothing, note, IsNote, note_line, word_lines, words_since}
use Rattle.station_lives.proofs.Saying.{one_note, said_after}
use Rattle.station_rules.specs.Coming.{is_given, is_repeated, entry_of_line, entry_given, first_entry}
use Rattle.station_rules.specs.Answers.{Asked, Start, Given, Again, Unclear, Outcome, entry_answer, start_answer, told_at}
use Rattle.station_rules.specs.Answers.{answer, refusal}
use Rattle.station_rules.specs.Notes.{Reached, reached, begun_note, notes_since, entry_notes}
use Rattle.world_history.specs.Benches.{bench_in}
use Rattle.station_rules.specs.Laws.{AnsweredIsStation}
use Rattle.stations.specs.declared.station.Station.{Station}
use Rattle.stations.specs.declared.taken.Taken.{Taken}
use Rattle.stations.specs.Station.{IsReadyFor, IsReady, IsAhead, IsTheSame, HasAnswered, Enters, bench_of, answer_of}
use Rattle.stations.specs.Station.{list_after, list_of}
use Rattle.stations.specs.Taken.{AreTaken}
use Rattle.stations.specs.Telling.{Tells}
use Rattle.stations.proofs.Kept.{kept_more, kept_one, kept_long}
use Rattle.stations.proofs.Standing.{its_actor}
use Rattle.stations.proofs.Telling.{tells_both}

same_as_it_was : (s : Station) → IsTheSame s s
same_as_it_was s = record { contents = refl; actor = refl }

-- a station is few enough to go on
pub short_list : (s : Station) → IsReady s → length (list_of s) < 2 ^ 32
short_list s is =
    let few : length (list_of s) ≤ length (kept_file (contents_in s.so_far) (list_of s)) =
    kept_long (contents_in s.so_far) [] (list_of s) in
    let size = is.size in
    let room = is.room in
    omega arith

-- no entry, and this told
abbrev pub none_with : List ℕ → Outcome
none_with told = record { entries = []; told = told }

-- where nothing comes of what is asked but this note
pub noted : (s : Station) (asked : Asked) (waits after : Waiting) (line : List ℕ) → IsReady s → IsNote line →
    answer_of s asked ≡ none_with line →
    after ≡ record { lines = waits.lines; out = waits.out ++ line; has_words = waits.has_words } →
    HasAnswered s asked waits s after
noted s asked waits after line ready is_note none put = record {
  ready = ready;
  same = same_as_it_was s;
  list = sym (append-nil (list_of s)) ∙ ap (λ (es : List Entry). list_of s ++ es) (sym (ap (λ (x : Outcome). x.entries) none));
  lines = ap (λ (w : Waiting). w.lines) put
      ∙ sym (append-nil waits.lines)
      ∙ ap (λ (es : List Entry). waits.lines ++ kept_from (contents_in s.so_far) (list_of s) es)
      (sym (ap (λ (x : Outcome). x.entries) none));
  told = ap (λ (w : Waiting). w.out) put
      ∙ ap (λ (bs : List ℕ). waits.out ++ bs) (sym (ap (λ (x : Outcome). x.told) none));
  notes = λ quiet. (
    sym (ap (λ (w : Waiting). w.has_words) put) ∙ quiet,
    subst (SaidBy (contents_in s.so_far) []) (sym (ap (λ (x : Outcome). x.told) none))
        (one_note (contents_in s.so_far) [] line is_note),
  );
}

-- where words of its entries are told once more
pub told_again : (s : Station) (stamp : ℕ) (waits after : Waiting) → IsReady s →
    Tells (contents_in s.so_far) (words_since (contents_in s.so_far) stamp [] (list_of s)) waits after →
    HasAnswered s (Again stamp) waits s after
told_again s stamp waits after ready tells = record {
  ready = ready;
  same = same_as_it_was s;
  list = sym (append-nil (list_of s));
  lines = tells.lines ∙ sym (append-nil waits.lines);
  told = tells.out;
  notes = tells.notes;
}

-- an event that is given makes an entry where its frame wasn't taken before, and the entry may come
given_is : (c : Contents) (actor : ℕ) (list : List Entry) (l : EventLine) (known : Bool) → is_given l ≡ true →
    is_repeated list l ≡ known → entry_given c actor list l ≡ cond (not known) (entry_of_line c actor list l) None
given_is c actor list l known given repeated =
    (λ i. cond (given i && not (repeated i)) (entry_of_line c actor list l) None)

pub repeated_answer : (s : Station) (l : EventLine) → is_given l ≡ true → is_repeated (list_of s) l ≡ true →
    answer_of s (Given l) ≡ none_with (note_line (codes "repeated"))
repeated_answer s l given repeated =
    ap (entry_answer (contents_in s.so_far) (list_of s) l)
    (given_is (contents_in s.so_far) s.actor (list_of s) l true given repeated)
    ∙ ap (λ (b : Bool). none_with (refusal b)) repeated

pub refused_answer : (s : Station) (l : EventLine) (new : SoFar) → is_given l ≡ true →
    is_repeated (list_of s) l ≡ false →
    Takes (entry_of_line (contents_in s.so_far) s.actor (list_of s) l) false s.so_far new →
    (answer_of s (Given l) ≡ none_with (note_line (codes "refused"))) × (new ≡ s.so_far)
refused_answer s l new given repeated takes = by (entry_of_line (contents_in s.so_far) s.actor (list_of s) l) refl takes
  where
    by : (o : Option Entry) → entry_of_line (contents_in s.so_far) s.actor (list_of s) l ≡ o →
        Takes o false s.so_far new →
        (answer_of s (Given l) ≡ none_with (note_line (codes "refused"))) × (new ≡ s.so_far)
    by None none t = (
      ap (entry_answer (contents_in s.so_far) (list_of s) l)
          (given_is (contents_in s.so_far) s.actor (list_of s) l false given repeated ∙ none)
          ∙ ap (λ (b : Bool). none_with (refusal b)) repeated,
      t.1,
    )
    by (Some e) some t = absurd (false≢true t.0)

-- The entry that was taken, where a note is told before it or nothing.
pub record Made (s : Station) (asked : Asked) (front : List ℕ) (new : SoFar) : Type 0 where
  pub entry : Entry
  pub is : answer_of s asked ≡ record {
    entries = entry ∷ [];
    told = front ++ told_at (contents_in s.so_far) (list_of s) entry;
  }
  pub more : HasMore s.so_far new entry

pub made_answer : (s : Station) (l : EventLine) (new : SoFar) → is_given l ≡ true → is_repeated (list_of s) l ≡ false →
    Takes (entry_of_line (contents_in s.so_far) s.actor (list_of s) l) true s.so_far new → Made s (Given l) [] new
made_answer s l new given repeated takes = by (entry_of_line (contents_in s.so_far) s.actor (list_of s) l) refl takes
  where
    by : (o : Option Entry) → entry_of_line (contents_in s.so_far) s.actor (list_of s) l ≡ o →
        Takes o true s.so_far new → Made s (Given l) [] new
    by None none t = absurd (false≢true (sym t.0))
    by (Some e) some t = record {
      entry = e;
      is = ap (entry_answer (contents_in s.so_far) (list_of s) l)
          (given_is (contents_in s.so_far) s.actor (list_of s) l false given repeated ∙ some);
      more = t.1;
    }

-- as it is started, where it did nothing yet
starts_by : (c : Contents) (actor : ℕ) (list : List Entry) → length list ≡ 0 →
    first_entry c actor list ≡ entry_of_line c actor list line.Restart
starts_by c actor [] none = refl
starts_by c actor (e ∷ list) none = absurd (omega (arith, none))

pub started_answer : (s : Station) (new : SoFar) → length (list_of s) ≡ 0 →
    Takes (entry_of_line (contents_in s.so_far) s.actor (list_of s) line.Restart) true s.so_far new →
    Made s Start (begun_note (contents_in s.so_far) s.actor (list_of s)) new
started_answer s new none takes =
    by (entry_of_line (contents_in s.so_far) s.actor (list_of s) line.Restart) refl takes
  where
    by : (o : Option Entry) → entry_of_line (contents_in s.so_far) s.actor (list_of s) line.Restart ≡ o →
        Takes o true s.so_far new → Made s Start (begun_note (contents_in s.so_far) s.actor (list_of s)) new
    by None without t = absurd (false≢true (sym t.0))
    by (Some e) some t = record {
      entry = e;
      is = ap (start_answer (contents_in s.so_far) s.actor (list_of s))
          (starts_by (contents_in s.so_far) s.actor (list_of s) none ∙ some);
      more = t.1;
    }

-- where the start makes no entry
pub unmoved_answer : (s : Station) (new : SoFar) → length (list_of s) ≡ 0 →
    Takes (entry_of_line (contents_in s.so_far) s.actor (list_of s) line.Restart) false s.so_far new →
    (answer_of s Start ≡ none_with (begun_note (contents_in s.so_far) s.actor (list_of s))) × (new ≡ s.so_far)
unmoved_answer s new none takes =
    by (entry_of_line (contents_in s.so_far) s.actor (list_of s) line.Restart) refl takes
  where
    by : (o : Option Entry) → entry_of_line (contents_in s.so_far) s.actor (list_of s) line.Restart ≡ o →
        Takes o false s.so_far new →
        (answer_of s Start ≡ none_with (begun_note (contents_in s.so_far) s.actor (list_of s))) × (new ≡ s.so_far)
    by None without t = (
      ap (start_answer (contents_in s.so_far) s.actor (list_of s))
          (starts_by (contents_in s.so_far) s.actor (list_of s) none ∙ without),
      t.1,
    )
    by (Some e) some t = absurd (false≢true t.0)

pub going_on_answer : (s : Station) → 0 < length (list_of s) →
    answer_of s Start ≡ none_with (begun_note (contents_in s.so_far) s.actor (list_of s))
going_on_answer s some = by (list_of s) some
  where
    by : (list : List Entry) → 0 < length list →
        start_answer (contents_in s.so_far) s.actor list (first_entry (contents_in s.so_far) s.actor list) ≡
        none_with (begun_note (contents_in s.so_far) s.actor list)
    by [] none = absurd (omega (arith, none))
    by (e ∷ rest) some = refl

-- the station with the entry, which isn't counted yet
pub made_ready : AnsweredIsStation → (old new : Station) (asked : Asked) (front : List ℕ)
    (m : Made old asked front new.so_far) → IsReady old → new.actor ≡ old.actor → new.taken ≡ old.taken →
    new.size ≡ old.size → IsReadyFor (list_of old) new
made_ready law old new asked front m ready actor taken size = record {
  at_hand = m.more.is_so_far;
  own = (λ i. is_among (m.more.at_hand i) (actor i)) ∙ ready.own;
  key =
      subst (λ (c : Contents). HasKey c new.actor) (sym m.more.same)
      (subst (HasKey (contents_in old.so_far)) (sym actor) ready.key);
  station =
      subst (λ (c : Contents). IsStation c new.actor (list_of new)) (sym m.more.same)
      (subst (λ (a : ℕ). IsStation (contents_in old.so_far) a (list_of new)) (sym actor)
      (subst (IsStation (contents_in old.so_far) old.actor) (sym (m.more.longer ∙ added))
      (law (contents_in old.so_far) old.actor (list_of old) asked ready.station)));
  there =
      subst (λ (c : Contents). new.actor < actors_in c) (sym m.more.same)
      (subst (λ (a : ℕ). a < actors_in (contents_in old.so_far)) (sym actor) ready.there);
  correct =
      (λ i. is_correct (who_of (m.more.same i)) (actor i)) ∙ ready.correct;
  taken = subst (AreTaken (list_of old)) (sym taken) ready.taken;
  size = size ∙ ready.size ∙ ap (λ (c : Contents). length (kept_file c (list_of old))) (sym m.more.same);
  room = subst (λ (n : ℕ). n < 2 ^ 32) (sym size) ready.room;
}
  where
    added : list_of old ++ m.entry ∷ [] ≡ list_of old ++ (answer_of old asked).entries
    added = ap (λ (x : Outcome). list_of old ++ x.entries) (sym m.is)

-- its bytes
pub size_more : (c : Contents) (before : List Entry) (e : Entry) (size bytes sum : ℕ) →
    size ≡ length (kept_file c before) → bytes ≡ length (kept_line c before e ++ codes "\n") → sum ≡ size + bytes →
    sum ≡ length (kept_file c (before ++ e ∷ []))
size_more c before e size bytes sum is are whole =
    let joined : length (kept_file c (before ++ e ∷ [])) ≡ length (kept_file c before)
    + length (kept_line c before e ++ codes "\n") =
    ap length
    (kept_more c before (e ∷ []) ∙ ap (λ (bs : List ℕ). kept_file c before ++ bs) (kept_one c before e))
    ∙ length-append (kept_file c before) (kept_line c before e ++ codes "\n") in
    omega (arith, is, are, whole, joined)

-- Counted, it is the station's answer. How far the actor was before is known still.
abbrev pub is_ahead : AnsweredIsStation → (old new : Station) (asked : Asked) (front : List ℕ)
    (m : Made old asked front new.so_far) (since : Reached) → IsReady old → new.actor ≡ old.actor →
    new.taken ≡ old.taken → new.size ≡ old.size → since ≡ reached (bench_of old) → IsAhead new since
is_ahead law old new asked front m since ready actor taken size so_far = record {
  before = list_of old;
  entry = m.entry;
  whole = m.more.longer;
  ready = made_ready law old new asked front m ready actor taken size;
  since_is = so_far ∙ (λ i. reached (bench_in (sym m.more.same i) (list_of old) (sym actor i)));
}

-- `between` is what waits once the note before the entry is told
pub entered_answers : (old mid new : Station) (asked : Asked) (front : List ℕ) (m : Made old asked front mid.so_far)
    (waits between after : Waiting) → between.lines ≡ waits.lines → between.out ≡ waits.out ++ front →
    between.has_words ≡ waits.has_words → SaidBy (contents_in old.so_far) [] front → mid.actor ≡ old.actor →
    Enters (list_of old) m.entry mid between new after → HasAnswered old asked waits new after
entered_answers old mid new asked front m waits between after lines out words said actor e = record {
  ready = e.ready;
  same = record { contents = e.same.contents ∙ m.more.same; actor = e.same.actor ∙ actor };
  list = e.list ∙ m.more.longer ∙ ap (λ (x : Outcome). list_of old ++ x.entries) (sym m.is);
  lines = e.lines
      ∙ (λ i. lines i ++ (kept_line (m.more.same i) (list_of old) m.entry ++ codes "\n"))
      ∙ ap (λ (bs : List ℕ). waits.lines ++ bs) (sym (kept_one (contents_in old.so_far) (list_of old) m.entry))
      ∙ ap (λ (x : Outcome). waits.lines ++ kept_from (contents_in old.so_far) (list_of old) x.entries) (sym m.is);
  told = e.told
      ∙ (λ i. out i ++ told_at (m.more.same i) (list_of old) m.entry)
      ∙ append_assoc waits.out front (told_at (contents_in old.so_far) (list_of old) m.entry)
      ∙ ap (λ (x : Outcome). waits.out ++ x.told) (sym m.is);
  notes = λ quiet. (
    sym words ∙ (e.notes quiet).0,
    subst (SaidBy (contents_in old.so_far) []) (sym (ap (λ (x : Outcome). x.told) m.is))
        (said_after front said
        (subst (λ (c : Contents). SaidBy c [] (told_at c (list_of old) m.entry)) m.more.same (e.notes quiet).1)),
  );
}

-- an event's entry, before which nothing is told
pub given_answers : (old mid new : Station) (l : EventLine) (m : Made old (Given l) [] mid.so_far)
    (waits after : Waiting) → mid.actor ≡ old.actor → Enters (list_of old) m.entry mid waits new after →
    HasAnswered old (Given l) waits new after
given_answers old mid new l m waits after actor e =
    entered_answers old mid new (Given l) [] m waits waits after refl (sym (append-nil waits.out)) refl nothing actor e

-- where the file has no room for its line
pub full_after : (old : Station) (new : SoFar) (asked : Asked) (front : List ℕ) (m : Made old asked front new) →
    2 ^ 32 ≤ length (kept_file (contents_in new) new.history) →
    2 ^ 32 ≤ length (kept_file (contents_in old.so_far) (list_after old asked))
full_after old new asked front m full =
    subst (λ (n : ℕ). 2 ^ 32 ≤ n)
    (λ i. length (kept_file (m.more.same i)
    ((m.more.longer ∙ ap (λ (x : Outcome). list_of old ++ x.entries) (sym m.is)) i))) full

-- the three notes
pub badline_note : IsNote (codes "note badline\n")
badline_note = record { text = codes "badline"; one = refl; is = refl }

pub repeated_note : IsNote (codes "note repeated\n")
repeated_note = record { text = codes "repeated"; one = refl; is = refl }

pub refused_note : IsNote (codes "note refused\n")
refused_note = record { text = codes "refused"; one = refl; is = refl }

-- the station in which the last entry is counted
pub counted : (before : List Entry) (e : Entry) (old new : Station) (bytes : ℕ) →
    list_of old ≡ before ++ e ∷ [] → IsReadyFor before old → new.so_far ≡ old.so_far → new.actor ≡ old.actor →
    new.size ≡ old.size + bytes → new.size < 2 ^ 32 →
    bytes ≡ length (kept_line (contents_in old.so_far) before e ++ codes "\n") →
    AreTaken (before ++ e ∷ []) new.taken → IsReady new
counted before e old new bytes whole ready far actor size room are taken = record {
  at_hand = subst IsSoFar (sym far) ready.at_hand;
  own = (λ i. is_at_hand (far i) (actor i)) ∙ ready.own;
  key =
      subst (λ (x : SoFar). HasKey (contents_in x) new.actor) (sym far)
      (subst (HasKey (contents_in old.so_far)) (sym actor) ready.key);
  station =
      subst (λ (x : SoFar). IsStation (contents_in x) new.actor x.history) (sym far)
      (subst (λ (a : ℕ). IsStation (contents_in old.so_far) a (list_of old)) (sym actor) ready.station);
  there = subst (λ (x : SoFar). new.actor < actors_in (contents_in x)) (sym far)
      (subst (λ (a : ℕ). a < actors_in (contents_in old.so_far)) (sym actor) ready.there);
  correct = (λ i. is_correct (who_of (contents_in (far i))) (actor i)) ∙ ready.correct;
  taken = subst (λ (es : List Entry). AreTaken es new.taken) (sym (ap (λ (x : SoFar). x.history) far ∙ whole)) taken;
  size =
      size_more (contents_in old.so_far) before e old.size bytes new.size ready.size are size
      ∙ (λ i. length (kept_file (contents_in (sym far i)) ((sym whole ∙ ap (λ (x : SoFar). x.history) (sym far)) i)));
  room = room;
}

-- where the file has no room for the line of the last entry
pub no_room : (s : Station) (r : Reached) (a : IsAhead s r) (line : List ℕ) (size : ℕ) →
    line ≡ kept_line (contents_in s.so_far) a.before a.entry ++ codes "\n" → size ≡ s.size + length line →
    4294967295 < size → 2 ^ 32 ≤ length (kept_file (contents_in s.so_far) (list_of s))
no_room s r a line size is sum over =
    let whole : size ≡ length (kept_file (contents_in s.so_far) (a.before ++ a.entry ∷ [])) =
    size_more (contents_in s.so_far) a.before a.entry s.size (length line) size a.ready.size (ap length is) sum in
    let high : 2 ^ 32 ≤ length (kept_file (contents_in s.so_far) (a.before ++ a.entry ∷ [])) =
    omega (arith, whole, over) in
    subst (λ (es : List Entry). 2 ^ 32 ≤ length (kept_file (contents_in s.so_far) es)) (sym a.whole) high

-- there is a last entry
pub one_ahead : (s : Station) (r : Reached) → IsAhead s r → 0 < length (list_of s)
one_ahead s r a =
    let long : length (list_of s) ≡ length a.before + 1 = ap length a.whole ∙ length-append a.before (a.entry ∷ []) in
    omega arith

-- the station with it counted
pub counted_ready : (old new : Station) (r : Reached) (a : IsAhead old r) (line : List ℕ) (last : Entry) →
    line ≡ kept_line (contents_in old.so_far) a.before a.entry ++ codes "\n" → new.so_far ≡ old.so_far →
    new.actor ≡ old.actor → new.size ≡ old.size + length line → new.size < 2 ^ 32 → last ≡ a.entry →
    AreTaken (a.before ++ last ∷ []) new.taken → IsReady new
counted_ready old new r a line last is far actor size room same taken =
    counted a.before a.entry old new (length line) a.whole a.ready far actor size room (ap length is)
    (subst (λ (e : Entry). AreTaken (a.before ++ e ∷ []) new.taken) same taken)

-- and what waits then: its words are told, and then its notes
pub enters_so : (old new : Station) (r : Reached) (a : IsAhead old r) (line : List ℕ)
    (waits mid told after : Waiting) →
    line ≡ kept_line (contents_in old.so_far) a.before a.entry ++ codes "\n" → IsReady new →
    new.so_far ≡ old.so_far → new.actor ≡ old.actor → mid ≡ record waits { lines = waits.lines ++ line } →
    Tells (contents_in new.so_far) (word_lines (contents_in new.so_far) a.before a.entry) mid told →
    Tells (contents_in new.so_far) (notes_since (cast_in new.so_far) r (bench_of new)) told after →
    Enters a.before a.entry old waits new after
enters_so old new r a line waits mid told after is ready far actor kept words notes = record {
  ready = ready;
  same = record { contents = ap contents_in far; actor = actor };
  list = ap (λ (x : SoFar). x.history) far;
  lines = all.lines ∙ ap (λ (w : Waiting). w.lines) kept ∙ ap (λ (bs : List ℕ). waits.lines ++ bs) is;
  told = all.out ∙ ap (λ (w : Waiting). w.out ++ told_at (contents_in old.so_far) a.before a.entry) kept;
  notes = λ quiet.
      let its = all.notes quiet in
      (sym (ap (λ (w : Waiting). w.has_words) kept) ∙ its.0, its.1);
}
  where
    -- the notes are those of the entry
    by : a.entry.actor ≡ new.actor
    by = its_actor (contents_in new.so_far) new.actor (list_of new) a.before a.entry ready.station
        (record { after = []; whole = ap (λ (x : SoFar). x.history) far ∙ a.whole })

    came : notes_since (cast_in new.so_far) r (bench_of new) ≡ entry_notes (contents_in new.so_far) a.before a.entry
    came =
        (λ i. notes_since (cast_in new.so_far)
        ((a.since_is ∙ (λ j. reached (bench_in (contents_in (sym far j)) a.before (sym actor j)))) i)
        (bench_in (contents_in new.so_far) ((ap (λ (x : SoFar). x.history) far ∙ a.whole) i) new.actor))
        ∙ (λ i. notes_since (cast_in new.so_far) (reached (bench_in (contents_in new.so_far) a.before (sym by i)))
        (bench_in (contents_in new.so_far) (a.before ++ a.entry ∷ []) (sym by i)))

    whole : Tells (contents_in new.so_far) (told_at (contents_in new.so_far) a.before a.entry) mid after
    whole =
        tells_both (contents_in new.so_far) (word_lines (contents_in new.so_far) a.before a.entry)
        (entry_notes (contents_in new.so_far) a.before a.entry) mid told after words
        (subst (λ (bs : List ℕ). Tells (contents_in new.so_far) bs told after) came notes)

    all : Tells (contents_in old.so_far) (told_at (contents_in old.so_far) a.before a.entry) mid after
    all = subst (λ (c : Contents). Tells c (told_at c a.before a.entry) mid after) (ap contents_in far) whole

-- a station of which only what is remembered of signed keys is another
pub moved : (s new : Station) → new.so_far ≡ s.so_far → new.actor ≡ s.actor → new.taken ≡ s.taken →
    new.size ≡ s.size → IsReady s → IsReady new
moved s new far actor taken size ready = record {
  at_hand = subst IsSoFar (sym far) ready.at_hand;
  own = (λ i. is_at_hand (far i) (actor i)) ∙ ready.own;
  key =
      subst (λ (x : SoFar). HasKey (contents_in x) new.actor) (sym far)
      (subst (HasKey (contents_in s.so_far)) (sym actor) ready.key);
  station =
      subst (λ (x : SoFar). IsStation (contents_in x) new.actor x.history) (sym far)
      (subst (λ (a : ℕ). IsStation (contents_in s.so_far) a (list_of s)) (sym actor) ready.station);
  there = subst (λ (x : SoFar). new.actor < actors_in (contents_in x)) (sym far)
      (subst (λ (a : ℕ). a < actors_in (contents_in s.so_far)) (sym actor) ready.there);
  correct = (λ i. is_correct (who_of (contents_in (far i))) (actor i)) ∙ ready.correct;
  taken =
      subst (λ (x : SoFar). AreTaken x.history new.taken) (sym far)
      (subst (AreTaken (list_of s)) (sym taken) ready.taken);
  size = size ∙ ready.size ∙ ap (λ (x : SoFar). length (kept_file (contents_in x) x.history)) (sym far);
  room = subst (λ (n : ℕ). n < 2 ^ 32) (sym size) ready.room;
}

pub noted_after : (s new : Station) (asked : Asked) (waits after : Waiting) (line : List ℕ) → IsReady s →
    new.so_far ≡ s.so_far → new.actor ≡ s.actor → new.taken ≡ s.taken → new.size ≡ s.size → IsNote line →
    answer_of s asked ≡ none_with line →
    after ≡ record { lines = waits.lines; out = waits.out ++ line; has_words = waits.has_words } →
    HasAnswered s asked waits new after
noted_after s new asked waits after line ready far actor taken size is_note none put =
    let its : HasAnswered s asked waits s after = noted s asked waits after line ready is_note none put in
    record {
      ready = moved s new far actor taken size ready;
      same = record { contents = ap contents_in far; actor = actor };
      list = ap (λ (x : SoFar). x.history) far ∙ its.list;
      lines = its.lines;
      told = its.told;
      notes = its.notes;
    }
