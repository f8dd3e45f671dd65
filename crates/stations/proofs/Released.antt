-- However a station stops, it was a life: what it keeps and puts out together is kept first.
use Rattle.std.proofs.Common.{◌≡◌, ℕ, ◌≤◌, Bool, true, false, List, [], ◌∷◌, ◌++◌, Option, Some, None, Result, Ok, Err}
use Rattle.std.proofs.Common.{take, length, append_assoc, append-nil, refl, sym, ◌∙◌, ap, subst, arith, inl, inr}
use Rattle.std.specs.Prelude.{◌⊎◌}
use Rattle.plain_lists.specs.Lists.{Begins}
use Rattle.outside.specs.Piece.{with_piece as put_behind}
use Rattle.scenario_file.specs.Reading.{Contents}
use Rattle.history_rules.specs.Events.{Entry}
use Rattle.joint_lists.specs.Stations.{IsStation}
use Rattle.kept_lines.specs.Lines.{kept_from, kept_file}
use Rattle.station_files.specs.declared.batch.ReleaseAnswer.{ReleaseAnswer}
use Rattle.station_files.specs.declared.batch.ReleaseAnswer.TheVariants as release
use Rattle.station_files.specs.Batch.{Waiting, none_waits, kept_with, HasBegun, Releases}
use Rattle.station_files.specs.Held.{Held, with_piece, all_durable}
use Rattle.station_lives.specs.Lives.{Life, kept_by, IsLife}
use Rattle.station_lives.specs.Saying.{SaidBy, nothing, BeginsToSay}
use Rattle.station_lives.proofs.Saying.{said_more, said_after}
use Rattle.station_rules.specs.Answers.{Asked, Work}
use Rattle.station_rules.specs.Laws.{AnswerIsSaid}
use Rattle.stations.specs.declared.station.Station.{Station}
use Rattle.stations.specs.Going.{Origin, work_of, IsKeptOf, KeepsLife, IsLifeOf, KeepsAll, KeepsTo, IsGoing}
use Rattle.stations.specs.Station.{list_of}
use Rattle.stations.proofs.Kept.{kept_more, begins_all, begins_front, begins_more, begins_behind, begins_durable, first_are}
use Rattle.stations.proofs.Going.{each_said, made}

-- a life of which the first entries are durable
abbrev pub life_with : List Entry → List Entry → List ℕ → Life
life_with safe more out = record { list = safe ++ more; durable = length safe; out = out }

-- what it said stands by these
lived_so : (o : Origin) (asked : List Asked) (safe more : List Entry) (out behind : List ℕ) (after : Option Held)
    (put : Option (List ℕ)) → Begins o.list safe → IsStation o.contents o.actor (safe ++ more) →
    work_of o asked ≡ record { list = safe ++ more; told = out ++ behind } → BeginsToSay o.contents safe out →
    KeepsLife o.contents (life_with safe more out) o.held after → put ≡ put_behind o.told out → IsLifeOf o asked after put
lived_so o asked safe more out behind after put read station work said file is = record {
  life = life_with safe more out;
  is = record {
    station = station;
    said = subst (λ (es : List Entry). BeginsToSay o.contents es out) (sym (first_are safe more)) said;
  };
  list = sym (ap (λ (w : Work). w.list) work);
  read = subst (Begins o.list) (sym (first_are safe more)) read;
  said = subst (Begins out) (sym (ap (λ (w : Work). w.told) work)) (begins_front out behind);
  file = file;
  output = is;
}

-- what its file has
kept_so : (c : Contents) (safe more : List Entry) (out behind : List ℕ) (k : Held) →
    k.bytes ≡ kept_file c safe ++ behind → Begins k.bytes (kept_file c (safe ++ more)) →
    length (kept_file c safe) ≤ k.durable → IsKeptOf c (life_with safe more out) k
kept_so c safe more out behind k is begins durable = record {
  bytes = begins;
  durable =
      subst (λ (es : List Entry). Begins (kept_file c es) (take k.durable k.bytes)) (sym (first_are safe more))
      (subst (λ (bs : List ℕ). Begins (kept_file c safe) (take k.durable bs)) (sym is)
      (begins_durable (kept_file c safe) behind k.durable durable));
}

-- a beginning of the lines that waited was added
begun_so : (c : Contents) (safe kept fresh : List Entry) (out front lines : List ℕ) (k : Held) →
    lines ≡ kept_from c (safe ++ kept) fresh → Begins front lines → k.bytes ≡ kept_file c (safe ++ kept) ++ front →
    length (kept_file c safe) ≤ k.durable → IsKeptOf c (life_with safe (kept ++ fresh) out) k
begun_so c safe kept fresh out front lines k are begins is durable =
    kept_so c safe (kept ++ fresh) out (kept_from c safe kept ++ front) k
    (is ∙ ap (λ (bs : List ℕ). bs ++ front) (kept_more c safe kept)
    ∙ append_assoc (kept_file c safe) (kept_from c safe kept) front)
    record {
      rest = begins.rest;
      same =
          ap (kept_file c) (sym (append_assoc safe kept fresh))
          ∙ kept_more c (safe ++ kept) fresh
          ∙ ap (λ (bs : List ℕ). kept_file c (safe ++ kept) ++ bs) (sym are ∙ begins.same)
          ∙ sym (append_assoc (kept_file c (safe ++ kept)) front begins.rest)
          ∙ ap (λ (bs : List ℕ). bs ++ begins.rest) (sym is);
    }
    durable

-- What is known of a station that goes on, with its lists apart.
record Apart (o : Origin) (asked : List Asked) (waits : Waiting) (held : Option Held) (put : Option (List ℕ))
    (safe kept fresh : List Entry) (out : List ℕ) : Type 0 where
  read : Begins o.list safe
  station : IsStation o.contents o.actor (safe ++ (kept ++ fresh))
  work : work_of o asked ≡ record { list = safe ++ (kept ++ fresh); told = out ++ waits.out }
  lines : waits.lines ≡ kept_from o.contents (safe ++ kept) fresh
  file : KeepsTo o.contents safe kept o.held held
  output : put ≡ put_behind o.told out
  said : SaidBy o.contents safe out
  notes : waits.has_words ≡ false → SaidBy o.contents safe waits.out

apart : (o : Origin) (asked : List Asked) (s : Station) (waits : Waiting) (held : Option Held)
    (put : Option (List ℕ)) (g : IsGoing o asked s waits held put) →
    Apart o asked waits held put g.safe g.kept g.fresh g.out
apart o asked s waits held put g = record {
  read = g.read;
  station =
      subst (IsStation o.contents o.actor) all
      (subst (λ (a : ℕ). IsStation o.contents a (list_of s)) g.actor
      (subst (λ (c : Contents). IsStation c s.actor (list_of s)) g.contents g.ready.station));
  work = g.work ∙ (λ i. made (all i) (g.out ++ waits.out));
  lines = g.lines;
  file = g.file;
  output = g.output;
  said = g.said;
  notes = g.notes;
}
  where
    all : list_of s ≡ g.safe ++ (g.kept ++ g.fresh)
    all = g.list ∙ append_assoc g.safe g.kept g.fresh

-- the file after a beginning of the lines that waited was added
begun_file : (o : Origin) (asked : List Asked) (waits : Waiting) (held after : Option Held) (put : Option (List ℕ))
    (safe kept fresh : List Entry) (out said front : List ℕ) → Apart o asked waits held put safe kept fresh out →
    Begins front waits.lines → after ≡ with_piece held front →
    KeepsLife o.contents (life_with safe (kept ++ fresh) said) o.held after
begun_file o asked waits held after put safe kept fresh out said front a begins is = at o.held held after a.file is
  where
    at : (first before now : Option Held) → KeepsTo o.contents safe kept first before → now ≡ with_piece before front →
        KeepsLife o.contents (life_with safe (kept ++ fresh) said) first now
    at None before now to same = tt
    at (Some h) None now to same = absurd to
    at (Some h) (Some b) None to same = absurd (cc)
    at (Some h) (Some b) (Some k) to same =
        let its : k ≡ record { bytes = b.bytes ++ front; durable = b.durable } = cc in
        begun_so o.contents safe kept fresh said front waits.lines k a.lines begins
        (ap (λ (x : Held). x.bytes) its ∙ ap (λ (bs : List ℕ). bs ++ front) to.0)
        (subst (λ (n : ℕ). length (kept_file o.contents safe) ≤ n) (sym (ap (λ (x : Held). x.durable) its)) to.1)

-- the file after the lines that waited were added, and all was made durable
settled_bytes : (o : Origin) (waits : Waiting) (safe kept fresh : List Entry) (b : Held) →
    waits.lines ≡ kept_from o.contents (safe ++ kept) fresh → b.bytes ≡ kept_file o.contents (safe ++ kept) →
    b.bytes ++ waits.lines ≡ kept_file o.contents (safe ++ (kept ++ fresh))
settled_bytes o waits safe kept fresh b are is =
    (λ i. is i ++ are i) ∙ sym (kept_more o.contents (safe ++ kept) fresh)
    ∙ ap (kept_file o.contents) (append_assoc safe kept fresh)

settled_file : (o : Origin) (asked : List Asked) (waits : Waiting) (held after : Option Held) (put : Option (List ℕ))
    (safe kept fresh : List Entry) (out said : List ℕ) → Apart o asked waits held put safe kept fresh out →
    after ≡ all_durable (with_piece held waits.lines) →
    KeepsLife o.contents (life_with (safe ++ (kept ++ fresh)) [] said) o.held after
settled_file o asked waits held after put safe kept fresh out said a is = at o.held held after a.file is
  where
    all : List Entry
    all = safe ++ (kept ++ fresh)

    at : (first before now : Option Held) → KeepsTo o.contents safe kept first before →
        now ≡ all_durable (with_piece before waits.lines) → KeepsLife o.contents (life_with all [] said) first now
    at None before now to same = tt
    at (Some h) None now to same = absurd to
    at (Some h) (Some b) None to same = absurd (cc)
    at (Some h) (Some b) (Some k) to same =
        let its : k ≡ record { bytes = b.bytes ++ waits.lines; durable = length (b.bytes ++ waits.lines) } = cc in
        let bytes : k.bytes ≡ kept_file o.contents all =
        ap (λ (x : Held). x.bytes) its ∙ settled_bytes o waits safe kept fresh b a.lines to.0 in
        let durable : k.durable ≡ length (kept_file o.contents all) =
        ap (λ (x : Held). x.durable) its ∙ ap length (settled_bytes o waits safe kept fresh b a.lines to.0) in
        kept_so o.contents all [] said [] k (bytes ∙ sym (append-nil (kept_file o.contents all)))
        (subst (λ (es : List Entry). Begins k.bytes (kept_file o.contents es)) (sym (append-nil all))
        (subst (λ (bs : List ℕ). Begins k.bytes bs) bytes (begins_all k.bytes)))
        (subst (λ (n : ℕ). length (kept_file o.contents all) ≤ n) (sym durable) (omega arith))

-- it said nothing more
silent_life : (o : Origin) (asked : List Asked) (waits : Waiting) (held after : Option Held) (put : Option (List ℕ))
    (safe kept fresh : List Entry) (out front : List ℕ) → Apart o asked waits held put safe kept fresh out →
    Begins front waits.lines → after ≡ with_piece held front → IsLifeOf o asked after put
silent_life o asked waits held after put safe kept fresh out front a begins is =
    lived_so o asked safe (kept ++ fresh) out waits.out after put a.read a.station a.work
    record { whole = out; said = a.said; begins = begins_all out }
    (begun_file o asked waits held after put safe kept fresh out out front a begins is) a.output

unchanged : (held : Option Held) → held ≡ with_piece held []
unchanged None = refl
unchanged (Some h) = ap Some (λ i. record { bytes = sym (append-nil h.bytes) i; durable = h.durable })

-- a station as it goes on, were it to stop
pub is_life : (o : Origin) (asked : List Asked) (s : Station) (waits : Waiting) (held : Option Held)
    (put : Option (List ℕ)) → IsGoing o asked s waits held put → IsLifeOf o asked held put
is_life o asked s waits held put g =
    silent_life o asked waits held held put g.safe g.kept g.fresh g.out [] (apart o asked s waits held put g)
    record { rest = waits.lines; same = refl } (unchanged held)

-- what waits is said by all entries
all_said : AnswerIsSaid → (o : Origin) (asked : List Asked) (list : List Entry) (told : List ℕ) →
    work_of o asked ≡ record { list = list; told = told } → SaidBy o.contents list told
all_said law o asked list told is =
    subst (λ (w : Work). SaidBy o.contents w.list w.told) is
    (each_said law o.contents o.actor (made o.list []) asked nothing)

-- it kept all, and a beginning of what waited was put
put_more : (told : Option (List ℕ)) (put after : Option (List ℕ)) (out piece : List ℕ) → put ≡ put_behind told out →
    after ≡ put_behind put piece → after ≡ put_behind told (out ++ piece)
put_more None put after out piece is more = more ∙ ap (λ (o : Option (List ℕ)). put_behind o piece) is
put_more (Some bytes) put after out piece is more =
    more ∙ ap (λ (o : Option (List ℕ)). put_behind o piece) is ∙ ap Some (append_assoc bytes out piece)

-- so much of what waited was put as `piece`, once all was kept
loud_life : AnswerIsSaid → (o : Origin) (asked : List Asked) (waits : Waiting) (held after : Option Held)
    (put then : Option (List ℕ)) (safe kept fresh : List Entry) (out piece rest : List ℕ) →
    Apart o asked waits held put safe kept fresh out → waits.out ≡ piece ++ rest →
    after ≡ kept_with held waits.lines waits.has_words → then ≡ put_behind put piece → IsLifeOf o asked after then
loud_life law o asked waits held after put then safe kept fresh out piece rest a cut is more = by waits.has_words refl
  where
    all : List Entry
    all = safe ++ (kept ++ fresh)

    begins : Begins (out ++ piece) (out ++ waits.out)
    begins = record {
      rest = rest;
      same = ap (λ (bs : List ℕ). out ++ bs) cut ∙ sym (append_assoc out piece rest);
    }

    work : (list : List Entry) → list ≡ all → work_of o asked ≡ record { list = list; told = (out ++ piece) ++ rest }
    work list same =
        a.work ∙ (λ i. made (sym same i) (begins.same i))

    by : (b : Bool) → waits.has_words ≡ b → IsLifeOf o asked after then
    by true words =
        let settled : after ≡ all_durable (with_piece held waits.lines) =
        is ∙ ap (kept_with held waits.lines) words in
        lived_so o asked all [] (out ++ piece) rest after then (begins_more o.list safe (kept ++ fresh) a.read)
        (subst (IsStation o.contents o.actor) (sym (append-nil all)) a.station)
        (work (all ++ []) (append-nil all))
        record {
          whole = out ++ waits.out;
          said = all_said law o asked all (out ++ waits.out) a.work;
          begins = begins;
        }
        (settled_file o asked waits held after put safe kept fresh out (out ++ piece) a settled)
        (put_more o.told put then out piece a.output more)
    by false quiet =
        let added : after ≡ with_piece held waits.lines = is ∙ ap (kept_with held waits.lines) quiet in
        lived_so o asked safe (kept ++ fresh) (out ++ piece) rest after then a.read a.station (work all refl)
        record {
          whole = out ++ waits.out;
          said = said_after out a.said (a.notes quiet);
          begins = begins;
        }
        (begun_file o asked waits held after put safe kept fresh out (out ++ piece) waits.lines a
        (begins_all waits.lines) added)
        (put_more o.told put then out piece a.output more)

-- a station that couldn't release what waits
pub refused_life : AnswerIsSaid → (o : Origin) (asked : List Asked) (s : Station) (waits : Waiting)
    (held after : Option Held) (put then : Option (List ℕ)) (e : ReleaseAnswer) → IsGoing o asked s waits held put →
    Releases waits held put (Err e) after then → IsLifeOf o asked after then
refused_life law o asked s waits held after put then e g gives = by e gives
  where
    a : Apart o asked waits held put g.safe g.kept g.fresh g.out
    a = apart o asked s waits held put g

    silent : then ≡ put → HasBegun held waits.lines after → IsLifeOf o asked after then
    silent same begun =
        subst (IsLifeOf o asked after) (sym same)
        (silent_life o asked waits held after put g.safe g.kept g.fresh g.out (take begun.0 waits.lines) a
        (begins_behind [] waits.lines begun.0) begun.1)

    kept : then ≡ put → after ≡ kept_with held waits.lines waits.has_words → IsLifeOf o asked after then
    kept same is =
        loud_life law o asked waits held after put then g.safe g.kept g.fresh g.out [] waits.out a refl is
        (same ∙ nothing_more put)
      where
        nothing_more : (p : Option (List ℕ)) → p ≡ put_behind p []
        nothing_more None = refl
        nothing_more (Some bytes) = ap Some (sym (append-nil bytes))

    by : (r : ReleaseAnswer) → Releases waits held put (Err r) after then → IsLifeOf o asked after then
    by release.NotKept r = silent r.1 r.0
    by release.NotPut r =
        loud_life law o asked waits held after put then g.safe g.kept g.fresh g.out (take r.1.0 waits.out)
        (begins_behind [] waits.out r.1.0).rest a (begins_behind [] waits.out r.1.0).same r.0 r.1.1
    by release.Want (inl begun, same) = silent same begun
    by release.Want (inr is, same) = kept same is

-- what waited was kept and put
pub released : AnswerIsSaid → (o : Origin) (asked : List Asked) (s : Station) (waits : Waiting)
    (held after : Option Held) (put then : Option (List ℕ)) → IsGoing o asked s waits held put →
    after ≡ kept_with held waits.lines waits.has_words → then ≡ put_behind put waits.out →
    IsGoing o asked s none_waits after then
released law o asked s waits held after put then g is more = by waits.has_words refl
  where
    a : Apart o asked waits held put g.safe g.kept g.fresh g.out
    a = apart o asked s waits held put g

    all : list_of s ≡ g.safe ++ (g.kept ++ g.fresh)
    all = g.list ∙ append_assoc g.safe g.kept g.fresh

    work : work_of o asked ≡ record { list = list_of s; told = (g.out ++ waits.out) ++ [] }
    work = g.work ∙ ap (made (list_of s)) (sym (append-nil (g.out ++ waits.out)))

    settled : waits.has_words ≡ true → KeepsTo o.contents (list_of s) [] o.held after
    settled words = at o.held held after g.file (is ∙ ap (kept_with held waits.lines) words)
      where
        at : (first before now : Option Held) → KeepsTo o.contents g.safe g.kept first before →
            now ≡ all_durable (with_piece before waits.lines) → KeepsTo o.contents (list_of s) [] first now
        at None before now to same = tt
        at (Some h) None now to same = absurd to
        at (Some h) (Some b) None to same = absurd (cc)
        at (Some h) (Some b) (Some k) to same =
            let its : k ≡ record { bytes = b.bytes ++ waits.lines; durable = length (b.bytes ++ waits.lines) } = cc in
            let whole : b.bytes ++ waits.lines ≡ kept_file o.contents (list_of s) =
            settled_bytes o waits g.safe g.kept g.fresh b g.lines to.0 ∙ ap (kept_file o.contents) (sym all) in
            let durable : k.durable ≡ length (kept_file o.contents (list_of s)) =
            ap (λ (x : Held). x.durable) its ∙ ap length whole in (
              ap (λ (x : Held). x.bytes) its ∙ whole
                  ∙ ap (kept_file o.contents) (sym (append-nil (list_of s))),
              subst (λ (n : ℕ). length (kept_file o.contents (list_of s)) ≤ n) (sym durable) (omega arith),
            )

    added : waits.has_words ≡ false → KeepsTo o.contents g.safe (g.kept ++ g.fresh) o.held after
    added quiet = at o.held held after g.file (is ∙ ap (kept_with held waits.lines) quiet)
      where
        at : (first before now : Option Held) → KeepsTo o.contents g.safe g.kept first before →
            now ≡ with_piece before waits.lines → KeepsTo o.contents g.safe (g.kept ++ g.fresh) first now
        at None before now to same = tt
        at (Some h) None now to same = absurd to
        at (Some h) (Some b) None to same = absurd (cc)
        at (Some h) (Some b) (Some k) to same =
            let its : k ≡ record { bytes = b.bytes ++ waits.lines; durable = b.durable } = cc in (
              ap (λ (x : Held). x.bytes) its ∙ settled_bytes o waits g.safe g.kept g.fresh b g.lines to.0,
              subst (λ (n : ℕ). length (kept_file o.contents g.safe) ≤ n) (sym (ap (λ (x : Held). x.durable) its))
                  to.1,
            )

    by : (b : Bool) → waits.has_words ≡ b → IsGoing o asked s none_waits after then
    by true words = record {
      ready = g.ready;
      contents = g.contents;
      actor = g.actor;
      safe = list_of s;
      kept = [];
      fresh = [];
      out = g.out ++ waits.out;
      read = subst (Begins o.list) (sym all) (begins_more o.list g.safe (g.kept ++ g.fresh) g.read);
      list = sym (append-nil (list_of s ++ []) ∙ append-nil (list_of s));
      work = work;
      lines = refl;
      file = settled words;
      output = put_more o.told put then g.out waits.out g.output more;
      said = all_said law o asked (list_of s) (g.out ++ waits.out) g.work;
      notes = λ none. nothing;
    }
    by false quiet = record {
      ready = g.ready;
      contents = g.contents;
      actor = g.actor;
      safe = g.safe;
      kept = g.kept ++ g.fresh;
      fresh = [];
      out = g.out ++ waits.out;
      read = g.read;
      list = all ∙ sym (append-nil (g.safe ++ (g.kept ++ g.fresh)));
      work = work;
      lines = refl;
      file = added quiet;
      output = put_more o.told put then g.out waits.out g.output more;
      said = said_after g.out g.said (g.notes quiet);
      notes = λ none. nothing;
    }

-- where nothing waits any more, all is kept and put
pub all_done : (o : Origin) (asked : List Asked) (s : Station) (waits : Waiting) (held : Option Held)
    (put : Option (List ℕ)) → IsGoing o asked s waits held put → waits ≡ none_waits →
    KeepsAll o.contents (work_of o asked).list o.held held × (put ≡ put_behind o.told (work_of o asked).told)
all_done o asked s waits held put g none = (at o.held held g.file, told)
  where
    silent : kept_from o.contents (g.safe ++ g.kept) g.fresh ≡ []
    silent = sym g.lines ∙ ap (λ (w : Waiting). w.lines) none

    whole : kept_file o.contents (g.safe ++ g.kept) ≡ kept_file o.contents (work_of o asked).list
    whole =
        sym (append-nil (kept_file o.contents (g.safe ++ g.kept)))
        ∙ ap (λ (bs : List ℕ). kept_file o.contents (g.safe ++ g.kept) ++ bs) (sym silent)
        ∙ sym (kept_more o.contents (g.safe ++ g.kept) g.fresh)
        ∙ ap (kept_file o.contents) (sym g.list ∙ sym (ap (λ (w : Work). w.list) g.work))

    at : (first now : Option Held) → KeepsTo o.contents g.safe g.kept first now →
        KeepsAll o.contents (work_of o asked).list first now
    at None now to = tt
    at (Some h) None to = absurd to
    at (Some h) (Some k) to = to.0 ∙ whole

    told : put ≡ put_behind o.told (work_of o asked).told
    told =
        g.output ∙ ap (put_behind o.told)
        (sym (append-nil g.out) ∙ ap (λ (w : Waiting). g.out ++ w.out) (sym none)
        ∙ sym (ap (λ (w : Work). w.told) g.work))
