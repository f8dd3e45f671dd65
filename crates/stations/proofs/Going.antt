-- A station that answers goes on.
use Rattle.std.proofs.Common.{◌≡◌, ℕ, ◌≤◌, Bool, true, false, List, [], ◌∷◌, ◌++◌, Option, Some, None, IfSome, length}
use Rattle.std.proofs.Common.{◌+◌, ◌<◌, ◌^◌, take, append_assoc, append-nil, refl, sym, ◌∙◌, ap, subst, arith, inl, inr}
use Rattle.std.proofs.lemmas.List.{length-append}
use Rattle.std.specs.Option.{option_to_list}
use Rattle.outside.specs.Piece.{with_piece as put_behind}
use Rattle.scenario_file.specs.Reading.{Contents}
use Rattle.history_rules.specs.Events.{Entry}
use Rattle.printed_history.specs.Reading.{contents_in}
use Rattle.kept_lines.specs.Lines.{kept_from, kept_file}
use Rattle.station_files.specs.declared.lines.Came.{Came}
use Rattle.station_files.specs.declared.lines.Came.TheVariants as came
use Rattle.station_files.specs.Batch.{Waiting, none_waits}
use Rattle.station_files.specs.Held.{Held}
use Rattle.station_files.specs.Input.{ComesOf}
use Rattle.station_lives.specs.Saying.{SaidBy, nothing}
use Rattle.station_lives.proofs.Saying.{said_more, said_after}
use Rattle.station_rules.specs.Answers.{Asked, Start, Outcome, Work, answer, after_asked}
use Rattle.station_rules.specs.Laws.{AnswerIsSaid}
use Rattle.stations.specs.declared.station.Station.{Station}
use Rattle.stations.specs.Asking.{AskedOf, input_asked}
use Rattle.stations.specs.Beginning.{IsHeldWhole}
use Rattle.plain_lists.specs.Lists.{Begins}
use Rattle.stations.specs.Going.{after_each, Origin, origin, asked_of_life, work_of, came_asked, AnswersIf, EndsAt, Goes}
use Rattle.stations.specs.Going.{KeepsTo, IsGoing, IsFull, Overfills}
use Rattle.stations.specs.Station.{IsReady, HasAnswered, list_after, list_of, answer_of}
use Rattle.stations.proofs.Coming.{came_next}
use Rattle.stations.proofs.Kept.{begins_all, kept_behind}

-- work, by its parts
abbrev pub made : List Entry → List ℕ → Work
made list told = record { list = list; told = told }

-- one more is answered last
pub each_more : (c : Contents) (actor : ℕ) (work : Work) (asked : List Asked) (last : Asked) →
    after_each c actor work (asked ++ last ∷ []) ≡ after_asked c actor (after_each c actor work asked) last
each_more c actor work [] last = refl
each_more c actor work (asked ∷ rest) last = each_more c actor (after_asked c actor work asked) rest last

-- all that was told is said by the entries
pub each_said : AnswerIsSaid → (c : Contents) (actor : ℕ) (work : Work) (asked : List Asked) →
    SaidBy c work.list work.told → SaidBy c (after_each c actor work asked).list (after_each c actor work asked).told
each_said law c actor work [] said = said
each_said law c actor work (asked ∷ rest) said =
    each_said law c actor (after_asked c actor work asked) rest
    (said_after work.told (said_more (answer c actor work.list asked).entries said)
    (law c actor work.list asked))

put_nothing : (told : Option (List ℕ)) → told ≡ put_behind told []
put_nothing None = refl
put_nothing (Some bytes) = ap Some (sym (append-nil bytes))

-- before it starts
pub first_going : (s : Station) (held : Option Held) (told : Option (List ℕ)) → IsReady s →
    IsHeldWhole (contents_in s.so_far) (list_of s) held → IsGoing (origin s held told) [] s none_waits held told
first_going s held told ready whole = record {
  ready = ready;
  contents = refl;
  actor = refl;
  safe = list_of s;
  kept = [];
  fresh = [];
  out = [];
  read = begins_all (list_of s);
  list = sym (append-nil (list_of s ++ []) ∙ append-nil (list_of s));
  work = refl;
  lines = refl;
  file = at held whole;
  output = put_nothing told;
  said = nothing;
  notes = λ quiet. nothing;
}
  where
    at : (h : Option Held) → IsHeldWhole (contents_in s.so_far) (list_of s) h →
        KeepsTo (contents_in s.so_far) (list_of s) [] h h
    at None is = tt
    at (Some h) is = (
      ap (λ (x : Held). x.bytes) is
          ∙ ap (kept_file (contents_in s.so_far)) (sym (append-nil (list_of s))),
      durable (ap (λ (x : Held). x.durable) is),
    )
      where
        durable : h.durable ≡ length (kept_file (contents_in s.so_far) (list_of s)) →
            length (kept_file (contents_in s.so_far) (list_of s)) ≤ h.durable
        durable same = omega arith

-- a line more is answered
pub one_going : (o : Origin) (asked : List Asked) (last : Asked) (s new : Station) (waits after : Waiting)
    (held : Option Held) (put : Option (List ℕ)) → IsGoing o asked s waits held put →
    HasAnswered s last waits new after → IsGoing o (asked ++ last ∷ []) new after held put
one_going o asked last s new waits after held put g a = record {
  ready = a.ready;
  contents = a.same.contents ∙ g.contents;
  actor = a.same.actor ∙ g.actor;
  safe = g.safe;
  kept = g.kept;
  fresh = g.fresh ++ its.entries;
  out = g.out;
  read = g.read;
  list = a.list ∙ ap (λ (es : List Entry). es ++ its.entries) g.list
      ∙ append_assoc (g.safe ++ g.kept) g.fresh its.entries;
  work = each_more o.contents o.actor (made o.list []) asked last
      ∙ ap (λ (w : Work). after_asked o.contents o.actor w last) g.work
      ∙ answered;
  lines = a.lines ∙ lines;
  file = g.file;
  output = g.output;
  said = g.said;
  notes = λ quiet.
      subst (SaidBy o.contents g.safe) (sym a.told)
      (said_after waits.out (g.notes (a.notes quiet).0) (more (a.notes quiet).1));
}
  where
    its : Outcome
    its = answer_of s last

    same : answer o.contents o.actor (list_of s) last ≡ its
    same = λ i. answer (sym g.contents i) (sym g.actor i) (list_of s) last

    told : (g.out ++ waits.out) ++ its.told ≡ g.out ++ after.out
    told = append_assoc g.out waits.out its.told ∙ ap (λ (bs : List ℕ). g.out ++ bs) (sym a.told)

    answered : after_asked o.contents o.actor (made (list_of s) (g.out ++ waits.out)) last ≡
        made (list_of new) (g.out ++ after.out)
    answered =
        (λ i. made (list_of s ++ (same i).entries) ((g.out ++ waits.out) ++ (same i).told))
        ∙ (λ i. made (sym a.list i) (told i))

    lines : waits.lines ++ kept_from (contents_in s.so_far) (list_of s) its.entries ≡ kept_from o.contents
        (g.safe ++ g.kept) (g.fresh ++ its.entries)
    lines =
        (λ i. g.lines i ++ kept_from (g.contents i) (g.list i) its.entries)
        ∙ sym (kept_behind o.contents (g.safe ++ g.kept) g.fresh its.entries)

    more : SaidBy (contents_in s.so_far) [] its.told → SaidBy o.contents g.safe its.told
    more said = said_more g.safe (subst (λ (c : Contents). SaidBy c [] its.told) g.contents said)

-- it has started
pub started_going : (s new : Station) (waits after : Waiting) (held : Option Held) (told : Option (List ℕ)) →
    IsReady s → IsHeldWhole (contents_in s.so_far) (list_of s) held → waits ≡ none_waits →
    HasAnswered s Start waits new after → IsGoing (origin s held told) (Start ∷ []) new after held told
started_going s new waits after held told ready whole none answered =
    one_going (origin s held told) [] Start s new none_waits after held told (first_going s held told ready whole)
    (subst (λ (w : Waiting). HasAnswered s Start w new after) none answered)

-- whatever is next
pub next_going : (o : Origin) (asked : List Asked) (next : Option Asked) (s new : Station) (waits after : Waiting)
    (held : Option Held) (put : Option (List ℕ)) → IsGoing o asked s waits held put →
    AnswersIf s next waits new after → IsGoing o (asked ++ option_to_list next) new after held put
next_going o asked None s new waits after held put g same =
    subst (λ (xs : List Asked). IsGoing o xs new after held put) (sym (append-nil asked))
    (subst (λ (w : Waiting). IsGoing o asked new w held put) (sym same.1)
    (subst (λ (x : Station). IsGoing o asked x waits held put) (sym same.0) g))
next_going o asked (Some last) s new waits after held put g a = one_going o asked last s new waits after held put g a

-- more was asked of what waited
pub asked_more : (room : ℕ) (first mid left : Option (List ℕ)) (asked more : List Asked) →
    AskedOf room first asked mid → AskedOf room mid more left → AskedOf room first (asked ++ more) left
asked_more room None mid left asked more before next = tt
asked_more room (Some bytes) None left asked more before next = absurd before
asked_more room (Some bytes) (Some rest) None asked more before next = absurd next
asked_more room (Some bytes) (Some rest) (Some end) asked more before next =
    before ∙ ap (λ (xs : List Asked). asked ++ xs) next ∙ sym (append_assoc asked more (input_asked room end))

pub none_asked : (room : ℕ) (waiting : Option (List ℕ)) → AskedOf room waiting [] waiting
none_asked room None = tt
none_asked room (Some bytes) = refl

-- nothing waits any more
input_none : (room : ℕ) → input_asked room [] ≡ []
unfolding input_asked
input_none room = refl

pub all_asked : (room : ℕ) (first mid left : Option (List ℕ)) (asked more : List Asked) → AskedOf room first asked mid →
    AskedOf room mid more left → EndsAt mid left →
    IfSome first (λ bytes. (Start ∷ (asked ++ more)) ≡ asked_of_life room bytes)
all_asked room None mid left asked more before next end = tt
all_asked room (Some bytes) None left asked more before next end = absurd before
all_asked room (Some bytes) (Some rest) None asked more before next end = absurd next
all_asked room (Some bytes) (Some rest) (Some last) asked more before next end =
    ap (λ (xs : List Asked). Start ∷ xs)
    (sym (append-nil (asked ++ more))
    ∙ ap (λ (xs : List Asked). (asked ++ more) ++ xs) (sym (ap (input_asked room) end ∙ input_none room))
    ∙ sym (asked_more room (Some bytes) (Some rest) (Some last) asked more before next))

-- what was asked so far is a beginning of all
pub asked_first : (room : ℕ) (first : Option (List ℕ)) → IfSome first (λ bytes. Begins [] (asked_of_life room bytes))
asked_first room None = tt
asked_first room (Some bytes) = record { rest = asked_of_life room bytes; same = refl }

pub asked_begins : (room : ℕ) (first left : Option (List ℕ)) (asked : List Asked) → AskedOf room first asked left →
    IfSome first (λ bytes. Begins (Start ∷ asked) (asked_of_life room bytes))
asked_begins room None left asked next = tt
asked_begins room (Some bytes) None asked next = absurd next
asked_begins room (Some bytes) (Some rest) asked next = record {
  rest = input_asked room rest;
  same = ap (λ (xs : List Asked). Start ∷ xs) next;
}

-- at the end of an input nothing waits
ends_so : (room : ℕ) (before left : Option (List ℕ)) (c : Came) → ComesOf room before c left → came_asked c ≡ None →
    EndsAt before left
ends_so room None left c comes none = tt
ends_so room (Some bytes) None c comes none = tt
ends_so room (Some bytes) (Some rest) (came.Line line) comes none = absurd (cc)
ends_so room (Some bytes) (Some rest) came.TooLong comes none = absurd (cc)
ends_so room (Some bytes) (Some rest) came.Unended comes none = absurd (cc)
ends_so room (Some bytes) (Some rest) came.End comes none = comes.1

-- what came was answered
pub goes_so : (room : ℕ) (before left : Option (List ℕ)) (c : Came) (ask : Option Asked) (s new : Station)
    (waits after : Waiting) (is_ended : Bool) → ComesOf room before c left → ask ≡ came_asked c →
    AnswersIf s ask waits new after → (is_ended ≡ true → ask ≡ None) →
    (is_ended ≡ false → 0 < length (option_to_list ask)) → Goes room before s waits is_ended left new after
goes_so room before left c ask s new waits after is_ended comes same answers ended one = record {
  asked = ask;
  next = subst (λ (o : Option Asked). AskedOf room before (option_to_list o) left) (sym same)
      (came_next room before left c comes);
  answered = answers;
  ended = λ is. ends_so room before left c comes (sym same ∙ ended is);
  one = one;
}

-- what came has no room in the file
pub overfills_so : (room : ℕ) (before left : Option (List ℕ)) (c : Came) (asked : Asked) (s : Station) →
    ComesOf room before c left → Some asked ≡ came_asked c →
    2 ^ 32 ≤ length (kept_file (contents_in s.so_far) (list_after s asked)) → Overfills room before s left
overfills_so room before left c asked s comes same over = record {
  asked = asked;
  next = subst (λ (o : Option Asked). AskedOf room before (option_to_list o) left) (sym same)
      (came_next room before left c comes);
  over = over;
}

-- the entries after one more is answered
list_next : (o : Origin) (asked : List Asked) (last : Asked) (s : Station) (waits : Waiting) (held : Option Held)
    (put : Option (List ℕ)) → IsGoing o asked s waits held put →
    (work_of o (asked ++ last ∷ [])).list ≡ list_after s last
list_next o asked last s waits held put g =
    ap (λ (w : Work). w.list)
    (each_more o.contents o.actor (made o.list []) asked last
    ∙ ap (λ (w : Work). after_asked o.contents o.actor w last) g.work)
    ∙ (λ i. list_of s ++ (answer (sym g.contents i) (sym g.actor i) (list_of s) last).entries)

full_kept : (o : Origin) (asked : List Asked) (last : Asked) (s : Station) (waits : Waiting) (held : Option Held)
    (put : Option (List ℕ)) → IsGoing o asked s waits held put →
    2 ^ 32 ≤ length (kept_file (contents_in s.so_far) (list_after s last)) →
    2 ^ 32 ≤ length (kept_file o.contents (work_of o (asked ++ last ∷ [])).list)
full_kept o asked last s waits held put g over =
    subst (λ (n : ℕ). 2 ^ 32 ≤ n)
    (λ i. length (kept_file (g.contents i) (sym (list_next o asked last s waits held put g) i))) over

-- full as it starts
pub full_first : (room : ℕ) (waiting : Option (List ℕ)) (s : Station) (held : Option Held) (told : Option (List ℕ)) →
    IsReady s → IsHeldWhole (contents_in s.so_far) (list_of s) held →
    2 ^ 32 ≤ length (kept_file (contents_in s.so_far) (list_after s Start)) → IsFull (origin s held told) room waiting
full_first room waiting s held told ready whole over = record {
  asked = Start ∷ [];
  came = asked_begins room waiting waiting [] (none_asked room waiting);
  much = inl (full_kept (origin s held told) [] Start s none_waits held told (first_going s held told ready whole) over);
}

-- full as a line came
pub full_next : (room : ℕ) (o : Origin) (first mid left : Option (List ℕ)) (asked : List Asked) (s : Station)
    (waits : Waiting) (held : Option Held) (put : Option (List ℕ)) → IsGoing o (Start ∷ asked) s waits held put →
    AskedOf room first asked mid → Overfills room mid s left → IsFull o room first
full_next room o first mid left asked s waits held put g so_far full = record {
  asked = Start ∷ (asked ++ full.asked ∷ []);
  came =
      asked_begins room first left (asked ++ full.asked ∷ [])
      (asked_more room first mid left asked (full.asked ∷ []) so_far full.next);
  much = inl (full_kept o (Start ∷ asked) full.asked s waits held put g full.over);
}

-- as often as is counted
pub full_count : (room : ℕ) (o : Origin) (first mid : Option (List ℕ)) (asked : List Asked) →
    AskedOf room first asked mid → 18446744073709551615 ≤ length asked → IsFull o room first
full_count room o first mid asked so_far many =
    let all : 2 ^ 64 ≤ length (Start ∷ asked) = omega (arith, many) in
    record {
      asked = Start ∷ asked;
      came = asked_begins room first mid asked so_far;
      much = inr all;
    }

-- one more was asked
pub count_more : (turn : ℕ) (asked : List Asked) (next : Option Asked) → turn ≤ length asked →
    0 < length (option_to_list next) → turn + 1 ≤ length (asked ++ option_to_list next)
count_more turn asked next many one =
    let long : length (asked ++ option_to_list next) ≡ length asked + length (option_to_list next) =
    length-append asked (option_to_list next) in
    omega (arith, many, one, long)
