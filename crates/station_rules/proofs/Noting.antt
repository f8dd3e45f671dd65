-- A note is one line, whatever it tells, and what an entry comes to is told in notes alone.
use Rattle.std.proofs.Common.{◌≡◌, ℕ, ℤ, pos, negsuc, zero, suc, ◌+◌, ◌-◌, ◌/◌, ◌%◌, ◌==◌, Bool, true, false, cond, not}
use Rattle.std.proofs.Common.{nat_eq, nat_lt, List, [], ◌∷◌, ◌++◌, Option, Some, None, length, drop, append_assoc, refl, sym}
use Rattle.std.proofs.Common.{ap, arith}
use Rattle.std.specs.Prelude.{codes, decimal}
use Rattle.std.specs.Fmt.{digits, digits_onto, digit_glyph, signed_decimal}
use Rattle.std.specs.List.{list_all}
use Rattle.std.proofs.lemmas.Bool.{and_from, ne_eqb}
use Rattle.message_types.specs.declared.updates.Op.{Op}
use Rattle.message_types.specs.declared.updates.Op.TheVariants as op
use Rattle.message_types.specs.declared.updates.Update.{Update}
use Rattle.message_types.specs.declared.vouchers.Notice.{Notice}
use Rattle.message_types.specs.declared.vouchers.NoticeKind.{NoticeKind}
use Rattle.message_types.specs.declared.vouchers.NoticeKind.TheVariants as notice
use Rattle.field_proxy.specs.declared.writes.Write.{Write}
use Rattle.scenario_file.specs.declared.actors.Cast.{Cast}
use Rattle.scenario_file.specs.Actors.{actor_name}
use Rattle.scenario_file.specs.Reading.{Contents}
use Rattle.script_grammar.proofs.Worded.{all_of_both}
use Rattle.history_rules.specs.Events.{Entry}
use Rattle.world_history.specs.Benches.{bench_in}
use Rattle.world_history.specs.State.{BenchState, executions_shown, view_shown, writes_shown, board_shown, leaves_left}
use Rattle.run_lines.specs.Names.{notice_name}
use Rattle.run_lines.specs.Texts.{numbered_lines, op_text, execution_text, exception_text, write_text, command_text}
use Rattle.run_lines.specs.Texts.{about_text, details_text, notice_text}
use Rattle.station_lives.specs.Saying.{SaidBy, nothing, IsNote, note_line}
use Rattle.station_lives.proofs.Saying.{said_after, one_note}
use Rattle.station_rules.specs.Notes.{begun_note, Reached, view_note, executed_note, write_note, notice_note, lines_behind}
use Rattle.station_rules.specs.Notes.{notes_since}

-- no byte is a line feed
abbrev Free : List ℕ → Type 0
Free bs = list_all (λ b. not (b == 10)) bs ≡ true

both_free : (a b : List ℕ) → Free a → Free b → Free (a ++ b)
both_free a b one two = all_of_both (λ x. not (x == 10)) a b one two

-- a number, however great
glyph_free : (d : ℕ) → not (digit_glyph false d == 10) ≡ true
glyph_free d = by (nat_lt d 10)
  where
    by : (b : Bool) → not (cond b (48 + d) (87 + d) == 10) ≡ true
    by true = ap not (ne_eqb (48 + d) 10 (λ (same : 48 + d ≡ 10). omega arith))
    by false = ap not (ne_eqb (87 + d) 10 (λ (same : 87 + d ≡ 10). omega arith))

either : (b : Bool) (xs ys : List ℕ) → Free xs → Free ys → Free (cond b xs ys)
either true xs ys one other = one
either false xs ys one other = other

digits_free : (k n : ℕ) (acc : List ℕ) → Free acc → Free (digits_onto k 10 false n acc)
digits_free zero n acc all = all
digits_free (suc k) n acc all =
    let more = and_from (not (digit_glyph false (n % 10) == 10)) (list_all (λ b. not (b == 10)) acc)
    (glyph_free (n % 10)) all in
    either (n / 10 == 0) (digit_glyph false (n % 10) ∷ acc)
    (digits_onto k 10 false (n / 10) (digit_glyph false (n % 10) ∷ acc)) more
    (digits_free k (n / 10) (digit_glyph false (n % 10) ∷ acc) more)

number_free : (n : ℕ) → Free (decimal n)
unfolding digits
number_free n = digits_free 64 n [] refl

-- a number behind what is free
numbered_free : (a : List ℕ) (n : ℕ) → Free a → Free (a ++ decimal n)
numbered_free a n one = both_free a (decimal n) one (number_free n)

signed_free : (z : ℤ) → Free (signed_decimal z)
signed_free (pos n) = number_free n
signed_free (negsuc n) = numbered_free (codes "-") (suc n) refl

name_free : (cast : Cast) (a : ℕ) → Free (actor_name cast a)
unfolding actor_name
name_free cast a = by (nat_lt a cast.masters) (nat_lt a (cast.masters + cast.proxies))
  where
    by : (m p : Bool) → Free
        (cond m (codes "m" ++ decimal a)
        (cond p (codes "p" ++ decimal (a - cast.masters)) (codes "s" ++ decimal (a - (cast.masters + cast.proxies)))))
    by true p = numbered_free (codes "m") a refl
    by false true = numbered_free (codes "p") (a - cast.masters) refl
    by false false = numbered_free (codes "s") (a - (cast.masters + cast.proxies)) refl

op_free : (o : Op) → Free (op_text o)
unfolding op_text
op_free (op.Reading point value) =
    both_free (codes "reading " ++ decimal point ++ codes " ") (signed_decimal value)
    (both_free (codes "reading " ++ decimal point) (codes " ") (numbered_free (codes "reading ") point refl) refl)
    (signed_free value)
op_free (op.Set point value) =
    both_free (codes "set " ++ decimal point ++ codes " ") (signed_decimal value)
    (both_free (codes "set " ++ decimal point) (codes " ") (numbered_free (codes "set ") point refl) refl)
    (signed_free value)
op_free (op.Ack alarm) = numbered_free (codes "ack ") alarm refl

-- one space behind what is free
spaced_free : (a : List ℕ) → Free a → Free (a ++ codes " ")
spaced_free a one = both_free a (codes " ") one refl

executed_is_note : (cast : Cast) (number : ℕ) (u : Update) → IsNote (executed_note cast number u)
unfolding execution_text
executed_is_note cast number u = record {
  text = codes "executed " ++ ((numbered ++ codes " ") ++ op_text u.op);
  one = both_free (codes "executed ") ((numbered ++ codes " ") ++ op_text u.op) refl
      (both_free (numbered ++ codes " ") (op_text u.op) (spaced_free numbered all) (op_free u.op));
  is = refl;
}
  where
    named : List ℕ
    named = decimal number ++ codes " " ++ actor_name cast (cast.masters + u.client)

    numbered : List ℕ
    numbered = named ++ codes " " ++ decimal u.t

    all : Free numbered
    all = numbered_free (named ++ codes " ") u.t
        (spaced_free named
        (both_free (decimal number ++ codes " ") (actor_name cast (cast.masters + u.client))
        (spaced_free (decimal number) (number_free number)) (name_free cast (cast.masters + u.client))))

write_is_note : (number : ℕ) (x : Write) → IsNote (write_note number x)
unfolding write_text
write_is_note number x = by x.exception
  where
    head : List ℕ
    head = decimal x.number ++ codes " " ++ decimal x.point ++ codes " " ++ decimal x.raw

    free : Free head
    free = numbered_free (decimal x.number ++ codes " " ++ decimal x.point ++ codes " ") x.raw
        (spaced_free (decimal x.number ++ codes " " ++ decimal x.point)
        (numbered_free (decimal x.number ++ codes " ") x.point
        (spaced_free (decimal x.number) (number_free x.number))))

    -- how the device answered stands at the line's end
    ended : (last : List ℕ) → Free last → IsNote (codes "note write " ++ (head ++ (last ++ codes "\n")))
    ended last one = record {
      text = codes "write " ++ (head ++ last);
      one = both_free (codes "write ") (head ++ last) refl (both_free head last free one);
      is = ap (λ (bs : List ℕ). codes "note write " ++ bs) (sym (append_assoc head last (codes "\n")));
    }

    by : (e : Option ℕ) → IsNote (codes "note write " ++ (head ++ exception_text e))
    by None = ended (codes " ok") refl
    by (Some code) = ended (codes " exception " ++ decimal code) (numbered_free (codes " exception ") code refl)

kind_free : (k : NoticeKind) → Free (notice_name k)
kind_free notice.Done = refl
kind_free notice.Denied = refl
kind_free notice.NoPoint = refl
kind_free notice.OutOfRange = refl
kind_free notice.NotWritable = refl
kind_free notice.NoAlarm = refl
kind_free notice.Raised = refl
kind_free notice.Cleared = refl
kind_free notice.WrongPart = refl

two_free : (x : Notice) → Free (command_text x ++ about_text x)
two_free x =
    both_free (command_text x) (about_text x) (numbered_free (codes " ") x.t refl)
    (numbered_free (codes " ") x.number refl)

details_free : (k : NoticeKind) (x : Notice) → Free (details_text k x)
details_free notice.Done x = numbered_free (codes " ") x.t refl
details_free notice.WrongPart x = numbered_free (codes " ") x.t refl
details_free notice.Raised x = numbered_free (codes " ") x.number refl
details_free notice.Cleared x = numbered_free (codes " ") x.number refl
details_free notice.Denied x = two_free x
details_free notice.NoPoint x = two_free x
details_free notice.OutOfRange x = two_free x
details_free notice.NotWritable x = two_free x
details_free notice.NoAlarm x = two_free x

notice_is_note : (number : ℕ) (x : Notice) → IsNote (notice_note number x)
unfolding notice_text
notice_is_note number x = record {
  text = codes "notice " ++ (named ++ details_text x.what x);
  one = both_free (codes "notice ") (named ++ details_text x.what x) refl
      (both_free named (details_text x.what x)
      (both_free (decimal number ++ codes " ") (notice_name x.what)
      (spaced_free (decimal number) (number_free number)) (kind_free x.what))
      (details_free x.what x));
  is = refl;
}
  where
    named : List ℕ
    named = decimal number ++ codes " " ++ notice_name x.what

-- Note by note.
lines_said : {X : Type 0} (c : Contents) (durable : List Entry) (text : ℕ → X → List ℕ) →
    ((number : ℕ) (x : X) → IsNote (text number x)) → (number : ℕ) (xs : List X) →
    SaidBy c durable (numbered_lines text number xs)
lines_said c durable text are number [] = nothing
lines_said c durable text are number (x ∷ rest) =
    said_after (text number x) (one_note c durable (text number x) (are number x))
    (lines_said c durable text are (number + 1) rest)

view_said : (c : Contents) (durable : List Entry) (before now : ℕ) → SaidBy c durable (view_note before now)
view_said c durable before now = by (nat_eq before now)
  where
    by : (b : Bool) → SaidBy c durable (cond b [] (note_line (codes "view " ++ decimal now)))
    by true = nothing
    by false = one_note c durable (note_line (codes "view " ++ decimal now)) (record {
      text = codes "view " ++ decimal now;
      one = numbered_free (codes "view ") now refl;
      is = refl;
    })

pub notes_said : (c : Contents) (durable : List Entry) (cast : Cast) (r : Reached) (b : BenchState) →
    SaidBy c durable (notes_since cast r b)
notes_said c durable cast r b =
    said_after ((view_note r.view (view_shown b) ++ executed) ++ writes)
    (said_after (view_note r.view (view_shown b) ++ executed)
    (said_after (view_note r.view (view_shown b)) (view_said c durable r.view (view_shown b))
    (lines_said c durable (executed_note cast) (executed_is_note cast) (r.executed + 1)
    (drop r.executed (executions_shown b))))
    (lines_said c durable write_note write_is_note (r.writes + 1) (drop r.writes (writes_shown b))))
    (lines_said c durable notice_note notice_is_note (r.notices + 1) (drop r.notices (board_shown b)))
  where
    executed : List ℕ
    executed = lines_behind (executed_note cast) r.executed (executions_shown b)

    writes : List ℕ
    writes = lines_behind write_note r.writes (writes_shown b)

pub begun_is_note : (c : Contents) (actor : ℕ) (list : List Entry) → IsNote (begun_note c actor list)
begun_is_note c actor list = record {
  text = codes "begun " ++ decimal (length list) ++ codes " left " ++ decimal (leaves_left (bench_in c list actor));
  one = numbered_free (codes "begun " ++ decimal (length list) ++ codes " left ") (leaves_left (bench_in c list actor))
      (both_free (codes "begun " ++ decimal (length list)) (codes " left ")
      (numbered_free (codes "begun ") (length list) refl) refl);
  is = refl;
}
