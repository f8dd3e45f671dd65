-- What each actor came to, the audit and the agreement, as lines that are passed over.
use Rattle.std.proofs.Common.{◌≡◌, ℕ, ℤ, pos, negsuc, suc, ◌+◌, ◌-◌, Bool, true, false, cond, nat_lt, List, []}
use Rattle.std.proofs.Common.{◌++◌, Option, Some, None, length, append-nil, append_assoc, refl, sym, ◌∙◌, ap, subst}
use Rattle.std.specs.Prelude.{codes, decimal}
use Rattle.std.specs.Fmt.{signed_decimal}
use Rattle.std.specs.List.{list_all, flat_map}
use Rattle.message_types.specs.declared.updates.Op.{Op}
use Rattle.message_types.specs.declared.updates.Op.TheVariants as op
use Rattle.message_types.specs.declared.updates.Update.{Update}
use Rattle.message_types.specs.declared.vouchers.Notice.{Notice}
use Rattle.message_types.specs.declared.vouchers.NoticeKind.{NoticeKind}
use Rattle.message_types.specs.declared.vouchers.NoticeKind.TheVariants as notice
use Rattle.field_proxy.specs.declared.writes.Write.{Write}
use Rattle.scenario_file.specs.declared.actors.Cast.{Cast}
use Rattle.scenario_file.specs.Actors.{actor_name}
use Rattle.run_lines.specs.Names.{notice_name}
use Rattle.run_lines.specs.Texts.{op_text, halted_text, numbered_lines, execution_text, intruded_text}
use Rattle.run_lines.specs.Texts.{executions_text, master_text, exception_text, write_text, proxy_text, command_text}
use Rattle.run_lines.specs.Texts.{about_text, details_text, notice_text, screen_text, forgery_text, intrusion_text}
use Rattle.run_lines.specs.Texts.{audit_text, agree_text}
use Rattle.run_lines.specs.Runs.{counts}
use Rattle.printed_laws.specs.Lines.{IsPassed}
use Rattle.printed_laws.proofs.LinesPassed.{numeral_line, numeral_counts, both_passed, each_passed, numbered_passed}
use Rattle.printed_laws.proofs.LinesPassed.{line_passed}
use Rattle.script_grammar.proofs.Worded.{all_of_both, is_line_byte}

-- The beginning of a line that doesn't tell how many entries follow, whatever comes behind it.
record IsBegun (bs : List ℕ) : Type 0 where
  all : list_all is_line_byte bs ≡ true
  other : (rest : List ℕ) → counts (bs ++ rest) ≡ false

begun_by_number : (n : ℕ) → IsBegun (decimal n)
begun_by_number n = record { all = numeral_line n; other = numeral_counts n }

goes_on : (a b : List ℕ) → IsBegun a → list_all is_line_byte b ≡ true → IsBegun (a ++ b)
goes_on a b begun all = record {
  all = all_of_both is_line_byte a b begun.all all;
  other = λ rest. ap counts (append_assoc a b rest) ∙ begun.other (b ++ rest);
}

ends : (bs : List ℕ) → IsBegun bs → IsPassed (bs ++ codes "\n")
ends bs begun = line_passed bs begun.all (ap counts (sym (append-nil bs)) ∙ begun.other [])

-- the same where the line's end stands in its last part
ends_with : (a b : List ℕ) → IsBegun a → list_all is_line_byte b ≡ true → IsPassed (a ++ (b ++ codes "\n"))
ends_with a b begun all = subst IsPassed (append_assoc a b (codes "\n")) (ends (a ++ b) (goes_on a b begun all))

joined_line : (a b : List ℕ) → list_all is_line_byte a ≡ true → list_all is_line_byte b ≡ true →
    list_all is_line_byte (a ++ b) ≡ true
joined_line a b one two = all_of_both is_line_byte a b one two

name_line : (cast : Cast) (a : ℕ) → list_all is_line_byte (actor_name cast a) ≡ true
unfolding actor_name
name_line cast a = by (nat_lt a cast.masters) (nat_lt a (cast.masters + cast.proxies))
  where
    by : (m p : Bool) → list_all is_line_byte
        (cond m (codes "m" ++ decimal a)
        (cond p (codes "p" ++ decimal (a - cast.masters)) (codes "s" ++ decimal (a - (cast.masters + cast.proxies)))))
        ≡ true
    by true p = joined_line (codes "m") (decimal a) refl (numeral_line a)
    by false true = joined_line (codes "p") (decimal (a - cast.masters)) refl (numeral_line (a - cast.masters))
    by false false = joined_line (codes "s") (decimal (a - (cast.masters + cast.proxies))) refl
        (numeral_line (a - (cast.masters + cast.proxies)))

signed_line : (z : ℤ) → list_all is_line_byte (signed_decimal z) ≡ true
signed_line (pos n) = numeral_line n
signed_line (negsuc n) = joined_line (codes "-") (decimal (suc n)) refl (numeral_line (suc n))

halted_line : (b : Bool) → list_all is_line_byte (halted_text b) ≡ true
halted_line true = refl
halted_line false = refl

op_line : (o : Op) → list_all is_line_byte (op_text o) ≡ true
unfolding op_text
op_line (op.Reading point value) =
    joined_line (codes "reading " ++ decimal point ++ codes " ") (signed_decimal value)
    (joined_line (codes "reading " ++ decimal point) (codes " ")
    (joined_line (codes "reading ") (decimal point) refl (numeral_line point)) refl) (signed_line value)
op_line (op.Set point value) =
    joined_line (codes "set " ++ decimal point ++ codes " ") (signed_decimal value)
    (joined_line (codes "set " ++ decimal point) (codes " ")
    (joined_line (codes "set ") (decimal point) refl (numeral_line point)) refl) (signed_line value)
op_line (op.Ack alarm) = joined_line (codes "ack ") (decimal alarm) refl (numeral_line alarm)

execution_passed : (cast : Cast) (number : ℕ) (u : Update) → IsPassed (execution_text cast number u)
unfolding execution_text
execution_passed cast number u =
    ends (decimal number ++ codes " " ++ actor_name cast (cast.masters + u.client) ++ codes " " ++ decimal u.t
    ++ codes " " ++ op_text u.op)
    (goes_on (decimal number ++ codes " " ++ actor_name cast (cast.masters + u.client) ++ codes " " ++ decimal u.t
    ++ codes " ") (op_text u.op)
    (goes_on (decimal number ++ codes " " ++ actor_name cast (cast.masters + u.client) ++ codes " " ++ decimal u.t)
    (codes " ")
    (goes_on (decimal number ++ codes " " ++ actor_name cast (cast.masters + u.client) ++ codes " ") (decimal u.t)
    (goes_on (decimal number ++ codes " " ++ actor_name cast (cast.masters + u.client)) (codes " ")
    (goes_on (decimal number ++ codes " ") (actor_name cast (cast.masters + u.client))
    (goes_on (decimal number) (codes " ") (begun_by_number number) refl)
    (name_line cast (cast.masters + u.client))) refl) (numeral_line u.t)) refl) (op_line u.op))

word_begun : (w : List ℕ) → list_all is_line_byte w ≡ true → ((rest : List ℕ) → counts (w ++ rest) ≡ false) → IsBegun w
word_begun w all other = record { all = all; other = other }

-- a word, an actor's name, a word
named_begun : (w v : List ℕ) (cast : Cast) (a : ℕ) → IsBegun w → list_all is_line_byte v ≡ true →
    IsBegun (w ++ actor_name cast a ++ v)
named_begun w v cast a begun all =
    goes_on (w ++ actor_name cast a) v (goes_on w (actor_name cast a) begun (name_line cast a)) all

pub intruded_passed : (cast : Cast) (master : ℕ) → IsPassed (intruded_text cast master)
unfolding intruded_text
intruded_passed cast master =
    ends_with (codes "master " ++ actor_name cast master) (codes " intruded")
    (goes_on (codes "master ") (actor_name cast master) (word_begun (codes "master ") refl (λ rest. refl))
    (name_line cast master)) refl

-- a line and what follows it
with_more : (a b rest : List ℕ) → IsPassed (a ++ b) → IsPassed rest → IsPassed (a ++ (b ++ rest))
with_more a b rest one two = subst IsPassed (append_assoc a b rest) (both_passed (a ++ b) rest one two)

pub master_passed : (cast : Cast) (master view : ℕ) (executions : List Update) (is_halted : Bool) →
    IsPassed (master_text cast master view executions is_halted)
unfolding master_text executions_text
master_passed cast master view executions is_halted =
    let head : List ℕ = codes "master " ++ actor_name cast master ++ codes " view " ++ decimal view in
    let begun = goes_on (codes "master " ++ actor_name cast master ++ codes " view ") (decimal view)
    (named_begun (codes "master ") (codes " view ") cast master (word_begun (codes "master ") refl (λ rest. refl))
    refl) (numeral_line view) in
    with_more head (codes " executed " ++ decimal (length executions) ++ halted_text is_halted ++ codes "\n")
    (numbered_lines (execution_text cast) 1 executions)
    (ends_with head (codes " executed " ++ decimal (length executions) ++ halted_text is_halted) begun
    (joined_line (codes " executed " ++ decimal (length executions)) (halted_text is_halted)
    (joined_line (codes " executed ") (decimal (length executions)) refl (numeral_line (length executions)))
    (halted_line is_halted)))
    (numbered_passed (execution_text cast) 1 executions (execution_passed cast))

write_passed : (x : Write) → IsPassed (write_text x)
unfolding write_text
write_passed x = by x.exception
  where
    head : List ℕ
    head = decimal x.number ++ codes " " ++ decimal x.point ++ codes " " ++ decimal x.raw

    begun : IsBegun head
    begun =
        goes_on (decimal x.number ++ codes " " ++ decimal x.point ++ codes " ") (decimal x.raw)
        (goes_on (decimal x.number ++ codes " " ++ decimal x.point) (codes " ")
        (goes_on (decimal x.number ++ codes " ") (decimal x.point)
        (goes_on (decimal x.number) (codes " ") (begun_by_number x.number) refl) (numeral_line x.point)) refl)
        (numeral_line x.raw)

    by : (e : Option ℕ) → IsPassed (decimal x.number ++ codes " " ++ decimal x.point ++ codes " "
        ++ decimal x.raw ++ exception_text e)
    by None = ends_with head (codes " ok") begun refl
    by (Some code) = ends_with head (codes " exception " ++ decimal code) begun
        (joined_line (codes " exception ") (decimal code) refl (numeral_line code))

pub proxy_passed : (cast : Cast) (proxy : ℕ) (writes : List Write) (is_halted : Bool) →
    IsPassed (proxy_text cast proxy writes is_halted)
unfolding proxy_text
proxy_passed cast proxy writes is_halted =
    let head : List ℕ = codes "proxy " ++ actor_name cast proxy ++ codes " writes " ++ decimal (length writes)
    ++ halted_text is_halted in
    both_passed (head ++ codes "\n") (flat_map write_text writes)
    (ends head (goes_on (codes "proxy " ++ actor_name cast proxy ++ codes " writes " ++ decimal (length writes))
    (halted_text is_halted)
    (goes_on (codes "proxy " ++ actor_name cast proxy ++ codes " writes ") (decimal (length writes))
    (named_begun (codes "proxy ") (codes " writes ") cast proxy (word_begun (codes "proxy ") refl (λ rest. refl))
    refl) (numeral_line (length writes))) (halted_line is_halted)))
    (each_passed write_text writes write_passed)

notice_line : (k : NoticeKind) → list_all is_line_byte (notice_name k) ≡ true
notice_line notice.Done = refl
notice_line notice.Denied = refl
notice_line notice.NoPoint = refl
notice_line notice.OutOfRange = refl
notice_line notice.NotWritable = refl
notice_line notice.NoAlarm = refl
notice_line notice.Raised = refl
notice_line notice.Cleared = refl
notice_line notice.WrongPart = refl

number_behind : (n : ℕ) → list_all is_line_byte (codes " " ++ decimal n) ≡ true
number_behind n = joined_line (codes " ") (decimal n) refl (numeral_line n)

details_line : (k : NoticeKind) (x : Notice) → list_all is_line_byte (details_text k x) ≡ true
details_line notice.Done x = number_behind x.t
details_line notice.WrongPart x = number_behind x.t
details_line notice.Raised x = number_behind x.number
details_line notice.Cleared x = number_behind x.number
details_line notice.Denied x = joined_line (command_text x) (about_text x) (number_behind x.t) (number_behind x.number)
details_line notice.NoPoint x = joined_line (command_text x) (about_text x) (number_behind x.t) (number_behind x.number)
details_line notice.OutOfRange x =
    joined_line (command_text x) (about_text x) (number_behind x.t) (number_behind x.number)
details_line notice.NotWritable x =
    joined_line (command_text x) (about_text x) (number_behind x.t) (number_behind x.number)
details_line notice.NoAlarm x = joined_line (command_text x) (about_text x) (number_behind x.t) (number_behind x.number)

notice_passed : (number : ℕ) (x : Notice) → IsPassed (notice_text number x)
unfolding notice_text
notice_passed number x =
    ends (decimal number ++ codes " " ++ notice_name x.what ++ details_text x.what x)
    (goes_on (decimal number ++ codes " " ++ notice_name x.what) (details_text x.what x)
    (goes_on (decimal number ++ codes " ") (notice_name x.what)
    (goes_on (decimal number) (codes " ") (begun_by_number number) refl) (notice_line x.what))
    (details_line x.what x))

pub screen_passed : (cast : Cast) (screen : ℕ) (notices : List Notice) (is_halted : Bool) →
    IsPassed (screen_text cast screen notices is_halted)
unfolding screen_text
screen_passed cast screen notices is_halted =
    let head : List ℕ = codes "screen " ++ actor_name cast screen ++ codes " notices " ++ decimal (length notices)
    ++ halted_text is_halted in
    both_passed (head ++ codes "\n") (numbered_lines notice_text 1 notices)
    (ends head (goes_on (codes "screen " ++ actor_name cast screen ++ codes " notices " ++ decimal (length notices))
    (halted_text is_halted)
    (goes_on (codes "screen " ++ actor_name cast screen ++ codes " notices ") (decimal (length notices))
    (named_begun (codes "screen ") (codes " notices ") cast screen (word_begun (codes "screen ") refl (λ rest. refl))
    refl) (numeral_line (length notices))) (halted_line is_halted)))
    (numbered_passed notice_text 1 notices notice_passed)

pub audit_passed : (forged alike intruded limit : ℕ) → IsPassed (audit_text forged alike intruded limit)
unfolding forgery_text intrusion_text
audit_passed forged alike intruded limit =
    let head : List ℕ = codes "audit forged " ++ decimal forged ++ codes " alike " ++ decimal alike in
    ends_with head (codes " intruded " ++ decimal intruded ++ codes " limit " ++ decimal limit)
    (goes_on (codes "audit forged " ++ decimal forged ++ codes " alike ") (decimal alike)
    (goes_on (codes "audit forged " ++ decimal forged) (codes " alike ")
    (goes_on (codes "audit forged ") (decimal forged) (word_begun (codes "audit forged ") refl (λ rest. refl))
    (numeral_line forged)) refl) (numeral_line alike))
    (joined_line (codes " intruded " ++ decimal intruded ++ codes " limit ") (decimal limit)
    (joined_line (codes " intruded " ++ decimal intruded) (codes " limit ")
    (joined_line (codes " intruded ") (decimal intruded) refl (numeral_line intruded)) refl) (numeral_line limit))

pub agree_passed : (yes : Bool) → IsPassed (agree_text yes)
agree_passed true = line_passed (codes "agree yes") refl refl
agree_passed false = line_passed (codes "agree no") refl refl
