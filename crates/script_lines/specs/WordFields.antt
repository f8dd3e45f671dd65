-- The fields of a word that an intruded master is made to say, kind by kind. (This project's own; what the kinds are
-- for is Prime's.)
use Rattle.std.specs.Prelude.{ℕ, nat_le, ◌==◌, codes, if◌then◌else◌, List, [], ◌∷◌, length, Option, Some, None}
use Rattle.std.specs.Prelude.{Result, Ok, Err}
use Rattle.std.specs.List.{slice_split}
use Rattle.std.specs.Str.{bytes_eq}
use Rattle.message_types.specs.declared.limits.TheConstants.{MOST_LISTED}
use Rattle.message_types.specs.declared.vouchers.NoticeKind.{NoticeKind}
use Rattle.message_types.specs.declared.vouchers.NoticeKind.TheVariants as notice
use Rattle.message_types.specs.declared.vouchers.Order.{Order}
use Rattle.message_types.specs.declared.vouchers.Order.TheVariants as order
use Rattle.play_words.specs.declared.words.Item.{Item}
use Rattle.play_words.specs.declared.words.Ref.{Ref}
use Rattle.play_words.specs.declared.words.Word.{Word}
use Rattle.play_words.specs.declared.words.Word.TheVariants as word
use Rattle.play_words.specs.Accepted.{are_items}
use Rattle.scenario_file.specs.declared.actors.Cast.{Cast}
use Rattle.script_grammar.specs.declared.fault.LineRefusal.{LineRefusal}
use Rattle.script_grammar.specs.declared.frames.Allowed.TheVariants as allowed
use Rattle.script_grammar.specs.Faults.{Answer, bad, said, both, each}
use Rattle.script_grammar.specs.Frames.{frame_in, frames_in}
use Rattle.script_grammar.specs.Numbers.{wide_in, narrow_in, short_in, bytes_in}

abbrev pub raw_in : List (List ℕ) → Answer Word
raw_in (hex ∷ []) = said word.Raw (bytes_in hex)
raw_in _ = bad

-- one number, two numbers, and the number of an actor or a client with another
abbrev pub number_in : List (List ℕ) → Answer ℕ
number_in (n ∷ []) = wide_in n
number_in _ = bad

abbrev pub numbers_in : List (List ℕ) → Answer (ℕ × ℕ)
numbers_in (a ∷ b ∷ []) = both (wide_in a) (wide_in b)
numbers_in _ = bad

abbrev pub one_and_number_in : List (List ℕ) → Answer (ℕ × ℕ)
one_and_number_in (one ∷ n ∷ []) = both (narrow_in one) (wide_in n)
one_and_number_in _ = bad

abbrev pub request_in : Cast → List (List ℕ) → Answer Word
request_in cast (k ∷ update ∷ []) =
    said (λ (p : ℕ × Ref). word.PoRequest p.0 p.1) (both (wide_in k) (frame_in cast allowed.Updates update))
request_in cast _ = bad

-- a digest is `@` and the frame that it is taken of
unfoldable pub digest_in : Cast → List ℕ → Answer Ref
digest_in cast [] = bad
digest_in cast (c ∷ frame) = if c == 64 then frame_in cast allowed.Digested frame else bad

abbrev pub poack_in : Cast → List (List ℕ) → Answer Word
poack_in cast (j ∷ k ∷ digest ∷ []) =
    said (λ (p : ℕ × (ℕ × Ref)). word.PoAck p.0 p.1.0 p.1.1)
    (both (narrow_in j) (both (wide_in k) (digest_in cast digest)))
poack_in cast _ = bad

-- no more numbers than a row may have
abbrev pub summary_in : List (List ℕ) → Answer Word
summary_in fields = if nat_le (length fields) MOST_LISTED then said word.PoSummary (each wide_in fields) else bad

abbrev pub preprepare_in : Cast → List (List ℕ) → Answer Word
preprepare_in cast (v ∷ s ∷ frames) =
    said (λ (p : ℕ × (ℕ × List Ref)). word.PrePrepare p.0 p.1.0 p.1.1)
    (both (wide_in v) (both (wide_in s) (frames_in cast allowed.Summaries frames)))
preprepare_in cast _ = bad

-- a view, a number and a digest
abbrev pub vote_in : Cast → List (List ℕ) → Answer (ℕ × (ℕ × Ref))
vote_in cast (v ∷ s ∷ digest ∷ []) = both (wide_in v) (both (wide_in s) (digest_in cast digest))
vote_in cast _ = bad

abbrev pub rtt_in : List (List ℕ) → Answer Word
rtt_in (to ∷ number ∷ ticks ∷ []) =
    said (λ (p : ℕ × (ℕ × ℕ)). word.Rtt p.0 p.1.0 p.1.1) (both (narrow_in to) (both (wide_in number) (wide_in ticks)))
rtt_in _ = bad

-- a certificate's number and view, as `S:V`
abbrev pub item_of : List (List ℕ) → Answer Item
item_of (s ∷ v ∷ []) = said (λ (p : ℕ × ℕ). record { s = p.0; v = p.1 }) (both (wide_in s) (wide_in v))
item_of _ = bad

unfoldable pub item_in : List ℕ → Answer Item
item_in text = item_of (slice_split (λ b. b == 58) text)

abbrev pub kept_items : Result (List Item) LineRefusal → Answer (List Item)
kept_items (Ok items) = if are_items items then Ok items else bad
kept_items (Err e) = Err e

-- no more certificates than a report may have, whose numbers rise
unfoldable pub items_in : List (List ℕ) → Answer (List Item)
items_in texts = kept_items (each item_in texts)

abbrev pub without_base : List Item → Option ℕ × List Item
without_base items = (None, items)

-- the certificates of a report, with the number from which it goes on before them or not
abbrev pub base_and_items_in : List (List ℕ) → Answer (Option ℕ × List Item)
base_and_items_in (what ∷ base ∷ items) =
    if bytes_eq what (codes "base") then both (said Some (wide_in base)) (items_in items)
    else said without_base (items_in (what ∷ base ∷ items))
base_and_items_in (item ∷ []) = said without_base (items_in (item ∷ []))
base_and_items_in [] = said without_base (items_in [])

abbrev pub report_in : List (List ℕ) → Answer Word
report_in [] = bad
report_in (v ∷ fields) =
    said (λ (p : ℕ × (Option ℕ × List Item)). word.Report p.0 p.1.0 p.1.1) (both (wide_in v) (base_and_items_in fields))

abbrev pub newview_in : Cast → List (List ℕ) → Answer Word
newview_in cast [] = bad
newview_in cast (v ∷ frames) = said (λ (p : ℕ × List Ref). word.NewView p.0 p.1)
    (both (wide_in v) (frames_in cast allowed.Reports frames))

abbrev pub write_in : List (List ℕ) → Answer Order
write_in (point ∷ raw ∷ []) = said (λ (p : ℕ × ℕ). order.Write p.0 p.1) (both (narrow_in point) (short_in raw))
write_in _ = bad

-- what a notice tells, by its number from 1 to 9
abbrev pub notice_kind_in : List ℕ → Answer NoticeKind
notice_kind_in what =
    if bytes_eq what (codes "1") then Ok notice.Done
    else (if bytes_eq what (codes "2") then Ok notice.Denied
    else (if bytes_eq what (codes "3") then Ok notice.NoPoint
    else (if bytes_eq what (codes "4") then Ok notice.OutOfRange
    else (if bytes_eq what (codes "5") then Ok notice.NotWritable
    else (if bytes_eq what (codes "6") then Ok notice.NoAlarm
    else (if bytes_eq what (codes "7") then Ok notice.Raised
    else (if bytes_eq what (codes "8") then Ok notice.Cleared
    else (if bytes_eq what (codes "9") then Ok notice.WrongPart
    else bad))))))))

abbrev pub notice_of : NoticeKind × (ℕ × ℕ) → Order
notice_of p = order.Notice (record { what = p.0; t = p.1.0; number = p.1.1 })

abbrev pub notice_in : List (List ℕ) → Answer Order
notice_in (what ∷ t ∷ number ∷ []) = said notice_of (both (notice_kind_in what) (both (wide_in t) (narrow_in number)))
notice_in _ = bad

abbrev pub order_in : List (List ℕ) → Answer Order
order_in [] = bad
order_in (what ∷ fields) =
    if bytes_eq what (codes "write") then write_in fields else
    (if bytes_eq what (codes "notice") then notice_in fields else bad)

abbrev pub voucher_in : List (List ℕ) → Answer Word
voucher_in (client ∷ number ∷ fields) =
    said (λ (p : ℕ × (ℕ × Order)). word.Voucher p.0 p.1.0 p.1.1)
    (both (narrow_in client) (both (wide_in number) (order_in fields)))
voucher_in _ = bad
