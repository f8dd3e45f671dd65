-- Which words a file of words can hold, whoever is there. (The limits are those of the bodies' spellings; that a word
-- names its frames by signer, kind and number is this project's own.)
use Rattle.std.specs.Prelude.{ℕ, Bool, true, false, ◌&&◌, ◌||◌, List, length, map, nat_eq, nat_le}
use Rattle.std.specs.List.{list_all}
use Rattle.message_types.specs.Spelling.{is_rising, row_fits}
use Rattle.message_types.specs.declared.limits.TheConstants.{MOST_LISTED, MOST_CERTIFICATES}
use Rattle.play_words.specs.declared.words.Item.{Item}
use Rattle.play_words.specs.declared.words.Ref.{Ref}
use Rattle.play_words.specs.declared.words.Word.{Word}
use Rattle.play_words.specs.declared.words.Word.TheVariants as word

-- the word is bytes as they stand, which nobody signs
abbrev pub is_raw : Word → Bool
is_raw (word.Raw bytes) = true
is_raw _ = false

-- the numbers of the kinds of frames that words name
abbrev pub update_kind : ℕ
update_kind = 1

abbrev pub request_kind : ℕ
request_kind = 2

abbrev pub summary_kind : ℕ
summary_kind = 4

abbrev pub preprepare_kind : ℕ
preprepare_kind = 5

abbrev pub report_kind : ℕ
report_kind = 14

abbrev pub is_of : ℕ → Ref → Bool
is_of kind r = nat_eq r.kind kind && nat_le 1 r.number

-- a digest is that of a request's update or of a preprepare's rows
abbrev pub has_digest : Ref → Bool
has_digest r = (nat_eq r.kind request_kind || nat_eq r.kind preprepare_kind) && nat_le 1 r.number

-- a list of frames of a kind within its limit, whose signers rise
abbrev pub are_refs : ℕ → List Ref → Bool
are_refs kind refs = nat_le (length refs) MOST_LISTED && is_rising (map (λ r. r.actor) refs)
    && list_all (is_of kind) refs

-- no more certificates than a report may have, whose numbers rise
abbrev pub are_items : List Item → Bool
are_items items = nat_le (length items) MOST_CERTIFICATES && is_rising (map (λ item. item.s) items)

unfoldable pub is_accepted : Word → Bool
is_accepted (word.PoRequest k update) = is_of update_kind update
is_accepted (word.PoAck j k digest) = has_digest digest
is_accepted (word.PoSummary numbers) = row_fits numbers
is_accepted (word.PrePrepare v s frames) = are_refs summary_kind frames
is_accepted (word.Prepare v s digest) = has_digest digest
is_accepted (word.Commit v s digest) = has_digest digest
is_accepted (word.Report v base items) = are_items items
is_accepted (word.NewView v reports) = are_refs report_kind reports
is_accepted _ = true
