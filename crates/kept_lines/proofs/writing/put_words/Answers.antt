-- What is written of an entry ends with a line feed, and all before it is its words.
use Rattle.std.proofs.Common.{◌++◌, false, List, ℕ, ◌∙◌, ap}
use Rattle.world_entries.specs.Entries.{entry_of}
use Rattle.run_lines.specs.Texts.{entry_text}
use Rattle.kept_lines.specs.Lines.{entry_words}
use Rattle.kept_lines.proofs.Words.{line_ends, front_is, has_end}
use Rattle.kept_lines.proofs.writing.put_words.Goals as goal

pub slice_bounds-extend_from_slice-count : goal.slice_bounds-extend_from_slice-count
slice_bounds-extend_from_slice-count c =
    has_end c.as_bytes-line.result.now (entry_words c.args.cast (entry_of c.args.entry.now))
    (c.as_bytes-line.ensures.value ∙ c.in_ok-put_entry.ensures
    ∙ ap (λ (bs : List ℕ). bs ++ entry_text c.args.cast false (entry_of c.args.entry.now)) c.new-text.ensures.bytes
    ∙ line_ends c.args.cast (entry_of c.args.entry.now))

pub returns : goal.returns
returns c =
    c.in_ok-extend_from_slice.ensures.items
    ∙ ap (λ (bs : List ℕ). c.args.bytes.now.items ++ bs)
    (front_is c.as_bytes-line.result.now (entry_words c.args.cast (entry_of c.args.entry.now))
    (c.as_bytes-line.ensures.value ∙ c.in_ok-put_entry.ensures
    ∙ ap (λ (bs : List ℕ). bs ++ entry_text c.args.cast false (entry_of c.args.entry.now)) c.new-text.ensures.bytes
    ∙ line_ends c.args.cast (entry_of c.args.entry.now)))
