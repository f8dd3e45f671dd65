-- The words of the last entry with the digest of what was said there are its line.
use Rattle.world_entries.specs.Entries.{entry_of}
use Rattle.printed_history.specs.Reading.{contents_in}
use Rattle.kept_lines.proofs.Words.{line_put}
use Rattle.kept_lines.proofs.writing.put_line.Goals as goal

pub returns : goal.returns
returns c = λ before e is.
    line_put (contents_in c.args.so_far.now) c.args.cast before e (entry_of c.last.result.now) c.last_said.result.now
    c.args.bytes.now.items c.put_words.new.bytes.items c.put_digest.new.bytes.items c.requires.cast
    (c.last.ensures before e is) (c.last_said.ensures before e is) c.in_ok-put_words.ensures c.in_ok-put_digest.ensures
