use Rattle.std.proofs.Common.{◌≡◌, filter, not}
use Rattle.words_by_part.specs.Kinds.{is_of}
use Rattle.master_answers.specs.Late.{late}
use Rattle.master_answers.proofs.split.split_words.Given as goal

-- the words so far are apart
abbrev pub invariant-loop-body : goal.invariant-loop-body
invariant-loop-body l = record {
  early : l.early.items ≡ filter (λ word. not (is_of late word)) l.yielded;
  late : l.late.items ≡ filter (is_of late) l.yielded;
}
