-- Files read in turn.
use Rattle.std.proofs.Common.{◌≡◌, ◌+◌, ◌-◌, ℕ, suc, Bool, false, List, [], ◌∷◌, Option, None, Some, Ok, Err}
use Rattle.std.proofs.Common.{length, sym, ◌∙◌, ap, subst, arith}
use Rattle.std.proofs.lemmas.List.Elements.{All-head, All-tail}
use Rattle.std.specs.Prelude.{replicate, slice_get}
use Rattle.std.specs.List.{All}
use Rattle.scenario_file.specs.declared.actors.Cast.{Cast}
use Rattle.scenario_file.specs.Actors.{actors_of}
use Rattle.scenario_file.specs.Reading.{Contents, cast_of}
use Rattle.world_rules.specs.Scenarios.{actors_in}
use Rattle.history_rules.specs.Events.{Entry}
use Rattle.kept_lines.specs.declared.refusal.KeptRefusal.{KeptRefusal}
use Rattle.kept_lines.specs.declared.refusal.KeptRefusal.TheVariants as kept
use Rattle.kept_lines.specs.Reading as one
use Rattle.kept_lines.specs.Reading.{kept_in}
use Rattle.joined_histories.specs.declared.files.Kept.{Kept}
use Rattle.joined_histories.specs.Files.{Answered, AreKept, Given, IsShort, KeepsStations, Refuses, bytes_in, files_from}
use Rattle.joined_histories.specs.Files.{given_of, none_given, owner_in, refusal_of, with_file, with_list, with_more}
use Rattle.joined_histories.specs.Files.{with_owner, with_read}
use Rattle.joined_histories.proofs.Lists.{none_kept}

-- ---- One file.

module _ (c : Contents) (given : Given) (file : ℕ) (bytes : List ℕ) where
  pub owner_refused : (why : KeptRefusal) → one.Refuses why (owner_in c bytes) →
      Refuses (refusal_of file why) (with_file c given file bytes)
  owner_refused (kept.BadLine line) is = ap (with_owner c given file bytes) is
  owner_refused (kept.NotLegal stamp) is = ap (with_owner c given file bytes) is
  owner_refused (kept.OtherWords stamp) is = ap (with_owner c given file bytes) is
  owner_refused kept.Want is = tt

  pub nobodys : owner_in c bytes ≡ Ok None → with_file c given file bytes ≡ Ok given
  nobodys is = ap (with_owner c given file bytes) is

  pub owned : (actor : ℕ) → owner_in c bytes ≡ Ok (Some actor) →
      with_more c given file actor bytes (slice_get given.gave actor) ≡ with_file c given file bytes
  owned actor is = sym (ap (with_owner c given file bytes) is)

  pub list_refused : (actor : ℕ) (o : Option Bool) (why : KeptRefusal) → o ≡ Some false →
      one.Refuses why (kept_in c actor bytes) →
      Refuses (refusal_of file why) (with_more c given file actor bytes o)
  list_refused actor o (kept.BadLine line) is told =
      ap (with_more c given file actor bytes) is ∙ ap (with_read given file actor) told
  list_refused actor o (kept.NotLegal stamp) is told =
      ap (with_more c given file actor bytes) is ∙ ap (with_read given file actor) told
  list_refused actor o (kept.OtherWords stamp) is told =
      ap (with_more c given file actor bytes) is ∙ ap (with_read given file actor) told
  list_refused actor o kept.Want is told = tt

  pub list_added : (actor : ℕ) (o : Option Bool) (list : List Entry) → o ≡ Some false →
      kept_in c actor bytes ≡ Ok list → with_more c given file actor bytes o ≡ Ok (with_list given actor list)
  list_added actor o list is told =
      ap (with_more c given file actor bytes) is ∙ ap (with_read given file actor) told

-- ---- All files.

-- What is left tells the rest of what all tell, each entry took a line, and each file that is left is short.
pub record IsAmidFiles (c : Contents) (files rest : List (List ℕ)) (file : ℕ) (read : Kept) : Type 0 where
  pub left : files_from c (given_of read) file rest ≡ files_from c (none_given c) 0 files
  pub seen : ℕ
  pub are : AreKept c seen read
  pub all : seen + bytes_in rest ≡ bytes_in files
  pub place : file + length rest ≡ length files
  pub short : All IsShort rest

-- as many actors as the scenario has
pub none_of_cast : (c : Contents) (cast : Cast) (actors : ℕ) (read : Kept) → cast ≡ cast_of c.settings c.plant →
    actors ≡ actors_of cast → given_of read ≡ record { lists = replicate actors []; gave = replicate actors false } →
    given_of read ≡ none_given c
none_of_cast c cast actors read is all none =
    let many : actors ≡ actors_of (cast_of c.settings c.plant) = all ∙ ap actors_of is in
    let same : actors ≡ actors_in c = omega arith in
    none ∙ (λ i. record { lists = replicate (same i) []; gave = replicate (same i) false })

first_file : (c : Contents) (files : List (List ℕ)) (read : Kept) → All IsShort files → given_of read ≡ none_given c →
    IsAmidFiles c files files 0 read
first_file c files read short is = record {
  left = ap (λ g. files_from c g 0 files) is;
  seen = 0;
  are = none_kept c read is;
  all = omega arith;
  place = omega arith;
  short = short;
}

pub no_file_yet : (c : Contents) (files : List (List ℕ)) (read : Kept) → All IsShort files → given_of read ≡ none_given c →
    IsAmidFiles c files files (length files - length files) read
no_file_yet c files read short is =
    let zero : 0 ≡ length files - length files = omega arith in
    subst (λ n. IsAmidFiles c files files n read) zero (first_file c files read short is)

-- the file that comes next
pub is_short : (c : Contents) (files rest after : List (List ℕ)) (file : ℕ) (bytes : List ℕ) (read : Kept) →
    IsAmidFiles c files rest file read → rest ≡ bytes ∷ after → IsShort bytes
is_short c files rest after file bytes read amid is =
    All-head IsShort bytes after (subst (All IsShort) is amid.short)

-- what files come to behind one
abbrev after_file : Contents → ℕ → List (List ℕ) → Answered → Answered
after_file c file rest r = elim r [ Err e ↦ Err e | Ok more ↦ files_from c more (file + 1) rest ]

at_file : (c : Contents) (given : Given) (file : ℕ) (rest after : List (List ℕ)) (bytes : List ℕ) →
    rest ≡ bytes ∷ after → files_from c given file rest ≡ after_file c file after (with_file c given file bytes)
at_file c given file rest after bytes is = ap (files_from c given file) is

next_file : (c : Contents) (files rest after : List (List ℕ)) (file : ℕ) (bytes : List ℕ) (old new : Kept) →
    IsAmidFiles c files rest file old → rest ≡ bytes ∷ after →
    with_file c (given_of old) file bytes ≡ Ok (given_of new) → KeepsStations c (length bytes) old new →
    IsAmidFiles c files after (file + 1) new
next_file c files rest after file bytes old new amid is added keeps =
    let at : file + length rest ≡ length files = amid.place in
    let shorter : length rest ≡ suc (length after) = ap length is in
    let all : amid.seen + bytes_in rest ≡ bytes_in files = amid.all in
    let cut : bytes_in rest ≡ length bytes + bytes_in after = ap bytes_in is in
    record {
      left = sym (ap (after_file c file after) added) ∙ sym (at_file c (given_of old) file rest after bytes is)
          ∙ amid.left;
      seen = amid.seen + length bytes;
      are = keeps amid.seen amid.are;
      all = omega arith;
      place = omega arith;
      short = All-tail IsShort bytes after (subst (All IsShort) is amid.short);
    }

pub one_file_more : (c : Contents) (files rest after : List (List ℕ)) (bytes : List ℕ) (old new : Kept) →
    IsAmidFiles c files rest (length files - length rest) old → rest ≡ bytes ∷ after →
    with_file c (given_of old) (length files - length rest) bytes ≡ Ok (given_of new) →
    KeepsStations c (length bytes) old new → IsAmidFiles c files after (length files - length after) new
one_file_more c files rest after bytes old new amid is added keeps =
    let at : (length files - length rest) + length rest ≡ length files = amid.place in
    let shorter : length rest ≡ suc (length after) = ap length is in
    let same : (length files - length rest) + 1 ≡ length files - length after = omega arith in
    subst (λ n. IsAmidFiles c files after n new) same
    (next_file c files rest after (length files - length rest) bytes old new amid is added keeps)
