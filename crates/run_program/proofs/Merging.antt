-- What a merge gives, by what its parts answer.
use Rattle.std.proofs.Common.{◌≡◌, ◌≤◌, ◌<◌, ◌*◌, ◌^◌, ℕ, List, [], ◌∷◌, Option, None, Some, Result, Ok, Err, length, sym, ◌∙◌}
use Rattle.std.proofs.Common.{ap, arith, get_or}
use Rattle.std.proofs.lemmas.List.Elements.{All-head, All-tail}
use Rattle.std.proofs.lemmas.Option.{get_or_from_slice_get, unwrap_or-slice_get}
use Rattle.std.specs.Prelude.{slice_get, slice_index_or, unwrap_or}
use Rattle.std.specs.List.{All}
use Rattle.std.specs.Result.{IfOk}
use Rattle.std.specs.declared.vec.Vec.{Vec}
use Rattle.std.specs.declared.alloc.Global.{Global}
use Rattle.scenario_file.specs.Reading.{Contents}
use Rattle.history_rules.specs.Events.{Entry}
use Rattle.plain_lists.specs.declared.want.Want.{Want}
use Rattle.command_ends.specs.declared.limits.TheConstants.{MOST_KEPT_BYTES}
use Rattle.command_words.specs.declared.command_line.TheConstants.{MOST_KEEPS}
use Rattle.command_ends.specs.declared.refusal.KeepFault.{KeepFault}
use Rattle.command_ends.specs.declared.refusal.Refusal.{Refusal}
use Rattle.command_ends.specs.declared.refusal.Refusal.TheVariants as refusal
use Rattle.joined_histories.specs.declared.refusal.JoinRefusal.{JoinRefusal}
use Rattle.joined_histories.specs.declared.refusal.JoinRefusal.TheVariants as join
use Rattle.joined_histories.specs.Files.{IsShort, Refuses, bytes_in, files_in}
use Rattle.joined_histories.specs.Joins.{JoinsFiles}
use Rattle.run_commands.specs.Readers.{AreShort, MergeGives, keep_refusal}
use Rattle.run_program.specs.Merges.{TellsFault, ToldName, fault_of, first_fault}
use Rattle.run_program.specs.Whole.{program_readers, IsTextOf}

-- a file that could be loaded
abbrev IsKept : List ℕ → Type 0
IsKept file = length file ≤ MOST_KEPT_BYTES

-- files that could be loaded, as many as there may be, aren't too long, each alone and all together
pub each_short : (files : List (List ℕ)) → AreShort files → All IsShort files
each_short files all = λ i file there. let one : length (get_or files i file) ≤ 4294967295 = all i file there in omega arith

bytes_short : (files : List (List ℕ)) → AreShort files → bytes_in files ≤ length files * 4294967295
bytes_short [] all = omega arith
bytes_short (file ∷ rest) all =
    let more = bytes_short rest (All-tail IsKept file rest all) in
    let one : length file ≤ 4294967295 = All-head IsKept file rest all in
    omega arith

pub all_short : (files : List (List ℕ)) → length files ≤ MOST_KEEPS → AreShort files → bytes_in files < 72 * 2 ^ 32
all_short files few all =
    let most = bytes_short files all in
    let many : length files ≤ 26 = few in
    omega arith

-- the text of a history that joins files
pub gives_merge : (c : Contents) (names files : List (List ℕ)) (text : Vec ℕ Global) (history : List Entry) →
    JoinsFiles c files history → IsTextOf c history text.items → MergeGives program_readers c names files (Ok text)
gives_merge c names files text history joins same = (history, ap first_fault joins.read, joins, same.0, same.1)

-- the fault of files that aren't joined
fault_told : (c : Contents) (files : List (List ℕ)) (why : JoinRefusal) (fault : ℕ × KeepFault) →
    Refuses why (files_in c files) → fault_of why ≡ Some fault → first_fault (files_in c files) ≡ Some fault
fault_told c files (join.BadLine file line) fault is which = ap first_fault is ∙ which
fault_told c files (join.NotLegal file stamp) fault is which = ap first_fault is ∙ which
fault_told c files (join.OtherWords file stamp) fault is which = ap first_fault is ∙ which
fault_told c files (join.Twice file) fault is which = ap first_fault is ∙ which
fault_told c files join.Want fault is which = absurd (cc)

-- ---- A fault as the program tells it.

pub name_told : (names : List (List ℕ)) (file : ℕ) (text : List ℕ) (result : Result (List ℕ) Want) →
    slice_get names file ≡ Some text → IfOk result (λ made. made ≡ text) → ToldName names file result
name_told names file text (Ok made) there is = is ∙ sym (get_or_from_slice_get names file text [] there)
name_told names file text (Err want) there is = tt

pub none_told : (names : List (List ℕ)) (file : ℕ) (result : Result (List ℕ) Want) →
    slice_get names file ≡ None → IfOk result (λ made. made ≡ []) → ToldName names file result
none_told names file (Ok made) none is =
    is ∙ sym (ap (λ (o : Option (List ℕ)). unwrap_or o []) none) ∙ unwrap_or-slice_get names file []
none_told names file (Err want) none is = tt

pub fault_tells : (names : List (List ℕ)) (why : JoinRefusal) (file : ℕ) (fault : KeepFault) (name : List ℕ) →
    fault_of why ≡ Some (file, fault) → name ≡ slice_index_or names file [] →
    TellsFault names why (refusal.Keep name fault)
fault_tells names why file fault name which is = ((file, fault), which, ap (λ (n : List ℕ). refusal.Keep n fault) is)

pub gives_fault : (c : Contents) (names files : List (List ℕ)) (why : JoinRefusal) (told : Refusal) →
    Refuses why (files_in c files) → TellsFault names why told → MergeGives program_readers c names files (Err told)
gives_fault c names files why refusal.Memory is tells = tt
gives_fault c names files why refusal.Usage is tells = (tells.0, fault_told c files why tells.0 is tells.1, tells.2)
gives_fault c names files why (refusal.Fault name) is tells =
    (tells.0, fault_told c files why tells.0 is tells.1, tells.2)
gives_fault c names files why (refusal.TooLong name) is tells =
    (tells.0, fault_told c files why tells.0 is tells.1, tells.2)
gives_fault c names files why (refusal.Scenario fault) is tells =
    (tells.0, fault_told c files why tells.0 is tells.1, tells.2)
gives_fault c names files why (refusal.Script fault number) is tells =
    (tells.0, fault_told c files why tells.0 is tells.1, tells.2)
gives_fault c names files why (refusal.Words fault number) is tells =
    (tells.0, fault_told c files why tells.0 is tells.1, tells.2)
gives_fault c names files why (refusal.History fault number) is tells =
    (tells.0, fault_told c files why tells.0 is tells.1, tells.2)
gives_fault c names files why (refusal.Pieces at) is tells =
    (tells.0, fault_told c files why tells.0 is tells.1, tells.2)
gives_fault c names files why (refusal.Keep name fault) is tells =
    (tells.0, fault_told c files why tells.0 is tells.1, tells.2)
gives_fault c names files why refusal.NotVerified is tells =
    (tells.0, fault_told c files why tells.0 is tells.1, tells.2)
gives_fault c names files why (refusal.NoAnswer lack) is tells =
    (tells.0, fault_told c files why tells.0 is tells.1, tells.2)
gives_fault c names files why refusal.Output is tells =
    (tells.0, fault_told c files why tells.0 is tells.1, tells.2)
