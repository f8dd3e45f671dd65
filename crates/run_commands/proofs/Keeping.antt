-- What the call keeps that runs the commands, by how it ended.
use Rattle.std.proofs.Common.{◌≡◌, ℕ, false, sym, subst}
use Rattle.command_words.specs.Wanted.{wanted_in}
use Rattle.command_ends.specs.Steps.{Step}
use Rattle.command_ends.specs.Calls.{Call}
use Rattle.command_ends.specs.Complete.{Completes, IsUntroubled, IsDueOrWant, EndsFreely}
use Rattle.command_ends.specs.Ended.{ErrorSink, Ends}
use Rattle.command_ends.proofs.Completes.{ends-freely, completes}
use Rattle.run_commands.specs.Readers.{Readers, KeepsRules}
use Rattle.run_commands.specs.Course.{NextStep}
use Rattle.run_commands.specs.Told.{ToldNext}
use Rattle.run_commands.specs.Keeps.{asks_for_several, KeepsComplete, KeepsCommands}
use Rattle.run_commands.proofs.Answered.{answers, requests}
use Rattle.run_commands.proofs.Certain.{alike, certain}
use Rattle.run_commands.proofs.Headlines.{headline}
use Rattle.run_commands.proofs.RunsThere.{runs-end}
use Rattle.run_commands.proofs.Weaker.{told-next, weaker-ends}

-- where only one step may come, the call ended with it
single : (r : Readers) (call : Call) (err : ErrorSink) (status : ℕ) → Completes (NextStep r) call err status →
    asks_for_several (wanted_in call.words) ≡ false → (last : Step) → IsUntroubled (NextStep r) call last →
    IsDueOrWant call err status last
single r call err status all only last free =
    let (end, is, comes, ends) = all last free in
    subst (IsDueOrWant call err status) (sym (certain r call.words free.contents last end only free.comes comes)) ends

keeps_complete : (r : Readers) → KeepsRules r → (call : Call) (err : ErrorSink) (status : ℕ) →
    EndsFreely (NextStep r) call err status → KeepsComplete r call err status
keeps_complete r rules call err status freely =
    let all : Completes (NextStep r) call err status =
    completes (NextStep r) call (alike r call.words) err status freely in
    record {
      all = all;
      single = single r call err status all;
      freely = freely;
      runs = runs-end r rules call err status all;
    }

pub keeps_commands : (r : Readers) → KeepsRules r → (call : Call) (err : ErrorSink) (status : ℕ) →
    Ends (ToldNext r) call err status → KeepsCommands r call err status
keeps_commands r rules call err status told =
    let ends : Ends (NextStep r) call err status =
    weaker-ends (ToldNext r) (NextStep r) (told-next r) call err status told in
    record {
      ends = ends;
      complete = keeps_complete r rules call err status
          (ends-freely (NextStep r) call (alike r call.words) err status ends);
      headline = headline r rules call err status told;
      answers = answers r rules call err status ends;
      requests = requests r call err status ends;
    }
